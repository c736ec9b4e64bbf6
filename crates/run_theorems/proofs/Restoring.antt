-- T2 and T3 over the entry `split_file`, of every call whose answer is 0: the pieces that its output holds give back the file's sections, and no two files share them. The
-- file that was loaded and the split table without a fault give what the theorems over the walk ask; T5 and T6 come the same way. Assumes nothing.
use Prim.Native.Nat.{ℕ, ◌+◌, ◌-◌, ◌≤◌, ◌<◌}
use mathlib.Core.Path.{◌≡◌, sym, ap, ap₂, subst, ◌∙◌}
use mathlib.Core.Bool.{false}
use mathlib.Core.List.{List, [], map}
use native.Mathlib.Omega.{arith}
use lib.ListN.{length, get_or, length-map}
use Rattle.std.proofs.lemmas.List.{get_or-map}
use Rattle.lists.specs.Outcome.{accepted}
use Rattle.lists.specs.Sort.{All}
use Rattle.lists.proofs.Each.{all_placed}
use Rattle.align.specs.Align.{bad_align}
use Rattle.fields.specs.Fields.{le16}
use Rattle.obj.specs.Records.{section_at}
use Rattle.obj.specs.declared.Section.{Section}
use Rattle.obj.specs.declared.Split.{Split}
use Rattle.obj.specs.Nothing.{no_section, no_split}
use Rattle.loaded.specs.Tables.{image_from, sections_from, byte_places, Usable}
use Rattle.loaded.proofs.Laws.{sections_kept, symbols_sound, few_sections}
use Rattle.relocs.specs.Relocs.{reloc_of}
use Rattle.sections.specs.Sections.{head_of}
use Rattle.sections.proofs.Kept.{kept_whole}
use Rattle.sections.proofs.Nobits.{nobits_bytes}
use Rattle.pieces.specs.declared.Piece.{Piece}
use Rattle.pieces.specs.Pieces.{pieces_in, piece_width}
use Rattle.walk.specs.Walk.{start_in, end_in, splitting_end_in, walk}
use Rattle.walk.specs.Giving.{input_of}
use Rattle.stage_walk.proofs.Room.{room_low}
use Rattle.restore.specs.Restoring.{bytes_in, parts, byte_at, Plain, Checked, Restored, Alike}
use Rattle.restore.specs.Alignments.{Largest}
use Rattle.restore.proofs.Steps.{From}
use Rattle.restore.proofs.Walked.{pieces_room}
use Rattle.restore.proofs.Nobits as nobits
use Rattle.restore.proofs.Theorems as walks
use Rattle.restore_entry.specs.Tables.{spot}
use Rattle.restore_entry.proofs.Decoded.{parts_same}
use Rattle.restore_entry.proofs.Pieces as pieces
use Rattle.run.specs.Run.{walked}
use Rattle.run_listing.proofs.Ended.{Finished}
use Rattle.run_file.specs.RunFile.{rooms_in}
use Rattle.run_theorems.specs.Run.{Call, tables, section_heads, rooms, result, splits_of, piece_count, pieces_of, input, SameTables}
use Rattle.run_entries.proofs.Good.{sound_at, aligned_at, section_at_lem, ends_at}
use Rattle.run_theorems.proofs.Ended.{came_done, finished_is, usable, good_full, splits_read, count_at}
use Rattle.run_theorems.proofs.Order.{units_read}

-- a section's head is its record
head_is : (c : Call) (n : ℕ) → n < length (tables c).sections → head_of c.file (tables c).sections n ≡ get_or (section_heads c) n no_section
head_is c n h = sym (get_or-map (section_at c.file) (tables c).sections n 0 no_section h)

module _ (c : Call) (e : c.word ≡ 0) where
  abbrev u : Usable c.file (tables c)
  u = usable c (came_done c e).loaded

  abbrev f : Finished c.file (tables c) (rooms c) (result c)
  f = finished_is c e

  abbrev S : List Split
  S = f.full.rows

  -- the walk of what the outputs hold is the run's
  pub walks_is : walk (input c) ≡ accepted (result c).output
  unfolding walked
  walks_is =
      ap₂ (λ (l : List Split) (names : List ℕ). walk (input_of (image_from c.file (tables c)) (sections_from c.file (tables c)) (reloc_of c.file (tables c).relocations) (length (tables c).relocations) l names (rooms c).output))
      (splits_read c e) (units_read c e)
      ∙ f.walks

  each_row : (Q : Split → Type 0) → ((k : ℕ) → k < length S → Q (get_or S k no_split)) → All Q (splits_of c)
  each_row Q g = subst (All Q) (sym (splits_read c e)) (all_placed S no_split g)

  row_end : (k : ℕ) → k < length S → (get_or S k no_split).end ≤ end_in (sections_from c.file (tables c)) (get_or S k no_split).section
  row_end k h =
      let s = get_or S k no_split in
      let there : s.section < length (tables c).sections = omega (arith, section_at_lem (good_full c e) k h, length-map (tables c).sections (section_at c.file)) in
      subst (λ (x : Section). s.end ≤ x.address + x.size) (sym (head_is c s.section there)) (ends_at (good_full c e) k h)

  -- THEOREM: the tables of an accepted call give a walk what the theorems on restoring ask of its input
  pub input_checked : Checked (input c)
  input_checked = record {
    sized = λ n h holds. (kept_whole c.file (tables c).sections c.file (byte_places (tables c).sections) (tables c).names (sections_kept u) n h).sized holds;
    nobits = λ n h q. nobits_bytes n (head_of c.file (tables c).sections n) q c.file (byte_places (tables c).sections);
    sound = symbols_sound u;
    aligned = each_row (λ s. bad_align s.alignment ≡ false) (λ k h. aligned_at (good_full c e) k h);
    ended = each_row (λ s. s.end ≤ end_in (sections_from c.file (tables c)) s.section) row_end;
  }

  low_ends : All (λ s. s.end ≤ 4026531840) (splits_of c)
  low_ends = each_row (λ s. s.end ≤ 4026531840) (λ k h. (sound_at (good_full c e) k h).end)

  held_is : pieces.held (result c).output c.sizes.pieces ≡ pieces_of c
  held_is = ap (λ (l : List ℕ). pieces_in l (piece_count c)) (sym c.leaves.left.pieces_are)

  -- the pieces that the output holds lie where the walk's do
  pub pieces_read : map spot (pieces_of c) ≡ map spot (result c).output.pieces
  pieces_read = ap (map spot) (sym held_is) ∙ pieces.pieces_read (input c) (result c).output input_checked (few_sections u) low_ends walks_is c.sizes.pieces

  -- THEOREM: the fifth count says how many pieces there are
  pub pieces_counted : 10 ≤ c.sizes.counts → le16 c.counts 8 ≡ piece_count c
  unfolding rooms_in
  pieces_counted h =
      ap (λ (l : List ℕ). le16 l 8) c.leaves.left.counted
      ∙ count_at c.sizes.counts _ 4 h (omega arith) (omega (arith, pieces_room (input c) (result c).output walks_is, room_low 1024 c.sizes.pieces piece_width))

  -- THEOREM T2: in every section that holds bytes and of whose number no split in the table that was walked is skipped or common, the pieces that the output holds, laid over
  -- zeros at their addresses, give the section's own byte at every address from its start on and below its splitting end, and each write lies inside
  pub restores : (n : ℕ) → Plain (input c) n → Restored (input c) (pieces_of c) n
  restores n plain =
      subst (λ (l : List Piece). Restored (input c) l n) held_is (pieces.restores (input c) (result c).output input_checked (few_sections u) low_ends walks_is c.sizes.pieces n plain)

  -- THEOREM T5: each piece has the largest alignment that fits its address, of those reached by halving from its split's
  pub pieces_aligned : All (λ p. (g : From (input c) p) × Largest g.chosen.value p.address p.alignment) (pieces_of c)
  pieces_aligned =
      subst (All (λ p. (g : From (input c) p) × Largest g.chosen.value p.address p.alignment)) held_is
      (pieces.pieces_aligned (input c) (result c).output input_checked (few_sections u) low_ends walks_is c.sizes.pieces)

  -- THEOREM T6: a piece of a section of kind 3 has no bytes, and its size is its split's end less its start
  pub nobits_pieces : All (λ p. ((input c).sections.head p.section).kind ≡ 3
      → (bytes_in (input c).sections p ≡ []) × ((g : From (input c) p) × (p.size ≡ g.split.end - g.split.start))) (pieces_of c)
  nobits_pieces =
      subst (All (λ p. ((input c).sections.head p.section).kind ≡ 3 → (bytes_in (input c).sections p ≡ []) × ((g : From (input c) p) × (p.size ≡ g.split.end - g.split.start)))) held_is
      (pieces.nobits_pieces (input c) (result c).output input_checked (few_sections u) low_ends walks_is c.sizes.pieces)

-- THEOREM T6: a section of kind 3 ends at its address plus its size, whatever the answer
pub nobits_ends : (c : Call) (n : ℕ) → ((input c).sections.head n).kind ≡ 3 → splitting_end_in (input c).image (input c).sections n ≡ accepted (end_in (input c).sections n)
nobits_ends c = nobits.nobits_ends (input c)

-- the same heads and splits are the walks'
alike : (c d : Call) → SameTables c d → Alike (input c) (input d)
alike c d same =
    record {
      splits = same.splits;
      count = counts;
      heads = λ n h. head_is c n h ∙ ap (λ (l : List Section). get_or l n no_section) same.heads ∙ sym (head_is d n (omega (arith, counts, h)));
    }
  where
    counts : length (tables c).sections ≡ length (tables d).sections
    counts = sym (length-map (tables c).sections (section_at c.file)) ∙ ap length same.heads ∙ length-map (tables d).sections (section_at d.file)

-- THEOREM T3: two accepted calls with the same walked splits and section heads, whose outputs hold pieces alike in count, order, section, address and bytes: in every such
-- section both files have the same byte at every address from its start on and below both splitting ends
pub unique : (c d : Call) → c.word ≡ 0 → d.word ≡ 0 → SameTables c d → parts (input c).sections (pieces_of c) ≡ parts (input d).sections (pieces_of d)
    → (n : ℕ) → Plain (input c) n → (a b : ℕ) → splitting_end_in (input c).image (input c).sections n ≡ accepted a → splitting_end_in (input d).image (input d).sections n ≡ accepted b
    → (x : ℕ) → start_in (input c).sections n ≤ x → x < a → x < b → byte_at (input c).sections n x ≡ byte_at (input d).sections n x
unique c d p q same equal =
    walks.unique (input c) (input d) (result c).output (result d).output (walks_is c p) (walks_is d q) (alike c d same)
    (sym (parts_same (input c).sections (pieces_of c) (result c).output.pieces (pieces_read c p)) ∙ equal
    ∙ parts_same (input d).sections (pieces_of d) (result d).output.pieces (pieces_read d q))
