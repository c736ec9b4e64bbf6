-- J1 and J2 over the entries. The tables of an accepted call pass the joiner's checks, and its pieces fit their records. Assumes nothing.
use Prim.Native.Nat.{ℕ, suc, ◌+◌, ◌-◌, ◌/◌, ◌≤◌, ◌<◌}
use mathlib.Core.Path.{◌≡◌, refl, sym, ap, subst, ◌∙◌}
use mathlib.Core.List.{List, [], ◌∷◌, map, Memᴰ, Permᴰ}
use mathlib.Core.Bool.{not}
use native.Mathlib.Omega.{arith}
use lib.Dec.{eqb}
use lib.ListN.{length, get_or, take, drop, length-map, get_or-append}
use Rattle.lists.specs.Outcome.{Outcome, accepted, ◌>>◌}
use Rattle.lists.specs.Rows.{keep_if}
use Rattle.lists.specs.Sort.{All, none, each}
use Rattle.lists.proofs.Binds.{bind_goes, after_goes}
use Rattle.lists.proofs.Ranks.{length-kept}
use Rattle.lists.proofs.Filter.{map_keep}
use Rattle.lists.proofs.Outcomes.{then_both}
use Rattle.lists.proofs.Parts.{tabulate_list}
use Rattle.obj.specs.Records.{section_at, stage_places}
use Rattle.obj.specs.Answers.{outcome_word}
use Rattle.obj.specs.declared.Section.{Section}
use Rattle.obj.proofs.Laws.{length-stage_places}
use Rattle.obj.specs.Nothing.{no_section}
use Rattle.obj.specs.Parts.{Part}
use Rattle.tables.specs.Tables.{records_check}
use Rattle.tables.specs.Records.{image_places_of, section_fault}
use Rattle.tables.proofs.Laws.{image_sections, sections_end}
use Rattle.name_table.specs.NameTable.{names_check}
use Rattle.name_table.specs.Stored.{stage_lengths}
use Rattle.stage_tables.specs.StageTables.{stage_sections, table_check}
use Rattle.stage_tables.proofs.Laws.{table_passed}
use Rattle.sections.specs.Sections.{Sections}
use Rattle.pieces.specs.declared.Piece.{Piece}
use Rattle.walk.specs.Walk.{Output, start_in}
use Rattle.restore.specs.Restoring.{returned, part_of}
use Rattle.restore.proofs.Walked.{pieces_room}
use Rattle.entry_split_obj.specs.Entry.{split_obj_of, output_of}
use Rattle.stage_walk.proofs.Room.{room_low}
use Rattle.restore_entry.specs.Tables.{Spot, spot}
use Rattle.restore_entry.specs.Entry.{Call, Run, outcome, lent, input, pieces_of}
use Rattle.restore_entry.proofs.Tables.{input_checked, head_is, sections_few}
use Rattle.restore_entry.proofs.Entry.{accepts, passed, held_is}
use Rattle.restore_entry.proofs.Bytes.{pieces_read}
use Rattle.join.specs.Join.{joined, held, join_of}
use Rattle.lists.proofs.Among.{perm_among}
use Rattle.join.proofs.Order.{order_free}
use Rattle.join.proofs.Sizes.{length-joined}
use Rattle.piece_records.specs.Records.{parts_of, records_of, Fits}
use Rattle.piece_records.proofs.Written.{read_back}
use Rattle.join_restores.specs.Restoring.{heads_of, of_bytes, parts_of_walk}
use Rattle.join_restores.proofs.Theorem.{part_from, joins_back}
use Rattle.head_tables.specs.HeadTables.{head_tables}
use Rattle.kept_output.specs.Kept.{output_of as left_of, size_of, Leaves}
use Rattle.entry_join_pieces.specs.Entry.{join_pieces}
use Rattle.join_entries.specs.Entries.{JoinsRun, PutBack}
use Rattle.pieces.specs.Pieces.{piece_width}

-- ---- J2

-- THEOREM J2: two tables of pieces that pass their checks and hold the same pieces in another order are answered alike
pub order_alike : (ends bytes sections pieces other : List ℕ) (room : ℕ) (s t : List Part) → parts_of pieces ≡ accepted s → parts_of other ≡ accepted t
    → Permᴰ s t → join_pieces ends bytes sections pieces room ≡ join_pieces ends bytes sections other room
unfolding join_pieces
order_alike ends bytes sections pieces other room s t e f q =
    ap (λ (m : Outcome (List ℕ)). head_tables ends bytes sections >> m)
    (bind_goes _ _ s e ∙ order_free s t q (stage_sections sections) room ∙ sym (bind_goes _ _ t f))

-- .. and leave the same answer and the same bytes in both outputs
pub order_leaves : (ends bytes sections pieces other out size : List ℕ) (s t : List Part) → parts_of pieces ≡ accepted s → parts_of other ≡ accepted t
    → Permᴰ s t → {a b : ℕ} {out₁ out₂ size₁ size₂ : List ℕ}
    → Leaves (join_pieces ends bytes sections pieces (length out)) out size a out₁ size₁
    → Leaves (join_pieces ends bytes sections other (length out)) out size b out₂ size₂ → (a ≡ b) × (out₁ ≡ out₂) × (size₁ ≡ size₂)
order_leaves ends bytes sections pieces other out size s t e f q l m =
    let same = order_alike ends bytes sections pieces other (length out) s t e f q in (
      l.said ∙ ap outcome_word same ∙ sym m.said,
      l.output ∙ ap (left_of out) same ∙ sym m.output,
      l.sized ∙ ap (size_of size) same ∙ sym m.sized,
    )

-- ---- the pieces of the output table are those of the walk

-- a piece by where it lies
abbrev part_by : Sections → Spot → Part
part_by sections s =
    record {
      section = s.section;
      address = s.address;
      bytes = returned (sections.bytes s.section) (s.address - start_in sections s.section) (s.address - start_in sections s.section + s.size);
    }

parts_by : (sections : Sections) (ps : List Piece) → parts_of_walk sections ps ≡ map (part_by sections) (keep_if (λ s. not (eqb (sections.head s.section).kind 3)) (map spot ps))
parts_by sections ps = two (keep_if (of_bytes sections) ps) ∙ ap (map (part_by sections)) (map_keep spot (λ s. not (eqb (sections.head s.section).kind 3)) ps)
  where
    two : (l : List Piece) → map (part_of sections) l ≡ map (part_by sections) (map spot l)
    two [] = refl
    two (p ∷ l) = ap (λ (x : List Part). part_of sections p ∷ x) (two l)

parts_same : (sections : Sections) (ps qs : List Piece) → map spot ps ≡ map spot qs → parts_of_walk sections ps ≡ parts_of_walk sections qs
parts_same sections ps qs e =
    parts_by sections ps ∙ ap (λ (l : List Spot). map (part_by sections) (keep_if (λ s. not (eqb (sections.head s.section).kind 3)) l)) e ∙ sym (parts_by sections qs)

-- ---- lengths

perm_length : {A : Type 0} {s t : List A} → Permᴰ s t → length s ≡ length t
perm_length Permᴰ.nil = refl
perm_length (Permᴰ.cons e q) = ap suc (perm_length q)
perm_length (Permᴰ.swap e f) = refl
perm_length (Permᴰ.trans q r) = perm_length q ∙ perm_length r

-- ---- J1

module _ (r : Run) (parts : List Part) (order : Permᴰ parts (parts_of_walk (input r).sections (pieces_of r))) where
  abbrev c : Call
  c = r.call

  abbrev out : Output
  out = output_of (outcome c)

  abbrev heads : List Section
  heads = stage_sections c.sections

  -- the heads that are walked are those of the table
  heads_same : heads_of (input r).sections ≡ heads
  heads_same = tabulate_list (section_at c.sections) (input r).sections.head (stage_places 15 (length c.sections / 15)) 0 (λ k h. refl)

  walk_order : Permᴰ parts (parts_of_walk (input r).sections out.pieces)
  walk_order =
      subst (Permᴰ parts)
      (parts_same (input r).sections (pieces_of r) out.pieces (ap (map spot) (sym (held_is r)) ∙ pieces_read (lent c) out (passed r) c.sizes.pieces)) order

  -- the tables pass the joiner's checks
  names_pass : names_check 4096 c.ends c.bytes ≡ accepted tt
  unfolding split_obj_of
  names_pass = (then_both _ _ _ (accepts r)).0

  sections_pass : records_check (section_fault (stage_lengths c.ends c.bytes) heads) (length c.sections / 15) ≡ accepted tt
  sections_pass =
      image_sections (stage_lengths c.ends c.bytes) (image_places_of c.places) (length c.image) heads (length c.sections / 15)
      (table_passed 15 64 c.sections _ (passed r).tables.of_sections).2

  tables_pass : head_tables c.ends c.bytes c.sections ≡ accepted tt
  unfolding head_tables table_check
  tables_pass =
      after_goes _ _ names_pass
      ∙ after_goes _ _ (then_both _ _ _ (passed r).tables.of_sections).0
      ∙ sections_pass

  -- a piece fits its record
  fits : (p : Part) → Memᴰ p parts → Fits p
  fits p m =
      let v = part_from (input r) out (input_checked (lent c) (passed r).tables) (passed r).walked p (perm_among walk_order p m) in
      let q = v.0 in
      let k = v.1 in
      let l = k.lies in
      let there : q.section < length c.sections / 15 = subst (λ (n : ℕ). q.section < n) (length-stage_places 15 (length c.sections / 15)) k.listed in
      let few = sections_few (lent c) (passed r).tables in
      let end = sections_end (stage_lengths c.ends c.bytes) heads (length c.sections / 15) sections_pass q.section there in
      let head = head_is c.sections q.section there in
      let high = l.high in
      let whole = l.whole in
      let start : ((input r).sections.head q.section).address ≡ (get_or heads q.section no_section).address = ap (λ (s : Section). s.address) head in
      let size : ((input r).sections.head q.section).size ≡ (get_or heads q.section no_section).size = ap (λ (s : Section). s.size) head in
      subst Fits (sym v.2) (record { section = omega arith; address = omega arith; bytes = omega arith })

  all_fit : (l : List Part) → ((p : Part) → Memᴰ p l → Fits p) → All Fits l
  all_fit [] f = none
  all_fit (p ∷ l) f = each (f p (Memᴰ.head refl)) (all_fit l (λ q m. f q (Memᴰ.tail m)))

  few_parts : length parts ≤ 1024
  few_parts =
      let a = perm_length walk_order in
      let b = length-map (keep_if (of_bytes (input r).sections) out.pieces) (part_of (input r).sections) in
      let d = length-kept (of_bytes (input r).sections) out.pieces in
      let e = pieces_room (input r) out (passed r).walked in
      let f = room_low 1024 c.sizes.pieces piece_width in
      omega arith

  -- THEOREM J1: the pieces of an accepted call of `split_obj`, of sections that hold bytes and in any order, are accepted by `join_pieces` wherever the output is long
  -- enough, and in a section of the restoring rule the joined bytes are its own from its start on and below its splitting end
  pub joins_run : (room : ℕ) → JoinsRun r room parts
  unfolding join_pieces
  joins_run room =
      let j = joins_back (input r) out (input_checked (lent c) (passed r).tables) (passed r).walked parts walk_order room in
      record {
        accepts = λ h.
            after_goes _ _ tables_pass
            ∙ bind_goes _ _ parts (read_back parts (all_fit parts fits) few_parts)
            ∙ ap (λ (l : List Section). join_of l room parts) (sym heads_same)
            ∙ j.accepts (subst (λ (l : List Section). held l ≤ room) (sym heads_same) h)
            ∙ ap (λ (l : List Section). accepted (joined l parts)) heads_same;
        within = λ n plain end is x low high.
            subst (λ (l : List Section). held (take n l) + (x - start_in (input r).sections n) < held l) heads_same (j.within n plain end is x low high);
        own = λ n plain end is x low high.
            ap (λ (l : List Section). get_or (joined l parts) (held (take n l) + (x - start_in (input r).sections n)) 0) (sym heads_same)
            ∙ j.own n plain end is x low high;
      }

  -- THEOREM J1 over the bytes: a call of `join_pieces` on them, with enough bytes lent for `joined`, answers 0 and leaves there the sections' own bytes
  pub puts_back : {out size out' size' : List ℕ} {answer : ℕ} → held heads ≤ length out
      → Leaves (join_pieces c.ends c.bytes c.sections (records_of parts) (length out)) out size answer out' size' → PutBack r answer out'
  puts_back {out = out} {out' = out'} h l =
      let j = joins_run (length out) in
      let e = j.accepts h in
      let long = length-joined heads parts in
      record {
        said = l.said ∙ ap outcome_word e;
        own = λ n plain end is x low high.
            let within = j.within n plain end is x low high in
            ap (λ (b : List ℕ). get_or b (held (take n heads) + (x - start_in (input r).sections n)) 0) (l.output ∙ ap (left_of out) e)
            ∙ get_or-append (joined heads parts) (drop (length (joined heads parts)) out) 0 (held (take n heads) + (x - start_in (input r).sections n)) (omega arith)
            ∙ j.own n plain end is x low high;
      }
