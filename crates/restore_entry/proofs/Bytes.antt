-- T2, T3, T5 and T6 over the lent tables: the pieces are read from the bytes of the output table (proofs/Pieces.antt), and the tables' checks give what the theorems over the walk ask.
-- Assumes nothing.
use Prim.Native.Nat.{ℕ, ◌-◌, ◌/◌, ◌≤◌, ◌<◌}
use mathlib.Core.Path.{◌≡◌, sym, ap, ◌∙◌}
use mathlib.Core.List.{List, [], map}
use native.Mathlib.Omega.{arith}
use lib.ListN.{length, get_or}
use Rattle.lists.specs.Outcome.{accepted}
use Rattle.lists.specs.Sort.{All}
use Rattle.obj.specs.declared.Section.{Section}
use Rattle.obj.proofs.Laws.{length-stage_places}
use Rattle.obj.specs.Nothing.{no_section}
use Rattle.stage_tables.proofs.Laws.{length_sections}
use Rattle.pieces.specs.declared.Piece.{Piece}
use Rattle.walk.specs.Walk.{Output, start_in, splitting_end_in}
use Rattle.restore.specs.Restoring.{bytes_in, parts, byte_at, Plain, Restored, Alike}
use Rattle.restore.specs.Alignments.{Largest}
use Rattle.restore.proofs.Steps.{From}
use Rattle.restore.proofs.Theorems as walks
use Rattle.restore_entry.specs.Tables.{Lent, input_in, Accepted, SameTables, spot}
use Rattle.restore_entry.proofs.Tables.{head_is, sections_few, splits_end, input_checked}
use Rattle.restore_entry.proofs.Decoded.{parts_same}
use Rattle.restore_entry.proofs.Pieces as pieces

module _ (t : Lent) (out : Output) (a : Accepted t out) where
  few_heads : (input_in t).sections.count ≤ 64
  few_heads = omega (arith, sections_few t a.tables, length-stage_places 15 (length t.sections / 15))

  -- the pieces that the output table holds: its first records
  abbrev pub held : (size : ℕ) → List Piece
  held size = pieces.held out size

  -- they lie where the walk's do
  pub pieces_read : (size : ℕ) → map spot (held size) ≡ map spot out.pieces
  pieces_read = pieces.pieces_read (input_in t) out (input_checked t a.tables) few_heads (splits_end t a.tables) a.walked

  -- THEOREM T2, over the tables' bytes: the pieces that the output table holds give back each section without skipped and common splits
  pub restores : (size n : ℕ) → Plain (input_in t) n → Restored (input_in t) (held size) n
  restores = pieces.restores (input_in t) out (input_checked t a.tables) few_heads (splits_end t a.tables) a.walked

  -- THEOREM T5, over the tables' bytes: each of them has the largest alignment that fits its address, of those reached by halving from its split's
  pub pieces_aligned : (size : ℕ) → All (λ p. (f : From (input_in t) p) × Largest f.chosen.value p.address p.alignment) (held size)
  pieces_aligned = pieces.pieces_aligned (input_in t) out (input_checked t a.tables) few_heads (splits_end t a.tables) a.walked

  -- THEOREM T6, over the tables' bytes: a piece of a section of kind 3 has no bytes, and its size is its split's end less its start
  pub nobits_pieces : (size : ℕ)
      → All (λ p. ((input_in t).sections.head p.section).kind ≡ 3
      → (bytes_in (input_in t).sections p ≡ []) × ((f : From (input_in t) p) × (p.size ≡ f.split.end - f.split.start))) (held size)
  nobits_pieces = pieces.nobits_pieces (input_in t) out (input_checked t a.tables) few_heads (splits_end t a.tables) a.walked

-- the same heads and splits are the walks'
alike : (t u : Lent) → SameTables t u → Alike (input_in t) (input_in u)
alike t u same =
    record {
      splits = same.splits;
      count = length-stage_places 15 (length t.sections / 15) ∙ counts ∙ sym (length-stage_places 15 (length u.sections / 15));
      heads = λ n h.
          let k : n < length t.sections / 15 = rw length-stage_places at h in
          head_is t.sections n k ∙ ap (λ (l : List Section). get_or l n no_section) same.heads ∙ sym (head_is u.sections n (omega (arith, counts)));
    }
  where
    counts : length t.sections / 15 ≡ length u.sections / 15
    counts = sym (length_sections t.sections) ∙ ap length same.heads ∙ length_sections u.sections

-- THEOREM T3, over the tables' bytes: two accepted entries with the same splits and section heads, whose output tables hold pieces alike in section, address and
-- bytes, have the same byte at each address from a section's start on and below both splitting ends
pub unique : (t u : Lent) (o p : Output) → (a : Accepted t o) → (b : Accepted u p) → SameTables t u → (size other : ℕ)
    → parts (input_in t).sections (held t o a size) ≡ parts (input_in u).sections (held u p b other)
    → (n : ℕ) → Plain (input_in t) n → (e f : ℕ) → splitting_end_in (input_in t).image (input_in t).sections n ≡ accepted e
    → splitting_end_in (input_in u).image (input_in u).sections n ≡ accepted f
    → (x : ℕ) → start_in (input_in t).sections n ≤ x → x < e → x < f → byte_at (input_in t).sections n x ≡ byte_at (input_in u).sections n x
unique t u o p a b same size other equal =
    walks.unique (input_in t) (input_in u) o p a.walked b.walked (alike t u same)
    (sym (parts_same (input_in t).sections (held t o a size) o.pieces (pieces_read t o a size)) ∙ equal
    ∙ parts_same (input_in u).sections (held u p b other) p.pieces (pieces_read u p b other))
