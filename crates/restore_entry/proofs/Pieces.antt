-- T2, T5 and T6 over the bytes of an output table, for any walk whose input has what the table checks give: an output record holds where its piece lies, and its alignment, so what
-- holds of the walk's pieces holds of those that are read from the table. Assumes nothing.
use Prim.Native.Nat.{ℕ, ◌-◌, ◌≤◌, ◌<◌}
use mathlib.Core.Path.{◌≡◌, sym}
use mathlib.Core.List.{List, [], map}
use native.Mathlib.Omega.{arith}
use lib.ListN.{length, replicate}
use Rattle.lists.specs.Outcome.{accepted}
use Rattle.lists.specs.Sort.{All}
use Rattle.lists.specs.Tables.{laid}
use Rattle.lists.proofs.All.{all_map, all_both}
use Rattle.align.proofs.Laws.{good_parts}
use Rattle.pieces.specs.declared.Piece.{Piece}
use Rattle.pieces.specs.Pieces.{piece_bytes, pieces_in, packed}
use Rattle.walk.specs.Walk.{Input, Output, walk}
use Rattle.restore.specs.Restoring.{bytes_in, Plain, Checked, Restored}
use Rattle.restore.specs.Alignments.{Largest}
use Rattle.restore.proofs.Steps.{From}
use Rattle.restore.proofs.Walked.{pieces_from}
use Rattle.restore.proofs.Halving.{halves_le}
use Rattle.restore.proofs.Alignments as alignments
use Rattle.restore.proofs.Nobits as nobits
use Rattle.restore.proofs.Theorems as walks
use Rattle.lists.proofs.Among.{all_find}
use Rattle.restore_entry.specs.Tables.{spot}
use Rattle.restore_entry.proofs.Decoded.{Small, read_back, piece_there, all_same, restored_same}

-- the pieces that an output table of this size holds: its first records
abbrev pub held : (out : Output) → (size : ℕ) → List Piece
held out size = pieces_in (laid size (packed piece_bytes out.pieces)) (length out.pieces)

module _ (t : Input) (out : Output) (checked : Checked t) (few : t.sections.count ≤ 64) (low : All (λ s. s.end ≤ 4026531840) t.splits) (walked : walk t ≡ accepted out) where
  pieces_small : All Small out.pieces
  pieces_small = all_map (λ p q. one p q.0.0 q.0.1 q.1.0 q.1.1) (all_both (pieces_from t out walked) (alignments.pieces_aligned t out checked walked))
    where
      one : (p : Piece) → p.section < t.sections.count → From t p → (g : From t p) → Largest g.chosen.value p.address p.alignment → Small p
      one p h f g l =
          let e = f.end in
          let s = all_find f.split low f.reached.listed in
          let good = alignments.alignment_good t checked g.split g.reached.listed p.section p.address g.chosen g.asked in
          let r = l.fitting.reached in
          record {
            section = omega arith;
            address = omega arith;
            size = omega arith;
            alignment = omega (arith, halves_le l.fitting.times g.chosen.value, (good_parts g.chosen.value good).1);
          }

  -- they lie where the walk's do
  pub pieces_read : (size : ℕ) → map spot (held out size) ≡ map spot out.pieces
  pieces_read size = read_back out.pieces (replicate (size - length (packed piece_bytes out.pieces)) 0) pieces_small

  -- THEOREM T2, over the table's bytes: the pieces that the output table holds give back each section without skipped and common splits
  pub restores : (size n : ℕ) → Plain t n → Restored t (held out size) n
  restores size n plain = restored_same t n out.pieces (held out size) (sym (pieces_read size)) (walks.restores t out checked walked n plain)

  -- a piece's split is known by what the record holds
  from_there : (p : Piece) → From t p → From t (piece_there (spot p))
  from_there p f = record {
    split = f.split;
    reached = f.reached;
    common = f.common;
    address = f.address;
    end = f.end;
    chosen = f.chosen;
    asked = f.asked;
    alignment = f.alignment;
    fitted = f.fitted;
  }

  from_back : (p : Piece) → From t (piece_there (spot p)) → From t p
  from_back p f = record {
    split = f.split;
    reached = f.reached;
    common = f.common;
    address = f.address;
    end = f.end;
    chosen = f.chosen;
    asked = f.asked;
    alignment = f.alignment;
    fitted = f.fitted;
  }

  -- THEOREM T5, over the table's bytes: each of them has the largest alignment that fits its address, of those reached by halving from its split's
  pub pieces_aligned : (size : ℕ) → All (λ p. (f : From t p) × Largest f.chosen.value p.address p.alignment) (held out size)
  unfolding from_there from_back
  pieces_aligned size =
      all_same (λ p. (f : From t p) × Largest f.chosen.value p.address p.alignment) (λ p f. (from_there p f.0, f.1)) (λ p f. (from_back p f.0, f.1))
      out.pieces (held out size) (sym (pieces_read size)) (alignments.pieces_aligned t out checked walked)

  -- THEOREM T6, over the table's bytes: a piece of a section of kind 3 has no bytes, and its size is its split's end less its start
  pub nobits_pieces : (size : ℕ)
      → All (λ p. (t.sections.head p.section).kind ≡ 3 → (bytes_in t.sections p ≡ []) × ((f : From t p) × (p.size ≡ f.split.end - f.split.start))) (held out size)
  unfolding from_there from_back
  nobits_pieces size =
      all_same (λ p. (t.sections.head p.section).kind ≡ 3 → (bytes_in t.sections p ≡ []) × ((f : From t p) × (p.size ≡ f.split.end - f.split.start)))
      (λ p f q. let r = f q in (r.0, (from_there p r.1.0, r.1.1))) (λ p f q. let r = f q in (r.0, (from_back p r.1.0, r.1.1)))
      out.pieces (held out size) (sym (pieces_read size)) (nobits.nobits_pieces t out checked.nobits walked)
