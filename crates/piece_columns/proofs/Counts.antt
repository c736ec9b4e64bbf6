-- How many pieces a unit has, by a column: no more than there are, one more after a piece of the unit, and none at first. Assumes nothing.
use mathlib.Core.Path.{◌≡◌, refl, sym, ap, ◌∙◌}
use mathlib.Core.List.{List, [], ◌∷◌, ◌++◌}
use mathlib.Core.Bool.{Bool, true, false, cond}
use Prim.Native.Nat.{ℕ, suc, ◌+◌, ◌≤◌, ◌<◌}
use native.Mathlib.Numerals.{add-one}
use native.Mathlib.Omega.{arith}
use lib.Dec.{eqb}
use lib.ListN.{length, get_or, set, replicate, length-set}
use lib.Seq.{get_or-set_same, get_or-set_other}
use borrow.Author.Tests.{eqb-true, eqb-false}
use Rattle.lists.specs.Rows.{tabulate}
use Rattle.lists.proofs.Rows.{get_or_same}
use Rattle.pieces.specs.declared.Piece.{Piece}
use Rattle.pieces.specs.Pieces.{pieces_in}
use Rattle.pieces.specs.Questions.{count_of}
use Rattle.pieces.proofs.Laws.{length-pieces_in}
use Rattle.piece_columns.specs.Columns.{Counted}

pub count_le : (unit : ℕ) (l : List Piece) → count_of unit l ≤ length l
unfolding count_of
count_le unit [] = omega arith
count_le unit (p ∷ l) = go (eqb p.unit unit) (count_le unit l)
  where
    go : (t : Bool) → count_of unit l ≤ length l → cond t (suc (count_of unit l)) (count_of unit l) ≤ suc (length l)
    go true h = omega arith
    go false h = omega arith

count_more : (unit : ℕ) (l : List Piece) (p : Piece) → count_of unit (l ++ (p ∷ [])) ≡ cond (eqb p.unit unit) (suc (count_of unit l)) (count_of unit l)
unfolding count_of
count_more unit [] p = refl
count_more unit (q ∷ l) p = go (eqb q.unit unit) (eqb p.unit unit) (count_more unit l p)
  where
    go : (s t : Bool) → count_of unit (l ++ (p ∷ [])) ≡ cond t (suc (count_of unit l)) (count_of unit l)
        → cond s (suc (count_of unit (l ++ (p ∷ [])))) (count_of unit (l ++ (p ∷ [])))
        ≡ cond t (suc (cond s (suc (count_of unit l)) (count_of unit l))) (cond s (suc (count_of unit l)) (count_of unit l))
    go true true e = ap suc e
    go true false e = ap suc e
    go false true e = e
    go false false e = e

module _ (counts out : List ℕ) (k : ℕ) (c : Counted counts out k) where
  -- a count is no more than the pieces
  pub counted_le : (unit : ℕ) → unit < length counts → get_or counts unit 0 ≤ k
  counted_le unit h = omega (arith, c.each unit h, count_le unit (pieces_in out k), length-pieces_in out k)

  pub counted_more : (after : List ℕ) (p : Piece) → p.unit < length counts → pieces_in after (k + 1) ≡ pieces_in out k ++ (p ∷ [])
      → Counted (set counts p.unit (get_or counts p.unit 0 + 1)) after (k + 1)
  counted_more after p inside e =
      record {
        each = λ unit h.
            by_test unit (eqb p.unit unit) refl (omega (arith, length-set counts p.unit (get_or counts p.unit 0 + 1)))
            ∙ sym (ap (count_of unit) e ∙ count_more unit (pieces_in out k) p);
      }
    where
      by_test : (unit : ℕ) (t : Bool) → eqb p.unit unit ≡ t → unit < length counts
          → get_or (set counts p.unit (get_or counts p.unit 0 + 1)) unit 0 ≡ cond (eqb p.unit unit) (suc (count_of unit (pieces_in out k))) (count_of unit (pieces_in out k))
      by_test unit true q h =
          let same = eqb-true p.unit unit q in
          rw q
          (ap (λ (i : ℕ). get_or (set counts p.unit (get_or counts p.unit 0 + 1)) i 0) (sym same)
          ∙ get_or-set_same counts p.unit (get_or counts p.unit 0 + 1) 0 inside
          ∙ add-one (get_or counts p.unit 0)
          ∙ ap suc (ap (λ (i : ℕ). get_or counts i 0) same ∙ c.each unit h))
      by_test unit false q h =
          rw q (get_or-set_other counts p.unit unit (get_or counts p.unit 0 + 1) 0 (λ z. eqb-false p.unit unit q (sym z)) ∙ c.each unit h)

-- a column of zeros counts no pieces
pub counted_none : (n : ℕ) (out : List ℕ) {counts : List ℕ} → counts ≡ replicate n 0 → Counted counts out 0
unfolding pieces_in tabulate count_of
counted_none n out e = record { each = λ unit h. ap (λ (l : List ℕ). get_or l unit 0) e ∙ get_or_same n unit 0 }
