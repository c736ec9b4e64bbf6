-- Counts stored one after another into lent bytes: those that fit whole stand at the front, and what is lent behind them stays. Assumes nothing.
use mathlib.Core.Path.{◌≡◌, refl, sym, ap, ◌∙◌}
use mathlib.Core.List.{List, [], ◌∷◌, ◌++◌, append_assoc, append-nil}
use mathlib.Core.Bool.{Bool, true, false, cond}
use Prim.Native.Nat.{ℕ, zero, suc, ◌+◌, ◌*◌, ◌/◌, ◌≤◌}
use native.Mathlib.Omega.{arith}
use borrow.Author.Tests.{leb-true, leb-false}
use lib.Dec.{leb}
use lib.ListN.{length, take, drop, length-append, length-take}
use lib.Seq.{sets, sets-eq, length-sets, take_all, take-append-le}
use Rattle.lists.proofs.Stores.{sets-sets}
use Rattle.fields.specs.Fields.{enc16}
use Rattle.outputs.specs.Outputs.{halves, store_count, store_counts}
use Rattle.outputs.proofs.Laws.{length-halves, halves-append}

-- bytes at the front, and what stood behind them
pub at_front : (before bytes : List ℕ) → length bytes ≤ length before → sets before 0 bytes ≡ bytes ++ drop (length bytes) before
at_front before bytes h = sets-eq bytes before 0 (omega arith) ∙ ap (λ (k : ℕ). bytes ++ drop k before) (let e : 0 + length bytes ≡ length bytes = omega arith in e)

module _ (before : List ℕ) where
  -- so many counts, where they fit
  abbrev kept : List ℕ → List ℕ
  kept counts = sets before 0 (halves (take (length before / 2) counts))

  one_kept : (done : List ℕ) (c : ℕ) → store_count (length done) c (kept done) ≡ kept (done ++ (c ∷ []))
  unfolding store_count halves
  one_kept done c = rw (length-sets before 0 (halves (take (length before / 2) done))) (go (leb (2 * length done + 2) (length before)) refl)
    where
      go : (t : Bool) → leb (2 * length done + 2) (length before) ≡ t → cond t (sets (kept done) (2 * length done) (enc16 c)) (kept done) ≡ kept (done ++ (c ∷ []))
      go true e =
          let h = leb-true (2 * length done + 2) (length before) e in
          let n = length-halves done in
          rw (take_all (length before / 2) done (omega arith), take_all (length before / 2) (done ++ (c ∷ [])) (simp length-append (omega arith)))
          (sets-sets before 0 (halves done) (2 * length done) (enc16 c) (omega arith) ∙ ap (sets before 0) (sym (halves-append done (c ∷ []))))
      go false e =
          let h = leb-false (2 * length done + 2) (length before) e in
          ap (λ (l : List ℕ). sets before 0 (halves l)) (sym (take-append-le (length before / 2) done (c ∷ []) (omega arith)))

  more_kept : (done counts : List ℕ) → store_counts (length done) counts (kept done) ≡ kept (done ++ counts)
  unfolding store_counts
  more_kept done [] = ap kept (sym (append-nil done))
  more_kept done (c ∷ counts) =
      ap (store_counts (suc (length done)) counts) (one_kept done c)
      ∙ ap (λ (k : ℕ). store_counts k counts (kept (done ++ (c ∷ [])))) (let e : suc (length done) ≡ length (done ++ (c ∷ [])) = simp length-append (omega arith) in e)
      ∙ more_kept (done ++ (c ∷ [])) counts
      ∙ ap kept (append_assoc done (c ∷ []) counts)

  none_kept : before ≡ kept []
  unfolding halves
  none_kept = go (length before / 2)
    where
      go : (n : ℕ) → before ≡ sets before 0 (halves (take n []))
      go zero = refl
      go (suc n) = refl

  -- as many as fit whole
  pub counts-kept : (counts : List ℕ)
      → store_counts 0 counts before ≡ halves (take (length before / 2) counts) ++ drop (length (halves (take (length before / 2) counts))) before
  counts-kept counts =
      let few = length-halves (take (length before / 2) counts) in
      let n = length-take (length before / 2) counts in
      ap (store_counts 0 counts) none_kept ∙ more_kept [] counts ∙ at_front before (halves (take (length before / 2) counts)) (omega (arith, few, n))
