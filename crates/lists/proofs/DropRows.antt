-- The rows of a table from a place on, as a part of the list; a store that changes nothing; an element that passes. Assumes nothing.
use mathlib.Core.Path.{◌≡◌, refl, sym, ap, ◌∙◌}
use mathlib.Core.List.{List, [], ◌∷◌}
use mathlib.Core.Bool.{Bool, true, false, ◌||◌}
use Prim.Native.Nat.{ℕ, zero, suc, ◌+◌, ◌-◌, ◌<◌}
use native.Mathlib.Nat.{sub-zero, suc-sub-suc, add-zero, add-suc, suc-add, zero-add, le_of_suc-le-suc, not-suc-le-zero}
use native.Mathlib.Omega.{arith}
use lib.ListN.{length, get_or, set, drop}
use Rattle.lists.specs.Rows.{tabulate, some}

module _ {A : Type 0} where
  drop_from : (f : ℕ → A) (k i n : ℕ) → drop k (tabulate f i n) ≡ tabulate f (i + k) (n - k)
  unfolding tabulate
  drop_from f zero i n = ap (λ (m : ℕ). tabulate f m n) (sym (add-zero i)) ∙ ap (tabulate f (i + 0)) (sym (sub-zero n))
  drop_from f (suc k) i zero = ap (tabulate f (i + suc k)) (sym (none (suc k)))
    where
      none : (m : ℕ) → 0 - m ≡ 0
      none m = omega arith
  drop_from f (suc k) i (suc n) =
      drop_from f k (suc i) n
      ∙ ap (λ (m : ℕ). tabulate f m (n - k)) (suc-add i k ∙ sym (add-suc i k))
      ∙ ap (tabulate f (i + suc k)) (sym (suc-sub-suc n k))

  -- the rows from place k on
  pub drop-rows : (f : ℕ → A) (k n : ℕ) → drop k (tabulate f 0 n) ≡ tabulate f k (n - k)
  drop-rows f k n = drop_from f k 0 n ∙ ap (λ (m : ℕ). tabulate f m (n - k)) (zero-add k)

  -- what stands at a place, stored there
  pub set_itself : (l : List A) (k : ℕ) (d : A) → set l k (get_or l k d) ≡ l
  set_itself [] k d = refl
  set_itself (x ∷ l) zero d = refl
  set_itself (x ∷ l) (suc k) d = ap (λ (t : List A). x ∷ t) (set_itself l k d)

  -- an element passes, so some does
  pub some_at : (p : A → Bool) (l : List A) (k : ℕ) (d : A) → k < length l → p (get_or l k d) ≡ true → some p l ≡ true
  unfolding some
  some_at p [] k d h e = absurd (not-suc-le-zero h)
  some_at p (x ∷ l) zero d h e = rw e
  some_at p (x ∷ l) (suc k) d h e = go (p x) (some_at p l k d (le_of_suc-le-suc h) e)
    where
      go : (t : Bool) → some p l ≡ true → (t || some p l) ≡ true
      go true q = refl
      go false q = q
