-- The first faulty record, `first_from` by number and `first_in` on the list of records. Assumes nothing.
use mathlib.Core.Path.{◌≡◌, refl, sym, ap, ◌∙◌}
use mathlib.Core.Bool.{Bool, true, false, cond}
use Prim.Native.Nat.{ℕ, zero, suc, ◌+◌, ◌-◌, ◌≤◌, ◌<◌}
use native.Mathlib.Nat.{le_of_suc-le-suc, not-suc-le-zero, add-zero, add-suc, suc-add, zero-add}
use native.Mathlib.Numerals.{add-one}
use native.Mathlib.Omega.{arith}
use Rattle.lists.specs.Rows.{tabulate, first_from, first_in}

-- ---- the first faulty record
module _ (bad : ℕ → Bool) where
  first_turn : (i n : ℕ) → i < n → first_from bad i (n - i) ≡ cond (bad i) i (first_from bad (i + 1) (n - (i + 1)))
  unfolding first_from
  first_turn i n h =
      ap (first_from bad i) (let e : n - i ≡ suc (n - (i + 1)) = omega arith in e)
      ∙ ap (λ (k : ℕ). cond (bad i) i (first_from bad k (n - (i + 1)))) (sym (add-one i))

  pub first_here : (i n : ℕ) → i < n → bad i ≡ true → first_from bad i (n - i) ≡ i
  first_here i n h e = first_turn i n h ∙ rw e

  pub first_on : (i n : ℕ) → i < n → bad i ≡ false → first_from bad i (n - i) ≡ first_from bad (i + 1) (n - (i + 1))
  first_on i n h e = first_turn i n h ∙ rw e

  pub first_end : (i n : ℕ) → n ≤ i → first_from bad i (n - i) ≡ i
  unfolding first_from
  first_end i n h = ap (first_from bad i) (let e : n - i ≡ 0 = omega arith in e)

  -- a table without a fault: every record is good
  later : (i n k : ℕ) → bad i ≡ false → cond (bad i) i (first_from bad (suc i) n) ≡ i + suc n → first_from bad (suc i) n ≡ suc i + n
  later i n k q e = sym (rw q) ∙ e ∙ add-suc i n ∙ sym (suc-add i n)

  never_here : (i n : ℕ) → cond (bad i) i (first_from bad (suc i) n) ≡ i + suc n → bad i ≡ false
  never_here i n e = by_test (bad i) refl
    where
      by_test : (b : Bool) → bad i ≡ b → bad i ≡ false
      by_test true q = absurd (let z : i ≡ i + suc n = sym (rw q) ∙ e in omega arith)
      by_test false q = q

  none_from : (i n k : ℕ) → first_from bad i n ≡ i + n → k < n → bad (i + k) ≡ false
  unfolding first_from
  none_from i zero k e h = absurd (not-suc-le-zero h)
  none_from i (suc n) zero e h = rw add-zero (never_here i n e)
  none_from i (suc n) (suc k) e h =
      ap bad (add-suc i k ∙ sym (suc-add i k)) ∙ none_from (suc i) n k (later i n k (never_here i n e) e) (le_of_suc-le-suc h)

  pub first-none : (n k : ℕ) → first_from bad 0 n ≡ n → k < n → bad k ≡ false
  first-none n k e h = ap bad (sym (zero-add k)) ∙ none_from 0 n k (e ∙ sym (zero-add n)) h

  first_bound : (i n : ℕ) → first_from bad i n ≤ i + n
  unfolding first_from
  first_bound i zero = omega arith
  first_bound i (suc n) = by_test (bad i) (first_bound (suc i) n)
    where
      by_test : (b : Bool) → first_from bad (suc i) n ≤ suc i + n → cond b i (first_from bad (suc i) n) ≤ i + suc n
      by_test true h = omega arith
      by_test false h = omega (arith, suc-add i n, add-suc i n)

  pub first_le : (n : ℕ) → first_from bad 0 n ≤ n
  first_le n = rw zero-add at (first_bound 0 n)

-- the loop's form and the reader's form: by numbers, and on the list of records
first_shift : {A : Type 0} (p : A → Bool) (f : ℕ → A) (i n : ℕ) → first_from (λ k. p (f k)) i n ≡ i + first_in p (tabulate f i n)
unfolding first_from first_in tabulate
first_shift p f i zero = sym (add-zero i)
first_shift p f i (suc n) = ap (cond (p (f i)) i) (first_shift p f (suc i) n) ∙ by_test (p (f i)) (first_in p (tabulate f (suc i) n))
  where
    by_test : (t : Bool) (m : ℕ) → cond t i (suc i + m) ≡ i + cond t 0 (suc m)
    by_test true m = sym (add-zero i)
    by_test false m = omega (arith, suc-add i m, add-suc i m)

pub first_list : {A : Type 0} (p : A → Bool) (f : ℕ → A) (n : ℕ) → first_from (λ k. p (f k)) 0 n ≡ first_in p (tabulate f 0 n)
first_list p f n = first_shift p f 0 n ∙ zero-add (first_in p (tabulate f 0 n))
