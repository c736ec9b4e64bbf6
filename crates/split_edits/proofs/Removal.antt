-- Rows that go: those before the first of them stay, and where they lie side by side, those behind them move down together.
-- Assumes nothing.
use mathlib.Core.Path.{◌≡◌, refl, sym, ap, ap₂, ◌∙◌}
use mathlib.Core.List.{List, ◌∷◌, ◌++◌}
use mathlib.Core.Bool.{Bool, true, false}
use Prim.Native.Nat.{ℕ, zero, suc, ◌+◌, ◌-◌, ◌≤◌, ◌<◌}
use native.Mathlib.Omega.{arith}
use Rattle.lists.specs.Rows.{tabulate, keep_if}
use Rattle.lists.proofs.Rows.{rest-cons, rest-none, tabulate_ext}
use Rattle.lists.proofs.Parts.{tabulate_all, tabulate_zero, tabulate-append, tabulate_same}
use Rattle.lists.proofs.FilterRows.{filter_hit, filter_miss, filter_none, filter-kept}
use Rattle.split_edits.specs.Shifts.{Lowered}

module _ {A : Type 0} (p : A → Bool) (f : ℕ → A) (n : ℕ) where
  -- the rows before the first one that goes
  pub kept-first : (i : ℕ) → i ≤ n → ((k : ℕ) → k < i → p (f k) ≡ true) → tabulate f 0 i ++ keep_if p (tabulate f i (n - i)) ≡ keep_if p (tabulate f 0 n)
  kept-first zero h stay = tabulate_zero f 0 (keep_if p (tabulate f 0 (n - 0))) ∙ ap (keep_if p) (tabulate_all f n)
  kept-first (suc i) h stay =
      let e : i + 1 ≡ suc i = omega arith in
      rw e at (filter-kept p f n f i i (omega arith) (omega arith) (stay i (omega arith)) refl (λ j z. refl) ∙ kept-first i (omega arith) (λ k l. stay k (omega arith)))

  -- rows side by side that go
  gone : (d i : ℕ) → i + d ≤ n → ((k : ℕ) → i ≤ k → k < i + d → p (f k) ≡ false) → keep_if p (tabulate f i (n - i)) ≡ keep_if p (tabulate f (i + d) (n - (i + d)))
  gone zero i h none = ap (λ (x : ℕ). keep_if p (tabulate f x (n - x))) (let e : i ≡ i + 0 = omega arith in e)
  gone (suc d) i h none =
      filter_miss p f n i (omega arith) (none i (omega arith) (omega arith))
      ∙ gone d (i + 1) (omega arith) (λ k q l. none k (omega arith) (omega arith))
      ∙ ap (λ (x : ℕ). keep_if p (tabulate f x (n - x))) (let e : i + 1 + d ≡ i + suc d = omega arith in e)

  -- all rows from i on stay
  kept-rest : (d i : ℕ) → i + d ≡ n → ((k : ℕ) → i ≤ k → k < n → p (f k) ≡ true) → keep_if p (tabulate f i (n - i)) ≡ tabulate f i (n - i)
  kept-rest zero i h stay = filter_none p f n i (omega arith) ∙ sym (rest-none f i n (omega arith))
  kept-rest (suc d) i h stay =
      filter_hit p f n i (omega arith) (stay i (omega arith) (omega arith))
      ∙ ap (λ (t : List A). f i ∷ t) (kept-rest d (i + 1) (omega arith) (λ k q l. stay k (omega arith) l))
      ∙ sym (rest-cons f i n (omega arith))

  -- all rows stay
  pub kept-all : ((k : ℕ) → k < n → p (f k) ≡ true) → keep_if p (tabulate f 0 n) ≡ tabulate f 0 n
  kept-all stay = ap (keep_if p) (sym (tabulate_all f n)) ∙ kept-rest n 0 (omega arith) (λ k h l. stay k l) ∙ tabulate_all f n

-- the rows from `first` up to `stop` go, and those from there on go down to `first`: those before and those behind are left
pub lowered-parts : {A : Type 0} (f₀ f : ℕ → A) (n first stop : ℕ) → first ≤ stop → stop ≤ n → Lowered first stop (n - stop) f₀ f
    → tabulate f 0 (n - (stop - first)) ≡ tabulate f₀ 0 first ++ tabulate f₀ stop (n - stop)
lowered-parts {A} f₀ f n first stop h l q =
    sym (tabulate_all f (n - (stop - first)))
    ∙ tabulate-append f 0 first (n - (stop - first)) (omega arith) (omega arith)
    ∙ ap₂ (λ (x y : ℕ). tabulate f 0 x ++ tabulate f first y) (let e : first - 0 ≡ first = omega arith in e) (let e : n - (stop - first) - first ≡ n - stop = omega arith in e)
    ∙ ap₂ (λ (x y : List A). x ++ y) (tabulate_same f f₀ 0 first (λ j m r. q.below j (omega arith))) (tabulate_ext f f₀ first stop (n - stop) q.moved)

module _ {A : Type 0} (p : A → Bool) (f₀ f : ℕ → A) (n first stop : ℕ) (h : first ≤ stop) (l : stop ≤ n)
    (low : (k : ℕ) → k < first → p (f₀ k) ≡ true) (mid : (k : ℕ) → first ≤ k → k < stop → p (f₀ k) ≡ false) (high : (k : ℕ) → stop ≤ k → k < n → p (f₀ k) ≡ true)
    (q : Lowered first stop (n - stop) f₀ f) where
  pub closed : tabulate f 0 (n - (stop - first)) ≡ keep_if p (tabulate f₀ 0 n)
  closed =
      lowered-parts f₀ f n first stop h l q
      ∙ ap (λ (t : List A). tabulate f₀ 0 first ++ t) (sym rest)
      ∙ kept-first p f₀ n first (omega arith) low
    where
      to_stop : first + (stop - first) ≡ stop
      to_stop = omega arith

      rest : keep_if p (tabulate f₀ first (n - first)) ≡ tabulate f₀ stop (n - stop)
      rest =
          gone p f₀ n (stop - first) first (omega arith) (λ k m r. mid k m (omega arith))
          ∙ ap (λ (x : ℕ). keep_if p (tabulate f₀ x (n - x))) to_stop
          ∙ kept-rest p f₀ n (n - stop) stop (omega arith) high
