-- Whether some row of a table passes a test, `some`: with the answer of the rows before it, and the first rows with one more. Assumes nothing.
use mathlib.Core.Path.{◌≡◌, refl, sym, ap, ◌∙◌}
use mathlib.Core.List.{List, [], ◌∷◌, ◌++◌}
use mathlib.Core.Bool.{Bool, true, false, ◌||◌, or-false}
use Prim.Native.Nat.{ℕ, ◌+◌, ◌-◌, ◌≤◌, ◌<◌}
use Rattle.lists.specs.Rows.{tabulate, some}
use Rattle.lists.proofs.Rows.{rest-cons, rest-none, tabulate_more}

or_assoc : (a b c : Bool) → ((a || b) || c) ≡ (a || (b || c))
or_assoc true b c = refl
or_assoc false b c = refl

module _ {A : Type 0} (p : A → Bool) where
  pub some-append : (l r : List A) → some p (l ++ r) ≡ (some p l || some p r)
  unfolding some
  some-append [] r = refl
  some-append (x ∷ l) r = ap (λ (b : Bool). p x || b) (some-append l r) ∙ sym (or_assoc (p x) (some p l) (some p r))

  module _ (f : ℕ → A) where
    -- `seen` is the answer of the rows before row i
    pub some_row : (n i : ℕ) (seen : Bool) → i < n → ((seen || p (f i)) || some p (tabulate f (i + 1) (n - (i + 1)))) ≡ (seen || some p (tabulate f i (n - i)))
    unfolding some
    some_row n i seen h = rw (rest-cons f i n h) (or_assoc seen (p (f i)) (some p (tabulate f (i + 1) (n - (i + 1)))))

    pub some_ended : (n i : ℕ) (seen : Bool) → n ≤ i → (seen || some p (tabulate f i (n - i))) ≡ seen
    unfolding some
    some_ended n i seen h = rw (rest-none f i n h) (or-false seen)

    -- the first i + 1 rows
    pub some_more : (i : ℕ) → some p (tabulate f 0 (i + 1)) ≡ (some p (tabulate f 0 i) || p (f i))
    unfolding some
    some_more i =
        ap (some p) (tabulate_more f i) ∙ some-append (tabulate f 0 i) (f i ∷ []) ∙ ap (λ (b : Bool). some p (tabulate f 0 i) || b) (or-false (p (f i)))
