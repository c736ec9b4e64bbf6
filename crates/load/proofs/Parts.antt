-- Parts of a column: what a store does to the part that it is in, and that it leaves every other part as it was. Assumes nothing.
use Prim.Native.Nat.{ℕ, suc, ◌+◌, ◌-◌, ◌<◌, ◌≤◌}
use mathlib.Core.Path.{◌≡◌, ap, ◌∙◌}
use mathlib.Core.List.{List, [], ◌∷◌, ◌++◌}
use native.Mathlib.Numerals.{add-one}
use native.Mathlib.Omega.{arith}
use lib.ListN.{length, take, drop, set, length-drop}
use lib.Seq.{length-take-le, take-set-le, drop-set-lt, take-set-lt, drop-set-add, take-suc-set}
use Rattle.load.specs.Columns.{part}

module _ (base n : ℕ) (column : List ℕ) where
  pub length_part : base + n ≤ length column → length (part base n column) ≡ n
  unfolding part
  length_part h = length-take-le n (drop base column) (simp length-drop (omega arith))

  -- a part as the code lends it, by start and end
  pub part-lent : take (base + n - base) (drop base column) ≡ part base n column
  unfolding part
  part-lent = ap (λ (k : ℕ). take k (drop base column)) (let e : base + n - base ≡ n = omega arith in e)

  module _ (i x : ℕ) where
    -- a store above or below the part; `more` is the count afterwards, which is the same
    pub part_above : {more : ℕ} → base + n ≤ i → more ≡ n → part base more (set column i x) ≡ part base n column
    unfolding part
    part_above h e =
        let at : i ≡ base + (i - base) = omega arith in
        ap (λ (k : ℕ). take k (drop base (set column i x))) e
        ∙ ap (λ (k : ℕ). take n (drop base (set column k x))) at
        ∙ ap (take n) (drop-set-add base column (i - base) x)
        ∙ take-set-le n (drop base column) (i - base) x (omega arith)

    pub part-below : {more : ℕ} → i < base → more ≡ n → part base more (set column i x) ≡ part base n column
    unfolding part
    part-below h e = ap (λ (k : ℕ). take k (drop base (set column i x))) e ∙ ap (take n) (drop-set-lt base column i x h)

    -- a store just behind it, which is now in it
    pub part_more : {more : ℕ} → i ≡ base + n → more ≡ n + 1 → base + n < length column → part base more (set column i x) ≡ part base n column ++ (x ∷ [])
    unfolding part
    part_more at e h =
        ap (λ (k : ℕ). take k (drop base (set column i x))) (e ∙ add-one n)
        ∙ ap (λ (k : ℕ). take (suc n) (drop base (set column k x))) at
        ∙ ap (take (suc n)) (drop-set-add base column n x)
        ∙ take-suc-set (drop base column) n x (simp length-drop (omega arith))

  -- a store in it
  pub part_stored : (k x : ℕ) → k < n → part base n (set column (base + k) x) ≡ set (part base n column) k x
  unfolding part
  part_stored k x h = ap (take n) (drop-set-add base column k x) ∙ take-set-lt n (drop base column) k x h
