-- The elements of a sorted list between two keys are a part of it that hangs together, from the first place with the lower key to the
-- first with the higher. A binary search finds such a place by what one element's key says of it. Assumes nothing.
use mathlib.Core.Path.{◌≡◌, refl, sym, ap, ◌∙◌}
use mathlib.Core.List.{List, [], ◌∷◌}
use mathlib.Core.Logic.{◌⊎◌, inl, inr}
use Prim.Native.Nat.{ℕ, zero, suc, ◌-◌, ◌≤◌, ◌<◌, zero-le, suc-le-suc}
use native.Mathlib.Nat.{le_of_suc-le-suc, not-suc-le-zero, le_trans, suc-sub-suc, sub-zero}
use native.Mathlib.Omega.{arith}
use lib.Dec.{leb, ltb}
use lib.ListN.{length, get_or, take, drop}
use borrow.Author.Tests.{le-leb, lt-leb, lt-ltb, le-ltb, leb-true}
use Rattle.std.proofs.lemmas.Bool.{cases_lt, and_right}
use Rattle.lists.specs.Rows.{keep_if, first_in}
use Rattle.lists.specs.Sort.{Sorted, between, at_least}
use Rattle.lists.proofs.Compare.{and_holds}
use Rattle.lists.proofs.All.{all_at, all_map}
use Rattle.lists.proofs.Filter.{keep_same, keep_nothing}
use Rattle.lists.proofs.FirstIn.{first_in-first, first_in_le, first_in_passes}

module _ {A : Type 0} (k : A → ℕ) (low : ℕ) where
  before_first : (s : List A) → Sorted k s → take (first_in (at_least k low) s) s ≡ keep_if (λ y. ltb (k y) low) s
  unfolding first_in keep_if Sorted
  before_first [] p = refl
  before_first (x ∷ s) p = go (cases_lt (k x) low) (before_first s p.1)
    where
      go : (k x < low) ⊎ (low ≤ k x) → take (first_in (at_least k low) s) s ≡ keep_if (λ y. ltb (k y) low) s → take (first_in (at_least k low) (x ∷ s)) (x ∷ s) ≡ keep_if (λ y. ltb (k y) low) (x ∷ s)
      go (inl l) ih = rw (lt-leb _ _ l, lt-ltb _ _ l) (ap (λ (t : List A). x ∷ t) ih)
      go (inr l) ih = rw (le-leb _ _ l, le-ltb _ _ l) (sym (keep_nothing (λ y. ltb (k y) low) s (all_map (λ y q. le-ltb _ _ (le_trans l q)) p.0)))

-- a sorted list's elements between two keys are those from the first at low to before the first at high
pub part-between : {A : Type 0} (k : A → ℕ) (low high : ℕ) (s : List A) → Sorted k s
    → take (first_in (at_least k high) s - first_in (at_least k low) s) (drop (first_in (at_least k low) s) s) ≡ keep_if (between k low high) s
unfolding first_in keep_if Sorted
part-between k low high [] p = refl
part-between {A} k low high (x ∷ s) p = go (cases_lt (k x) low) (cases_lt (k x) high) (part-between k low high s p.1)
  where
    l : ℕ
    l = first_in (at_least k low) s

    h : ℕ
    h = first_in (at_least k high) s

    none_above : high ≤ k x → keep_if (between k low high) s ≡ []
    none_above b = keep_nothing (between k low high) s (all_map (λ y q. and_right (leb low (k y)) _ (le-ltb _ _ (le_trans b q))) p.0)

    go : (k x < low) ⊎ (low ≤ k x) → (k x < high) ⊎ (high ≤ k x) → take (h - l) (drop l s) ≡ keep_if (between k low high) s
        → take (first_in (at_least k high) (x ∷ s) - first_in (at_least k low) (x ∷ s)) (drop (first_in (at_least k low) (x ∷ s)) (x ∷ s)) ≡ keep_if (between k low high) (x ∷ s)
    go (inl a) (inl b) ih = rw (lt-leb _ _ a, lt-leb _ _ b, suc-sub-suc) ih
    go (inl a) (inr b) ih = rw (lt-leb _ _ a, le-leb _ _ b) (let z : 0 - suc l ≡ 0 = omega arith in rw z (sym (none_above b)))
    go (inr a) (inl b) ih = rw (le-leb _ _ a, lt-leb _ _ b, lt-ltb _ _ b, sub-zero)
        (ap (λ (t : List A). x ∷ t) (before_first k high s p.1 ∙ keep_same _ _ s (all_map (λ y q. sym (and_holds (le-leb _ _ (le_trans a q)))) p.0)))
    go (inr a) (inr b) ih = rw (le-leb _ _ a, le-leb _ _ b, le-ltb _ _ b) (sym (none_above b))

-- ---- binary search: what an element's key says of the first place with at least this key
module _ {A : Type 0} (k : A → ℕ) (low : ℕ) where
  pub place-below : (s : List A) (m : ℕ) (d : A) → m < length s → low ≤ k (get_or s m d) → first_in (at_least k low) s ≤ m
  place-below s m d h e = first_in-first (at_least k low) s m d h (le-leb _ _ e)

  pub place_above : (s : List A) (m : ℕ) (d : A) → Sorted k s → m < length s → k (get_or s m d) < low → m < first_in (at_least k low) s
  unfolding first_in Sorted
  place_above [] m d p h e = absurd (not-suc-le-zero h)
  place_above (x ∷ s) zero d p h e = rw (lt-leb _ _ e) (suc-le-suc zero-le)
  place_above (x ∷ s) (suc m) d p h e =
      let q : k x ≤ k (get_or s m d) = all_at m d p.0 (le_of_suc-le-suc h) in
      let r : k x < low = omega arith in
      rw (lt-leb _ _ r) (suc-le-suc (place_above s m d p.1 (le_of_suc-le-suc h) e))

-- ---- the part between two places that such searches gave; d is read where there is no element
module _ {A : Type 0} (k : A → ℕ) (d : A) (s : List A) (p : Sorted k s) where
  module _ (low high : ℕ) where
    abbrev first : ℕ → ℕ
    first n = first_in (at_least k n) s

    pub first_later : low ≤ high → first low ≤ first high
    first_later h = go (cases_lt (first high) (length s))
      where
        go : (first high < length s) ⊎ (length s ≤ first high) → first low ≤ first high
        go (inl q) = place-below k low s (first high) d q (le_trans h (leb-true _ _ (first_in_passes (at_least k high) s d q)))
        go (inr q) = le_trans (first_in_le (at_least k low) s) q

    module _ (from to : ℕ) (ef : from ≡ first low) (et : to ≡ first high) where
      pub part-some : take (to - from) (drop from s) ≡ keep_if (between k low high) s
      part-some = rw (ef, et) (part-between k low high s p)

  pub part_none : (low high : ℕ) → high ≤ low → [] ≡ keep_if (between k low high) s
  part_none low high h =
      let f = first_in (at_least k low) s in
      let t = first_in (at_least k high) s in
      let z : t - f ≡ 0 = omega (arith, first_later high low h) in
      sym (ap (λ (m : ℕ). take m (drop f s)) z) ∙ part-some low high f t refl refl
