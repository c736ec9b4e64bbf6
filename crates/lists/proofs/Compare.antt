-- Two comparisons that are alike, the lower and the higher of two numbers, and a test beside one that holds. Assumes nothing.
use mathlib.Core.Path.{◌≡◌, refl}
use mathlib.Core.Bool.{Bool, true, false, cond, ◌&&◌}
use mathlib.Core.Logic.{◌⊎◌, inl, inr}
use Prim.Native.Nat.{ℕ, ◌≤◌, ◌<◌, min, max}
use native.Mathlib.Omega.{arith}
use lib.Dec.{leb, ltb, eqb}
use borrow.Author.Tests.{le-leb, lt-leb, ltb-true, ltb-false, ne_eqb}
use Rattle.std.proofs.lemmas.Bool.{cases_lt}
use Rattle.lists.specs.Bounds.{lower, higher}

-- two comparisons that imply each other are one
pub same_leb : (x y u v : ℕ) → (x ≤ y → u ≤ v) → (u ≤ v → x ≤ y) → leb x y ≡ leb u v
same_leb x y u v f g = go (cases_lt v u)
  where
    other : v < u → (y < x) ⊎ (x ≤ y) → leb x y ≡ false
    other h (inl q) = lt-leb _ _ q
    other h (inr q) = let w = f q in absurd (omega arith)

    go : (v < u) ⊎ (u ≤ v) → leb x y ≡ leb u v
    go (inr h) = rw (le-leb _ _ h) (le-leb _ _ (g h))
    go (inl h) = rw (lt-leb _ _ h) (other h (cases_lt y x))

-- the first test holds, so the second decides
pub and_holds : {a b : Bool} → a ≡ true → (a && b) ≡ b
and_holds e = rw e

-- the larger of two numbers is one of them
pub one_of_two : (a b : ℕ) → (max a b ≡ a) ⊎ (max a b ≡ b)
one_of_two a b = go (cases_lt a b)
  where
    go : (a < b) ⊎ (b ≤ a) → (max a b ≡ a) ⊎ (max a b ≡ b)
    go (inl h) = inr (omega arith)
    go (inr h) = inl (omega arith)

-- the lower and the higher of two numbers, as arithmetic knows them
module _ (a b : ℕ) where
  pub lower-is : lower a b ≡ min a b
  lower-is = go (ltb a b) refl
    where
      go : (t : Bool) → ltb a b ≡ t → cond t a b ≡ min a b
      go true e = let h = ltb-true a b e in omega arith
      go false e = let h = ltb-false a b e in omega arith

  pub higher-is : higher a b ≡ max a b
  higher-is = go (ltb a b) refl
    where
      go : (t : Bool) → ltb a b ≡ t → cond t b a ≡ max a b
      go true e = let h = ltb-true a b e in omega arith
      go false e = let h = ltb-false a b e in omega arith

-- a number above 0 is not 0
pub above-eqb : (n : ℕ) → 0 < n → eqb n 0 ≡ false
above-eqb n h = ne_eqb n 0 (λ e. omega arith)
