-- Gaps at different places have different names: two decimal digits give the section back, eight hexadecimal ones the address. Assumes nothing.
use mathlib.Core.Path.{◌≡◌, refl, sym, ap, ◌∙◌}
use mathlib.Core.List.{List}
use mathlib.Core.Bool.{Bool, true, false}
use mathlib.Core.Logic.{◌⊎◌, inl, inr}
use Prim.Native.Nat.{ℕ, ◌+◌, ◌*◌, ◌/◌, ◌%◌, ◌≤◌, ◌<◌}
use native.Mathlib.Omega.{arith}
use borrow.Author.Tests.{lt-ltb, le-ltb}
use lib.ListN.{get_or}
use Rattle.std.proofs.lemmas.Bool.{cases_lt}
use Rattle.names.specs.Names.{same_name}
use Rattle.names.specs.Fixed.{codes}
use Rattle.names.specs.GapName.{digit, decimal2, hex8, gap_name}
use Rattle.names.proofs.Laws.{same_equal}

-- ---- digits

digit_is : (d : ℕ) → d < 16 → ((d < 10) × (digit d ≡ 48 + d)) ⊎ ((10 ≤ d) × (digit d ≡ 55 + d))
digit_is d h = go (cases_lt d 10)
  where
    go : (d < 10) ⊎ (10 ≤ d) → ((d < 10) × (digit d ≡ 48 + d)) ⊎ ((10 ≤ d) × (digit d ≡ 55 + d))
    go (inl q) = inl (q, rw (lt-ltb d 10 q))
    go (inr q) = inr (q, rw (le-ltb d 10 q))

-- equal digits are of equal numbers
digit_same : (a b : ℕ) → a < 16 → b < 16 → digit a ≡ digit b → a ≡ b
digit_same a b h k e = go (digit_is a h) (digit_is b k)
  where
    go : ((a < 10) × (digit a ≡ 48 + a)) ⊎ ((10 ≤ a) × (digit a ≡ 55 + a)) → ((b < 10) × (digit b ≡ 48 + b)) ⊎ ((10 ≤ b) × (digit b ≡ 55 + b)) → a ≡ b
    go (inl p) (inl q) = let z : 48 + a ≡ 48 + b = sym p.1 ∙ e ∙ q.1 in omega arith
    go (inl p) (inr q) = let z : 48 + a ≡ 55 + b = sym p.1 ∙ e ∙ q.1 in let u = p.0 in let v = q.0 in omega arith
    go (inr p) (inl q) = let z : 55 + a ≡ 48 + b = sym p.1 ∙ e ∙ q.1 in let u = p.0 in let v = q.0 in omega arith
    go (inr p) (inr q) = let z : 55 + a ≡ 55 + b = sym p.1 ∙ e ∙ q.1 in omega arith

-- ---- the section

section_same : (m n : ℕ) → m < 100 → n < 100 → m / 10 % 10 ≡ n / 10 % 10 → m % 10 ≡ n % 10 → m ≡ n
section_same m n h k p q = omega arith

-- ---- the address, from the highest digit down
module _ (a b : ℕ) where
  top : a < 4294967296 → b < 4294967296 → a / 268435456 % 16 ≡ b / 268435456 % 16 → a / 268435456 ≡ b / 268435456
  top h k e = omega arith

  six : a / 268435456 ≡ b / 268435456 → a / 16777216 % 16 ≡ b / 16777216 % 16 → a / 16777216 ≡ b / 16777216
  six p e = omega arith

  five : a / 16777216 ≡ b / 16777216 → a / 1048576 % 16 ≡ b / 1048576 % 16 → a / 1048576 ≡ b / 1048576
  five p e = omega arith

  four : a / 1048576 ≡ b / 1048576 → a / 65536 % 16 ≡ b / 65536 % 16 → a / 65536 ≡ b / 65536
  four p e = omega arith

  three : a / 65536 ≡ b / 65536 → a / 4096 % 16 ≡ b / 4096 % 16 → a / 4096 ≡ b / 4096
  three p e = omega arith

  two : a / 4096 ≡ b / 4096 → a / 256 % 16 ≡ b / 256 % 16 → a / 256 ≡ b / 256
  two p e = omega arith

  one : a / 256 ≡ b / 256 → a / 16 % 16 ≡ b / 16 % 16 → a / 16 ≡ b / 16
  one p e = omega arith

  none : a / 16 ≡ b / 16 → a % 16 ≡ b % 16 → a ≡ b
  none p e = omega arith

-- ---- names

-- byte k of a gap's name
module _ (m n a b : ℕ) (x y : List ℕ) (e : gap_name m a x ≡ gap_name n b y) where
  at : (k : ℕ) → get_or (gap_name m a x) k 0 ≡ get_or (gap_name n b y) k 0
  at k = ap (λ (l : List ℕ). get_or l k 0) e

  small : (d : ℕ) → d % 16 < 16
  small d = omega arith

  tens : (d : ℕ) → d % 10 < 16
  tens d = omega arith

  pub same_section : m < 100 → n < 100 → m ≡ n
  unfolding gap_name codes decimal2
  same_section h k = section_same m n h k (digit_same (m / 10 % 10) (n / 10 % 10) (tens (m / 10)) (tens (n / 10)) (at 5)) (digit_same (m % 10) (n % 10) (tens m) (tens n) (at 6))

  pub same_address : a < 4294967296 → b < 4294967296 → a ≡ b
  unfolding gap_name codes decimal2 hex8
  same_address h k =
      none a b
      (one a b
      (two a b
      (three a b
      (four a b
      (five a b
      (six a b
      (top a b h k (digit_same (a / 268435456 % 16) (b / 268435456 % 16) (small (a / 268435456)) (small (b / 268435456)) (at 8)))
      (digit_same (a / 16777216 % 16) (b / 16777216 % 16) (small (a / 16777216)) (small (b / 16777216)) (at 9)))
      (digit_same (a / 1048576 % 16) (b / 1048576 % 16) (small (a / 1048576)) (small (b / 1048576)) (at 10)))
      (digit_same (a / 65536 % 16) (b / 65536 % 16) (small (a / 65536)) (small (b / 65536)) (at 11)))
      (digit_same (a / 4096 % 16) (b / 4096 % 16) (small (a / 4096)) (small (b / 4096)) (at 12)))
      (digit_same (a / 256 % 16) (b / 256 % 16) (small (a / 256)) (small (b / 256)) (at 13)))
      (digit_same (a / 16 % 16) (b / 16 % 16) (small (a / 16)) (small (b / 16)) (at 14)))
      (digit_same (a % 16) (b % 16) (small a) (small b) (at 15))

-- gaps at different places
pub other_names : (m n a b : ℕ) (x y : List ℕ) → m < 100 → n < 100 → a < 4294967296 → b < 4294967296 → (m * 4294967296 + a ≡ n * 4294967296 + b → ⊥)
    → same_name (gap_name m a x) (gap_name n b y) ≡ false
other_names m n a b x y hm hn ha hb other = go (same_name (gap_name m a x) (gap_name n b y)) refl
  where
    go : (t : Bool) → same_name (gap_name m a x) (gap_name n b y) ≡ t → t ≡ false
    go false e = refl
    go true e =
        let q = same_equal (gap_name m a x) (gap_name n b y) e in
        let s : m ≡ n = same_section m n a b x y q hm hn in
        let r : a ≡ b = same_address m n a b x y q ha hb in
        absurd (other (omega arith))
