-- Decimal digits: how many, how one more is found from the last to the first, and what they say: their value, folded by ten, is the number, and no digit before
-- the last is a leading zero. Readers use `value_decimal` and `no_leading_zero`. Assumes nothing.
use mathlib.Core.Path.{◌≡◌, refl, sym, ap, ap₂, ◌∙◌}
use mathlib.Core.List.{List, [], ◌∷◌, ◌++◌, append-nil}
use mathlib.Core.Bool.{Bool, true, false}
use Prim.Native.Nat.{ℕ, zero, suc, ◌+◌, ◌-◌, ◌*◌, ◌/◌, ◌%◌, ◌≤◌, ◌<◌}
use native.Mathlib.Nat.{zero-add}
use native.Mathlib.Omega.{arith}
use borrow.Author.Tests.{ltb-true, ltb-false, lt-ltb, le-ltb}
use lib.Dec.{ltb}
use lib.ListN.{length, get_or, take, drop, length-append, get_or-append}
use Rattle.names.specs.GapName.{digit}
use Rattle.names.proofs.Gaps.{part_to_end}
use Rattle.names.proofs.HexDigits.{digit_below}
use Rattle.std.proofs.Common.{◌^◌, lit<}
use Rattle.std.specs.Fmt as fmt
use Rattle.std.proofs.lemmas.Fmt.{AppendsLastDigit, decimal_from_appends, length-decimal-le}
use Rattle.lines.specs.Lines.{digits, decimal}

-- ten to the k
unfoldable pub pow10 : ℕ → ℕ
pow10 zero = 1
pow10 (suc k) = 10 * pow10 k

below : (n k : ℕ) → n < 10 * k → n / 10 < k
below n k h = omega arith

-- ---- one digit, or a last one

pub digits_last : (most n : ℕ) → n < 10 → digits (suc most) n ≡ digit n ∷ []
unfolding digits
digits_last most n h = rw (lt-ltb n 10 h)

pub digits_more : (most n : ℕ) → 10 ≤ n → digits (suc most) n ≡ digits most (n / 10) ++ (digit (n % 10) ∷ [])
unfolding digits
digits_more most n h = rw (le-ltb n 10 h)

-- at most so many
pub digits_few : (most n : ℕ) → length (digits most n) ≤ most
unfolding digits
digits_few zero n = omega arith
digits_few (suc most) n = go (ltb n 10) refl (digits_few most (n / 10))
  where
    go : (t : Bool) → ltb n 10 ≡ t → length (digits most (n / 10)) ≤ most → length (digits (suc most) n) ≤ suc most
    go true e m = rw e (omega arith)
    go false e m =
        let k = length-append (digits most (n / 10)) (digit (n % 10) ∷ []) in
        rw e (omega arith)

-- a number below ten to the k has no more than k digits
pub digits-below : (most k n : ℕ) → n < pow10 (suc k) → length (digits most n) ≤ suc k
unfolding digits pow10
digits-below zero k n h = omega arith
digits-below (suc most) k n h = go (ltb n 10) refl (λ j. digits-below most j (n / 10))
  where
    later : (j : ℕ) → n < pow10 (suc j) → 10 ≤ n → ((i : ℕ) → n / 10 < pow10 (suc i) → length (digits most (n / 10)) ≤ suc i) → length (digits most (n / 10)) ≤ j
    later zero s q ih = absurd (omega arith)
    later (suc j) s q ih = ih j (below n (pow10 (suc j)) s)

    go : (t : Bool) → ltb n 10 ≡ t → ((i : ℕ) → n / 10 < pow10 (suc i) → length (digits most (n / 10)) ≤ suc i) → length (digits (suc most) n) ≤ suc k
    go true e ih = rw e (omega arith)
    go false e ih =
        let m = length-append (digits most (n / 10)) (digit (n % 10) ∷ []) in
        let u = later k h (ltb-false n 10 e) ih in
        rw e (omega arith)

-- ---- what std writes

appended : AppendsLastDigit digits
appended = record {
  one = λ k n h. digits_last k n h ∙ ap (λ (d : ℕ). d ∷ []) (digit_below n h);
  more = λ k n h. digits_more k n h ∙ ap (λ (d : ℕ). digits k (n / 10) ++ (d ∷ [])) (digit_below (n % 10) (omega arith));
}

-- a number of 64 bits has no more than 20 digits, and they are std's
pub decimal_is : (n : ℕ) → n < 2 ^ 64 → fmt.decimal n ≡ decimal n
decimal_is n h = sym (decimal_from_appends digits appended 20 n h (length-decimal-le 20 n (lit< tt) (omega arith) h))

-- .. so they are the part of a column of 20 that they were written into
pub column_digits : (column : List ℕ) (n r : ℕ) → n < 2 ^ 64 → length column ≡ 20 → drop r column ≡ fmt.decimal n ++ [] → take (20 - r) (drop r column) ≡ decimal n
column_digits column n r h e d =
    ap (λ (k : ℕ). take (k - r) (drop r column)) (sym e)
    ∙ part_to_end column r
    ∙ d
    ∙ append-nil (fmt.decimal n)
    ∙ decimal_is n h

-- ---- what the digits say

-- digits read from the left, after those that say v
unfoldable pub value : (v : ℕ) → List ℕ → ℕ
value v [] = v
value v (c ∷ later) = value (v * 10 + (c - 48)) later

value_snoc : (v : ℕ) (l : List ℕ) (c : ℕ) → value v (l ++ (c ∷ [])) ≡ value v l * 10 + (c - 48)
unfolding value
value_snoc v [] c = refl
value_snoc v (b ∷ l) c = value_snoc (v * 10 + (b - 48)) l c

digit_value : (d : ℕ) → d < 10 → digit d - 48 ≡ d
digit_value d h = rw (lt-ltb d 10 h) (omega arith)

pub value_digits : (most n : ℕ) → n < pow10 most → value 0 (digits most n) ≡ n
unfolding digits pow10 value
value_digits zero n h = omega arith
value_digits (suc most) n h = go (ltb n 10) refl (value_digits most (n / 10) (below n (pow10 most) h))
  where
    go : (t : Bool) → ltb n 10 ≡ t → value 0 (digits most (n / 10)) ≡ n / 10 → value 0 (digits (suc most) n) ≡ n
    go true e ih = ap (value 0) (digits_last most n (ltb-true n 10 e)) ∙ zero-add (digit n - 48) ∙ digit_value n (ltb-true n 10 e)
    go false e ih =
        ap (value 0) (digits_more most n (ltb-false n 10 e))
        ∙ value_snoc 0 (digits most (n / 10)) (digit (n % 10))
        ∙ ap₂ (λ (a b : ℕ). a * 10 + b) ih (digit_value (n % 10) (omega arith))
        ∙ omega arith

-- the digits' value is the number
pub value_decimal : (n : ℕ) → n < pow10 20 → value 0 (decimal n) ≡ n
value_decimal n h = value_digits 20 n h

some : (l : List ℕ) → 48 < get_or l 0 0 → 0 < length l
some [] q = absurd (omega arith)
some (b ∷ l) q = omega arith

leads : (most n : ℕ) → 0 < n → n < pow10 most → 48 < get_or (digits most n) 0 0
unfolding digits pow10
leads zero n p h = absurd (omega arith)
leads (suc most) n p h = go (ltb n 10) refl (λ q. leads most (n / 10) q (below n (pow10 most) h))
  where
    go : (t : Bool) → ltb n 10 ≡ t → (0 < n / 10 → 48 < get_or (digits most (n / 10)) 0 0) → 48 < get_or (digits (suc most) n) 0 0
    go true e ih = let k = ltb-true n 10 e in rw (digits_last most n k, e) (omega arith)
    go false e ih =
        let first = ih (let k = ltb-false n 10 e in omega arith) in
        rw (digits_more most n (ltb-false n 10 e), get_or-append (digits most (n / 10)) (digit (n % 10) ∷ []) 0 0 (some (digits most (n / 10)) first)) first

-- .. and the first is no zero, unless the number is 0
pub no_leading_zero : (n : ℕ) → 0 < n → n < pow10 20 → 48 < get_or (decimal n) 0 0
no_leading_zero n p h = leads 20 n p h
