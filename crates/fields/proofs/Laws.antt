-- What is read after a store: the number stored, and beside the store what was there before. A field is its bytes, so both follow from what is known of
-- one byte after a run of stores; the widths 16, 32 and 64 are cases of one law over the width and the byte order. Assumes nothing.
use mathlib.Core.Path.{◌≡◌, refl, sym, ap, ap₂, ◌∙◌}
use mathlib.Core.List.{List, [], ◌∷◌}
use mathlib.Core.Logic.{◌≢◌}
use Prim.Native.Nat.{ℕ, zero, suc, ◌+◌, ◌*◌, ◌/◌, ◌%◌, ◌^◌, ◌≤◌, ◌<◌, suc-le-suc}
use native.Mathlib.Nat.{add-zero, add-suc, suc-add, zero-lt-suc, pow-suc, pow-succ', one-le-pow, mod-one, mod-eq_of_lt, div-div-eq-div-mul}
use native.Mathlib.Numerals.{towards_suc}
use native.Mathlib.Omega.{arith}
use lib.Arith.{mod-mul}
use lib.Pow.{field}
use lib.ListN.{length, get_or}
use lib.Seq.{sets}
use Rattle.lists.proofs.Stores.{get_or-sets_at, get_or-sets_other}
use Rattle.fields.specs.Fields.{le16, le32, le64, enc16, enc32, enc64, Order, little, big, number_at, bytes_of}

-- ---- any width, either order

-- a number is its bytes: equal bytes, equal numbers
pub number_at_same : (o : Order) (n : ℕ) (s t : List ℕ) (i j : ℕ) → ((k : ℕ) → k < n → get_or s (i + k) 0 ≡ get_or t (j + k) 0) → number_at o n s i ≡ number_at o n t j
unfolding number_at
number_at_same o zero s t i j h = refl
number_at_same little (suc n) s t i j h =
    ap₂
    (λ (x y : ℕ). x + 256 * y)
    (simp add-zero at (h 0 (zero-lt-suc n)))
    (number_at_same little n s t (suc i) (suc j) (λ k q. simp suc-add (simp add-suc at (h (suc k) (suc-le-suc q)))))
number_at_same big (suc n) s t i j h =
    ap₂
    (λ (x y : ℕ). x * 256 ^ n + y)
    (simp add-zero at (h 0 (zero-lt-suc n)))
    (number_at_same big n s t (suc i) (suc j) (λ k q. simp suc-add (simp add-suc at (h (suc k) (suc-le-suc q)))))

-- a byte in front moves a number by one
number_at-cons : (o : Order) (n x : ℕ) (s : List ℕ) (at : ℕ) → number_at o n (x ∷ s) (suc at) ≡ number_at o n s at
number_at-cons o n x s at = number_at_same o n (x ∷ s) s (suc at) at (λ k q. rw suc-add)

-- a number has as many bytes as it is wide
pub length-bytes_of : (o : Order) (n v : ℕ) → length (bytes_of o n v) ≡ n
unfolding bytes_of
length-bytes_of o zero v = refl
length-bytes_of little (suc n) v = ap suc (length-bytes_of little n (v / 256))
length-bytes_of big (suc n) v = ap suc (length-bytes_of big n v)

-- n bytes hold a number modulo 256 ^ n
pub number_of_bytes : (o : Order) (n v : ℕ) → number_at o n (bytes_of o n v) 0 ≡ v % 256 ^ n
unfolding number_at bytes_of
number_of_bytes o zero v = sym (mod-one v)
number_of_bytes little (suc n) v =
    let rest = number_at-cons little n (v % 256) (bytes_of little n (v / 256)) 0 ∙ number_of_bytes little n (v / 256) in
    let digits : v % (256 ^ n * 256) ≡ v / 256 % 256 ^ n * 256 + v % 256 = mod-mul v (one-le-pow n 256 (zero-lt-suc 255)) (zero-lt-suc 255) in
    rw (rest, pow-suc, digits) (omega arith)
number_of_bytes big (suc n) v =
    let rest = number_at-cons big n (v / 256 ^ n % 256) (bytes_of big n v) 0 ∙ number_of_bytes big n v in
    let digits : v % (256 * 256 ^ n) ≡ v / 256 ^ n % 256 * 256 ^ n + v % 256 ^ n = mod-mul v (zero-lt-suc 255) (one-le-pow n 256 (zero-lt-suc 255)) in
    rw (rest, pow-succ', digits)

module _ (o : Order) (n : ℕ) (b : List ℕ) (i : ℕ) (vs : List ℕ) (at : ℕ) where
  -- a field within a run of stores is read from the bytes stored
  pub read_in : (k : ℕ) → at ≡ i + k → k + n ≤ length vs → i + length vs ≤ length b → number_at o n (sets b i vs) at ≡ number_at o n vs k
  read_in k e h q =
      number_at_same o n (sets b i vs) vs at k (λ j p.
      ap (λ (m : ℕ). get_or (sets b i vs) m 0) (let s : at + j ≡ i + (k + j) = omega arith in s) ∙ get_or-sets_at b i vs (k + j) 0 (omega arith) q)

  -- a field beside a run of stores is what it was
  pub read_beside : ((j k : ℕ) → j < n → k < length vs → at + j ≢ i + k) → number_at o n (sets b i vs) at ≡ number_at o n b at
  read_beside h = number_at_same o n (sets b i vs) b at at (λ j p. get_or-sets_other b i vs (at + j) 0 (λ k q. h j k p q))

-- what was stored is read back
pub read_back : (o : Order) (n : ℕ) (b : List ℕ) (at v : ℕ) → v < 256 ^ n → at + n ≤ length b → number_at o n (sets b at (bytes_of o n v)) at ≡ v
read_back o n b at v h q =
    let long = length-bytes_of o n v in
    read_in o n b at (bytes_of o n v) at 0 (sym (add-zero at)) (omega arith) (omega arith) ∙ number_of_bytes o n v ∙ mod-eq_of_lt h

-- ---- little-endian, at the widths of the records

module _ (s : List ℕ) (at : ℕ) where
  pub le16_is : le16 s at ≡ number_at little 2 s at
  unfolding number_at
  le16_is = simp towards_suc (omega arith)

  pub le32_is : le32 s at ≡ number_at little 4 s at
  unfolding number_at
  le32_is = simp towards_suc (omega arith)

  pub le64_is : le64 s at ≡ number_at little 8 s at
  unfolding number_at
  le64_is = simp towards_suc (omega arith)

pub enc16_is : (v : ℕ) → enc16 v ≡ bytes_of little 2 v
unfolding bytes_of
enc16_is v = refl

pub enc32_is : (v : ℕ) → enc32 v ≡ bytes_of little 4 v
unfolding bytes_of
enc32_is v = simp div-div-eq-div-mul

-- the bytes of both halves are the bytes of the whole
pub enc64_bytes : (v : ℕ)
    → v % 256 ∷ v / 256 % 256 ∷ v / 65536 % 256 ∷ v / 16777216 % 256 ∷ v / 4294967296 % 256 ∷ v / 1099511627776 % 256 ∷ v / 281474976710656 % 256
    ∷ v / 72057594037927936 % 256 ∷ []
    ≡ enc64 v
enc64_bytes v =
    let byte0 : v % 4294967296 % 256 ≡ v % 256 = omega arith in
    let byte1 : v % 4294967296 / 256 % 256 ≡ v / 256 % 256 = rw (field v 24 8) (omega arith) in
    let byte2 : v % 4294967296 / 65536 % 256 ≡ v / 65536 % 256 = rw (field v 16 16) (omega arith) in
    let byte3 : v % 4294967296 / 16777216 % 256 ≡ v / 16777216 % 256 = rw (field v 8 24) (omega arith) in
    simp (byte0, byte1, byte2, byte3, div-div-eq-div-mul)

pub enc64_is : (v : ℕ) → enc64 v ≡ bytes_of little 8 v
unfolding bytes_of
enc64_is v = sym (enc64_bytes v) ∙ simp div-div-eq-div-mul

-- a number's bytes give it back
pub round16 : (v : ℕ) → v < 65536 → le16 (enc16 v) 0 ≡ v
round16 v h = ap (λ (s : List ℕ). le16 s 0) (enc16_is v) ∙ le16_is (bytes_of little 2 v) 0 ∙ number_of_bytes little 2 v ∙ mod-eq_of_lt h

pub round32 : (v : ℕ) → v < 4294967296 → le32 (enc32 v) 0 ≡ v
round32 v h = ap (λ (s : List ℕ). le32 s 0) (enc32_is v) ∙ le32_is (bytes_of little 4 v) 0 ∙ number_of_bytes little 4 v ∙ mod-eq_of_lt h

pub round64 : (v : ℕ) → v < 18446744073709551616 → le64 (enc64 v) 0 ≡ v
round64 v h = ap (λ (s : List ℕ). le64 s 0) (enc64_is v) ∙ le64_is (bytes_of little 8 v) 0 ∙ number_of_bytes little 8 v ∙ mod-eq_of_lt h

module _ (b : List ℕ) (i : ℕ) (vs : List ℕ) (at : ℕ) where
  -- a field within a run of stores is read from the bytes stored
  pub le16_in : (k : ℕ) → at ≡ i + k → k + 2 ≤ length vs → i + length vs ≤ length b → le16 (sets b i vs) at ≡ le16 vs k
  le16_in k e h q = le16_is (sets b i vs) at ∙ read_in little 2 b i vs at k e h q ∙ sym (le16_is vs k)

  pub le32_in : (k : ℕ) → at ≡ i + k → k + 4 ≤ length vs → i + length vs ≤ length b → le32 (sets b i vs) at ≡ le32 vs k
  le32_in k e h q = le32_is (sets b i vs) at ∙ read_in little 4 b i vs at k e h q ∙ sym (le32_is vs k)

  pub le64_in : (k : ℕ) → at ≡ i + k → k + 8 ≤ length vs → i + length vs ≤ length b → le64 (sets b i vs) at ≡ le64 vs k
  le64_in k e h q = le64_is (sets b i vs) at ∙ read_in little 8 b i vs at k e h q ∙ sym (le64_is vs k)

  -- a field beside a run of stores is what it was
  pub le16-beside : ((j k : ℕ) → j < 2 → k < length vs → at + j ≢ i + k) → le16 (sets b i vs) at ≡ le16 b at
  le16-beside h = le16_is (sets b i vs) at ∙ read_beside little 2 b i vs at h ∙ sym (le16_is b at)

  pub le32-beside : ((j k : ℕ) → j < 4 → k < length vs → at + j ≢ i + k) → le32 (sets b i vs) at ≡ le32 b at
  le32-beside h = le32_is (sets b i vs) at ∙ read_beside little 4 b i vs at h ∙ sym (le32_is b at)

  pub le64-beside : ((j k : ℕ) → j < 8 → k < length vs → at + j ≢ i + k) → le64 (sets b i vs) at ≡ le64 b at
  le64-beside h = le64_is (sets b i vs) at ∙ read_beside little 8 b i vs at h ∙ sym (le64_is b at)

module _ (b : List ℕ) (at v : ℕ) where
  -- what was stored is read back
  pub le16_back : v < 65536 → at + 2 ≤ length b → le16 (sets b at (enc16 v)) at ≡ v
  le16_back h q = le16_in b at (enc16 v) at 0 (omega arith) (omega arith) q ∙ round16 v h

  pub le32_back : v < 4294967296 → at + 4 ≤ length b → le32 (sets b at (enc32 v)) at ≡ v
  le32_back h q = le32_in b at (enc32 v) at 0 (omega arith) (omega arith) q ∙ round32 v h

  pub le64_back : v < 18446744073709551616 → at + 8 ≤ length b → le64 (sets b at (enc64 v)) at ≡ v
  le64_back h q = le64_in b at (enc64 v) at 0 (omega arith) (omega arith) q ∙ round64 v h
