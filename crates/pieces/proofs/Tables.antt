-- Tables of records of one width: a table's first bytes are the bytes of its records. Assumes nothing.
use mathlib.Core.Path.{◌≡◌, refl, sym, ap, ap₂, ◌∙◌}
use mathlib.Core.List.{List, [], ◌∷◌, ◌++◌, append_assoc, append-nil}
use Prim.Native.Nat.{ℕ, zero, suc, ◌+◌, ◌*◌, ◌/◌, ◌%◌, ◌≤◌, ◌<◌}
use native.Mathlib.Nat.{mul-suc, mul-zero}
use native.Mathlib.Numerals.{add-one}
use native.Mathlib.Omega.{arith}
use lib.ListN.{length, get_or, take, drop, length-append}
use lib.Seq.{take-add, drop-drop, drop-cons}
use Rattle.lists.specs.Rows.{tabulate}
use Rattle.lists.proofs.Rows.{tabulate_more}
use Rattle.fields.specs.Fields.{le16, le32, le64, enc16, enc32, enc64, little, number_at, bytes_of}
use Rattle.fields.proofs.Laws.{le16_is, le32_is, le64_is, enc16_is, enc32_is, enc64_is}
use Rattle.pieces.specs.Pieces.{packed}

-- ---- the bytes of records

module _ {A : Type 0} (bytes : A → List ℕ) where
  packed-append : (l m : List A) → packed bytes (l ++ m) ≡ packed bytes l ++ packed bytes m
  unfolding packed
  packed-append [] m = refl
  packed-append (x ∷ l) m = ap (λ (t : List ℕ). bytes x ++ t) (packed-append l m) ∙ sym (append_assoc (bytes x) (packed bytes l) (packed bytes m))

  packed_one : (x : A) → packed bytes (x ∷ []) ≡ bytes x
  unfolding packed
  packed_one x = append-nil (bytes x)

  pub length-packed : (w : ℕ) → ((x : A) → length (bytes x) ≡ w) → (l : List A) → length (packed bytes l) ≡ w * length l
  unfolding packed
  length-packed w long [] = sym (mul-zero w)
  length-packed w long (x ∷ l) = length-append (bytes x) (packed bytes l) ∙ omega (arith, long x, length-packed w long l, mul-suc w (length l))

  -- the first k records of a table, packed, are its first bytes
  pub packed-table : (w : ℕ) (read : List ℕ → ℕ → A) (b : List ℕ) (k : ℕ) → ((i : ℕ) → i < k → bytes (read b (w * i)) ≡ take w (drop (w * i) b))
      → packed bytes (tabulate (λ i. read b (w * i)) 0 k) ≡ take (w * k) b
  unfolding packed tabulate
  packed-table w read b zero each = ap (λ (m : ℕ). take m b) (sym (mul-zero w))
  packed-table w read b (suc k) each =
      ap (λ (m : ℕ). packed bytes (tabulate (λ i. read b (w * i)) 0 m)) (sym (add-one k))
      ∙ ap (packed bytes) (tabulate_more (λ i. read b (w * i)) k)
      ∙ packed-append (tabulate (λ i. read b (w * i)) 0 k) (read b (w * k) ∷ [])
      ∙ ap₂ (λ (s t : List ℕ). s ++ t) (packed-table w read b k (λ i h. each i (omega arith))) (packed_one (read b (w * k)) ∙ each k (omega arith))
      ∙ sym (take-add (w * k) w b)
      ∙ ap (λ (m : ℕ). take m b) (sym (mul-suc w k))

-- ---- a field's bytes, read and written again

-- two parts of the bytes, one after the other
pub parts_join : (b : List ℕ) (at n m : ℕ) {s t : List ℕ} → s ≡ take n (drop at b) → t ≡ take m (drop (at + n) b) → s ++ t ≡ take (n + m) (drop at b)
parts_join b at n m e f =
    ap₂ (λ (s t : List ℕ). s ++ t) e f ∙ ap (λ (t : List ℕ). take n (drop at b) ++ take m t) (sym (drop-drop n at b)) ∙ sym (take-add n m (drop at b))

module _ (b : List ℕ) (small : (i : ℕ) → get_or b i 0 < 256) where
  bytes_read : (n at : ℕ) → at + n ≤ length b → bytes_of little n (number_at little n b at) ≡ take n (drop at b)
  unfolding bytes_of number_at
  bytes_read zero at h = refl
  bytes_read (suc n) at h =
      let x = get_or b at 0 in
      let r = number_at little n b (suc at) in
      let s = small at in
      let low : (x + 256 * r) % 256 ≡ x = omega arith in
      let rest : (x + 256 * r) / 256 ≡ r = omega arith in
      ap₂ (λ (i v : ℕ). i ∷ bytes_of little n v) low rest
      ∙ ap (λ (t : List ℕ). x ∷ t) (bytes_read n (suc at) (omega arith))
      ∙ ap (take (suc n)) (sym (drop-cons b at 0 (omega arith)))

  pub bytes16 : (at : ℕ) → at + 2 ≤ length b → enc16 (le16 b at) ≡ take 2 (drop at b)
  bytes16 at h = enc16_is (le16 b at) ∙ ap (bytes_of little 2) (le16_is b at) ∙ bytes_read 2 at h

  pub bytes32 : (at : ℕ) → at + 4 ≤ length b → enc32 (le32 b at) ≡ take 4 (drop at b)
  bytes32 at h = enc32_is (le32 b at) ∙ ap (bytes_of little 4) (le32_is b at) ∙ bytes_read 4 at h

  pub bytes64 : (at : ℕ) → at + 8 ≤ length b → enc64 (le64 b at) ≡ take 8 (drop at b)
  bytes64 at h = enc64_is (le64 b at) ∙ ap (bytes_of little 8) (le64_is b at) ∙ bytes_read 8 at h
