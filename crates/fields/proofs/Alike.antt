-- Records whose bytes are the same have the same numbers in them: `width` bytes of one list from i on, and of another from j on. Assumes nothing.
use mathlib.Core.Path.{◌≡◌, sym, ap, ◌∙◌}
use mathlib.Core.List.{List}
use Prim.Native.Nat.{ℕ, ◌+◌, ◌≤◌, ◌<◌}
use native.Mathlib.Omega.{arith}
use lib.ListN.{get_or}
use Rattle.fields.specs.Fields.{le16, le32, le64, little}
use Rattle.fields.proofs.Laws.{le16_is, le32_is, le64_is, number_at_same}

module _ (width : ℕ) (b c : List ℕ) (i j : ℕ) (same : (k : ℕ) → k < width → get_or b (i + k) 0 ≡ get_or c (j + k) 0) where
  field : (at size k : ℕ) → at + size ≤ width → k < size → get_or b (i + at + k) 0 ≡ get_or c (j + at + k) 0
  field at size k h q =
      ap (λ (m : ℕ). get_or b m 0) (let e : i + at + k ≡ i + (at + k) = omega arith in e)
      ∙ same (at + k) (omega arith)
      ∙ ap (λ (m : ℕ). get_or c m 0) (let e : j + (at + k) ≡ j + at + k = omega arith in e)

  pub first16 : 2 ≤ width → le16 b i ≡ le16 c j
  first16 h = le16_is b i ∙ number_at_same little 2 b c i j (λ k q. same k (omega arith)) ∙ sym (le16_is c j)

  pub field16 : (at : ℕ) → at + 2 ≤ width → le16 b (i + at) ≡ le16 c (j + at)
  field16 at h = le16_is b (i + at) ∙ number_at_same little 2 b c (i + at) (j + at) (λ k q. field at 2 k h q) ∙ sym (le16_is c (j + at))

  pub field32 : (at : ℕ) → at + 4 ≤ width → le32 b (i + at) ≡ le32 c (j + at)
  field32 at h = le32_is b (i + at) ∙ number_at_same little 4 b c (i + at) (j + at) (λ k q. field at 4 k h q) ∙ sym (le32_is c (j + at))

  pub field64 : (at : ℕ) → at + 8 ≤ width → le64 b (i + at) ≡ le64 c (j + at)
  field64 at h = le64_is b (i + at) ∙ number_at_same little 8 b c (i + at) (j + at) (λ k q. field at 8 k h q) ∙ sym (le64_is c (j + at))
