-- Bytes that stand several times: what is pushed stands behind the bytes so far, and each turn of the loops pushes what the definitions say. Assumes nothing.
use mathlib.Core.Path.{◌≡◌, refl, sym, ap, ◌∙◌}
use mathlib.Core.Logic.{◌⊎◌, inl, inr}
use mathlib.Core.List.{List}
use Prim.Native.Nat.{ℕ, suc, ◌+◌, ◌-◌, ◌≤◌, ◌<◌}
use native.Mathlib.Numerals.{add-one}
use native.Mathlib.Omega.{arith}
use lib.ListN.{length, take, set}
use lib.Seq.{length-take-le}
use borrow.Author.Tests.{lt-ltb, le-ltb}
use mathlib.Core.List.{◌∷◌, [], ◌++◌}
use lib.ListN.{get_or, length-append}
use lib.Seq.{get_or-append_seam}
use Rattle.std.proofs.lemmas.Bool.{cases_lt}
use Rattle.std.proofs.lemmas.List.{take_more_set}
use Rattle.program_input.specs.Cases.{pushed, before, again, repeated}

-- a byte that was pushed, as `Gathered::push` says it
pub pushed_is : (old : List ℕ) (used v : ℕ) {new : List ℕ} {used' : ℕ} → used ≤ length old → (used < length old → (new ≡ set old used v) × (used' ≡ used + 1))
    → (length old ≤ used → (new ≡ old) × (used' ≡ used)) → take used' new ≡ pushed (length old) (take used old) v
pushed_is old used v {new} {used'} f r n = go (cases_lt used (length old))
  where
    go : (used < length old) ⊎ (length old ≤ used) → take used' new ≡ pushed (length old) (take used old) v
    go (inl h) = rw (length-take-le used old f, lt-ltb _ _ h, (r h).0, (r h).1) (take_more_set old used v h)
    go (inr h) = rw (length-take-le used old f, le-ltb _ _ h, (n h).0, (n h).1) refl

module _ (room width n : ℕ) (start : List ℕ) where
  -- a turn of `again`
  pub again_turn : {len v : ℕ} {bytes more : List ℕ} → len ≡ room → bytes ≡ again room width n start → v ≡ before width bytes → more ≡ pushed len bytes v
      → more ≡ again room width (n + 1) start
  unfolding again
  again_turn q e b p = p ∙ (λ z. pushed (q z) (e z) ((b ∙ ap (before width) e) z)) ∙ sym (ap (λ (k : ℕ). again room width k start) (add-one n))

  -- .. and the last
  pub again_ended : (m : ℕ) {bytes : List ℕ} → n ≡ m → bytes ≡ again room width n start → bytes ≡ again room width m start
  again_ended m q e = e ∙ ap (λ (k : ℕ). again room width k start) q

  -- a turn of `repeat`, which counts from 1 on
  pub repeat_turn : {len : ℕ} {bytes more : List ℕ} → len ≡ room → 1 ≤ n → bytes ≡ repeated room width (n - 1) start → more ≡ again len width width bytes
      → more ≡ repeated room width (n + 1 - 1) start
  unfolding repeated
  repeat_turn q h e p = p ∙ (λ z. again (q z) width width (e z)) ∙ ap (λ (k : ℕ). repeated room width k start) (let z : suc (n - 1) ≡ n + 1 - 1 = omega arith in z)

  -- .. and the last
  pub repeat_ended : (m : ℕ) {bytes : List ℕ} → n - 1 ≡ m - 1 → bytes ≡ repeated room width (n - 1) start → bytes ≡ repeated room width (m - 1) start
  repeat_ended m q e = e ∙ ap (λ (k : ℕ). repeated room width k start) q

-- ---- one byte
-- a byte that stands once more is the last one again
pub last_again : (room : ℕ) (bytes : List ℕ) → before 1 (pushed room bytes (before 1 bytes)) ≡ before 1 bytes
last_again room bytes = go (cases_lt (length bytes) room)
  where
    v : ℕ
    v = before 1 bytes

    long : length (bytes ++ (v ∷ [])) ≡ length bytes + 1
    long = simp length-append refl

    here : before 1 (bytes ++ (v ∷ [])) ≡ v
    here = rw (long, le-ltb (length bytes + 1) 1 (omega arith)) (ap (λ (i : ℕ). get_or (bytes ++ (v ∷ [])) i 0) (let z : length bytes + 1 - 1 ≡ length bytes = omega arith in z) ∙ get_or-append_seam bytes v [] 0)

    go : (length bytes < room) ⊎ (room ≤ length bytes) → before 1 (pushed room bytes v) ≡ v
    go (inl h) = rw (lt-ltb _ _ h) here
    go (inr h) = rw (le-ltb _ _ h) refl

module _ (room n : ℕ) (start : List ℕ) where
  -- a turn of `repeat_byte`
  pub byte_turn : {len v : ℕ} {bytes more : List ℕ} → len ≡ room → 1 ≤ n → bytes ≡ repeated room 1 (n - 1) start → v ≡ before 1 bytes → more ≡ pushed len bytes v
      → more ≡ repeated room 1 (n + 1 - 1) start
  unfolding again
  byte_turn {bytes = bytes} q h e b p = repeat_turn room 1 n start q h e (p ∙ ap (pushed _ bytes) b)
