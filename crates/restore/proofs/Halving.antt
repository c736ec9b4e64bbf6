-- Halving finds the largest alignment that fits, or ends where none fits: while one above 4 misfits, those that fit it are those that fit its half. Assumes nothing.
use Prim.Native.Nat.{ℕ, zero, suc, ◌+◌, ◌*◌, ◌/◌, ◌%◌, ◌^◌, ◌≤◌, ◌<◌}
use mathlib.Core.Path.{◌≡◌, refl, sym, ap, ◌∙◌}
use mathlib.Core.Logic.{◌⊎◌, inl, inr, ◌≢◌}
use mathlib.Core.Bool.{Bool, true, false, cond, false≢true}
use native.Mathlib.Nat.{pow-suc}
use native.Mathlib.Omega.{arith}
use lib.Dec.{leb}
use lib.Pow.{pow_pos}
use borrow.Author.Tests.{eqb-true, eqb-false, leb-true, leb-false}
use Rattle.align.specs.Align.{good_align}
use Rattle.align.proofs.Theorems.{good_is}
use Rattle.walk.specs.Walk.{fits, halved}
use Rattle.restore.specs.Alignments.{halves, Fitting, Largest, None}

-- halving doesn't rise
pub halves_le : (times a : ℕ) → halves times a ≤ a
unfolding halves
halves_le zero a = omega arith
halves_le (suc times) a = omega (arith, halves_le times (a / 2))

-- half a power of two above 4
half_pow : (e a : ℕ) → a ≡ 2 ^ e → 4 < a → (f : ℕ) × (e ≡ suc f) × (a / 2 ≡ 2 ^ f) × (4 ≤ a / 2)
half_pow zero a q h = absurd (omega arith)
half_pow (suc zero) a q h = absurd (omega arith)
half_pow (suc (suc zero)) a q h = absurd (omega arith)
half_pow (suc (suc (suc g))) a q h =
    let p = pow_pos g in
    let s : 2 ^ suc (suc (suc g)) ≡ 2 ^ suc (suc g) * 2 = pow-suc 2 (suc (suc g)) in
    let r : 2 ^ suc (suc g) ≡ 2 ^ suc g * 2 = pow-suc 2 (suc g) in
    let u : 2 ^ suc g ≡ 2 ^ g * 2 = pow-suc 2 g in
    (suc (suc g), refl, omega arith, omega arith)

module _ (address : ℕ) where
  -- one that fits is the largest of its own
  itself : (a : ℕ) → fits a address ≡ true → Largest a address a
  unfolding halves
  itself a e = record {
    fitting = record { times = 0; reached = refl; divides = eqb-true _ _ e; least = inl refl };
    largest = λ r f. let q = f.reached in omega (arith, halves_le f.times a);
  }

  -- a misfit isn't one that fits
  misfit : (a q : ℕ) → fits a address ≡ false → Fitting a address q → q ≢ a
  misfit a q e f s = eqb-false _ _ e (ap (λ (x : ℕ). address % x) (sym s) ∙ f.divides)

  -- at 4 or less none other fits
  small : (a : ℕ) → a ≤ 4 → fits a address ≡ false → None a address
  small a h e q f = go f.least
    where
      go : (q ≡ a) ⊎ (4 ≤ q) → ⊥
      go (inl s) = misfit a q e f s
      go (inr l) = misfit a q e f (let r = f.reached in omega (arith, halves_le f.times a))

  -- above 4, those that fit a misfit are those that fit its half
  lower : (a q : ℕ) → fits a address ≡ false → Fitting a address q → Fitting (a / 2) address q
  unfolding halves
  lower a q e f = go f.times f.reached f.least
    where
      go : (m : ℕ) → q ≡ halves m a → (q ≡ a) ⊎ (4 ≤ q) → Fitting (a / 2) address q
      go zero r l = absurd (misfit a q e f r)
      go (suc m) r (inl s) = absurd (misfit a q e f s)
      go (suc m) r (inr l) = record { times = m; reached = r; divides = f.divides; least = inr l }

  raise : (a q : ℕ) → 4 ≤ a / 2 → Fitting (a / 2) address q → Fitting a address q
  unfolding halves
  raise a q h f = record { times = suc f.times; reached = f.reached; divides = f.divides; least = inr (go f.least) }
    where
      go : (q ≡ a / 2) ⊎ (4 ≤ q) → 4 ≤ q
      go (inl s) = omega arith
      go (inr l) = l

  -- what so many halvings give, where they are enough
  found : (times e a : ℕ) → a ≡ 2 ^ e → fits (halved times a address) address ≡ true → Largest a address (halved times a address)
  unfolding halved
  found zero e a q h = itself a h
  found (suc times) e a q h = go (fits a address) refl (leb a 4) refl h (λ f s. found times f (a / 2) s)
    where
      go : (b : Bool) → fits a address ≡ b → (c : Bool) → leb a 4 ≡ c
          → fits (cond b a (cond c a (halved times (a / 2) address))) address ≡ true
          → ((f : ℕ) → a / 2 ≡ 2 ^ f → fits (halved times (a / 2) address) address ≡ true → Largest (a / 2) address (halved times (a / 2) address))
          → Largest a address (cond b a (cond c a (halved times (a / 2) address)))
      go true s c u g ih = itself a s
      go false s true u g ih = absurd (false≢true (sym s ∙ g))
      go false s false u g ih =
          let p = half_pow e a q (leb-false _ _ u) in
          let l = ih p.0 p.2 g in
          record { fitting = raise a _ p.3 l.fitting; largest = λ r f. l.largest r (lower a r s f) }

  missed : (times e a : ℕ) → a ≡ 2 ^ e → e ≤ times + 2 → fits (halved times a address) address ≡ false → None a address
  unfolding halved
  missed zero e a q n h = small a (few e q n) h
    where
      few : (f : ℕ) → a ≡ 2 ^ f → f ≤ 0 + 2 → a ≤ 4
      few zero s l = omega arith
      few (suc zero) s l = omega arith
      few (suc (suc zero)) s l = omega arith
      few (suc (suc (suc g))) s l = absurd (omega arith)
  missed (suc times) e a q n h = go (fits a address) refl (leb a 4) refl h (λ f s m. missed times f (a / 2) s m)
    where
      go : (b : Bool) → fits a address ≡ b → (c : Bool) → leb a 4 ≡ c
          → fits (cond b a (cond c a (halved times (a / 2) address))) address ≡ false
          → ((f : ℕ) → a / 2 ≡ 2 ^ f → f ≤ times + 2 → fits (halved times (a / 2) address) address ≡ false → None (a / 2) address)
          → None a address
      go true s c u g ih = absurd (false≢true (sym g ∙ s))
      go false s true u g ih = small a (leb-true _ _ u) s
      go false s false u g ih =
          let p = half_pow e a q (leb-false _ _ u) in
          let k = p.1 in
          λ r f. ih p.0 p.2 (omega arith) g r (lower a r s f)

-- THEOREM: a good alignment, halved, is the largest that fits, if it fits
pub halved_largest : (a address : ℕ) → good_align a ≡ true → fits (halved 16 a address) address ≡ true → Largest a address (halved 16 a address)
halved_largest a address good h = let p = (good_is a).0 good in found address 16 p.0 a p.2 h

-- THEOREM: if it doesn't, none fits
pub halved_none : (a address : ℕ) → good_align a ≡ true → fits (halved 16 a address) address ≡ false → None a address
halved_none a address good h = let p = (good_is a).0 good in missed address 16 p.0 a p.2 (let l = p.1 in omega arith) h
