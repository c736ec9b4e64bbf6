-- Runs of stores, `sets` of `lib.Seq`: what is read back within the run and beside it. Assumes nothing.
use mathlib.Core.Path.{◌≡◌, refl, sym, ap, ◌∙◌}
use mathlib.Core.List.{List, [], ◌∷◌, ◌++◌, append_assoc, append-nil}
use Prim.Native.Nat.{ℕ, zero, suc, ◌+◌, ◌-◌, ◌≤◌, ◌<◌, zero-le, suc-le-suc}
use native.Mathlib.Nat.{le_of_suc-le-suc, not-suc-le-zero, add-zero, add-suc, suc-add, zero-add}
use native.Mathlib.Omega.{arith}
use lib.ListN.{length, get_or, take, drop, set, length-set, length-drop, take-append-drop}
use mathlib.Core.Logic.{◌≢◌}
use lib.Seq.{drop-set-lt, take-nil, sets, sets-eq, length-take-le, take-append-le, take-append_seam, drop-append-le, drop_at, get_or-set_other, get_or-set_same, drop-length}

-- ---- runs of stores
module _ {A : Type 0} where
  pub get_or-sets_other : (l : List A) (i : ℕ) (vs : List A) (j : ℕ) (d : A) → ((k : ℕ) → k < length vs → j ≢ i + k) → get_or (sets l i vs) j d ≡ get_or l j d
  get_or-sets_other l i [] j d h = refl
  get_or-sets_other l i (v ∷ vs) j d h =
      get_or-sets_other (set l i v) (suc i) vs j d (λ k q e. h (suc k) (suc-le-suc q) (e ∙ suc-add i k ∙ sym (add-suc i k)))
      ∙ get_or-set_other l i j v d (λ e. h 0 (suc-le-suc zero-le) (e ∙ sym (add-zero i)))

  pub get_or-sets_at : (l : List A) (i : ℕ) (vs : List A) (k : ℕ) (d : A) → k < length vs → i + length vs ≤ length l → get_or (sets l i vs) (i + k) d ≡ get_or vs k d
  get_or-sets_at l i [] k d h q = absurd (not-suc-le-zero h)
  get_or-sets_at l i (v ∷ vs) zero d h q =
      ap (λ (m : ℕ). get_or (sets (set l i v) (suc i) vs) m d) (add-zero i)
      ∙ get_or-sets_other (set l i v) (suc i) vs i d (λ k p. omega arith)
      ∙ get_or-set_same l i v d (omega arith)
  get_or-sets_at l i (v ∷ vs) (suc k) d h q =
      ap (λ (m : ℕ). get_or (sets (set l i v) (suc i) vs) m d) (add-suc i k ∙ sym (suc-add i k))
      ∙ get_or-sets_at (set l i v) (suc i) vs k d (le_of_suc-le-suc h) (simp length-set (omega arith))

  pub sets-sets : (l : List A) (i : ℕ) (vs : List A) (j : ℕ) (ws : List A) → j ≡ i + length vs → sets (sets l i vs) j ws ≡ sets l i (vs ++ ws)
  sets-sets l i [] j ws e = ap (λ (m : ℕ). sets l m ws) (e ∙ add-zero i)
  sets-sets l i (v ∷ vs) j ws e = sets-sets (set l i v) (suc i) vs j ws (e ∙ add-suc i (length vs) ∙ sym (suc-add i (length vs)))

  -- a run of stores after another that ends where it begins is one run
  pub sets_then : {b' b : List A} (b₀ : List A) (i : ℕ) (vs : List A) (j : ℕ) (ws : List A) → b' ≡ sets b j ws → b ≡ sets b₀ i vs → j ≡ i + length vs → b' ≡ sets b₀ i (vs ++ ws)
  sets_then b₀ i vs j ws e' e h = e' ∙ ap (λ (l : List A). sets l j ws) e ∙ sets-sets b₀ i vs j ws h

  -- a run of stores at the front stands there
  pub take-sets : (l : List A) (vs : List A) → length vs ≤ length l → take (length vs) (sets l 0 vs) ≡ vs
  take-sets l vs h = ap (take (length vs)) (sets-eq vs l 0 (omega arith)) ∙ take-append_seam vs (drop (0 + length vs) l)

  -- a part of the first of two lists
  pub part-append : (l r : List A) (at size : ℕ) → at + size ≤ length l → take size (drop at (l ++ r)) ≡ take size (drop at l)
  part-append l r at size h =
      ap (take size) (drop-append-le at l r (omega arith)) ∙ take-append-le size (drop at l) r (simp length-drop (omega arith))

  -- a part below a run of stores, and the run itself
  module _ (l : List A) (i : ℕ) (vs : List A) (h : i + length vs ≤ length l) where
    around : sets l i vs ≡ take i l ++ (vs ++ drop (i + length vs) l)
    around = sets-eq vs l i h ∙ append_assoc (take i l) vs (drop (i + length vs) l)

    pub part-below-sets : (at size : ℕ) → at + size ≤ i → take size (drop at (sets l i vs)) ≡ take size (drop at l)
    part-below-sets at size q =
        let long : length (take i l) ≡ i = length-take-le i l (omega arith) in
        ap (λ (m : List A). take size (drop at m)) around
        ∙ part-append (take i l) (vs ++ drop (i + length vs) l) at size (omega arith)
        ∙ sym (part-append (take i l) (drop i l) at size (omega arith))
        ∙ ap (λ (m : List A). take size (drop at m)) (take-append-drop i l)

    pub part-sets : take (length vs) (drop i (sets l i vs)) ≡ vs
    part-sets =
        ap (λ (m : List A). take (length vs) (drop i m)) around
        ∙ ap (take (length vs)) (drop_at (take i l) (vs ++ drop (i + length vs) l) i (length-take-le i l (omega arith)))
        ∙ take-append_seam vs (drop (i + length vs) l)

-- ---- what lies from a place on

pub drop-take : {A : Type 0} (i n : ℕ) (l : List A) → drop i (take n l) ≡ take (n - i) (drop i l)
drop-take zero n l = ap (λ (k : ℕ). take k l) (let z : n ≡ n - 0 = omega arith in z)
drop-take (suc i) zero [] = sym (take-nil (0 - suc i))
drop-take (suc i) zero (x ∷ l) = ap (λ (k : ℕ). take k (drop i l)) (let z : 0 ≡ 0 - suc i = omega arith in z)
drop-take (suc i) (suc n) [] = sym (take-nil (suc n - suc i))
drop-take (suc i) (suc n) (x ∷ l) = drop-take i n l ∙ ap (λ (k : ℕ). take k (drop i l)) (let z : n - i ≡ suc n - suc i = omega arith in z)

-- stores below a place leave what is above
pub drop-sets : {A : Type 0} (l : List A) (i : ℕ) (vs : List A) (n : ℕ) → i + length vs ≤ n → drop n (sets l i vs) ≡ drop n l
drop-sets l i [] n h = refl
drop-sets l i (v ∷ vs) n h = drop-sets (set l i v) (suc i) vs n (omega arith) ∙ drop-set-lt n l i v (omega arith)

-- what is stored over itself
pub sets-itself : {A : Type 0} (l : List A) → sets l 0 l ≡ l
sets-itself {A} l =
    sets-eq l l 0 (omega arith)
    ∙ ap (λ (n : ℕ). l ++ drop n l) (zero-add (length l))
    ∙ ap (λ (s : List A). l ++ s) (drop-length l)
    ∙ append-nil l
