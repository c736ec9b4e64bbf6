-- The order of a stage's split table, by places and kept by what does not move a row: a filter, a change of other fields in every row or in one.
-- Assumes nothing.
use mathlib.Core.Path.{◌≡◌, refl, sym, ◌∙◌}
use mathlib.Core.List.{List, [], ◌∷◌, map}
use mathlib.Core.Bool.{Bool, true, false, cond}
use Prim.Native.Nat.{ℕ, zero, suc, ◌<◌, suc-le-suc}
use native.Mathlib.Nat.{le_of_suc-le-suc, not-suc-le-zero, zero-lt-suc}
use native.Mathlib.Omega.{arith}
use lib.ListN.{length, get_or, set}
use Rattle.lists.specs.Rows.{keep_if}
use Rattle.obj.specs.declared.Split.{Split}
use Rattle.obj.proofs.Order.{not_below_further}
use Rattle.obj.specs.Order.{NotBelow}
use Rattle.splits.specs.Updates.{with_end}
use Rattle.splits.specs.Rising.{AllNotBelow, Rising}

-- ---- two splits

-- y starts where x does
pub record SamePlace (x y : Split) : Type 0 where
  pub section : y.section ≡ x.section
  pub start : y.start ≡ x.start

pub below_same : (a x y : Split) → SamePlace x y → NotBelow a x → NotBelow a y
below_same a x y e p = record { sections = omega (arith, e.section, p.sections); starts = λ q. omega (arith, e.start, p.starts (q ∙ e.section)) }

pub above_same : (x y t : Split) → SamePlace x y → NotBelow x t → NotBelow y t
above_same x y t e p = record { sections = omega (arith, e.section, p.sections); starts = λ q. omega (arith, e.start, p.starts (sym e.section ∙ q)) }

-- ---- every row of a list
module _ (a : Split) where
  pub all_at : (l : List Split) (k : ℕ) (d : Split) → AllNotBelow a l → k < length l → NotBelow a (get_or l k d)
  all_at [] k d p h = absurd (not-suc-le-zero h)
  all_at (s ∷ l) zero d p h = p.0
  all_at (s ∷ l) (suc k) d p h = all_at l k d p.1 (le_of_suc-le-suc h)

  pub all_of : (l : List Split) (d : Split) → ((k : ℕ) → k < length l → NotBelow a (get_or l k d)) → AllNotBelow a l
  all_of [] d p = tt
  all_of (s ∷ l) d p = (p 0 (zero-lt-suc (length l)), all_of l d (λ k h. p (suc k) (suc-le-suc h)))

  all_keep_if : (p : Split → Bool) (l : List Split) → AllNotBelow a l → AllNotBelow a (keep_if p l)
  unfolding keep_if
  all_keep_if p [] q = tt
  all_keep_if p (s ∷ l) q = go (p s) (all_keep_if p l q.1)
    where
      go : (t : Bool) → AllNotBelow a (keep_if p l) → AllNotBelow a (cond t (s ∷ keep_if p l) (keep_if p l))
      go true r = (q.0, r)
      go false r = r

  all_map : (h : Split → Split) → ((s : Split) → SamePlace s (h s)) → (l : List Split) → AllNotBelow a l → AllNotBelow a (map h l)
  all_map h e [] q = tt
  all_map h e (s ∷ l) q = (below_same a s (h s) (e s) q.0, all_map h e l q.1)

  all_set : (l : List Split) (k : ℕ) (x : Split) → AllNotBelow a l → NotBelow a x → AllNotBelow a (set l k x)
  all_set [] k x p q = tt
  all_set (s ∷ l) zero x p q = (q, p.1)
  all_set (s ∷ l) (suc k) x p q = (p.0, all_set l k x p.1 q)

-- after a split from which another lies on
pub all_further : (a s : Split) (l : List Split) → NotBelow a s → AllNotBelow s l → AllNotBelow a l
all_further a s [] p q = tt
all_further a s (t ∷ l) p q = (not_below_further a s t p q.0, all_further a s l p q.1)

all_same : (x y : Split) → SamePlace x y → (l : List Split) → AllNotBelow x l → AllNotBelow y l
all_same x y e [] q = tt
all_same x y e (t ∷ l) q = (above_same x y t e q.0, all_same x y e l q.1)

-- ---- by places
pub rising_at : (l : List Split) (i j : ℕ) (d : Split) → Rising l → i < j → j < length l → NotBelow (get_or l i d) (get_or l j d)
rising_at [] i j d r q h = absurd (not-suc-le-zero h)
rising_at (s ∷ l) zero zero d r q h = absurd (not-suc-le-zero q)
rising_at (s ∷ l) zero (suc j) d r q h = all_at s l j d r.0 (le_of_suc-le-suc h)
rising_at (s ∷ l) (suc i) zero d r q h = absurd (not-suc-le-zero q)
rising_at (s ∷ l) (suc i) (suc j) d r q h = rising_at l i j d r.1 (le_of_suc-le-suc q) (le_of_suc-le-suc h)

pub rising_of : (l : List Split) (d : Split) → ((i j : ℕ) → i < j → j < length l → NotBelow (get_or l i d) (get_or l j d)) → Rising l
rising_of [] d p = tt
rising_of (s ∷ l) d p =
    (all_of s l d (λ k h. p 0 (suc k) (zero-lt-suc k) (suc-le-suc h)), rising_of l d (λ i j q h. p (suc i) (suc j) (suc-le-suc q) (suc-le-suc h)))

-- ---- what keeps a table rising

-- rows go
pub rising_keep_if : (p : Split → Bool) (l : List Split) → Rising l → Rising (keep_if p l)
unfolding keep_if
rising_keep_if p [] r = tt
rising_keep_if p (s ∷ l) r = go (p s) (rising_keep_if p l r.1)
  where
    go : (t : Bool) → Rising (keep_if p l) → Rising (cond t (s ∷ keep_if p l) (keep_if p l))
    go true q = (all_keep_if s p l r.0, q)
    go false q = q

-- every row is changed, and none is moved
pub rising_map : (h : Split → Split) → ((s : Split) → SamePlace s (h s)) → (l : List Split) → Rising l → Rising (map h l)
rising_map h e [] r = tt
rising_map h e (s ∷ l) r = (all_same s (h s) (e s) (map h l) (all_map s h e l r.0), rising_map h e l r.1)

-- one row is changed, and not moved
pub rising_set : (l : List Split) (k : ℕ) (x d : Split) → k < length l → SamePlace (get_or l k d) x → Rising l → Rising (set l k x)
rising_set [] k x d h e r = tt
rising_set (s ∷ l) zero x d h e r = (all_same s x e l r.0, r.1)
rising_set (s ∷ l) (suc k) x d h e r =
    (all_set s l k x r.0 (below_same s (get_or l k d) x e (all_at s l k d r.0 (le_of_suc-le-suc h))), rising_set l k x d (le_of_suc-le-suc h) e r.1)

-- one row has another end
pub rising_end : (l : List Split) (k new : ℕ) (d : Split) → k < length l → Rising l → Rising (set l k (with_end new (get_or l k d)))
rising_end l k new d h r = rising_set l k (with_end new (get_or l k d)) d h (record { section = refl; start = refl }) r
