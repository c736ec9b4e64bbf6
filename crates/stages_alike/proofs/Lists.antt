-- Two functions that agree on each element of a list: what is kept, sorted, found and chained by them agrees. Paths are written out as functions of the
-- interval: the definition with a path in place of each part that may differ. Assumes nothing.
use mathlib.Core.Path.{◌≡◌, refl, ap, ap₂, ◌∙◌}
use mathlib.Core.List.{List, reverse_aux}
use mathlib.Core.Bool.{Bool, ◌||◌}
use Prim.Native.Nat.{ℕ, ◌<◌}
use lib.Dec.{leb}
use Rattle.lists.specs.Outcome.{Outcome, accepted, refused, ◌>>=◌}
use Rattle.lists.specs.Rows.{keep_if, some}
use Rattle.lists.specs.Sort.{All, none, each, sort_by}
use Rattle.lists.proofs.All.{all_keep, all_map}
use Rattle.lists.proofs.Filter.{keep_same}
use Rattle.lists.proofs.Sort.{sort_alike}

-- each element of a list turned round
pub all_reverse : {A : Type 0} {P : A → Type 0} {s t : List A} → All P s → All P t → All P (reverse_aux s t)
all_reverse none q = q
all_reverse (each h p) q = all_reverse p (each h q)

-- two keys that agree
sort_same : {A : Type 0} (k j : A → ℕ) (s : List A) → All (λ x. k x ≡ j x) s → sort_by k s ≡ sort_by j s
sort_same k j s h = sort_alike k j (λ x. k x ≡ j x) (λ x y p q. ap₂ leb p q) s h

-- two tests that agree
some_same : {A : Type 0} (p q : A → Bool) {s : List A} → All (λ x. p x ≡ q x) s → some p s ≡ some q s
unfolding some
some_same p q none = refl
some_same p q (each e h) = ap₂ ◌||◌ e (some_same p q h)

-- ---- records by number: two tables that agree below a count
module _ {R : Type 0} (y z : ℕ → R) (count : ℕ) (same : (i : ℕ) → i < count → y i ≡ z i) where
  pub kept_alike : (p : R → Bool) {l : List ℕ} → All (λ i. i < count) l → keep_if (λ i. p (y i)) l ≡ keep_if (λ i. p (z i)) l
  kept_alike p {l} all = keep_same (λ i. p (y i)) (λ i. p (z i)) l (all_map (λ i h. ap p (same i h)) all)

  pub some_alike : (p : R → Bool) {l : List ℕ} → All (λ i. i < count) l → some (λ i. p (y i)) l ≡ some (λ i. p (z i)) l
  some_alike p all = some_same (λ i. p (y i)) (λ i. p (z i)) (all_map (λ i h. ap p (same i h)) all)

  -- what passes a test, by a key
  pub sorted_alike : (k : R → ℕ) (p : R → Bool) {l : List ℕ} → All (λ i. i < count) l
      → sort_by (λ i. k (y i)) (keep_if (λ i. p (y i)) l) ≡ sort_by (λ i. k (z i)) (keep_if (λ i. p (z i)) l)
  sorted_alike k p {l} all =
      sort_same (λ i. k (y i)) (λ i. k (z i)) (keep_if (λ i. p (y i)) l) (all_map (λ i h. ap k (same i h)) (all_keep (λ i. p (y i)) all))
      ∙ ap (sort_by (λ i. k (z i))) (kept_alike p all)

  -- two tests, one after the other
  pub kept-twice : (p q : R → Bool) {l m : List ℕ} → All (λ i. i < count) l → l ≡ m
      → keep_if (λ i. p (y i)) (keep_if (λ i. q (y i)) l) ≡ keep_if (λ i. p (z i)) (keep_if (λ i. q (z i)) m)
  kept-twice p q all e =
      kept_alike p (all_keep (λ i. q (y i)) all) ∙ ap (keep_if (λ i. p (z i))) (kept_alike q all ∙ ap (keep_if (λ i. q (z i))) e)

-- what goes on from an accepted value
pub bind_when : {A B : Type 0} (m : Outcome A) (f g : A → Outcome B) → ((a : A) → m ≡ accepted a → f a ≡ g a) → (m >>= f) ≡ (m >>= g)
unfolding ◌>>=◌
bind_when (accepted a) f g e = e a refl
bind_when (refused number section address) f g e = refl
