-- Members of a list and the test `some`: some element passes exactly if a member does, so all that counts is which members a list has; a permutation has the same
-- ones. Assumes nothing.
use mathlib.Core.Path.{◌≡◌, refl, sym, ap, subst, ◌∙◌}
use mathlib.Core.List.Memᴰ
use mathlib.Core.List.{List, [], ◌∷◌, Memᴰ, Permᴰ}
use mathlib.Core.Logic.{◌⊎◌, inl, inr}
use mathlib.Core.Bool.{Bool, true, false, false≢true}
use Prim.Native.Nat.{ℕ, zero, suc, ◌+◌, ◌≤◌, ◌<◌}
use native.Mathlib.Omega.{arith}
use lib.ListN.{length, get_or}
use Rattle.std.proofs.lemmas.Bool.{or_left, or_right, or_cases, false_from_ne_true}
use Rattle.lists.specs.Rows.{tabulate, some}
use Rattle.lists.specs.Sort.{All, none, each}

-- two tests are the same where each holds if the other does
pub same_test : (a b : Bool) → (a ≡ true → b ≡ true) → (b ≡ true → a ≡ true) → a ≡ b
same_test true b f g = sym (f refl)
same_test false true f g = g refl
same_test false false f g = refl

-- ---- some member passes
module _ {A : Type 0} (p : A → Bool) where
  pub some_by : {x : A} {l : List A} → Memᴰ x l → p x ≡ true → some p l ≡ true
  unfolding some
  some_by {x = x} (Memᴰ.head {x = y} {xs = l} e) h = or_left (p y) (some p l) (ap p (sym e) ∙ h)
  some_by (Memᴰ.tail {x = y} {xs = l} m) h = or_right (p y) (some p l) (some_by m h)

  pub some_member : (l : List A) → some p l ≡ true → (x : A) × Memᴰ x l × (p x ≡ true)
  unfolding some
  some_member [] e = absurd (false≢true e)
  some_member (y ∷ l) e = go (or_cases (p y) (some p l) e) (some_member l)
    where
      go : (p y ≡ true) ⊎ (some p l ≡ true) → (some p l ≡ true → (x : A) × Memᴰ x l × (p x ≡ true)) → (x : A) × Memᴰ x (y ∷ l) × (p x ≡ true)
      go (inl h) ih = (y, Memᴰ.head refl, h)
      go (inr h) ih = let r = ih h in (r.0, Memᴰ.tail r.1, r.2)

  pub none_member : (l : List A) → some p l ≡ false → (x : A) → Memᴰ x l → p x ≡ false
  none_member l e x m = false_from_ne_true (p x) (λ h. false≢true (sym e ∙ some_by m h))

  pub none_by : (l : List A) → ((x : A) → Memᴰ x l → p x ≡ false) → some p l ≡ false
  none_by l f = false_from_ne_true (some p l) (λ h. let r = some_member l h in false≢true (sym (f r.0 r.1) ∙ r.2))

-- ---- the members of a list

-- what stands at a place is a member
pub at_member : {A : Type 0} (l : List A) (k : ℕ) (d : A) → k < length l → Memᴰ (get_or l k d) l
at_member [] k d h = absurd (omega arith)
at_member (x ∷ l) zero d h = Memᴰ.head refl
at_member (x ∷ l) (suc k) d h = Memᴰ.tail (at_member l k d (omega arith))

-- what holds of each element holds of a member
pub all_find : {A : Type 0} {P : A → Type 0} {l : List A} (x : A) → All P l → Memᴰ x l → P x
all_find x none m = absurd (Memᴰ.not-nil m)
all_find {P} x (each {x = y} {l} h a) m = go (Memᴰ.cases_cons m) (λ k. all_find x a k)
  where
    go : (x ≡ y) ⊎ Memᴰ x l → (Memᴰ x l → P x) → P x
    go (inl e) ih = subst P (sym e) h
    go (inr k) ih = ih k

-- each member of the first is one of the second
abbrev pub Among : {A : Type 0} → List A → List A → Type 0
Among {A} s t = (x : A) → Memᴰ x s → Memᴰ x t

-- a test that some member of the first passes
pub some_among : {A : Type 0} (p : A → Bool) (s t : List A) → Among s t → some p s ≡ true → some p t ≡ true
some_among p s t sub e = let r = some_member p s e in some_by p (sub r.0 r.1) r.2

pub some_members : {A : Type 0} (p : A → Bool) (s t : List A) → Among s t → Among t s → some p s ≡ some p t
some_members p s t sub sup = same_test (some p s) (some p t) (some_among p s t sub) (some_among p t s sup)

-- a permutation has the same members
pub perm_among : {A : Type 0} {s t : List A} → Permᴰ s t → Among s t
perm_among Permᴰ.nil x m = m
perm_among (Permᴰ.cons {a = a} {b = b} {l₁ = s} {l₂ = t} e q) x m = go (Memᴰ.cases_cons m) (perm_among q x)
  where
    go : (x ≡ a) ⊎ Memᴰ x s → (Memᴰ x s → Memᴰ x t) → Memᴰ x (b ∷ t)
    go (inl h) ih = Memᴰ.head (h ∙ e)
    go (inr h) ih = Memᴰ.tail (ih h)
perm_among (Permᴰ.swap {a = a} {b = b} {a' = c} {b' = d} {l = l} e f) x m = go (Memᴰ.cases_cons m)
  where
    next : (x ≡ b) ⊎ Memᴰ x l → Memᴰ x (c ∷ d ∷ l)
    next (inl h) = Memᴰ.head (h ∙ f)
    next (inr h) = Memᴰ.tail (Memᴰ.tail h)

    go : (x ≡ a) ⊎ Memᴰ x (b ∷ l) → Memᴰ x (c ∷ d ∷ l)
    go (inl h) = Memᴰ.tail (Memᴰ.head (h ∙ e))
    go (inr h) = next (Memᴰ.cases_cons h)
perm_among (Permᴰ.trans q r) x m = perm_among r x (perm_among q x m)

-- ---- numbers in a range

pub range_member : (i n x : ℕ) → i ≤ x → x < i + n → Memᴰ x (tabulate (λ k. k) i n)
unfolding tabulate
range_member i zero x low high = absurd (omega arith)
range_member i (suc n) x low high = go (native.Mathlib.Decide.ℕ_discrete x i) (range_member (suc i) n x)
  where
    go : Dec (x ≡ i) → (suc i ≤ x → x < suc i + n → Memᴰ x (tabulate (λ k. k) (suc i) n)) → Memᴰ x (i ∷ tabulate (λ k. k) (suc i) n)
    go (yes e) ih = Memᴰ.head e
    go (no d) ih = Memᴰ.tail (ih (omega arith) (omega arith))

pub member_range : (i n x : ℕ) → Memᴰ x (tabulate (λ k. k) i n) → (i ≤ x) × (x < i + n)
unfolding tabulate
member_range i zero x m = absurd (Memᴰ.not-nil m)
member_range i (suc n) x m = go (Memᴰ.cases_cons m) (member_range (suc i) n x)
  where
    go : (x ≡ i) ⊎ Memᴰ x (tabulate (λ k. k) (suc i) n) → (Memᴰ x (tabulate (λ k. k) (suc i) n) → (suc i ≤ x) × (x < suc i + n)) → (i ≤ x) × (x < i + suc n)
    go (inl e) ih = (omega arith, omega arith)
    go (inr h) ih = let r = ih h in (omega arith, omega arith)
