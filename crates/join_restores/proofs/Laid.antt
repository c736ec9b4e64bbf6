-- Where no piece of the section lies, laying leaves what is there; the members of the parts that are joined. Assumes nothing.
use mathlib.Core.Path.{◌≡◌, refl, sym, ap, ◌∙◌}
use mathlib.Core.List.Memᴰ
use mathlib.Core.List.{List, [], ◌∷◌, map, Memᴰ}
use mathlib.Core.Logic.{◌⊎◌, inl, inr}
use mathlib.Core.Bool.{Bool, true, false, cond, false≢true}
use Prim.Native.Nat.{ℕ, ◌+◌, ◌-◌, ◌≤◌, ◌<◌}
use native.Mathlib.Omega.{arith}
use lib.Dec.{eqb}
use lib.ListN.{length, get_or}
use lib.Seq.{sets}
use borrow.Author.Tests.{eqb-true}
use Rattle.lists.specs.Rows.{keep_if}
use Rattle.lists.proofs.Stores.{get_or-sets_other}
use Rattle.obj.specs.Parts.{Part}
use Rattle.restore.specs.Restoring.{laid_on}

-- no part of section n stands at place k
pub laid_uncovered : (n start : ℕ) (under : List ℕ) (ps : List Part) (k : ℕ)
    → ((p : Part) → Memᴰ p ps → p.section ≡ n → p.address - start ≤ k → k < p.address - start + length p.bytes → ⊥)
    → get_or (laid_on n start under ps) k 0 ≡ get_or under k 0
unfolding laid_on
laid_uncovered n start under [] k f = refl
laid_uncovered n start under (p ∷ ps) k f =
    laid_uncovered n start (cond (eqb p.section n) (sets under (p.address - start) p.bytes) under) ps k (λ q m. f q (Memᴰ.tail m)) ∙ go (eqb p.section n) refl
  where
    go : (b : Bool) → eqb p.section n ≡ b → get_or (cond b (sets under (p.address - start) p.bytes) under) k 0 ≡ get_or under k 0
    go true e =
        get_or-sets_other under (p.address - start) p.bytes k 0
        (λ i l z. f p (Memᴰ.head refl) (eqb-true _ _ e) (omega arith) (omega arith))
    go false e = refl

-- ---- members

pub map_member : {A B : Type 0} (f : A → B) {x : A} {l : List A} → Memᴰ x l → Memᴰ (f x) (map f l)
map_member f (Memᴰ.head e) = Memᴰ.head (ap f e)
map_member f (Memᴰ.tail m) = Memᴰ.tail (map_member f m)

pub member_map : {A B : Type 0} (f : A → B) (l : List A) {y : B} → Memᴰ y (map f l) → (x : A) × Memᴰ x l × (y ≡ f x)
member_map f [] m = absurd (Memᴰ.not-nil m)
member_map {A} f (x ∷ l) {y} m = go (Memᴰ.cases_cons m) (λ k. member_map f l k)
  where
    go : (y ≡ f x) ⊎ Memᴰ y (map f l) → (Memᴰ y (map f l) → (z : A) × Memᴰ z l × (y ≡ f z)) → (z : A) × Memᴰ z (x ∷ l) × (y ≡ f z)
    go (inl e) ih = (x, Memᴰ.head refl, e)
    go (inr k) ih = let r = ih k in (r.0, Memᴰ.tail r.1, r.2)

pub keep_member : {A : Type 0} (p : A → Bool) {x : A} {l : List A} → Memᴰ x l → p x ≡ true → Memᴰ x (keep_if p l)
unfolding keep_if
keep_member {A} p {x = x} (Memᴰ.head {x = y} {xs = l} e) h = go (p y) (sym h ∙ ap p e)
  where
    go : (b : Bool) → true ≡ b → Memᴰ x (cond b (y ∷ keep_if p l) (keep_if p l))
    go true q = Memᴰ.head e
    go false q = absurd (false≢true (sym q))
keep_member {A} p {x = x} (Memᴰ.tail {x = y} {xs = l} m) h = go (p y) (keep_member p m h)
  where
    go : (b : Bool) → Memᴰ x (keep_if p l) → Memᴰ x (cond b (y ∷ keep_if p l) (keep_if p l))
    go true r = Memᴰ.tail r
    go false r = r

pub member_keep : {A : Type 0} (p : A → Bool) (l : List A) {x : A} → Memᴰ x (keep_if p l) → Memᴰ x l × (p x ≡ true)
unfolding keep_if
member_keep p [] m = absurd (Memᴰ.not-nil m)
member_keep {A} p (y ∷ l) {x} m = go (p y) refl m (λ k. member_keep p l k)
  where
    first : p y ≡ true → (x ≡ y) ⊎ Memᴰ x (keep_if p l) → (Memᴰ x (keep_if p l) → Memᴰ x l × (p x ≡ true)) → Memᴰ x (y ∷ l) × (p x ≡ true)
    first q (inl e) ih = (Memᴰ.head e, ap p e ∙ q)
    first q (inr k) ih = let r = ih k in (Memᴰ.tail r.0, r.1)

    go : (b : Bool) → p y ≡ b → Memᴰ x (cond b (y ∷ keep_if p l) (keep_if p l)) → (Memᴰ x (keep_if p l) → Memᴰ x l × (p x ≡ true))
        → Memᴰ x (y ∷ l) × (p x ≡ true)
    go true q k ih = first q (Memᴰ.cases_cons k) ih
    go false q k ih = let r = ih k in (Memᴰ.tail r.0, r.1)
