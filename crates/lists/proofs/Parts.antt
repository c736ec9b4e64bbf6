-- The rows of a table, `tabulate`, cut at a place, and made one by one from other rows or from a list. Assumes nothing.
use mathlib.Core.Path.{◌≡◌, refl, sym, ap, ap₂, ◌∙◌}
use mathlib.Core.List.{List, [], ◌∷◌, ◌++◌, map}
use Prim.Native.Nat.{ℕ, zero, suc, ◌+◌, ◌-◌, ◌≤◌, ◌<◌, suc-le-suc}
use native.Mathlib.Nat.{zero-add, suc-add, add-suc}
use native.Mathlib.Omega.{arith}
use lib.ListN.{length, get_or, take, drop}
use lib.Seq.{get_or-take, get_or-drop}
use Rattle.lists.specs.Rows.{tabulate}
use Rattle.lists.proofs.Rows.{rest-cons, rest-none, tabulate_ext}

-- ---- none of the rows, and all of them
module _ {A : Type 0} (f : ℕ → A) where
  pub tabulate-none : (i : ℕ) → tabulate f i (i - i) ≡ []
  tabulate-none i = rest-none f i i (omega arith)

  pub tabulate_zero : (i : ℕ) (l : List A) → tabulate f i 0 ++ l ≡ l
  unfolding tabulate
  tabulate_zero i l = refl

  pub tabulate_all : (n : ℕ) → tabulate f 0 (n - 0) ≡ tabulate f 0 n
  tabulate_all n = ap (tabulate f 0) (let e : n - 0 ≡ n = omega arith in e)

-- ---- cut at a place
module _ {A : Type 0} (f : ℕ → A) where
  tabulate-add : (i a b : ℕ) → tabulate f i (a + b) ≡ tabulate f i a ++ tabulate f (i + a) b
  unfolding tabulate
  tabulate-add i zero b = ap₂ (λ (x y : ℕ). tabulate f x y) (let e : i ≡ i + 0 = omega arith in e) (zero-add b)
  tabulate-add i (suc a) b =
      ap (tabulate f i) (suc-add a b)
      ∙ ap (λ (l : List A). f i ∷ l) (tabulate-add (suc i) a b)
      ∙ ap (λ (x : ℕ). f i ∷ (tabulate f (suc i) a ++ tabulate f x b)) (suc-add i a ∙ sym (add-suc i a))

  -- the rows from i up to j, and those from j on
  pub tabulate-append : (i j n : ℕ) → i ≤ j → j ≤ n → tabulate f i (n - i) ≡ tabulate f i (j - i) ++ tabulate f j (n - j)
  tabulate-append i j n h l =
      ap (tabulate f i) (let e : n - i ≡ (j - i) + (n - j) = omega arith in e)
      ∙ tabulate-add i (j - i) (n - j)
      ∙ ap (λ (x : ℕ). tabulate f i (j - i) ++ tabulate f x (n - j)) (let e : i + (j - i) ≡ j = omega arith in e)

  -- the rows from i up to j, and row j
  pub tabulate_snoc : (i j : ℕ) → i ≤ j → tabulate f i (j + 1 - i) ≡ tabulate f i (j - i) ++ (f j ∷ [])
  tabulate_snoc i j h =
      tabulate-append i j (j + 1) h (omega arith)
      ∙ ap (λ (t : List A). tabulate f i (j - i) ++ t) (rest-cons f j (j + 1) (omega arith) ∙ ap (λ (t : List A). f j ∷ t) (tabulate-none f (j + 1)))

-- ---- made of other rows
-- equal rows at the places in use
pub tabulate_same : {A : Type 0} (f g : ℕ → A) (i k : ℕ) → ((j : ℕ) → i ≤ j → j < i + k → f j ≡ g j) → tabulate f i k ≡ tabulate g i k
tabulate_same f g i k h = tabulate_ext f g i i k (λ j q. h (i + j) (omega arith) (omega arith))

module _ {A B : Type 0} (h : A → B) where
  pub tabulate-map : (f : ℕ → A) (g : ℕ → B) (i k : ℕ) → ((j : ℕ) → i ≤ j → j < i + k → g j ≡ h (f j)) → tabulate g i k ≡ map h (tabulate f i k)
  unfolding tabulate
  tabulate-map f g i zero e = refl
  tabulate-map f g i (suc k) e =
      λ d. e i (omega arith) (omega arith) d ∷ tabulate-map f g (suc i) k (λ j m l. e j (omega arith) (omega arith)) d

  -- each row is made of the list's element at its place
  from_list : (f : ℕ → B) (i : ℕ) (l : List A) (d : A) → ((k : ℕ) → k < length l → f (i + k) ≡ h (get_or l k d)) → tabulate f i (length l) ≡ map h l
  unfolding tabulate
  from_list f i [] d e = refl
  from_list f i (x ∷ l) d e =
      ap₂ (λ (a : B) (t : List B). a ∷ t) (ap f (let z : i ≡ i + 0 = omega arith in z) ∙ e 0 (omega arith))
      (from_list f (suc i) l d (λ k q. ap f (suc-add i k ∙ sym (add-suc i k)) ∙ e (suc k) (suc-le-suc q)))

  pub tabulate_list : (f : ℕ → B) (l : List A) (d : A) → ((k : ℕ) → k < length l → f k ≡ h (get_or l k d)) → tabulate f 0 (length l) ≡ map h l
  tabulate_list f l d e = from_list f 0 l d (λ k q. ap f (zero-add k) ∙ e k q)

-- what stands in a part of a list
pub get_or-part : {A : Type 0} (l : List A) (at n k : ℕ) (d : A) → k < n → get_or (take n (drop at l)) k d ≡ get_or l (at + k) d
get_or-part l at n k d h = get_or-take n (drop at l) k d h ∙ get_or-drop at l k d
