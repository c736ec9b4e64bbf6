-- The rows of a table as a list, `tabulate`: what is left from a place on, its length and elements, and two tables whose rows agree
-- but for one that is inserted or stored. Assumes nothing.
use mathlib.Core.Path.{◌≡◌, refl, sym, ap, ap₂, ◌∙◌}
use mathlib.Core.List.{List, [], ◌∷◌, ◌++◌, map}
use Prim.Native.Nat.{ℕ, zero, suc, ◌+◌, ◌-◌, ◌≤◌, ◌<◌, zero-le, suc-le-suc}
use native.Mathlib.Nat.{le_of_suc-le-suc, not-suc-le-zero, add-zero, add-suc, suc-add, zero-add}
use native.Mathlib.Numerals.{add-one}
use native.Mathlib.Omega.{arith}
use lib.ListN.{length, get_or, take, set, replicate, length-map}
use lib.Seq.{take_all, take-suc, take-suc-set}
use Rattle.lists.specs.Rows.{tabulate, insert_at}

module _ {A : Type 0} (f : ℕ → A) where
  -- the rows from i on are row i and the rows from i + 1 on
  pub rest-cons : (i n : ℕ) → i < n → tabulate f i (n - i) ≡ f i ∷ tabulate f (i + 1) (n - (i + 1))
  unfolding tabulate
  rest-cons i n h =
      ap (tabulate f i) (let e : n - i ≡ suc (n - (i + 1)) = omega arith in e)
      ∙ ap (λ (k : ℕ). f i ∷ tabulate f k (n - (i + 1))) (sym (add-one i))

  -- no rows are left at the end
  pub rest-none : (i n : ℕ) → n ≤ i → tabulate f i (n - i) ≡ []
  unfolding tabulate
  rest-none i n h = ap (tabulate f i) (let e : n - i ≡ 0 = omega arith in e)

  pub length-tabulate : (i n : ℕ) → length (tabulate f i n) ≡ n
  unfolding tabulate
  length-tabulate i zero = refl
  length-tabulate i (suc n) = ap suc (length-tabulate (suc i) n)

  pub get_d_tabulate : (i n k : ℕ) (d : A) → k < n → get_or (tabulate f i n) k d ≡ f (i + k)
  unfolding tabulate
  get_d_tabulate i zero k d h = absurd (not-suc-le-zero h)
  get_d_tabulate i (suc n) zero d h = ap f (sym (add-zero i))
  get_d_tabulate i (suc n) (suc k) d h = get_d_tabulate (suc i) n k d (le_of_suc-le-suc h) ∙ ap f (suc-add i k ∙ sym (add-suc i k))

  -- one row more
  tabulate_suc : (i n : ℕ) → tabulate f i (suc n) ≡ tabulate f i n ++ (f (i + n) ∷ [])
  unfolding tabulate
  tabulate_suc i zero = ap (λ (k : ℕ). f k ∷ []) (sym (add-zero i))
  tabulate_suc i (suc n) =
      ap (λ (l : List A). f i ∷ l)
      (tabulate_suc (suc i) n ∙ ap (λ (k : ℕ). tabulate f (suc i) n ++ (f k ∷ [])) (suc-add i n ∙ sym (add-suc i n)))

  pub tabulate_more : (n : ℕ) → tabulate f 0 (n + 1) ≡ tabulate f 0 n ++ (f n ∷ [])
  tabulate_more n = ap (tabulate f 0) (add-one n) ∙ tabulate_suc 0 n ∙ ap (λ (k : ℕ). tabulate f 0 n ++ (f k ∷ [])) (zero-add n)

-- rows f are rows g with x at place p, where they agree so at each place
module _ {A : Type 0} where
  pub tabulate_ext : (f g : ℕ → A) (i j n : ℕ) → ((k : ℕ) → k < n → f (i + k) ≡ g (j + k)) → tabulate f i n ≡ tabulate g j n
  unfolding tabulate
  tabulate_ext f g i j zero h = refl
  tabulate_ext f g i j (suc n) h =
      ap₂ (λ (a : A) (l : List A). a ∷ l) (ap f (sym (add-zero i)) ∙ h 0 (suc-le-suc zero-le) ∙ ap g (add-zero j))
      (tabulate_ext f g (suc i) (suc j) n (λ k q. ap f (suc-add i k ∙ sym (add-suc i k)) ∙ h (suc k) (suc-le-suc q) ∙ ap g (add-suc j k ∙ sym (suc-add j k))))

  insert_from : (f g : ℕ → A) (x : A) (i p n : ℕ) → p ≤ n → ((k : ℕ) → k < p → f (i + k) ≡ g (i + k)) → f (i + p) ≡ x → ((k : ℕ) → p ≤ k → k < n → f (suc (i + k)) ≡ g (i + k)) → tabulate f i (suc n) ≡ insert_at p x (tabulate g i n)
  unfolding tabulate insert_at
  insert_from f g x i zero n q lo at hi =
      ap₂ (λ (a : A) (l : List A). a ∷ l) (ap f (sym (add-zero i)) ∙ at)
      (tabulate_ext f g (suc i) i n (λ k h. ap f (suc-add i k) ∙ hi k zero-le h))
  insert_from f g x i (suc p) zero q lo at hi = absurd (not-suc-le-zero q)
  insert_from f g x i (suc p) (suc n) q lo at hi =
      ap₂ (λ (a : A) (l : List A). a ∷ l) (ap f (sym (add-zero i)) ∙ lo 0 (suc-le-suc zero-le) ∙ ap g (add-zero i))
      (insert_from f g x (suc i) p n (le_of_suc-le-suc q)
      (λ k h. ap f (suc-add i k ∙ sym (add-suc i k)) ∙ lo (suc k) (suc-le-suc h) ∙ ap g (add-suc i k ∙ sym (suc-add i k)))
      (ap f (suc-add i p ∙ sym (add-suc i p)) ∙ at)
      (λ k a h. ap (λ (m : ℕ). f (suc m)) (suc-add i k ∙ sym (add-suc i k)) ∙ hi (suc k) (suc-le-suc a) (suc-le-suc h) ∙ ap g (add-suc i k ∙ sym (suc-add i k))))

  pub tabulate-insert : (f g : ℕ → A) (x : A) (p n : ℕ) → p ≤ n → ((k : ℕ) → k < p → f k ≡ g k) → f p ≡ x → ((k : ℕ) → p ≤ k → k < n → f (suc k) ≡ g k) → tabulate f 0 (n + 1) ≡ insert_at p x (tabulate g 0 n)
  tabulate-insert f g x p n q lo at hi =
      rw add-one
      (insert_from f g x 0 p n q (λ k h. rw zero-add (lo k h)) (rw zero-add at) (λ k a h. rw zero-add (hi k a h)))

-- rows f are rows g with x stored at place k
module _ {A : Type 0} where
  set_from : (f g : ℕ → A) (x : A) (i k n : ℕ) → ((j : ℕ) → j < k → f (i + j) ≡ g (i + j)) → f (i + k) ≡ x → ((j : ℕ) → k < j → j < n → f (i + j) ≡ g (i + j)) → tabulate f i n ≡ set (tabulate g i n) k x
  unfolding tabulate
  set_from f g x i k zero lo at hi = refl
  set_from f g x i zero (suc n) lo at hi =
      ap₂ (λ (a : A) (l : List A). a ∷ l) (ap f (sym (add-zero i)) ∙ at)
      (tabulate_ext f g (suc i) (suc i) n (λ j h. ap f (suc-add i j ∙ sym (add-suc i j)) ∙ hi (suc j) (suc-le-suc zero-le) (suc-le-suc h) ∙ ap g (add-suc i j ∙ sym (suc-add i j))))
  set_from f g x i (suc k) (suc n) lo at hi =
      ap₂ (λ (a : A) (l : List A). a ∷ l) (ap f (sym (add-zero i)) ∙ lo 0 (suc-le-suc zero-le) ∙ ap g (add-zero i))
      (set_from f g x (suc i) k n
      (λ j h. ap f (suc-add i j ∙ sym (add-suc i j)) ∙ lo (suc j) (suc-le-suc h) ∙ ap g (add-suc i j ∙ sym (suc-add i j)))
      (ap f (suc-add i k ∙ sym (add-suc i k)) ∙ at)
      (λ j a h. ap f (suc-add i j ∙ sym (add-suc i j)) ∙ hi (suc j) (suc-le-suc a) (suc-le-suc h) ∙ ap g (add-suc i j ∙ sym (suc-add i j))))

  pub tabulate-set : (f g : ℕ → A) (x : A) (k n : ℕ) → ((j : ℕ) → j < k → f j ≡ g j) → f k ≡ x → ((j : ℕ) → k < j → j < n → f j ≡ g j) → tabulate f 0 n ≡ set (tabulate g 0 n) k x
  tabulate-set f g x k n lo at hi = set_from f g x 0 k n (λ j h. rw zero-add (lo j h)) (rw zero-add at) (λ j a h. rw zero-add (hi j a h))

-- ---- a column filled from the front: its first i places are those of the rows
module _ {A : Type 0} (f : ℕ → A) (n : ℕ) where
  pub fill_turn : (i : ℕ) (l : List A) (x : A) → i < n → i < length l → x ≡ f i → take i l ≡ take i (tabulate f 0 n)
      → take (i + 1) (set l i x) ≡ take (i + 1) (tabulate f 0 n)
  fill_turn i l x h here e q =
      let there : i < length (tabulate f 0 n) = rw (length-tabulate f 0 n) h in
      rw (add-one, take-suc-set l i x here, take-suc (tabulate f 0 n) i x there, get_d_tabulate f 0 n i x h, zero-add i, q, e)

  pub fill_done : (i : ℕ) (l : List A) → i ≡ n → take i l ≡ take i (tabulate f 0 n) → take n l ≡ tabulate f 0 n
  fill_done i l e q = rw e at q ∙ take_all n (tabulate f 0 n) (rw (length-tabulate f 0 n) (omega arith))

-- what owning an array of structs tells of its list: there the structs stand as tuples
pub unmapped : (X Y : Type 0) (f : X → Y) (l : List X) (n : ℕ) → length (map f l) ≡ n → length l ≡ n
unmapped X Y f l n p = sym (length-map l f) ∙ p

-- the rows made of a list, past its end
module _ {A B : Type 0} (f : A → B) where
  pub get_or-map_past : (l : List A) (k : ℕ) (e : B) → length l ≤ k → get_or (map f l) k e ≡ e
  get_or-map_past [] k e h = refl
  get_or-map_past (x ∷ l) zero e h = absurd (not-suc-le-zero h)
  get_or-map_past (x ∷ l) (suc k) e h = get_or-map_past l k e (le_of_suc-le-suc h)

-- a column of one value has it everywhere, past its end too
pub get_or_same : {A : Type 0} (n i : ℕ) (a : A) → get_or (replicate n a) i a ≡ a
get_or_same zero i a = refl
get_or_same (suc n) zero a = refl
get_or_same (suc n) (suc i) a = get_or_same n i a

-- a number that a list has something above 0 for is one of its places
pub has_place : (l : List ℕ) (k : ℕ) → 0 < get_or l k 0 → k < length l
has_place [] k h = absurd (omega (arith, h))
has_place (x ∷ l) zero h = omega arith
has_place (x ∷ l) (suc k) h = suc-le-suc (has_place l k h)
