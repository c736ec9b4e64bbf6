-- Laws of `next_edge` and `bad_edge`: one for each way a turn of the scan goes, and then what the edge that is found says of itself and of
-- the edges before it.
use Prim.Native.Nat.{ℕ, zero, suc, ◌+◌, ◌-◌, ◌≤◌, ◌<◌}
use mathlib.Core.Path.{◌≡◌, refl, sym, ap, ◌∙◌}
use mathlib.Core.List.{List, [], ◌∷◌}
use mathlib.Core.Logic.{inl, inr}
use mathlib.Core.Bool.{Bool, true, false, cond, ◌||◌}
use native.Mathlib.Omega.{arith}
use native.Mathlib.Numerals.{add-one}
use lib.ListN.{length, get_or, drop, drop_of_length-le, length-drop}
use lib.Seq.{drop-cons, get_or-drop}
use lib.Dec.{eqb, leb}
use borrow.Author.Tests.{eq-eqb, ne_eqb, eqb-true, eqb-false, le-leb, lt-leb, leb-true, leb-false}
use Rattle.std.proofs.lemmas.Bool.{or_parts}
use Rattle.toposort.specs.Search.{first, next_edge, bad_edge, is_bad}
use Rattle.toposort.specs.Sorting.{After}

-- the next edge of v, from the edge i on
module _ (l : List ℕ) (v i : ℕ) where
  pub next_here : i < length l → get_or l i 0 ≡ v → next_edge l v i ≡ i
  unfolding first
  next_here h e = rw (drop-cons l i 0 h) (rw (eq-eqb _ _ e) (omega arith))

  pub next_on : i < length l → (get_or l i 0 ≡ v → ⊥) → next_edge l v i ≡ next_edge l v (i + 1)
  unfolding first
  next_on h e = rw (add-one, drop-cons l i 0 h) (rw (ne_eqb _ _ e) (omega arith))

  pub next_end : length l ≤ i → next_edge l v i ≡ i
  unfolding first
  next_end h = rw (drop_of_length-le l h) (omega arith)

first_le : (v : ℕ) (l : List ℕ) → first v l ≤ length l
unfolding first
first_le v [] = omega arith
first_le v (x ∷ l) = let h = first_le v l in go (eqb x v) h
  where
    go : (b : Bool) → first v l ≤ length l → cond b 0 (suc (first v l)) ≤ suc (length l)
    go true h = omega arith
    go false h = omega arith

pub next_le : (l : List ℕ) (v i : ℕ) → i ≤ length l → next_edge l v i ≤ length l
next_le l v i h = omega (arith, first_le v (drop i l), length-drop i l)

-- no edge between where the scan began and what it found leaves v
first-none : (v : ℕ) (l : List ℕ) (i : ℕ) → i < first v l → get_or l i 0 ≡ v → ⊥
unfolding first
first-none v [] i h e = omega arith
first-none v (x ∷ l) i h e = go (eqb x v) refl i h e (first-none v l)
  where
    go : (b : Bool) → eqb x v ≡ b → (i : ℕ) → i < cond b 0 (suc (first v l)) → get_or (x ∷ l) i 0 ≡ v
        → ((i : ℕ) → i < first v l → get_or l i 0 ≡ v → ⊥) → ⊥
    go true q i h e ih = omega arith
    go false q zero h e ih = eqb-false _ _ q e
    go false q (suc i) h e ih = ih i (omega arith) e

pub next_none : (l : List ℕ) (v i e : ℕ) → i ≤ e → e < next_edge l v i → get_or l e 0 ≡ v → ⊥
next_none l v i e h k q =
    first-none v (drop i l) (e - i) (omega arith)
    (get_or-drop i l (e - i) 0 ∙ ap (λ (j : ℕ). get_or l j 0) (let z : i + (e - i) ≡ e = omega arith in z) ∙ q)

-- the edge that it found leaves v
first_found : (v : ℕ) (l : List ℕ) → first v l < length l → get_or l (first v l) 0 ≡ v
unfolding first
first_found v [] h = absurd (omega arith)
first_found v (x ∷ l) h = go (eqb x v) refl h (first_found v l)
  where
    go : (b : Bool) → eqb x v ≡ b → cond b 0 (suc (first v l)) < suc (length l) → (first v l < length l → get_or l (first v l) 0 ≡ v)
        → get_or (x ∷ l) (cond b 0 (suc (first v l))) 0 ≡ v
    go true q h ih = eqb-true _ _ q
    go false q h ih = ih (omega arith)

pub next_found : (l : List ℕ) (v i : ℕ) → i ≤ length l → next_edge l v i < length l → get_or l (next_edge l v i) 0 ≡ v
next_found l v i h k = sym (get_or-drop i l (first v (drop i l)) 0) ∙ first_found v (drop i l) (omega (arith, length-drop i l))

-- an index that comes right after an edge of v, or at the start, lies within the table
pub after_le : (l : List ℕ) (v i : ℕ) → After l v i → i ≤ length l
after_le l v i (inl e) = omega arith
after_le l v i (inr e) = e.1

-- the index after the edge that was found is such an index
pub after-found : (l : List ℕ) (v i : ℕ) → i ≤ length l → next_edge l v i < length l → After l v (next_edge l v i + 1)
after-found l v i h k =
    let back : next_edge l v i + 1 - 1 ≡ next_edge l v i = omega arith in
    inr (ap (λ (j : ℕ). get_or l j 0) back ∙ next_found l v i h k, omega arith)

-- the scan for a bad edge, from the edge i on
abbrev pub bad_from : ℕ → List ℕ → List ℕ → ℕ → ℕ
bad_from n from to i = i + bad_edge n (drop i from) (drop i to)

module _ (n : ℕ) (from to : List ℕ) (i : ℕ) (h : i < length from) (k : i < length to) where
  bad_cons : bad_edge n (drop i from) (drop i to) ≡
      cond (leb n (get_or from i 0)) 0 (cond (leb n (get_or to i 0)) 0 (suc (bad_edge n (drop (suc i) from) (drop (suc i) to))))
  unfolding bad_edge
  bad_cons = rw (drop-cons from i 0 h, drop-cons to i 0 k)

  pub bad_from_lem : n ≤ get_or from i 0 → bad_from n from to i ≡ i
  bad_from_lem e = rw (bad_cons, le-leb _ _ e) (omega arith)

  pub bad_to : get_or from i 0 < n → n ≤ get_or to i 0 → bad_from n from to i ≡ i
  bad_to e f = rw (bad_cons, lt-leb _ _ e, le-leb _ _ f) (omega arith)

  pub bad_on : get_or from i 0 < n → get_or to i 0 < n → bad_from n from to i ≡ bad_from n from to (i + 1)
  bad_on e f = rw (add-one, bad_cons, lt-leb _ _ e, lt-leb _ _ f) (omega arith)

pub bad_end : (n : ℕ) (from to : List ℕ) (i : ℕ) → length from ≤ i → bad_from n from to i ≡ i
unfolding bad_edge
bad_end n from to i h = rw (drop_of_length-le from h) (omega arith)

-- the scan comes to a place before which no edge is bad
pub bad_past : (n : ℕ) (from to : List ℕ) (e : ℕ) → e ≤ length from → length to ≡ length from
    → ((k : ℕ) → k < e → is_bad n from to k ≡ false) → bad_edge n from to ≡ bad_from n from to e
bad_past n from to zero h p good = omega arith
bad_past n from to (suc e) h p good =
    let here = or_parts _ _ (good e (omega arith)) in
    bad_past n from to e (omega arith) p (λ k q. good k (omega arith))
    ∙ bad_on n from to e (omega arith) (omega arith) (leb-false _ _ here.0) (leb-false _ _ here.1)
    ∙ ap (bad_from n from to) (add-one e)

-- .. and stops there if the edge is bad
pub bad_here : (n : ℕ) (from to : List ℕ) (e : ℕ) → e < length from → length to ≡ length from → is_bad n from to e ≡ true → bad_from n from to e ≡ e
bad_here n from to e h p bad = go (leb n (get_or from e 0)) refl bad
  where
    go : (b : Bool) → leb n (get_or from e 0) ≡ b → b || leb n (get_or to e 0) ≡ true → bad_from n from to e ≡ e
    go true q r = bad_from_lem n from to e h (omega arith) (leb-true _ _ q)
    go false q r = bad_to n from to e h (omega arith) (leb-false _ _ q) (leb-true _ _ r)

-- both ends of each edge before the bad one are nodes
pub good_before : (n : ℕ) (from to : List ℕ) (e : ℕ) → e < bad_edge n from to → (get_or from e 0 < n) × (get_or to e 0 < n)
unfolding bad_edge
good_before n [] to e h = absurd (omega arith)
good_before n (x ∷ from) [] e h = absurd (omega arith)
good_before n (x ∷ from) (y ∷ to) e h = go (leb n x) (leb n y) refl refl e h (good_before n from to)
  where
    go : (a b : Bool) → leb n x ≡ a → leb n y ≡ b → (e : ℕ) → e < cond a 0 (cond b 0 (suc (bad_edge n from to)))
        → ((e : ℕ) → e < bad_edge n from to → (get_or from e 0 < n) × (get_or to e 0 < n))
        → (get_or (x ∷ from) e 0 < n) × (get_or (y ∷ to) e 0 < n)
    go true b q r e h ih = absurd (omega arith)
    go false true q r e h ih = absurd (omega arith)
    go false false q r zero h ih = (leb-false _ _ q, leb-false _ _ r)
    go false false q r (suc e) h ih = ih e (omega arith)

-- one end of the bad edge is no node
pub bad_is : (n : ℕ) (from to : List ℕ) → length to ≡ length from → bad_edge n from to < length from
    → (get_or from (bad_edge n from to) 0 < n) × (get_or to (bad_edge n from to) 0 < n) → ⊥
unfolding bad_edge
bad_is n [] to p h j = omega arith
bad_is n (x ∷ from) [] p h j = omega arith
bad_is n (x ∷ from) (y ∷ to) p h j = go (leb n x) (leb n y) refl refl h j (bad_is n from to (omega arith))
  where
    go : (a b : Bool) → leb n x ≡ a → leb n y ≡ b → cond a 0 (cond b 0 (suc (bad_edge n from to))) < suc (length from)
        → (get_or (x ∷ from) (cond a 0 (cond b 0 (suc (bad_edge n from to)))) 0 < n) × (get_or (y ∷ to) (cond a 0 (cond b 0 (suc (bad_edge n from to)))) 0 < n)
        → (bad_edge n from to < length from → (get_or from (bad_edge n from to) 0 < n) × (get_or to (bad_edge n from to) 0 < n) → ⊥) → ⊥
    go true b q r h j ih = omega (arith, leb-true n x q, j.0)
    go false true q r h j ih = omega (arith, leb-true n y r, j.1)
    go false false q r h j ih = ih (omega arith) j
