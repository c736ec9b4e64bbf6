-- The nodes: each unit of the splits once, in the order of the first splits; and the column that has the node of each unit while they are counted.
-- Assumes nothing.
use Prim.Native.Nat.{ℕ, zero, suc, ◌+◌, ◌≤◌, ◌<◌, zero-le, suc-le-suc}
use mathlib.Core.Path.{◌≡◌, refl, sym, ap, subst, ◌∙◌}
use mathlib.Core.List.{List, [], ◌∷◌, ◌++◌}
use mathlib.Core.Bool.{Bool, true, false, cond}
use mathlib.Core.Logic.{◌⊎◌, inl, inr, ◌≢◌}
use native.Mathlib.Nat.{le_of_suc-le-suc, not-suc-le-zero}
use native.Mathlib.Numerals.{add-one}
use native.Mathlib.Omega.{arith}
use native.Mathlib.Decide.{ℕ_discrete}
use borrow.Author.Tests.{lt-ltb, le-ltb, ltb-true, ltb-false, eqb-true, eqb-false, eq-eqb, ne_eqb}
use lib.Dec.{eqb}
use lib.ListN.{length, get_or, set, take, drop, drop_of_length-le, replicate, length-take, length-append, length-set, get_or-replicate}
use lib.Seq.{get_or-set_same, get_or-set_other, take-suc-set, length-take-le}
use Rattle.std.proofs.lemmas.List.{drop_more}
use Rattle.lists.specs.Rows.{first_in}
use Rattle.lists.specs.Members.{In, Distinct}
use Rattle.lists.proofs.Members.{fresh_in, fresh_of}
use Rattle.lists.proofs.FirstIn.{first_in_passes}
use Rattle.link_graph.specs.Graph.{node_of, has_node, counted}
use Rattle.link_graph.specs.Columns.{mark, Marked, Counted}

-- ---- the first that passes, of a list with one more at its end
module _ (p : ℕ → Bool) (x : ℕ) where
  first_old : (l : List ℕ) → first_in p l < length l → first_in p (l ++ (x ∷ [])) ≡ first_in p l
  unfolding first_in
  first_old [] h = absurd (not-suc-le-zero h)
  first_old (y ∷ l) h = go (p y) h (first_old l)
    where
      go : (t : Bool) → cond t zero (suc (first_in p l)) < suc (length l) → (first_in p l < length l → first_in p (l ++ (x ∷ [])) ≡ first_in p l)
          → cond t zero (suc (first_in p (l ++ (x ∷ [])))) ≡ cond t zero (suc (first_in p l))
      go true q ih = refl
      go false q ih = ap suc (ih (le_of_suc-le-suc q))

  first_new : (l : List ℕ) → length l ≤ first_in p l → first_in p (l ++ (x ∷ [])) ≡ length l + cond (p x) zero (suc zero)
  unfolding first_in
  first_new [] h = go (p x)
    where
      go : (t : Bool) → cond t zero (suc zero) ≡ 0 + cond t zero (suc zero)
      go true = refl
      go false = refl
  first_new (y ∷ l) h = go (p y) h (first_new l)
    where
      go : (t : Bool) → suc (length l) ≤ cond t zero (suc (first_in p l)) → (length l ≤ first_in p l → first_in p (l ++ (x ∷ [])) ≡ length l + cond (p x) zero (suc zero))
          → cond t zero (suc (first_in p (l ++ (x ∷ [])))) ≡ suc (length l) + cond (p x) zero (suc zero)
      go true q ih = absurd (not-suc-le-zero q)
      go false q ih = let e = ih (le_of_suc-le-suc q) in omega arith

-- ---- a unit has a node exactly if it is one of them
module _ (v : ℕ) where
  pub in_has : (l : List ℕ) → In v l → node_of l v < length l
  unfolding first_in
  in_has [] i = absurd i
  in_has (x ∷ l) i = go (eqb x v) refl i (in_has l)
    where
      go : (t : Bool) → eqb x v ≡ t → In v (x ∷ l) → (In v l → node_of l v < length l) → cond t zero (suc (node_of l v)) < suc (length l)
      go true e j ih = suc-le-suc zero-le
      go false e (inl q) ih = absurd (eqb-false x v e (sym q))
      go false e (inr j) ih = suc-le-suc (ih j)

  pub has_in : (l : List ℕ) → node_of l v < length l → In v l
  unfolding first_in
  has_in [] h = absurd (not-suc-le-zero h)
  has_in (x ∷ l) h = go (eqb x v) refl h (has_in l)
    where
      go : (t : Bool) → eqb x v ≡ t → cond t zero (suc (node_of l v)) < suc (length l) → (node_of l v < length l → In v l) → In v (x ∷ l)
      go true e q ih = inl (sym (eqb-true x v e))
      go false e q ih = inr (ih (le_of_suc-le-suc q))

  -- its node is its place
  pub node_back : (l : List ℕ) → In v l → get_or l (node_of l v) 0 ≡ v
  node_back l i = eqb-true _ _ (first_in_passes (λ x. eqb x v) l 0 (in_has l i))

-- ---- members of a list with one more at its end
module _ (v x : ℕ) where
  in_front : (l : List ℕ) → In v l → In v (l ++ (x ∷ []))
  in_front [] i = absurd i
  in_front (y ∷ l) (inl e) = inl e
  in_front (y ∷ l) (inr i) = inr (in_front l i)

  in_last : (l : List ℕ) → v ≡ x → In v (l ++ (x ∷ []))
  in_last [] e = inl e
  in_last (y ∷ l) e = inr (in_last l e)

  front_or_last : (l : List ℕ) → In v (l ++ (x ∷ [])) → In v l ⊎ (v ≡ x)
  front_or_last [] (inl e) = inr e
  front_or_last [] (inr i) = absurd i
  front_or_last (y ∷ l) (inl e) = inl (inl e)
  front_or_last (y ∷ l) (inr i) = go (front_or_last l i)
    where
      go : In v l ⊎ (v ≡ x) → In v (y ∷ l) ⊎ (v ≡ x)
      go (inl j) = inl (inr j)
      go (inr e) = inr e

distinct_more : (x : ℕ) (l : List ℕ) → Distinct l → (In x l → ⊥) → Distinct (l ++ (x ∷ []))
distinct_more x [] d n = (tt, tt)
distinct_more x (y ∷ l) d n = (
  fresh_of y (l ++ (x ∷ [])) (λ v i e. go v e (front_or_last v x l i)),
  distinct_more x l d.1 (λ i. n (inr i)),
)
  where
    go : (v : ℕ) → y ≡ v → In v l ⊎ (v ≡ x) → ⊥
    go v e (inl i) = fresh_in y l d.0 (subst (λ (z : ℕ). In z l) (sym e) i)
    go v e (inr q) = n (inl (sym (e ∙ q)))

-- ---- the units, counted
module _ (v : ℕ) where
  pub counted-seen : (us seen : List ℕ) → In v seen → In v (counted seen us)
  unfolding counted
  counted-seen [] seen i = i
  counted-seen (x ∷ us) seen i = counted-seen us (cond (has_node seen x) seen (seen ++ (x ∷ []))) (go (has_node seen x))
    where
      go : (t : Bool) → In v (cond t seen (seen ++ (x ∷ [])))
      go true = i
      go false = in_front v x seen i

  pub counted_in : (us seen : List ℕ) → In v us → In v (counted seen us)
  unfolding counted
  counted_in [] seen i = absurd i
  counted_in (x ∷ us) seen (inl e) = go (has_node seen x) refl
    where
      go : (t : Bool) → has_node seen x ≡ t → In v (counted (cond t seen (seen ++ (x ∷ []))) us)
      go true q = counted-seen us seen (subst (λ (z : ℕ). In z seen) (sym e) (has_in x seen (ltb-true _ _ q)))
      go false q = counted-seen us (seen ++ (x ∷ [])) (in_last v x seen e)
  counted_in (x ∷ us) seen (inr i) = counted_in us (cond (has_node seen x) seen (seen ++ (x ∷ []))) i

  pub in_counted : (us seen : List ℕ) → In v (counted seen us) → In v seen ⊎ In v us
  unfolding counted
  in_counted [] seen i = inl i
  in_counted (x ∷ us) seen i = go (has_node seen x) (in_counted us (cond (has_node seen x) seen (seen ++ (x ∷ []))) i)
    where
      last : In v seen ⊎ (v ≡ x) → In v seen ⊎ In v (x ∷ us)
      last (inl j) = inl j
      last (inr e) = inr (inl e)

      go : (t : Bool) → In v (cond t seen (seen ++ (x ∷ []))) ⊎ In v us → In v seen ⊎ In v (x ∷ us)
      go true (inl j) = inl j
      go false (inl j) = last (front_or_last v x seen j)
      go true (inr j) = inr (inr j)
      go false (inr j) = inr (inr j)

pub counted_once : (us seen : List ℕ) → Distinct seen → Distinct (counted seen us)
unfolding counted
counted_once [] seen d = d
counted_once (x ∷ us) seen d = counted_once us (cond (has_node seen x) seen (seen ++ (x ∷ []))) (go (has_node seen x) refl)
  where
    go : (t : Bool) → has_node seen x ≡ t → Distinct (cond t seen (seen ++ (x ∷ [])))
    go true e = d
    go false e = distinct_more x seen d (λ i. let h = in_has x seen i in let k = ltb-false (node_of seen x) (length seen) e in omega arith)

pub length-counted : (us seen : List ℕ) → length (counted seen us) ≤ length seen + length us
unfolding counted
length-counted [] seen = omega arith
length-counted (x ∷ us) seen =
    let ih = length-counted us (cond (has_node seen x) seen (seen ++ (x ∷ []))) in
    let more = go (has_node seen x) in
    omega arith
  where
    go : (t : Bool) → length (cond t seen (seen ++ (x ∷ []))) ≤ suc (length seen)
    go true = omega arith
    go false = omega (arith, length-append seen (x ∷ []))

-- ---- the column
module _ (seen : List ℕ) (few : length seen ≤ 65535) (v : ℕ) where
  no_node : mark seen v ≡ 65535 → has_node seen v ≡ false
  unfolding mark
  no_node e = go (has_node seen v) refl e
    where
      go : (t : Bool) → has_node seen v ≡ t → cond t (node_of seen v) 65535 ≡ 65535 → t ≡ false
      go true q h = let k = ltb-true (node_of seen v) (length seen) q in absurd (omega arith)
      go false q h = refl

  some-node : mark seen v ≢ 65535 → has_node seen v ≡ true
  unfolding mark
  some-node e = go (has_node seen v) e
    where
      go : (t : Bool) → cond t (node_of seen v) 65535 ≢ 65535 → t ≡ true
      go true h = refl
      go false h = absurd (h refl)

pub mark_is : (seen : List ℕ) (v : ℕ) → has_node seen v ≡ true → mark seen v ≡ node_of seen v
unfolding mark
mark_is seen v e = rw e

pub no_mark : (seen : List ℕ) (v : ℕ) → has_node seen v ≡ false → mark seen v ≡ 65535
unfolding mark
no_mark seen v e = rw e

-- the unit x is new
module _ (seen : List ℕ) (x : ℕ) (new : has_node seen x ≡ false) where
  mark_new : mark (seen ++ (x ∷ [])) x ≡ length seen
  unfolding mark
  mark_new =
      let at : node_of (seen ++ (x ∷ [])) x ≡ length seen + 0 =
      first_new (λ y. eqb y x) x seen (ltb-false _ _ new) ∙ ap (λ (t : Bool). length seen + cond t zero (suc zero)) (eq-eqb x x refl) in
      let long = length-append seen (x ∷ []) in
      rw (lt-ltb (node_of (seen ++ (x ∷ [])) x) (length (seen ++ (x ∷ []))) (omega arith)) (omega arith)

  mark_other : (v : ℕ) → v ≢ x → mark (seen ++ (x ∷ [])) v ≡ mark seen v
  unfolding mark
  mark_other v n = go (has_node seen v) refl
    where
      go : (t : Bool) → has_node seen v ≡ t
          → cond (has_node (seen ++ (x ∷ [])) v) (node_of (seen ++ (x ∷ [])) v) 65535 ≡ cond t (node_of seen v) 65535
      go true e =
          let at = first_old (λ y. eqb y v) x seen (ltb-true _ _ e) in
          let long = length-append seen (x ∷ []) in
          rw (lt-ltb (node_of (seen ++ (x ∷ [])) v) (length (seen ++ (x ∷ []))) (let k = ltb-true (node_of seen v) (length seen) e in omega arith)) at
      go false e =
          let at = first_new (λ y. eqb y v) x seen (ltb-false _ _ e) ∙ ap (λ (t : Bool). length seen + cond t zero (suc zero)) (ne_eqb x v (λ q. n (sym q))) in
          let long = length-append seen (x ∷ []) in
          rw (le-ltb (node_of (seen ++ (x ∷ [])) v) (length (seen ++ (x ∷ []))) (omega arith))

  marked_more : (column : List ℕ) (k : ℕ) → k ≡ length seen → x < length column → Marked column seen → Marked (set column x k) (seen ++ (x ∷ []))
  marked_more column k e h m = record { marks = λ v q. go v (rw (length-set column x k) at q) (ℕ_discrete v x) }
    where
      go : (v : ℕ) → v < length column → Dec (v ≡ x) → get_or (set column x k) v 0 ≡ mark (seen ++ (x ∷ [])) v
      go v q (yes p) = ap (λ (z : ℕ). get_or (set column x k) z 0) p ∙ get_or-set_same column x k 0 h ∙ e ∙ sym mark_new ∙ ap (mark (seen ++ (x ∷ []))) (sym p)
      go v q (no n) = get_or-set_other column x v k 0 n ∙ m.marks v q ∙ sym (mark_other v n)

pub marked_blank : (column : List ℕ) → column ≡ replicate (length column) 65535 → Marked column []
unfolding mark first_in
marked_blank column e = record { marks = λ v h. ap (λ (l : List ℕ). get_or l v 0) e ∙ get_or-replicate (length column) v 65535 0 h }

-- ---- a turn of the counting
count_new : (seen us : List ℕ) (x : ℕ) → has_node seen x ≡ false → counted seen (x ∷ us) ≡ counted (seen ++ (x ∷ [])) us
unfolding counted
count_new seen us x e = rw e

count_old : (seen us : List ℕ) (x : ℕ) → has_node seen x ≡ true → counted seen (x ∷ us) ≡ counted seen us
unfolding counted
count_old seen us x e = rw e

-- counting the units from place i on, after the first m of `nodes`, is counting all; the column has these nodes
pub record Counting (us nodes column : List ℕ) (i m : ℕ) : Type 0 where
  pub few : m ≤ i
  pub counts : counted (take m nodes) (drop i us) ≡ counted [] us
  pub marked : Marked column (take m nodes)

module _ {us nodes column : List ℕ} {i m : ℕ} (t : Counting us nodes column i m) (h : i < length us) (small : length us ≤ 1024) (inside : get_or us i 0 < length column) where
  abbrev seen : List ℕ
  seen = take m nodes

  abbrev x : ℕ
  x = get_or us i 0

  rest_of : drop i us ≡ x ∷ drop (i + 1) us
  rest_of = drop_more us i 0 h

  few : m ≤ 1024
  few = omega (arith, t.few)

  short : length seen ≤ 65535
  short = omega (arith, length-take m nodes, few)

  -- unit i has no node: it gets the next one
  pub counting_new : m < length nodes → get_or column x 0 ≡ 65535 → Counting us (set nodes m x) (set column x m) (i + 1) (m + 1)
  counting_new room none =
      let new = no_node seen short x (sym (t.marked.marks x inside) ∙ none) in
      let more : take (m + 1) (set nodes m x) ≡ seen ++ (x ∷ []) = rw (add-one m) (take-suc-set nodes m x room) in
      record {
        few = omega (arith, t.few);
        counts = ap (λ (l : List ℕ). counted l (drop (i + 1) us)) more ∙ sym (count_new seen (drop (i + 1) us) x new) ∙ ap (counted seen) (sym rest_of) ∙ t.counts;
        marked = subst (Marked (set column x m)) (sym more) (marked_more seen x new column m (sym (length-take-le m nodes (omega arith))) inside t.marked);
      }

  -- it has one
  pub counting_old : get_or column x 0 ≢ 65535 → Counting us nodes column (i + 1) m
  counting_old some =
      let has = some-node seen short x (λ e. some (t.marked.marks x inside ∙ e)) in
      record {
        few = omega (arith, t.few);
        counts = sym (count_old seen (drop (i + 1) us) x has) ∙ ap (counted seen) (sym rest_of) ∙ t.counts;
        marked = t.marked;
      }

pub counting_done : {us nodes column : List ℕ} {i m : ℕ} → Counting us nodes column i m → length us ≤ i → i ≤ length us → Counted us column nodes m
unfolding counted
counting_done {us} {nodes} {column} {i} {m} t h k =
    let all : take m nodes ≡ counted [] us = sym (ap (counted (take m nodes)) (drop_of_length-le us h)) ∙ t.counts in
    record { is = all; marked = subst (Marked column) all t.marked; small = omega (arith, t.few) }
