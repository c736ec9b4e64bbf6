-- The column by name that says where a unit's record is: while units with a split made by hand are marked, while the records are, and what it stands for.
-- Assumes nothing.
use Prim.Native.Nat.{ℕ, zero, suc, ◌+◌, ◌≤◌, ◌<◌, zero-le, suc-le-suc}
use mathlib.Core.Path.{◌≡◌, refl, sym, ap, ap₂, ◌∙◌}
use mathlib.Core.List.{List, ◌∷◌, map}
use mathlib.Core.Bool.{Bool, true, false, cond, not, ◌&&◌, ◌||◌, or-false}
use mathlib.Core.Logic.{◌≢◌}
use native.Mathlib.Omega.{arith}
use native.Mathlib.Decide.{ℕ_discrete}
use borrow.Author.Tests.{ltb-true, ltb-false, lt-ltb, le-ltb, eq-eqb, ne_eqb}
use lib.Dec.{eqb, ltb}
use lib.ListN.{length, get_or, drop, set, replicate, length-replicate, get_or-replicate}
use lib.Seq.{get_or-set_same, get_or-set_other}
use Rattle.std.proofs.lemmas.List.{drop_more}
use Rattle.std.proofs.lemmas.Bool.{and_right}
use Rattle.lists.specs.Rows.{tabulate, first_in, some}
use Rattle.lists.specs.Sort.{All}
use Rattle.lists.proofs.All.{all_map, all_at}
use Rattle.lists.proofs.SomeRows.{some_more}
use Rattle.lists.proofs.Ranks.{map_same}
use Rattle.obj.specs.declared.Split.{Split}
use Rattle.obj.specs.declared.Unit as units
use Rattle.obj.specs.Nothing.{no_unit}
use Rattle.splits.specs.Questions.{is_auto}
use Rattle.link_graph.specs.Graph.{nodes}
use Rattle.order.specs.LinkOrder.{hand_of, first_record, made_unit, record_of, records_of}
use Rattle.order.specs.Columns.{record_mark, Recorded, HandMarked, RecordMarked, record_by, node_record}

-- ---- splits made by hand, of the first i rows
module _ (f : ℕ → Split) (before : List ℕ) where
  pub hand_none : HandMarked (tabulate f 0 0) before before
  unfolding some tabulate
  hand_none = record { marks = λ v h. refl }

  module _ (i : ℕ) (column : List ℕ) (m : HandMarked (tabulate f 0 i) before column) where
    -- row i does not change what is marked for v
    same_mark : (v : ℕ) → hand_of v (f i) ≡ false → (x : ℕ) → cond (some (hand_of v) (tabulate f 0 i)) 65534 x ≡ cond (some (hand_of v) (tabulate f 0 (i + 1))) 65534 x
    same_mark v e x =
        ap (λ (t : Bool). cond t 65534 x)
        (sym (some_more (hand_of v) f i ∙ ap (λ (t : Bool). some (hand_of v) (tabulate f 0 i) || t) e ∙ or-false (some (hand_of v) (tabulate f 0 i))))

    pub hand_auto : is_auto (f i) ≡ true → HandMarked (tabulate f 0 (i + 1)) before column
    hand_auto e = record { marks = λ v h. m.marks v h ∙ same_mark v (and_right (eqb (f i).unit v) _ (ap not e)) (get_or before v 0) }

    pub hand_made : is_auto (f i) ≡ false → (f i).unit < length column → HandMarked (tabulate f 0 (i + 1)) before (set column (f i).unit 65534)
    hand_made e inside = record { marks = λ v h. go v h (ℕ_discrete v (f i).unit) }
      where
        here : (t : Bool) (v : ℕ) → v ≡ (f i).unit → some (hand_of v) (tabulate f 0 i) ≡ t → some (hand_of v) (tabulate f 0 (i + 1)) ≡ true
        here t v q s = some_more (hand_of v) f i ∙ ap₂ (λ (a b : Bool). a || b) s (ap₂ (λ (a b : Bool). a && b) (eq-eqb (f i).unit v (sym q)) (ap not e)) ∙ any t
          where
            any : (u : Bool) → (u || true) ≡ true
            any true = refl
            any false = refl

        go : (v : ℕ) → v < length before → Dec (v ≡ (f i).unit)
            → get_or (set column (f i).unit 65534) v 0 ≡ cond (some (hand_of v) (tabulate f 0 (i + 1))) 65534 (get_or before v 0)
        go v h (yes q) =
            ap (λ (k : ℕ). get_or (set column (f i).unit 65534) k 0) q
            ∙ get_or-set_same column (f i).unit 65534 0 inside
            ∙ ap (λ (t : Bool). cond t 65534 (get_or before v 0)) (sym (here (some (hand_of v) (tabulate f 0 i)) v q refl))
        go v h (no n) =
            get_or-set_other column (f i).unit v 65534 0 n
            ∙ m.marks v h
            ∙ same_mark v (ap (λ (t : Bool). t && not (is_auto (f i))) (ne_eqb (f i).unit v (λ q. n (sym q)))) (get_or before v 0)

-- ---- records, from the last to the first
-- those from k on are marked
pub record MarkedFrom (us : List units.Unit) (k : ℕ) (before column : List ℕ) : Type 0 where
  pub marks : (v : ℕ) → v < length before
      → get_or column v 0 ≡ cond (ltb (first_record (drop k us) v) (length (drop k us))) (k + first_record (drop k us) v) (get_or before v 0)

-- record k is marked over those behind it
module _ (us : List units.Unit) (k : ℕ) (before column : List ℕ) (h : k < length us) (m : MarkedFrom us (k + 1) before column)
    (name : ℕ) (is : name ≡ (get_or us k no_unit).name) (inside : name < length column) where
  pub marked_more : MarkedFrom us k before (set column name k)
  unfolding first_in
  marked_more = record {
    marks = λ v q.
        go v q (ℕ_discrete v name)
        ∙ ap (λ (l : List units.Unit). cond (ltb (first_record l v) (length l)) (k + first_record l v) (get_or before v 0)) (sym (drop_more us k no_unit h));
  }
    where
      first : (v : ℕ) (t : Bool) → eqb (get_or us k no_unit).name v ≡ t
          → cond (ltb (cond t zero (suc (first_record (drop (k + 1) us) v))) (suc (length (drop (k + 1) us)))) (k + cond t zero (suc (first_record (drop (k + 1) us) v))) (get_or before v 0)
          ≡ cond (ltb (first_record (get_or us k no_unit ∷ drop (k + 1) us) v) (length (get_or us k no_unit ∷ drop (k + 1) us))) (k + first_record (get_or us k no_unit ∷ drop (k + 1) us) v) (get_or before v 0)
      first v t e =
          ap (λ (b : Bool). cond (ltb (cond b zero (suc (first_record (drop (k + 1) us) v))) (suc (length (drop (k + 1) us)))) (k + cond b zero (suc (first_record (drop (k + 1) us) v))) (get_or before v 0)) (sym e)

      same_test : (a b : ℕ) → ltb a b ≡ ltb (suc a) (suc b)
      same_test a b = by_test (ltb a b) refl
        where
          by_test : (t : Bool) → ltb a b ≡ t → t ≡ ltb (suc a) (suc b)
          by_test true e = sym (lt-ltb (suc a) (suc b) (suc-le-suc (ltb-true a b e)))
          by_test false e = sym (le-ltb (suc a) (suc b) (suc-le-suc (ltb-false a b e)))

      go : (v : ℕ) → v < length before → Dec (v ≡ name)
          → get_or (set column name k) v 0
          ≡ cond (ltb (first_record (get_or us k no_unit ∷ drop (k + 1) us) v) (length (get_or us k no_unit ∷ drop (k + 1) us))) (k + first_record (get_or us k no_unit ∷ drop (k + 1) us) v) (get_or before v 0)
      go v q (yes e) =
          ap (λ (i : ℕ). get_or (set column name k) i 0) e
          ∙ get_or-set_same column name k 0 inside
          ∙ (let z : k ≡ k + 0 = omega arith in z)
          ∙ ap (λ (t : Bool). cond t (k + 0) (get_or before v 0)) (sym (lt-ltb 0 (suc (length (drop (k + 1) us))) (suc-le-suc zero-le)))
          ∙ first v true (eq-eqb _ _ (sym is ∙ sym e))
      go v q (no n) =
          get_or-set_other column name v k 0 n
          ∙ m.marks v q
          ∙ ap₂ (λ (t : Bool) (i : ℕ). cond t i (get_or before v 0)) (same_test (first_record (drop (k + 1) us) v) (length (drop (k + 1) us)))
          (let z : k + 1 + first_record (drop (k + 1) us) v ≡ k + suc (first_record (drop (k + 1) us) v) = omega arith in z)
          ∙ first v false (ne_eqb _ _ (λ e. n (sym (is ∙ e))))

-- ---- the column, filled
pub recorded : (splits : List Split) (us : List units.Unit) (n : ℕ) (c₁ c₂ c₃ : List ℕ) → c₁ ≡ replicate n 65535 → length c₃ ≡ n → length c₂ ≡ n
    → HandMarked splits c₁ c₂ → RecordMarked us c₂ c₃ → Recorded splits us c₃
unfolding record_mark
recorded splits us n c₁ c₂ c₃ e l₃ l₂ hand records = record {
  marks = λ v h.
      let in₂ : v < length c₂ = omega arith in
      let in₁ : v < length c₁ = rw e (let z = length-replicate {A = ℕ} n 65535 in omega arith) in
      records.marks v in₂
      ∙ ap (λ (x : ℕ). cond (ltb (first_record us v) (length us)) (first_record us v) x)
      (hand.marks v in₁ ∙ ap (λ (x : ℕ). cond (some (hand_of v) splits) 65534 x) (ap (λ (l : List ℕ). get_or l v 0) e ∙ get_or-replicate n v 65535 0 (omega arith)));
}

-- .. blank at first, with those made by hand, and then with the records
pub filled : (splits : List Split) (us : List units.Unit) (c c₁ c₂ c₃ : List ℕ) → c₁ ≡ replicate (length c) 65535 → length c₁ ≡ length c → length c₂ ≡ length c₁
    → length c₃ ≡ length c₂ → HandMarked splits c₁ c₂ → RecordMarked us c₂ c₃ → Recorded splits us c₃ × (length c₃ ≡ length c)
filled splits us c c₁ c₂ c₃ e l₁ l₂ l₃ hand records = (recorded splits us (length c) c₁ c₂ c₃ e (l₃ ∙ l₂ ∙ l₁) (l₂ ∙ l₁) hand records, l₃ ∙ l₂ ∙ l₁)

module _ (splits : List Split) (us : List units.Unit) (v : ℕ) where
  -- each kind of mark
  pub by_auto : (mark : ℕ) → mark ≡ 65535 → record_by us mark v ≡ made_unit v 1
  unfolding record_by
  by_auto mark e = rw (eq-eqb mark 65535 e)

  pub by_hand : (mark : ℕ) → mark ≢ 65535 → mark ≡ 65534 → record_by us mark v ≡ made_unit v 0
  unfolding record_by
  by_hand mark n e = rw (ne_eqb mark 65535 n, eq-eqb mark 65534 e)

  pub by_record : (mark : ℕ) → mark ≢ 65535 → mark ≢ 65534 → record_by us mark v ≡ get_or us mark no_unit
  unfolding record_by
  by_record mark n m = rw (ne_eqb mark 65535 n, ne_eqb mark 65534 m)

  -- the record that a unit's mark stands for is its record
  pub record_by_lem : length us ≤ 1024 → record_by us (record_mark splits us v) v ≡ record_of splits us v
  unfolding record_mark record_by record_of
  record_by_lem few = by_record (ltb (first_record us v) (length us)) refl (some (hand_of v) splits)
    where
      by_record : (t : Bool) → ltb (first_record us v) (length us) ≡ t → (s : Bool)
          → cond (eqb (cond t (first_record us v) (cond s 65534 65535)) 65535) (made_unit v 1)
          (cond (eqb (cond t (first_record us v) (cond s 65534 65535)) 65534) (made_unit v 0) (get_or us (cond t (first_record us v) (cond s 65534 65535)) no_unit))
          ≡ cond t (get_or us (first_record us v) no_unit) (made_unit v (cond s 0 1))
      by_record true e s =
          let h = ltb-true (first_record us v) (length us) e in
          rw (ne_eqb (first_record us v) 65535 (λ q. omega arith), ne_eqb (first_record us v) 65534 (λ q. omega arith))
      by_record false e true = refl
      by_record false e false = refl

  -- a mark of a record is that of one that is there
  pub mark_inside : record_mark splits us v < 65534 → record_mark splits us v < length us
  unfolding record_mark
  mark_inside h = by_record (ltb (first_record us v) (length us)) refl (some (hand_of v) splits) h
    where
      by_record : (t : Bool) → ltb (first_record us v) (length us) ≡ t → (s : Bool) → cond t (first_record us v) (cond s 65534 65535) < 65534
          → cond t (first_record us v) (cond s 65534 65535) < length us
      by_record true e s q = ltb-true (first_record us v) (length us) e
      by_record false e true q = absurd (omega arith)
      by_record false e false q = absurd (omega arith)

pub records_are : (splits : List Split) (us : List units.Unit) (column nodes' list : List ℕ) → length us ≤ 1024 → nodes' ≡ nodes splits → Recorded splits us column
    → All (λ v. v < length nodes') list → All (λ x. x < length column) nodes' → map (node_record us column nodes') list ≡ records_of splits us list
unfolding records_of
records_are splits us column nodes' list few e r inside named =
    map_same (node_record us column nodes') (λ v. record_of splits us (get_or (nodes splits) v 0)) _
    (all_map (λ v h.
    let x = get_or nodes' v 0 in
    ap (λ (m : ℕ). record_by us m x) (r.marks x (all_at v 0 named h))
    ∙ record_by_lem splits us x few
    ∙ ap (λ (l : List ℕ). record_of splits us (get_or l v 0)) e) inside)
