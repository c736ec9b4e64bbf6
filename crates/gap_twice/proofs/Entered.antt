-- What the entering of gaps leaves: the splits with those of the gaps among them, where no gap starts where a split does and no split is of a gap's unit. Each gap's
-- split is then pushed, and a push is an insertion by section and start. Assumes nothing.
use mathlib.Core.Path.{◌≡◌, refl, sym, ap, ◌∙◌}
use mathlib.Core.List.{List, [], ◌∷◌, ◌++◌, map}
use mathlib.Core.Bool.{Bool, true, false, cond, ◌&&◌, false≢true}
use mathlib.Core.Logic.{◌⊎◌, inl, inr}
use Prim.Native.Nat.{ℕ, ◌≤◌, ◌<◌}
use native.Mathlib.Omega.{arith}
use lib.Dec.{eqb, leb, ltb}
use lib.ListN.{length, length-append, get_or, get_or-append}
use borrow.Author.Tests.{lt-ltb, le-ltb, le-leb, lt-leb, eq-eqb, ne_eqb, ltb-true, ltb-false, eqb-true}
use Rattle.std.proofs.lemmas.Bool.{cases_order, and_right}
use Rattle.lists.specs.Outcome.{accepted, refuse, ◌>>◌}
use Rattle.lists.specs.Rows.{keep_if, first_in}
use Rattle.lists.specs.InsertBy.{insert_by}
use Rattle.lists.specs.Sort.{All, none, each, Rising, insert_key, merge_by}
use Rattle.lists.proofs.All.{all_map, all_both, all_insert, all_first, all_rest}
use Rattle.lists.proofs.Filter.{keep_nothing}
use Rattle.lists.proofs.Outcomes.{same_accepted, then_inv, bind_inv}
use Rattle.obj.specs.declared.Section.{Section}
use Rattle.obj.specs.declared.Split.{Split}
use Rattle.names.specs.Names.{same_name, number_of}
use Rattle.names.proofs.Laws.{same_self, number_le}
use Rattle.splits.specs.Questions.{of_unit}
use Rattle.split_edits.specs.Edits.{together, after, grouped, pushed}
use Rattle.merge.specs.Merge.{Given, given}
use Rattle.gap_columns.specs.Columns.{Gap, key_of}
use Rattle.gap_splits.specs.Entering.{Filled, Ceilings, Named, full, named, gap_split, unit_name, entered, filled}
use Rattle.gap_splits.proofs.GapNames.{other_names}
use Rattle.gap_splits.proofs.Naming.{number_there, number_after}
use Rattle.gap_laws.proofs.Named.{Gives, named_gives, entered_comes}
use Rattle.gap_laws.proofs.Tables.{entered_added}
use Rattle.gap_laws.proofs.Covers.{merge_pushes}
use Rattle.gap_twice.specs.Twice.{split_key, gap_row, with_gap_splits, Low}
use Rattle.gap_twice.proofs.MergedByKey.{merge_first, insert_by_key}
use Rattle.gap_twice.proofs.AllSections.{all_rows}

-- ---- a push

-- where no split starts at the new one's start, the group there is empty
grouped-none : (section start : ℕ) {rows : List Split} → All (λ y. together section start y ≡ false) rows → grouped section start rows ≡ rows
unfolding grouped
grouped-none section start none = refl
grouped-none section start (each {x = y} e h) = rw e (ap (λ (l : List Split). y ∷ l) (grouped-none section start h))

module _ (new y : Split) (h : Low new) (l : Low y) (apart : split_key y ≡ split_key new → ⊥) where
  -- it is not together with another
  apart-together : together new.section new.start y ≡ false
  apart-together = go (eqb y.section new.section) (eqb y.start new.start) refl refl
    where
      go : (t u : Bool) → eqb y.section new.section ≡ t → eqb y.start new.start ≡ u → (t && u) ≡ false
      go true true p q = absurd (apart (let a = eqb-true y.section new.section p in let b = eqb-true y.start new.start q in omega arith))
      go true false p q = refl
      go false u p q = refl

  -- and lies before another if its key is below
  after-place : after new y ≡ leb (split_key new) (split_key y)
  after-place = go (cases_order new.section y.section) (cases_order new.start y.start)
    where
      go : (new.section ≡ y.section) ⊎ ((new.section < y.section) ⊎ (y.section < new.section)) → (new.start ≡ y.start) ⊎ ((new.start < y.start) ⊎ (y.start < new.start)) → after new y ≡ leb (split_key new) (split_key y)
      go (inl a) (inl b) = absurd (apart (omega arith))
      go (inl a) (inr (inl b)) =
          rw (le-ltb new.section y.section (omega arith), eq-eqb new.section y.section a, lt-ltb new.start y.start b, le-leb (split_key new) (split_key y) (omega arith))
      go (inl a) (inr (inr b)) =
          rw (
            le-ltb new.section y.section (omega arith),
            eq-eqb new.section y.section a,
            le-ltb new.start y.start (omega arith),
            ne_eqb new.start y.start (λ e. omega arith),
            lt-leb (split_key new) (split_key y) (omega arith),
          )
      go (inr (inl a)) b = rw (lt-ltb new.section y.section a, le-leb (split_key new) (split_key y) (omega arith))
      go (inr (inr a)) b = rw (le-ltb new.section y.section (omega arith), ne_eqb new.section y.section (λ e. omega arith), lt-leb (split_key new) (split_key y) (omega arith))

-- THEOREM: a push where no split starts at the new one's start is an insertion by section and start
pub push_insert : (new : Split) (rows : List Split) → Low new → All Low rows → All (λ y. split_key y ≡ split_key new → ⊥) rows → pushed new rows ≡ insert_key split_key new rows
unfolding pushed
push_insert new rows h low apart =
    ap (insert_by (after new) new) (grouped-none new.section new.start (all_map (λ y q. apart-together new y h q.0 q.1) (all_both low apart)))
    ∙ insert_by_key split_key (after new) new (all_map (λ y q. after-place new y h q.0 q.1) (all_both low apart))

-- ---- a name

number_first : (x : List ℕ) → number_of (x ∷ []) x ≡ 0
unfolding number_of first_in
number_first x = rw (same_self x)

-- what is named has the number of its name
module _ (room : Ceilings) (section start : ℕ) (names : List (List ℕ)) (x : List ℕ) where
  pub named_number : (r : Named) → named room section start names x ≡ accepted r → (r.number ≡ number_of r.names x) × (r.number < length r.names)
  unfolding named
  named_number r e = go (ltb (number_of names x) (length names)) refl e
    where
      go : (t : Bool) → ltb (number_of names x) (length names) ≡ t
          → cond t (accepted (record { names = names; number = number_of names x })) (refuse 28 section start (full room names x) >> accepted (record { names = names ++ (x ∷ []); number = length names })) ≡ accepted r
          → (r.number ≡ number_of r.names x) × (r.number < length r.names)
      go true h q = rw (sym (same_accepted q)) (refl, ltb-true (number_of names x) (length names) h)
      go false h q =
          let p = then_inv 28 section start (full room names x) _ r q in
          let l = ltb-false (number_of names x) (length names) h in
          rw (sym (same_accepted p.1)) (sym (number_after names (x ∷ []) x (omega (arith, l, number_le names x)) ∙ omega (arith, number_first x)), omega (arith, length-append names (x ∷ [])))

-- ---- all gaps
module _ (section_name : ℕ → List ℕ) (heads : List Section) (most : ℕ) (room : Ceilings) where
  abbrev g : Given
  g = given heads most

  abbrev name_of : Gap → List ℕ
  name_of x = unit_name section_name g room x

  -- the number of a gap's unit among these names
  abbrev pub unit_in : List (List ℕ) → Gap → ℕ
  unit_in names x = number_of names (name_of x)

  -- a split's unit has a name, and it is not that of one of the gaps
  pub record Other (names : List (List ℕ)) (gaps : List Gap) (s : Split) : Type 0 where
    pub named : s.unit < length names
    pub other : All (λ x. same_name (name_of x) (get_or names s.unit []) ≡ false) gaps

  -- a gap whose name tells its place
  abbrev pub Telling : Gap → Type 0
  Telling x = (x.section < 64) × (x.start ≤ 4026531840)

  -- these gaps may enter
  pub record Ready (t : Filled) (gaps : List Gap) : Type 0 where
    pub low : All Low t.rows
    pub apart : All (λ s. All (λ x. key_of x ≡ split_key s → ⊥) gaps) t.rows
    pub units : All (Other t.names gaps) t.rows

  -- no split starts where the next gap does
  away_from : (t : Filled) (x : Gap) (l : List Gap) (unit : ℕ) → All (λ s. All (λ y. key_of y ≡ split_key s → ⊥) (x ∷ l)) t.rows → All (λ s. split_key s ≡ split_key (gap_split x unit) → ⊥) t.rows
  away_from t x l unit q = all_map (λ s h (e : split_key s ≡ key_of x). let a : key_of x ≡ split_key s → ⊥ = all_first h in a (sym e)) q

  -- a name that is there keeps its number
  number_kept : (x : Gap) (unit : Named) (t t' : Filled) → t.names ≡ unit.names → (unit.number ≡ number_of unit.names (name_of x)) × (unit.number < length unit.names)
      → (more : List (List ℕ)) × (t'.names ≡ t.names ++ more) → unit.number ≡ unit_in t'.names x
  number_kept x unit t t' e k more =
      let q : number_of unit.names (name_of x) < length unit.names = omega (arith, k.0, k.1) in
      k.0 ∙ sym (ap (λ (m : List (List ℕ)). number_of m (name_of x)) (more.1 ∙ ap (λ (m : List (List ℕ)). m ++ more.0) e) ∙ number_there unit.names more.0 (name_of x) q)

  -- the unit of the next gap has no split yet
  own_none : (t : Filled) (x : Gap) (l : List Gap) (unit : Named) → Gives room t.names (name_of x) unit → All (Other t.names (x ∷ l)) t.rows → keep_if (of_unit x.section unit.number) t.rows ≡ []
  own_none t x l unit n q = keep_nothing (of_unit x.section unit.number) t.rows (all_map (λ s o. and_right (eqb s.section x.section) _ (ne_eqb s.unit unit.number (differ s o))) q)
    where
      differ : (s : Split) → Other t.names (x ∷ l) s → s.unit ≡ unit.number → ⊥
      differ s o e = false≢true (sym (all_first o.other) ∙ ap (same_name (name_of x)) is ∙ same_self (name_of x))
        where
          is : get_or t.names s.unit [] ≡ name_of x
          is = sym (get_or-append t.names n.more [] s.unit o.named) ∙ ap (λ (m : List (List ℕ)). get_or m s.unit []) (sym n.grown) ∙ ap (λ (k : ℕ). get_or unit.names k []) e ∙ n.is

  -- one gap entered: the others may
  ready_on : (t : Filled) (x : Gap) (l : List Gap) (unit : Named) (t' : Filled) → Gives room t.names (name_of x) unit → unit.number < length unit.names → Telling x → All Telling l → All (λ y. key_of x < key_of y) l → Ready t (x ∷ l)
      → t'.names ≡ unit.names → t'.rows ≡ insert_key split_key (gap_split x unit.number) t.rows → Ready t' l
  ready_on t x l unit t' n small told later above r en er = rw (en, er) (record {
    low = all_insert split_key (gap_split x unit.number) told.1 r.low;
    apart = all_insert split_key (gap_split x unit.number) (all_map (λ y (h : key_of x < key_of y) (e : key_of y ≡ key_of x). omega arith) above) (all_map (λ s q. all_rest q) r.apart);
    units = all_insert split_key (gap_split x unit.number) (record { named = small; other = all_map (λ y q. rw n.is (other_name y q.0 q.1)) (all_both later above) }) (all_map grow r.units);
  })
    where
      other_name : (y : Gap) → Telling y → key_of x < key_of y → same_name (name_of y) (name_of x) ≡ false
      other_name y q h =
          other_names y.section x.section y.start x.start (section_name y.section) (section_name x.section) (omega (arith, q.0)) (omega (arith, told.0)) (omega (arith, q.1)) (omega (arith, told.1))
          (λ e. omega arith)

      grow : (s : Split) → Other t.names (x ∷ l) s → Other unit.names l s
      grow s o = record {
        named = omega (arith, o.named, ap length n.grown, length-append t.names n.more);
        other = rw (ap (λ (m : List (List ℕ)). get_or m s.unit []) n.grown ∙ get_or-append t.names n.more [] s.unit o.named) (all_rest o.other);
      }

  -- THEOREM: gaps whose names tell their places, entered where no split starts and under units that have none, leave the splits with theirs among them
  pub entered_among : (t t' : Filled) (gaps : List Gap) → Rising key_of gaps → All Telling gaps → Ready t gaps → filled section_name g room t gaps ≡ accepted t' → t'.rows ≡ with_gap_splits (unit_in t'.names) gaps t.rows
  unfolding filled Rising merge_by
  entered_among t t' [] r told ready e = sym (ap (λ (f : Filled). f.rows) (same_accepted e))
  entered_among t t' (x ∷ l) r (each h told) ready e =
      let f = bind_inv (entered section_name g room t x) _ t' e in
      let c = entered_comes section_name g room t x f.0 f.1 in
      let n = named_gives room x.section x.start t.names (name_of x) c.unit c.named_as in
      let k = named_number room x.section x.start t.names (name_of x) c.unit c.named_as in
      let away = away_from t x l c.unit.number ready.apart in
      let inserted : f.0.rows ≡ insert_key split_key (gap_split x c.unit.number) t.rows =
      merge_pushes g t.rows (gap_split x c.unit.number) f.0.rows (own_none t x l c.unit n ready.units) c.merged
      ∙ push_insert (gap_split x c.unit.number) t.rows h.1 ready.low away in
      let ih = entered_among f.0 t' l r.1 told (ready_on t x l c.unit f.0 n k.1 h told r.0 ready c.names inserted) f.2 in
      let more = entered_added section_name heads most room f.0 t' l f.2 in
      ih
      ∙ ap (merge_by split_key (map (gap_row (unit_in t'.names)) l)) inserted
      ∙ merge_first split_key (gap_split x c.unit.number) (map (gap_row (unit_in t'.names)) l) (all_rows (unit_in t'.names) x r.0) away
      ∙ ap (λ (u : ℕ). merge_by split_key (gap_split x u ∷ map (gap_row (unit_in t'.names)) l) t.rows) (number_kept x c.unit f.0 t' c.names k more)
