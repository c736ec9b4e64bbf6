-- A gap's split covers exactly its gap, where its unit has no split in its section yet: it is pushed as it is. So it is with every gap whose name is new.
-- Assumes nothing.
use mathlib.Core.Path.{◌≡◌, refl, sym, ap, ◌∙◌}
use mathlib.Core.List.Memᴰ
use mathlib.Core.List.{List, [], ◌∷◌, ◌++◌, map, Memᴰ}
use mathlib.Core.Logic.{◌⊎◌, inl, inr}
use mathlib.Core.Bool.{Bool, true, false, cond}
use Prim.Native.Nat.{ℕ, ◌<◌}
use native.Mathlib.Omega.{arith}
use borrow.Author.Tests.{ne_eqb, le-ltb}
use lib.Dec.{eqb}
use lib.ListN.{length, length-map, get_or, get_or-eq_default}
use Rattle.std.proofs.lemmas.Bool.{and_right}
use Rattle.lists.specs.Outcome.{accepted}
use Rattle.lists.specs.Rows.{keep_if}
use Rattle.lists.specs.InsertBy.{insert_by}
use Rattle.lists.proofs.Each.{all_placed}
use Rattle.lists.proofs.Filter.{keep_nothing}
use Rattle.lists.proofs.Outcomes.{same_accepted, then_inv, bind_inv}
use Rattle.obj.specs.declared.Section.{Section}
use Rattle.obj.specs.declared.Split.{Split}
use Rattle.obj.specs.Nothing.{no_split}
use Rattle.tables.proofs.Laws as table-laws
use Rattle.names.specs.Names.{number_of}
use Rattle.splits.specs.Questions.{of_unit}
use Rattle.split_edits.specs.Edits.{together, stops, after, grouped, pushed}
use Rattle.merge.specs.Merge.{Given, Step, push, on_own, decide, merge_one, carried}
use Rattle.merge.proofs.Rounds.{merge_round, onward, round_push}
use Rattle.merge.proofs.Tables.{sound_of}
use Rattle.gap_columns.specs.Columns.{Gap}
use Rattle.gap_splits.specs.Entering.{Filled, Ceilings, Named, full, named, gap_split, unit_name, entered}
use Rattle.gap_splits.specs.Answers.{Absent}
use Rattle.gap_laws.specs.Good.{Faultless, Covers}
use Rattle.gap_laws.proofs.Named.{entered_comes}

-- ---- a push

-- what stands in a list into which x was inserted
module _ {A : Type 0} (p : A → Bool) (x : A) where
  insert_here : (l : List A) → Memᴰ x (insert_by p x l)
  unfolding insert_by
  insert_here [] = Memᴰ.head refl
  insert_here (y ∷ l) = go (p y) (insert_here l)
    where
      go : (t : Bool) → Memᴰ x (insert_by p x l) → Memᴰ x (cond t (x ∷ y ∷ l) (y ∷ insert_by p x l))
      go true ih = Memᴰ.head refl
      go false ih = Memᴰ.tail ih

  insert-kept : (s : A) (l : List A) → Memᴰ s l → Memᴰ s (insert_by p x l)
  unfolding insert_by
  insert-kept s [] m = absurd (Memᴰ.not-nil m)
  insert-kept s (y ∷ l) m = go (p y) (Memᴰ.cases_cons m) (insert-kept s l)
    where
      go : (t : Bool) → (s ≡ y) ⊎ Memᴰ s l → (Memᴰ s l → Memᴰ s (insert_by p x l)) → Memᴰ s (cond t (x ∷ y ∷ l) (y ∷ insert_by p x l))
      go true (inl e) ih = Memᴰ.tail (Memᴰ.head e)
      go true (inr k) ih = Memᴰ.tail (Memᴰ.tail k)
      go false (inl e) ih = Memᴰ.head e
      go false (inr k) ih = Memᴰ.tail (ih k)

  insert_only : (s : A) (l : List A) → Memᴰ s (insert_by p x l) → (s ≡ x) ⊎ Memᴰ s l
  unfolding insert_by
  insert_only s [] m = Memᴰ.cases_cons m
  insert_only s (y ∷ l) m = go (p y) m (insert_only s l)
    where
      below : (s ≡ x) ⊎ Memᴰ s l → (s ≡ x) ⊎ Memᴰ s (y ∷ l)
      below (inl e) = inl e
      below (inr k) = inr (Memᴰ.tail k)

      rest : (s ≡ y) ⊎ Memᴰ s (insert_by p x l) → (Memᴰ s (insert_by p x l) → (s ≡ x) ⊎ Memᴰ s l) → (s ≡ x) ⊎ Memᴰ s (y ∷ l)
      rest (inl e) ih = inr (Memᴰ.head e)
      rest (inr k) ih = below (ih k)

      go : (t : Bool) → Memᴰ s (cond t (x ∷ y ∷ l) (y ∷ insert_by p x l)) → (Memᴰ s (insert_by p x l) → (s ≡ x) ⊎ Memᴰ s l) → (s ≡ x) ⊎ Memᴰ s (y ∷ l)
      go true k ih = Memᴰ.cases_cons k
      go false k ih = rest (Memᴰ.cases_cons k) ih

-- the group at a start holds what it held
module _ (section start : ℕ) (s : Split) where
  group_kept : (l : List Split) → Memᴰ s l → Memᴰ s (grouped section start l)
  unfolding grouped
  group_kept [] m = m
  group_kept (y ∷ l) m = go (together section start y) (Memᴰ.cases_cons m) (group_kept l)
    where
      here : (s ≡ y) → Memᴰ s (insert_by (stops section start y.end) y (grouped section start l))
      here e = rw e (insert_here (stops section start y.end) y (grouped section start l))

      go : (t : Bool) → (s ≡ y) ⊎ Memᴰ s l → (Memᴰ s l → Memᴰ s (grouped section start l))
          → Memᴰ s (cond t (insert_by (stops section start y.end) y (grouped section start l)) (y ∷ grouped section start l))
      go true (inl e) ih = here e
      go true (inr k) ih = insert-kept (stops section start y.end) y s (grouped section start l) (ih k)
      go false (inl e) ih = Memᴰ.head e
      go false (inr k) ih = Memᴰ.tail (ih k)

  group_only : (l : List Split) → Memᴰ s (grouped section start l) → Memᴰ s l
  unfolding grouped
  group_only [] m = m
  group_only (y ∷ l) m = go (together section start y) m (group_only l)
    where
      rest : (s ≡ y) ⊎ Memᴰ s (grouped section start l) → (Memᴰ s (grouped section start l) → Memᴰ s l) → Memᴰ s (y ∷ l)
      rest (inl e) ih = Memᴰ.head e
      rest (inr k) ih = Memᴰ.tail (ih k)

      go : (t : Bool) → Memᴰ s (cond t (insert_by (stops section start y.end) y (grouped section start l)) (y ∷ grouped section start l))
          → (Memᴰ s (grouped section start l) → Memᴰ s l) → Memᴰ s (y ∷ l)
      go true k ih = rest (insert_only (stops section start y.end) y s (grouped section start l) k) ih
      go false k ih = rest (Memᴰ.cases_cons k) ih

-- THEOREM: after a push the new split stands in the table, every other still does, and no more
pub push_here : (new : Split) (rows : List Split) → Memᴰ new (pushed new rows)
unfolding pushed
push_here new rows = insert_here (after new) new (grouped new.section new.start rows)

pub push_kept : (new : Split) (rows : List Split) (s : Split) → Memᴰ s rows → Memᴰ s (pushed new rows)
unfolding pushed
push_kept new rows s m = insert-kept (after new) new s (grouped new.section new.start rows) (group_kept new.section new.start s rows m)

pub push_only : (new : Split) (rows : List Split) (s : Split) → Memᴰ s (pushed new rows) → (s ≡ new) ⊎ Memᴰ s rows
unfolding pushed
push_only new rows s m = go (insert_only (after new) new s (grouped new.section new.start rows) m)
  where
    go : (s ≡ new) ⊎ Memᴰ s (grouped new.section new.start rows) → (s ≡ new) ⊎ Memᴰ s rows
    go (inl e) = inl e
    go (inr k) = inr (group_only new.section new.start s rows k)

-- ---- a merge

-- an accepted decision on a split whose unit has none in its section is a push
decide_push : (g : Given) (rows : List Split) (new : Split) (step : Step) → keep_if (of_unit new.section new.unit) rows ≡ [] → decide g rows new ≡ accepted step → step ≡ push
unfolding decide on_own
decide_push g rows new step h e =
    let at-20 = then_inv _ _ _ _ _ _ e in
    let at-21 = then_inv _ _ _ _ _ _ at-20.1 in
    let at-27 = then_inv _ _ _ _ _ _ (sym (ap (on_own g.room rows new) h) ∙ at-21.1) in
    sym (same_accepted at-27.1)

-- THEOREM: a split whose unit has none in its section yet is pushed where it is accepted
pub merge_pushes : (g : Given) (rows : List Split) (new : Split) (result : List Split) → keep_if (of_unit new.section new.unit) rows ≡ [] → merge_one g rows new ≡ accepted result → result ≡ pushed new rows
merge_pushes g rows new result h e =
    let p = bind_inv (decide g rows new) (λ step. onward g (carried rows new step)) result (sym (merge_round g rows new) ∙ e) in
    same_accepted (sym e ∙ round_push g rows new (p.1 ∙ ap accepted (decide_push g rows new p.0 h p.1)))

-- ---- a new name

-- the number of a name that has bytes is not the next one
not_next : (names : List (List ℕ)) (k : ℕ) → 0 < get_or (map length names) k 0 → k ≡ length names → ⊥
not_next names k h e =
    let d = get_or-eq_default (map length names) 0 {n = k} (let l = length-map names length in omega arith) in
    omega arith

-- no split of a table without a fault is of the unit whose name comes next
no_unit : (heads : List Section) (t : Filled) (section : ℕ) → Faultless heads t → keep_if (of_unit section (length t.names)) t.rows ≡ []
no_unit heads t section q = keep_nothing (of_unit section (length t.names)) t.rows (all_placed t.rows no_split other)
  where
    other : (k : ℕ) → k < length t.rows → of_unit section (length t.names) (get_or t.rows k no_split) ≡ false
    other k h =
        let p = table-laws.split_good (map length t.names) heads t.rows k (q k h) in
        let s = sound_of (map length t.names) (get_or t.rows k no_split) (table-laws.partial_good (map length t.names) t.rows k p.0) in
        and_right (eqb (get_or t.rows k no_split).section section) _
        (ne_eqb (get_or t.rows k no_split).unit (length t.names) (not_next t.names (get_or t.rows k no_split).unit s.named))

-- a new name is added, and has the next number
pub new_added : (room : Ceilings) (section start : ℕ) (names : List (List ℕ)) (x : List ℕ) (r : Named) → Absent names x → named room section start names x ≡ accepted r
    → r ≡ record { names = names ++ (x ∷ []); number = length names }
unfolding named
new_added room section start names x r a e =
    sym (same_accepted (then_inv 28 section start (full room names x) _ r (rw (le-ltb (number_of names x) (length names) (omega (arith, a))) at e)).1)

-- ---- a gap
module _ (section_name : ℕ → List ℕ) (g : Given) (room : Ceilings) (t : Filled) (x : Gap) (t' : Filled) where
  -- THEOREM: where a gap enters whose unit has no split in its section yet, the split with exactly the gap's section, start and end comes into the table, autogenerated,
  -- without an alignment, and of that unit; every split that was there stays, and no other comes
  pub gap-covers : (unit : Named) → named room x.section x.start t.names (unit_name section_name g room x) ≡ accepted unit
      → keep_if (of_unit x.section unit.number) t.rows ≡ [] → entered section_name g room t x ≡ accepted t' → Covers t t' x unit.number
  gap-covers unit n h e =
      let c = entered_comes section_name g room t x t' e in
      let same : c.unit ≡ unit = same_accepted (sym c.named_as ∙ n) in
      let merged : merge_one g t.rows (gap_split x unit.number) ≡ accepted t'.rows = rw same at c.merged in
      let is : t'.rows ≡ pushed (gap_split x unit.number) t.rows = merge_pushes g t.rows (gap_split x unit.number) t'.rows h merged in record {
        here = rw is (push_here (gap_split x unit.number) t.rows);
        kept = λ s m. rw is (push_kept (gap_split x unit.number) t.rows s m);
        only = λ s m. push_only (gap_split x unit.number) t.rows s (rw is at m);
      }

  -- .. and so it is where the gap's name is new in a table without a fault: the units of its splits are names that are there
  pub new_gap-covers : (heads : List Section) → Faultless heads t → Absent t.names (unit_name section_name g room x) → entered section_name g room t x ≡ accepted t' → Covers t t' x (length t.names)
  new_gap-covers heads q a e =
      let c = entered_comes section_name g room t x t' e in
      let n : c.unit.number ≡ length t.names = ap (λ (r : Named). r.number) (new_added room x.section x.start t.names (unit_name section_name g room x) c.unit a c.named_as) in
      rw (sym n) (gap-covers c.unit c.named_as (rw n (no_unit heads t x.section q)) e)
