-- A join over the range of s and a push of s are one move, where s takes the place of the rows in its range: no row that is left takes another name or is of the
-- group at the start of s, so s goes in at the first place that is free, and nothing else moves. Assumes nothing.
use mathlib.Core.Path.{◌≡◌, refl, sym, ap, ap₂, subst, ◌∙◌}
use mathlib.Core.List.{List, [], ◌∷◌, ◌++◌, map}
use mathlib.Core.Bool.{Bool, true, false, cond, not, ◌&&◌}
use mathlib.Core.Logic.{◌⊎◌, inl, inr}
use Prim.Native.Nat.{ℕ, zero, suc, ◌+◌, ◌-◌, ◌≤◌, ◌<◌}
use native.Mathlib.Omega.{arith}
use borrow.Author.Tests.{lt-ltb, le-ltb, ne_eqb, eqb-true, eqb-false}
use lib.Dec.{eqb, ltb}
use lib.ListN.{length, get_or}
use Rattle.std.proofs.lemmas.Bool.{cases_lt, and_right}
use Rattle.lists.specs.Rows.{tabulate, keep_if, some, insert_at, first_from}
use Rattle.lists.specs.InsertBy.{insert_by}
use Rattle.lists.proofs.Rows.{length-tabulate, tabulate-insert}
use Rattle.lists.proofs.Parts.{tabulate_all, tabulate-map}
use Rattle.lists.proofs.Filter.{keep_append}
use Rattle.lists.proofs.First.{first_here, first_end, first_list}
use Rattle.lists.proofs.InsertBy.{insert_at-first_in}
use Rattle.lists.proofs.SomeRows.{some_ended}
use Rattle.obj.specs.declared.Split.{Split}
use Rattle.splits.specs.Columns.{Columns, row_of, row_at, rows}
use Rattle.splits.specs.Updates.{with_unit}
use Rattle.splits.specs.Questions.{within, of_unit}
use Rattle.splits.proofs.Blocks.{some_skip}
use Rattle.split_edits.specs.Edits.{together, after, grouped, pushed, renamed, joined}
use Rattle.split_edits.specs.Shifts.{Lowered}
use Rattle.split_edits.proofs.Removal.{lowered-parts, closed}
use Rattle.split_edits.proofs.Search.{first_past, outside-apart}
use Rattle.split_joins.specs.Joins.{TakesPlace, AtOnce, joined_by}

-- ---- one row

-- a row that takes the name it has, or none
same_name : (unit : ℕ) (y : Split) (b : Bool) → y.unit ≡ unit → y ≡ cond b (with_unit unit y) y
same_name unit y true e = λ i. with_unit (e i) y
same_name unit y false e = refl

-- ---- rows by place
module _ {A : Type 0} (p : A → Bool) (f : ℕ → A) (n : ℕ) where
  -- none passes
  some_no : ((k : ℕ) → k < n → p (f k) ≡ false) → some p (tabulate f 0 n) ≡ false
  some_no none =
      ap (some p) (sym (tabulate_all f n))
      ∙ some_skip p f n 0 n (omega arith) (omega arith) (λ k h l. none k l)
      ∙ some_ended p f n n false (omega arith)

  -- x goes in before the first one that passes
  insert-rows : (x : A) (i : ℕ) → i ≤ n → ((k : ℕ) → k < i → p (f k) ≡ false) → (i < n → p (f i) ≡ true) → insert_by p x (tabulate f 0 n) ≡ insert_at i x (tabulate f 0 n)
  insert-rows x i h low here =
      sym (insert_at-first_in p x (tabulate f 0 n))
      ∙ ap (λ (k : ℕ). insert_at k x (tabulate f 0 n)) (sym (first_list p f n) ∙ sym (first_past (λ k. p (f k)) n i h low) ∙ go (cases_lt i n))
    where
      go : (i < n) ⊎ (n ≤ i) → first_from (λ k. p (f k)) i (n - i) ≡ i
      go (inl q) = first_here (λ k. p (f k)) i n q (here q)
      go (inr q) = first_end (λ k. p (f k)) i n q

-- none is of the group
grouped-rows : (section start : ℕ) (f : ℕ → Split) (i n : ℕ) → ((k : ℕ) → i ≤ k → k < i + n → together section start (f k) ≡ false)
    → grouped section start (tabulate f i n) ≡ tabulate f i n
unfolding grouped tabulate
grouped-rows section start f i zero none = refl
grouped-rows section start f i (suc n) none =
    rw (none i (omega arith) (omega arith)) (ap (λ (t : List Split). f i ∷ t) (grouped-rows section start f (suc i) n (λ k h l. none k (omega arith) (omega arith))))

-- ---- the rows that are left, g, without those from `first` up to `stop`
module _ (s : Split) (c₀ : Columns) (n first stop : ℕ) (l : stop ≤ n)
    (low : (k : ℕ) → k < first → within s.section s.start s.end (row_at c₀ k) ≡ false)
    (mid : (k : ℕ) → first ≤ k → k < stop → within s.section s.start s.end (row_at c₀ k) ≡ true)
    (t : TakesPlace s c₀ n first stop) (g : ℕ → Split) (q : Lowered first stop (n - stop) (row_at c₀) g) where
  abbrev size : ℕ
  size = n - (stop - first)

  abbrev in_range : Split → Bool
  in_range = within s.section s.start s.end

  abbrev table : List Split
  table = rows c₀ n

  -- what holds of each row around holds of each row that is left
  each_left : (P : Split → Type 0) → ((k : ℕ) → k < first → P (row_at c₀ k)) → ((k : ℕ) → stop ≤ k → k < n → P (row_at c₀ k)) → (k : ℕ) → k < size → P (g k)
  each_left P a b k h = go (cases_lt k first)
    where
      go : (k < first) ⊎ (first ≤ k) → P (g k)
      go (inl m) = subst P (sym (q.below k m)) (a k m)
      go (inr m) =
          let h' = t.some in
          let z : first + (k - first) ≡ k = omega arith in
          subst P (sym (q.moved (k - first) (omega arith)) ∙ ap g z) (b (stop + (k - first)) (omega arith) (omega arith))

  -- a row of a unit that those in the range do not have, or that is the name they take
  keeps_name : (k : ℕ) → ((i : ℕ) → first ≤ i → i < stop → get_or c₀.units k 0 ≡ get_or c₀.units i 0 → get_or c₀.units i 0 ≡ s.unit)
      → row_at c₀ k ≡ renamed s.unit in_range table (row_at c₀ k)
  unfolding renamed row_of
  keeps_name k alone = go (eqb (get_or c₀.units k 0) s.unit) refl
    where
      other : eqb (get_or c₀.units k 0) s.unit ≡ false → (i : ℕ) → i < n → (in_range (row_at c₀ i) && eqb (get_or c₀.units i 0) (get_or c₀.units k 0)) ≡ false
      other e i h = place (cases_lt i first) (cases_lt i stop)
        where
          place : (i < first) ⊎ (first ≤ i) → (i < stop) ⊎ (stop ≤ i) → (in_range (row_at c₀ i) && eqb (get_or c₀.units i 0) (get_or c₀.units k 0)) ≡ false
          place (inl a) b = rw (low i a) refl
          place (inr a) (inr b) = rw (t.none i b h) refl
          place (inr a) (inl b) =
              and_right (in_range (row_at c₀ i)) _
              (ne_eqb (get_or c₀.units i 0) (get_or c₀.units k 0) (λ z. eqb-false (get_or c₀.units k 0) s.unit e (sym z ∙ alone i a b (sym z))))

      go : (b : Bool) → eqb (get_or c₀.units k 0) s.unit ≡ b → row_at c₀ k ≡ renamed s.unit in_range table (row_at c₀ k)
      go true e = same_name s.unit (row_at c₀ k) (some (λ y. in_range y && eqb y.unit (get_or c₀.units k 0)) table) (eqb-true (get_or c₀.units k 0) s.unit e)
      go false e =
          sym (ap (λ (b : Bool). cond b (with_unit s.unit (row_at c₀ k)) (row_at c₀ k))
          (some_no (λ y. in_range y && eqb y.unit (get_or c₀.units k 0)) (row_at c₀) n (other e)))

  -- the join leaves the rows around
  left_joined : joined_by s table ≡ tabulate g 0 size
  unfolding joined
  left_joined =
      ap (map (renamed s.unit in_range table))
      (sym (closed (λ y. not (in_range y)) (row_at c₀) g n first stop (let h = t.some in omega arith) l
      (λ k h. ap not (low k h)) (λ k h m. ap not (mid k h m)) (λ k h m. ap not (t.none k h m)) q))
      ∙ sym (tabulate-map (renamed s.unit in_range table) g g 0 size
      (λ k m h. each_left (λ y. y ≡ renamed s.unit in_range table y)
      (λ j a. keeps_name j (λ i b d. (t.apart i b d).before j a))
      (λ j a e. keeps_name j (λ i b d. (t.apart i b d).behind j a e)) k (omega arith)))

  -- none of them is of the unit in the section
  left_other : keep_if (of_unit s.section s.unit) (tabulate g 0 size) ≡ []
  left_other =
      ap (keep_if (of_unit s.section s.unit)) (lowered-parts (row_at c₀) g n first stop (let h = t.some in omega arith) l q)
      ∙ keep_append (of_unit s.section s.unit) (tabulate (row_at c₀) 0 first) (tabulate (row_at c₀) stop (n - stop))
      ∙ ap₂ (λ (x y : List Split). x ++ y) t.own_before t.own_behind

  -- the push puts s at the first free place
  left_pushed : pushed s (tabulate g 0 size) ≡ insert_at first s (tabulate g 0 size)
  unfolding pushed
  left_pushed =
      let h = t.some in
      ap (insert_by (after s) s)
      (grouped-rows s.section s.start g 0 size
      (λ k m r. each_left (λ y. together s.section s.start y ≡ false)
      (λ j a. outside-apart s.section s.start s.end (row_at c₀ j) t.ranged (low j a))
      (λ j a e. outside-apart s.section s.start s.end (row_at c₀ j) t.ranged (t.none j a e)) k (omega arith)))
      ∙ insert-rows (after s) g size s first (omega arith)
      (λ k m. ap (after s) (q.below k m) ∙ t.lies.before k m)
      (λ m. ap (after s) (ap g (let e : first ≡ first + 0 = omega arith in e) ∙ q.moved 0 (omega arith) ∙ ap (row_at c₀) (let e : stop + 0 ≡ stop = omega arith in e)) ∙ t.lies.behind (omega arith))

-- ---- the columns at the end: s stands at `first`, and those behind went down to the next place
module _ (s : Split) (c₀ c : Columns) (n first stop : ℕ) (l : stop ≤ n)
    (low : (k : ℕ) → k < first → within s.section s.start s.end (row_at c₀ k) ≡ false)
    (mid : (k : ℕ) → first ≤ k → k < stop → within s.section s.start s.end (row_at c₀ k) ≡ true)
    (t : TakesPlace s c₀ n first stop)
    (below : (k : ℕ) → k < first → row_at c k ≡ row_at c₀ k) (here : row_at c first ≡ s)
    (moved : (j : ℕ) → j < n - stop → row_at c (first + 1 + j) ≡ row_at c₀ (stop + j)) where
  -- all rows but s
  abbrev g : ℕ → Split
  g k = cond (ltb k first) (row_at c k) (row_at c (suc k))

  before : (k : ℕ) → k < first → g k ≡ row_at c k
  before k h = rw (lt-ltb k first h) refl

  behind : (k : ℕ) → first ≤ k → g k ≡ row_at c (suc k)
  behind k h = rw (le-ltb k first h) refl

  lowered : Lowered first stop (n - stop) (row_at c₀) g
  lowered = record {
    below = λ k h. before k h ∙ below k h;
    moved = λ j h. behind (first + j) (omega arith) ∙ ap (row_at c) (let e : suc (first + j) ≡ first + 1 + j = omega arith in e) ∙ moved j h;
  }

  pub at_once : AtOnce s c₀ c n (n - stop + (first + 1))
  at_once =
      let h = t.some in
      let is-left = left_joined s c₀ n first stop l low mid t g lowered in
      record {
        is =
            ap (rows c) (let e : n - stop + (first + 1) ≡ n - (stop - first) + 1 = omega arith in e)
            ∙ tabulate-insert (row_at c) g s first (n - (stop - first)) (omega arith) (λ k m. sym (before k m)) here (λ k m r. sym (behind k m))
            ∙ sym (left_pushed s c₀ n first stop l low mid t g lowered)
            ∙ ap (pushed s) (sym is-left);
        no_own = ap (keep_if (of_unit s.section s.unit)) is-left ∙ left_other s c₀ n first stop l low mid t g lowered;
        fewer = let e = ap length is-left ∙ length-tabulate g 0 (n - (stop - first)) in omega (arith, e);
        small = omega arith;
      }
