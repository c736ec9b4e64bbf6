-- The falls carried out: the last row at a start, what carrying out one fall is, and a turn of the pass over all falls. Assumes nothing.
use mathlib.Core.Path.{◌≡◌, refl, sym, ap, ap₂, ◌∙◌}
use mathlib.Core.List.{List}
use mathlib.Core.Bool.{Bool, true, false, cond, not, ◌&&◌}
use Prim.Native.Nat.{ℕ, zero, suc, ◌+◌, ◌-◌, ◌≤◌, ◌<◌}
use native.Mathlib.Numerals.{add-one}
use native.Mathlib.Nat.{zero-add}
use native.Mathlib.Omega.{arith}
use lib.Dec.{eqb, leb}
use lib.ListN.{length, get_or, set, drop, drop_of_length-le}
use lib.Seq.{drop-cons}
use Rattle.lists.specs.Outcome.{accepted, refused, refuse, ◌>>◌, ◌>>=◌}
use Rattle.lists.specs.Rows.{tabulate}
use Rattle.lists.proofs.Rows.{rest-cons, rest-none, get_d_tabulate}
use Rattle.lists.proofs.DropRows.{drop-rows}
use Rattle.lists.proofs.Outcomes.{fails, passes}
use Rattle.obj.specs.declared.Split.{Split}
use Rattle.obj.specs.Nothing.{no_split}
use Rattle.splits.specs.Updates.{with_end}
use Rattle.trim.specs.Trim.{alongside, last_at, closed_below, carry_one, carry_from}

-- ---- the rows at one start
module _ (s : Split) (row : ℕ → Split) (n j : ℕ) where
  here : j < n → alongside s (tabulate row j (n - j))
      ≡ cond (eqb (row j).section s.section && eqb (row j).start s.start) (suc (alongside s (tabulate row (j + 1) (n - (j + 1))))) 0
  unfolding alongside
  here h = ap (alongside s) (rest-cons row j n h)

  -- row j starts where s does
  pub along_on : (y : Split) → y ≡ row j → j < n → (eqb y.section s.section && eqb y.start s.start) ≡ true
      → j + alongside s (tabulate row j (n - j)) ≡ j + 1 + alongside s (tabulate row (j + 1) (n - (j + 1)))
  along_on y is h e =
      let t = ap (λ (z : Split). eqb z.section s.section && eqb z.start s.start) (sym is) ∙ e in
      let q = here h ∙ ap (λ (u : Bool). cond u (suc (alongside s (tabulate row (j + 1) (n - (j + 1))))) 0) t in
      omega (arith, q)

  pub along_ends : (y : Split) → y ≡ row j → j < n → (eqb y.section s.section && eqb y.start s.start) ≡ false
      → j + alongside s (tabulate row j (n - j)) ≡ j
  along_ends y is h e =
      let t = ap (λ (z : Split). eqb z.section s.section && eqb z.start s.start) (sym is) ∙ e in
      let q = here h ∙ ap (λ (u : Bool). cond u (suc (alongside s (tabulate row (j + 1) (n - (j + 1))))) 0) t in
      omega (arith, q)

  pub along_none : n ≤ j → j + alongside s (tabulate row j (n - j)) ≡ j
  unfolding alongside
  along_none h = let q = ap (alongside s) (rest-none row j n h) in omega (arith, q)

-- the rows from `from` to before `from` + k start where s does
pub along_past : (s : Split) (row : ℕ → Split) (n from k : ℕ) → from + k ≤ n → ((j : ℕ) → from ≤ j → j < from + k → (eqb (row j).section s.section && eqb (row j).start s.start) ≡ true)
    → from + alongside s (tabulate row from (n - from)) ≡ from + k + alongside s (tabulate row (from + k) (n - (from + k)))
along_past s row n from zero h all = let z : from + 0 ≡ from = omega arith in rw z
along_past s row n from (suc k) h all =
    let z : from + k + 1 ≡ from + suc k = omega arith in
    along_past s row n from k (omega arith) (λ j a b. all j a (omega arith))
    ∙ along_on s row n (from + k) (row (from + k)) refl (omega arith) (all (from + k) (omega arith) (omega arith))
    ∙ ap (λ (m : ℕ). m + alongside s (tabulate row m (n - m))) z

-- ---- rows of a table
module _ (row : ℕ → Split) (n k : ℕ) (there : k < n) where
  abbrev table : List Split
  table = tabulate row 0 n

  row_is : (j : ℕ) → j < n → get_or table j no_split ≡ row j
  row_is j h = get_d_tabulate row 0 n j no_split h ∙ ap row (zero-add j)

  -- the place of the last row at the start of row k
  pub last_is : (s : Split) (r last : ℕ) → s ≡ row k → r ≡ k + 1 + alongside s (tabulate row (k + 1) (n - (k + 1))) → last + 1 ≡ r → last_at table k ≡ last
  unfolding last_at
  last_is s r last is e q =
      let f = ap₂ alongside (row_is k there ∙ sym is) (drop-rows row (suc k) n ∙ ap₂ (tabulate row) (sym (add-one k)) (ap (λ (m : ℕ). n - m) (sym (add-one k)))) in
      omega (arith, e, q, f)

  module _ (fall last : ℕ) (falls : fall ≡ 0 → ⊥) (place : last_at table k ≡ last) (inside : last < n) where
    -- the definition of a fall, of its rows by their places
    as_fall : (end : ℕ) → (end ≡ 0 → ⊥)
        → carry_one k end table
        ≡ (refuse 54 (row k).section (row k).start (closed_below (row k).start (row last)) >> accepted (set table last (with_end end (row last))))
    unfolding carry_one
    as_fall zero z = absurd (z refl)
    as_fall (suc e) z =
        ap₂ (λ (s y : Split). refuse 54 s.section s.start (closed_below s.start y) >> accepted (set table (last_at table k) (with_end (suc e) y)))
        (row_is k there) (ap (λ (m : ℕ). get_or table m no_split) place ∙ row_is last inside)
        ∙ ap (λ (m : ℕ). refuse 54 (row k).section (row k).start (closed_below (row k).start (row last)) >> accepted (set table m (with_end (suc e) (row last)))) place

    pub carry_refused : (s : Split) (old : ℕ) → s ≡ row k → old ≡ (row last).end → (leb old s.start && not (eqb old 0)) ≡ true
        → carry_one k fall table ≡ refused 54 s.section s.start
    carry_refused s old is e t =
        as_fall fall falls
        ∙ fails 54 (row k).section (row k).start (closed_below (row k).start (row last)) _
        (ap₂ (λ (m : ℕ) (y : Split). leb m y.start && not (eqb m 0)) (sym e) (sym is) ∙ t)
        ∙ ap (λ (y : Split). refused 54 y.section y.start) (sym is)

    pub carry_set : (s : Split) (old : ℕ) → s ≡ row k → old ≡ (row last).end → (leb old s.start && not (eqb old 0)) ≡ false
        → carry_one k fall table ≡ accepted (set table last (with_end fall (row last)))
    carry_set s old is e t =
        as_fall fall falls
        ∙ passes 54 (row k).section (row k).start (closed_below (row k).start (row last)) _
        (ap₂ (λ (m : ℕ) (y : Split). leb m y.start && not (eqb m 0)) (sym e) (sym is) ∙ t)

-- a row that does not fall
pub carry_not : (k fall : ℕ) (l : List Split) → fall ≡ 0 → accepted l ≡ carry_one k fall l
unfolding carry_one
carry_not k fall l e = sym (ap (λ (m : ℕ). carry_one k m l) e)

-- ---- all falls: what is left from row k on
module _ (falls : List ℕ) (k : ℕ) (l : List Split) where
  pub carry_turn : k < length falls → carry_from k (drop k falls) l ≡ (carry_one k (get_or falls k 0) l >>= carry_from (k + 1) (drop (k + 1) falls))
  unfolding carry_from
  carry_turn h =
      ap (λ (t : List ℕ). carry_from k t l) (drop-cons falls k 0 h)
      ∙ ap (λ (m : ℕ). carry_one k (get_or falls k 0) l >>= carry_from m (drop m falls)) (sym (add-one k))

  pub carry_ended : length falls ≤ k → carry_from k (drop k falls) l ≡ accepted l
  unfolding carry_from
  carry_ended h = ap (λ (t : List ℕ). carry_from k t l) (drop_of_length-le falls {i = k} h)
