-- The turns of the entering. Invariant: entering the gaps that are left, into the tables as they stand, is entering all into those given; and none of the gaps
-- that are left has a name that was added, since names of different gaps differ. Assumes nothing.
use mathlib.Core.Path.{◌≡◌, refl, sym, ap, ap₂, ◌∙◌}
use mathlib.Core.List.{List, [], ◌∷◌, ◌++◌, append-nil}
use mathlib.Core.Bool.{false}
use Prim.Native.Nat.{ℕ, ◌+◌, ◌-◌, ◌/◌, ◌%◌, ◌≤◌, ◌<◌, zero-le}
use native.Mathlib.Nat.{zero-add}
use native.Mathlib.Omega.{arith}
use lib.ListN.{length, get_or}
use Rattle.lists.specs.Outcome.{Outcome, accepted, refused}
use Rattle.lists.specs.Rows.{tabulate}
use Rattle.lists.proofs.All.{all_at}
use Rattle.lists.proofs.Binds.{bind_goes, bind_stops}
use Rattle.lists.proofs.Rows.{rest-cons, rest-none, get_d_tabulate, length-tabulate}
use Rattle.names.specs.Names.{same_name}
use Rattle.names.specs.GapName.{gap_name}
use Rattle.obj.specs.declared.Split.{Split}
use Rattle.merge.specs.Merge.{Given}
use Rattle.gap_columns.specs.Columns.{Gap, gap, key_of, gap_of, gap_at, gaps_in}
use Rattle.gap_columns.proofs.Placed.{rising_at, key_at, key_of_lem}
use Rattle.gap_splits.specs.Entering.{Filled, Ceilings, unit_name, entered, filled}
use Rattle.gap_splits.specs.Answers.{Absent, meant, Gaps, Enters}
use Rattle.std.specs.Prelude.{Ok, Err}
use Rattle.obj.specs.Answers.{Answer}
use Rattle.obj.specs.declared.Refusal.{Refusal}
use Rattle.gap_splits.proofs.GapNames.{other_names}
use Rattle.gap_splits.proofs.Naming.{absent_none}

-- ---- all gaps
module _ (section_name : ℕ → List ℕ) (g : Given) (room : Ceilings) (t : Filled) where
  filled_on : (x : Gap) (l : List Gap) (t' : Filled) → entered section_name g room t x ≡ accepted t' → filled section_name g room t (x ∷ l) ≡ filled section_name g room t' l
  unfolding filled
  filled_on x l t' e = bind_goes _ _ t' e

  filled_stops : (x : Gap) (l : List Gap) (number section address : ℕ) → entered section_name g room t x ≡ refused number section address → filled section_name g room t (x ∷ l) ≡ refused number section address
  unfolding filled
  filled_stops x l number section address e = bind_stops _ _ number section address e

  filled_done : filled section_name g room t [] ≡ accepted t
  unfolding filled
  filled_done = refl

-- ---- the gaps of the columns

low : (key end : ℕ) → (gap_of key end).start < 4294967296
unfolding gap_of
low key end = omega arith

module _ (keys ends : List ℕ) (count sections : ℕ) (gaps : Gaps (gaps_in keys ends count) sections) where
  -- gap i
  abbrev at : ℕ → Gap
  at i = gap_at keys ends i

  long : length (gaps_in keys ends count) ≡ count
  long = length-tabulate at 0 count

  listed : (i : ℕ) (d : Gap) → i < count → get_or (gaps_in keys ends count) i d ≡ at i
  listed i d h = get_d_tabulate at 0 count i d h ∙ ap at (zero-add i)

  pub section_there : (i : ℕ) → i < count → (at i).section < sections
  section_there i h = rw (sym (ap (λ (x : Gap). x.section) (listed i (at i) h))) (all_at i (at i) gaps.there (omega (arith, long)))

  rising_keys : (i j : ℕ) → i < j → j < count → get_or keys i 0 < get_or keys j 0
  rising_keys i j h l =
      omega (
        arith,
        key_at keys ends count i (at i) (omega arith),
        key_at keys ends count j (at i) l,
        rising_at key_of (gaps_in keys ends count) i j (at i) gaps.rising h (omega (arith, long)),
      )

  -- a later gap has another name
  other_name : (section_name : ℕ → List ℕ) (g : Given) (room : Ceilings) (i j : ℕ) → sections ≤ 64 → i < j → j < count
      → same_name (unit_name section_name g room (at j)) (unit_name section_name g room (at i)) ≡ false
  other_name section_name g room i j few h l =
      other_names (at j).section (at i).section (at j).start (at i).start (section_name (at j).section) (section_name (at i).section)
      (omega (arith, section_there j l)) (omega (arith, section_there i (omega arith))) (low (get_or keys j 0) (get_or ends j 0)) (low (get_or keys i 0) (get_or ends i 0))
      (λ e. omega (arith, rising_keys i j h l, key_of_lem (get_or keys i 0) (get_or ends i 0), key_of_lem (get_or keys j 0) (get_or ends j 0)))

-- gap i, as the code reads it
pub gap_here : (keys ends : List ℕ) (i : ℕ) {section start : ℕ} → section ≡ get_or keys i 0 / 4294967296 → start ≡ get_or keys i 0 % 4294967296 → gap section start (get_or ends i 0) ≡ gap_at keys ends i
unfolding gap_of
gap_here keys ends i e f = ap₂ (λ (m a : ℕ). gap m a (get_or ends i 0)) e f

-- ---- the invariant
module _ (section_name : ℕ → List ℕ) (g : Given) (room : Ceilings) (base : List (List ℕ)) (keys ends : List ℕ) (count : ℕ) where
  -- what is left to enter, from gap i on
  abbrev left : ℕ → List Gap
  left i = tabulate (gap_at keys ends) i (count - i)

  abbrev standing : List (List ℕ) → List Split → Filled
  standing more rows = record { names = base ++ more; rows = rows }

  pub record Going (rows₀ : List Split) (more : List (List ℕ)) (rows : List Split) (i : ℕ) : Type 0 where
    pub small : i ≤ count
    pub fresh : (j : ℕ) → i ≤ j → j < count → Absent more (unit_name section_name g room (gap_at keys ends j))
    pub is : filled section_name g room (standing more rows) (left i) ≡ filled section_name g room (record { names = base; rows = rows₀ }) (gaps_in keys ends count)

  pub starts : (more : List (List ℕ)) (rows : List Split) → more ≡ [] → Going rows more rows 0
  starts more rows e = rw e (record {
    small = zero-le;
    fresh = λ j q l. absent_none (unit_name section_name g room (gap_at keys ends j));
    is = ap₂ (λ (l : List (List ℕ)) (m : ℕ). filled section_name g room (record { names = l; rows = rows }) (tabulate (gap_at keys ends) 0 m)) (append-nil base) (let e : count - 0 ≡ count = omega arith in e);
  })

  module _ (rows₀ : List Split) (more : List (List ℕ)) (rows : List Split) (i : ℕ) (t : Going rows₀ more rows i) (h : i < count) where
    abbrev now : Filled
    now = standing more rows

    next : left i ≡ gap_at keys ends i ∷ left (i + 1)
    next = rest-cons (gap_at keys ends) i count h

    -- gap i entered: the next turn
    pub goes_on : (sections : ℕ) → Gaps (gaps_in keys ends count) sections → sections ≤ 64 → (more' : List (List ℕ)) (rows' : List Split) {r : Answer} {x : Gap} → x ≡ gap_at keys ends i
        → Enters (entered section_name g room now x) base more (unit_name section_name g room x) more' rows' r → r ≡ Ok tt
        → Going rows₀ more' rows' (i + 1)
    goes_on sections gaps few more' rows' {r} {x} here e f =
        let w = enters_when f (enters_here now here e) in record {
          small = omega arith;
          fresh = λ j q l. w.later (unit_name section_name g room (gap_at keys ends j)) (other_name keys ends count sections gaps section_name g room i j few (omega arith) l) (t.fresh j (omega arith) l);
          is = sym (ap (filled section_name g room now) next ∙ filled_on section_name g room now (gap_at keys ends i) (left (i + 1)) (standing more' rows') (sym w.is)) ∙ t.is;
        }
      where
        enters_here : (t : Filled) {x y : Gap} {before after : List (List ℕ)} {rows : List Split} {r : Answer} → x ≡ y
            → Enters (entered section_name g room t x) base before (unit_name section_name g room x) after rows r → Enters (entered section_name g room t y) base before (unit_name section_name g room y) after rows r
        enters_here t e n = rw (sym e) n

        enters_when : {want : Outcome Filled} {before after : List (List ℕ)} {x : List ℕ} {rows : List Split} {r s : Answer} → r ≡ s
            → Enters want base before x after rows r → Enters want base before x after rows s
        enters_when e n = rw (sym e) n

    -- gap i was refused: so is all
    pub refused_here : (more' : List (List ℕ)) (rows' : List Split) {r : Answer} (d : Refusal) {x : Gap} → x ≡ gap_at keys ends i
        → meant base more' rows' r ≡ entered section_name g room now x → r ≡ Err d
        → refused d.number d.section d.address ≡ filled section_name g room (record { names = base; rows = rows₀ }) (gaps_in keys ends count)
    refused_here more' rows' {r} d {x} here e f =
        sym (ap (filled section_name g room now) next
        ∙ filled_stops section_name g room now (gap_at keys ends i) (left (i + 1)) d.number d.section d.address
        (ap (entered section_name g room now) (sym here) ∙ sym e ∙ ap (meant base more' rows') f))
        ∙ t.is

  -- all entered
  pub all_entered : (rows₀ : List Split) (more : List (List ℕ)) (rows : List Split) (i : ℕ) → Going rows₀ more rows i → count ≤ i
      → meant base more rows (Ok tt) ≡ filled section_name g room (record { names = base; rows = rows₀ }) (gaps_in keys ends count)
  all_entered rows₀ more rows i t h =
      sym (ap (filled section_name g room (standing more rows)) (rest-none (gap_at keys ends) i count h) ∙ filled_done section_name g room (standing more rows)) ∙ t.is

-- what the code asks before gap i enters
pub section_here : (keys ends : List ℕ) (count sections : ℕ) → Gaps (gaps_in keys ends count) sections → (i : ℕ) → i < count → get_or keys i 0 / 4294967296 < sections
unfolding gap_of
section_here keys ends count sections gaps i h = section_there keys ends count sections gaps i h

pub absent_here : (section_name : ℕ → List ℕ) (g : Given) (room : Ceilings) (keys ends : List ℕ) (more : List (List ℕ)) (i : ℕ) {section start : ℕ}
    → section ≡ get_or keys i 0 / 4294967296 → start ≡ get_or keys i 0 % 4294967296 → Absent more (unit_name section_name g room (gap_at keys ends i))
    → Absent more (gap_name section start (section_name section))
unfolding gap_of
absent_here section_name g room keys ends more i e f h = rw (e, f) h
