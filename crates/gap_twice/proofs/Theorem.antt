-- THE THEOREM of document 02, (k): a list that the filler produced is accepted by it and comes back as it is. Each gap that was found is pushed where no split starts, and the
-- search over what that leaves finds none. Assumes nothing but its premises.
use mathlib.Core.Path.{◌≡◌, refl, sym, ap, ◌∙◌}
use mathlib.Core.List.{List, [], map}
use mathlib.Core.Bool.{Bool, true, false, false≢true}
use mathlib.Core.Logic.{◌⊎◌, inl, inr}
use Prim.Native.Nat.{ℕ, ◌≤◌, ◌<◌}
use native.Mathlib.Omega.{arith}
use lib.ListN.{length, length-map, get_or}
use Rattle.std.proofs.lemmas.Bool.{cases_order}
use Rattle.lists.specs.Outcome.{accepted}
use Rattle.lists.specs.Sort.{All, Sorted}
use Rattle.lists.proofs.All.{all_any, all_map, all_both}
use Rattle.lists.proofs.Binds.{bind_goes}
use Rattle.lists.proofs.Each.{all_placed}
use Rattle.lists.proofs.Outcomes.{bind_inv}
use Rattle.lists.proofs.Rows.{has_place}
use Rattle.obj.specs.declared.Section.{Section}
use Rattle.obj.specs.declared.Split.{Split}
use Rattle.obj.specs.Nothing.{no_split}
use Rattle.obj.specs.Order.{NotBelow}
use Rattle.names.specs.Names.{same_name}
use Rattle.names.specs.Fixed.{codes}
use Rattle.names.specs.GapName.{gap_name}
use Rattle.names.proofs.Laws.{same_equal}
use Rattle.tables.proofs.Laws as table-laws
use Rattle.sections.specs.Image.{Image}
use Rattle.sections.specs.Sections.{Sections}
use Rattle.merge.specs.Merge.{Given, given}
use Rattle.merge.proofs.Tables.{Sound, sound_of}
use Rattle.gap_columns.specs.Columns.{Gap}
use Rattle.gaps.specs.Gaps.{found_gaps}
use Rattle.gaps.proofs.Inside.{found_lies, found_rising}
use Rattle.gap_splits.specs.Entering.{Filled, Ceilings, filled}
use Rattle.create_gap_splits.specs.Create.{name_in, gaps_filled}
use Rattle.gap_laws.specs.Good.{Faultless, Below}
use Rattle.gap_laws.proofs.Tables.{low_of}
use Rattle.stages_alike.proofs.Gaps.{found_alike}
use Rattle.gap_twice.specs.Twice.{split_key, with_gap_splits, begins_with, auto_front, Premises, Needed, Low, SameNames, with_names}
use Rattle.gap_twice.proofs.MergedByKey.{sorted_placed}
use Rattle.gap_twice.proofs.AllSections.{found-again}
use Rattle.gap_twice.proofs.Entered.{unit_in, Telling, Ready, entered_among}

-- a name that is not empty has a number
pub name_there : (names : List (List ℕ)) (k : ℕ) → 0 < get_or (map length names) k 0 → k < length names
name_there names k h = omega (arith, has_place (map length names) k h, length-map names length)

-- ---- a table that passed the table checks
module _ (heads : List Section) (t : Filled) (q : Faultless heads t) where
  abbrev row : ℕ → Split
  row k = get_or t.rows k no_split

  pub row_sound : (k : ℕ) → k < length t.rows → Sound (map length t.names) (row k)
  row_sound k h =
      let p = table-laws.split_good (map length t.names) heads t.rows k (q k h) in
      sound_of (map length t.names) (row k) (table-laws.partial_good (map length t.names) t.rows k p.0)

  -- no start is above 0xF0000000
  low : All Low t.rows
  low = all_placed t.rows no_split (λ k h. (row_sound k h).start)

  -- each unit has a name
  units_there : All (λ s. s.unit < length t.names) t.rows
  units_there = all_placed t.rows no_split (λ k h. name_there t.names (row k).unit (row_sound k h).named)

  -- splits do not fall by section and start
  sorted : Sorted split_key t.rows
  sorted = sorted_placed split_key t.rows no_split not_below
    where
      not_below : (i j : ℕ) → i < j → j < length t.rows → split_key (row i) ≤ split_key (row j)
      not_below i j h l =
          go (table-laws.splits_rise (map length t.names) heads t.rows (length t.rows) (table-laws.records_pass _ (length t.rows) q) i j (omega arith) l)
          (cases_order (row i).section (row j).section) (row_sound i (omega arith)).start
        where
          go : NotBelow (row i) (row j) → ((row i).section ≡ (row j).section) ⊎ (((row i).section < (row j).section) ⊎ ((row j).section < (row i).section)) → (row i).start ≤ 4026531840 → split_key (row i) ≤ split_key (row j)
          go b (inl e) m = omega (arith, b.starts e)
          go b (inr (inl e)) m = omega arith
          go b (inr (inr e)) m = absurd (omega (arith, b.sections))

-- ---- a gap's name

-- it begins with `auto_`
gap_begins : (section address : ℕ) (name : List ℕ) → begins_with auto_front (gap_name section address name) ≡ true
unfolding begins_with codes gap_name
gap_begins section address name = refl

-- so it is no name that does not
gap_other : (section address : ℕ) (name other : List ℕ) → begins_with auto_front other ≡ false → same_name (gap_name section address name) other ≡ false
gap_other section address name other h = go (same_name (gap_name section address name) other) refl
  where
    go : (u : Bool) → same_name (gap_name section address name) other ≡ u → u ≡ false
    go false e = refl
    go true e = absurd (false≢true (sym h ∙ ap (begins_with auto_front) (sym (same_equal (gap_name section address name) other e)) ∙ gap_begins section address name))

-- ---- the filling of a list without a fault that was accepted
module _ (g : Image) (sections : Sections) (heads : List Section) (most : ℕ) (room : Ceilings) (few : sections.count ≤ 64) (below : Below sections) (t t' : Filled) (q : Faultless heads t)
    (e : gaps_filled g sections (given heads most) room t ≡ accepted t') where
  -- the unit of a gap
  abbrev unit : Gap → ℕ
  unit x = unit_in (name_in g sections) heads most room t'.names x

  -- it leaves the splits with those of the gaps that were found among them, over which nothing is found
  pub record NoGapLeft : Type 0 where
    pub gaps : List Gap
    pub found : found_gaps g sections t.rows ≡ accepted gaps
    pub rows : t'.rows ≡ with_gap_splits unit gaps t.rows
    pub nothing : found_gaps g sections t'.rows ≡ accepted []

  -- THEOREM: a list that the filler produced is the first list with a split for each gap among its splits, and has no gap
  pub no_gap_left : Needed t → NoGapLeft
  unfolding gaps_filled
  no_gap_left needed =
      let p = bind_inv (found_gaps g sections t.rows) _ t' e in
      let a = found-again g sections unit t.rows (sorted heads t q) needed.forward (low heads t q) below p.0 p.1 in
      let telling : All (Telling (name_in g sections) heads most room) p.0 = all_map (λ x w. (omega (arith, w.there, few), (low_of sections below x w).start)) (found_lies g sections t.rows p.0 p.1) in
      let ready : Ready (name_in g sections) heads most room t p.0 = record {
        low = low heads t q;
        apart = a.apart;
        units = all_map (λ s u. record { named = u.0; other = all_any (λ x. gap_other x.section x.start (name_in g sections x.section) (get_or t.names s.unit []) u.1) p.0 }) (all_both (units_there heads t q) needed.units);
      } in
      let r = entered_among (name_in g sections) heads most room t t' p.0 (found_rising g sections t.rows p.0 p.1) telling ready p.2 in
      record { gaps = p.0; found = p.1; rows = r; nothing = ap (found_gaps g sections) r ∙ a.nothing }

  module _ (name : ℕ → List ℕ) (same : SameNames g sections name) (limits : Given) (room' : Ceilings) where
    -- the search finds the same with names added: it asks only for those of sections and symbols
    found_same : (rows : List Split) → found_gaps (with_names g name) sections rows ≡ found_gaps g sections rows
    found_same =
        found_alike (with_names g name) g (record { counts = refl; symbols = λ i h. refl; names = same.symbols }) sections sections
        (record { counts = refl; heads = λ n h. refl; bytes = λ n h. refl; names = same.heads })

    -- THEOREM: filling it again is accepted and changes nothing, also where starts within a section are equal. The names may be those of the table to which names
    -- were added; no ceiling is met, so it may be any
    pub filled_again : Needed t → gaps_filled (with_names g name) sections limits room' t' ≡ accepted t'
    unfolding gaps_filled filled
    filled_again needed = bind_goes (found_gaps (with_names g name) sections t'.rows) _ [] (found_same t'.rows ∙ (no_gap_left needed).nothing)

    -- THEOREM (document 02, (k)): so it is under document 02's premises
    pub filled_twice : Premises t → gaps_filled (with_names g name) sections limits room' t' ≡ accepted t'
    filled_twice premises = filled_again (record { units = premises.units; forward = premises.forward })
