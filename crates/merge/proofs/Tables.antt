-- A merge of good tables gives a good table: if no row has a fault as a stage's split and no partial split has one as a record, no row of the result has a fault.
-- A split's own faults and its section are a property that a merge keeps, and the order of the rows is kept as a whole. Assumes nothing.
use mathlib.Core.Path.{◌≡◌, refl, sym}
use mathlib.Core.List.{List, map}
use mathlib.Core.Logic.{◌≢◌}
use mathlib.Core.Bool.{Bool, true, false, cond, not, ◌&&◌}
use Prim.Native.Nat.{ℕ, zero, suc, ◌-◌, ◌/◌, ◌%◌, ◌≤◌, ◌<◌}
use native.Mathlib.Omega.{arith}
use borrow.Author.Tests.{eqb-true, eqb-false, ne_eqb, le-ltb, lt-leb}
use lib.Dec.{eqb, ltb}
use lib.ListN.{length, get_or, length-map}
use Rattle.std.proofs.lemmas.List.{get_or-map}
use Rattle.lists.specs.Rows.{any_of, any_from}
use Rattle.lists.specs.Sort.{All}
use Rattle.lists.specs.Outcome.{accepted}
use Rattle.lists.proofs.All.{all_at}
use Rattle.lists.proofs.Each.{all_placed}
use Rattle.align.specs.Align.{bad_align}
use Rattle.obj.specs.declared.Section.{Section}
use Rattle.obj.specs.declared.Split.{Split}
use Rattle.obj.specs.Nothing.{no_section, no_split}
use Rattle.obj.specs.Order.{NotBelow}
use Rattle.faults.specs.Faults.{split_bad, split_misplaced}
use Rattle.faults.proofs.Laws as record-laws
use Rattle.tables.specs.Tables.{records_check}
use Rattle.tables.specs.Records.{partial_fault, split_before, split_fault}
use Rattle.tables.proofs.Laws as table-laws
use Rattle.splits.specs.Rising.{Rising}
use Rattle.splits.proofs.Rising.{rising_at, rising_of}
use Rattle.lists.specs.Bounds.{lower, higher}
use Rattle.lists.proofs.Compare.{higher-is, lower-is, above-eqb}
use Rattle.merge.specs.Merge.{Given, given, section_end, joint_of, merge_one, merge_all}
use Rattle.merge.specs.Kept.{Inside, Keeps}
use Rattle.merge.proofs.Decisions.{bit_product}
use Rattle.merge.proofs.Keeping.{one_rising, all_rising, one_kept, all_kept}

-- ---- a split's own faults

-- what 7 asks of a record: `lengths` are those of the names
pub record Sound (lengths : List ℕ) (s : Split) : Type 0 where
  pub named : 0 < get_or lengths s.unit 0
  pub renamed : s.rename ≢ 65535 → 0 < get_or lengths s.rename 0
  pub aligned : bad_align s.alignment ≡ false
  pub flags : s.flags ≤ 7
  pub start : s.start ≤ 4026531840
  pub end : s.end ≤ 4026531840

module _ (lengths : List ℕ) where
  abbrev bad : Split → Bool
  bad s = split_bad (get_or lengths s.unit 0) (get_or lengths s.rename 0) s

  pub sound_of : (s : Split) → bad s ≡ false → Sound lengths s
  sound_of s e = record {
    named = record-laws.split_named _ _ s e;
    renamed = record-laws.split_renamed _ _ s e;
    aligned = record-laws.split_aligned _ _ s e;
    flags = record-laws.split_flags _ _ s e;
    start = record-laws.split_start _ _ s e;
    end = record-laws.split_end _ _ s e;
  }

  -- its rename, if it has one
  rename_good : (s : Split) → Sound lengths s → (not (eqb s.rename 65535) && eqb (get_or lengths s.rename 0) 0) ≡ false
  rename_good s q = go (eqb s.rename 65535) refl
    where
      go : (t : Bool) → eqb s.rename 65535 ≡ t → (not t && eqb (get_or lengths s.rename 0) 0) ≡ false
      go true e = refl
      go false e = above-eqb _ (q.renamed (eqb-false s.rename 65535 e))

  pub sound_good : (s : Split) → Sound lengths s → bad s ≡ false
  unfolding split_bad any_of any_from
  sound_good s q =
      rw (above-eqb (get_or lengths s.unit 0) q.named, rename_good s q, q.aligned, le-ltb 7 s.flags q.flags, le-ltb 4026531840 s.start q.start, le-ltb 4026531840 s.end q.end)

-- ---- what a merge keeps of a split

module _ (lengths : List ℕ) (g : Given) where
  -- no fault of its own, and neither 20 nor 21
  abbrev Good : Split → Type 0
  Good s = Sound lengths s × Inside g s

  joint_aligned : (new old : Split) → bad_align new.alignment ≡ false → bad_align old.alignment ≡ false → bad_align (joint_of new old).alignment ≡ false
  unfolding joint_of
  joint_aligned new old a b = go (eqb new.alignment 0)
    where
      go : (t : Bool) → bad_align (cond t old.alignment new.alignment) ≡ false
      go true = b
      go false = a

  joint_sound : (new old : Split) → Sound lengths new → Sound lengths old → Sound lengths (joint_of new old)
  unfolding joint_of
  joint_sound new old p q = record {
    named = p.named;
    renamed = λ h. absurd (h refl);
    aligned = joint_aligned new old p.aligned q.aligned;
    flags = let h = bit_product (new.flags / 2 % 2) (old.flags / 2 % 2) (omega arith) (omega arith) in omega (arith, h);
    start = omega (arith, lower-is old.start new.start, q.start, p.start);
    end = omega (arith, higher-is old.end new.end, q.end, p.end);
  }

  joint_inside : (new old : Split) → new.section ≡ old.section → Inside g new → Inside g old → Inside g (joint_of new old)
  unfolding joint_of
  joint_inside new old e p q = record {
    section = p.section;
    end = let below : new.end ≤ get_or g.ends new.section 0 = p.end in let older : old.end ≤ get_or g.ends new.section 0 = rw e q.end in omega (arith, higher-is old.end new.end, older, below);
  }

  good_keeps : Keeps Good
  good_keeps = record {
    joint = λ new old e p q. (joint_sound new old p.0 q.0, joint_inside new old e p.1 q.1);
    renamed = λ s named p q. (
      record {
        named = q.0.named;
        renamed = p.0.renamed;
        aligned = p.0.aligned;
        flags = p.0.flags;
        start = p.0.start;
        end = p.0.end;
      },
      record { section = p.1.section; end = p.1.end },
    );
  }

-- ---- a table without a fault

module _ (lengths : List ℕ) (sections : List Section) (room : ℕ) where
  -- where a section ends, as the merge is given it
  end_given : (k : ℕ) → k < length sections → get_or (map section_end sections) k 0 ≡ section_end (get_or sections k no_section)
  end_given k h = get_or-map section_end sections k no_section 0 h

  module _ (rows : List Split) (faultless : (k : ℕ) → k < length rows → split_fault lengths sections rows k ≡ 0) where
    passed : records_check (split_fault lengths sections rows) (length rows) ≡ accepted tt
    passed = table-laws.records_pass (split_fault lengths sections rows) (length rows) faultless

    row_good : (k : ℕ) → k < length rows → Good lengths (given sections room) (get_or rows k no_split)
    row_good k h =
        let there = table-laws.splits_section lengths sections rows (length rows) passed k h in
        let below = table-laws.splits_in_section lengths sections rows (length rows) passed k h in (
          sound_of lengths _ (table-laws.partial_good lengths rows k (table-laws.split_good lengths sections rows k (faultless k h)).0),
          record {
            section = omega (arith, there, length-map sections section_end);
            end = rw (end_given (get_or rows k no_split).section there) below;
          },
        )

    rows_good : All (Good lengths (given sections room)) rows
    rows_good = all_placed rows no_split row_good

    pub rows_rise : Rising rows
    rows_rise =
        rising_of rows no_split
        (λ i j q h. let n = table-laws.splits_rise lengths sections rows (length rows) passed i j (omega arith) h in record { sections = n.sections; starts = n.starts })

  partials_good : (partials : List Split) → ((k : ℕ) → k < length partials → partial_fault lengths partials k ≡ 0)
      → All (λ s. Inside (given sections room) s → Good lengths (given sections room) s) partials
  partials_good partials faultless =
      all_placed partials no_split (λ k h inside. (sound_of lengths _ (table-laws.partial_good lengths partials k (faultless k h)), inside))

  -- the split before one, in rows that rise
  before_below : (rows : List Split) → Rising rows → (k : ℕ) → k < length rows → NotBelow (split_before rows k) (get_or rows k no_split)
  unfolding split_before
  before_below rows r zero h = record { sections = omega arith; starts = λ e. omega arith }
  before_below rows r (suc k) h =
      rw (ne_eqb (suc k) 0 (λ e. omega arith), let e : suc k - 1 ≡ k = omega arith in e)
      (rising_at rows k (suc k) no_split r (omega arith) h)

  placed_good : (before s : Split) → Inside (given sections room) s → NotBelow before s
      → split_misplaced (length sections) (get_or sections s.section no_section) before s ≡ false
  unfolding split_misplaced any_of any_from
  placed_good before s p n =
      let there : s.section < length sections = omega (arith, p.section, length-map sections section_end) in
      let below : s.end ≤ section_end (get_or sections s.section no_section) = rw (end_given s.section there) at p.end in
      rw (lt-leb (length sections) s.section there, le-ltb (section_end (get_or sections s.section no_section)) s.end below, le-ltb s.section before.section n.sections, not_falling)
    where
      not_falling : (eqb s.section before.section && ltb s.start before.start) ≡ false
      not_falling = go (eqb s.section before.section) refl
        where
          go : (t : Bool) → eqb s.section before.section ≡ t → (t && ltb s.start before.start) ≡ false
          go true e = le-ltb s.start before.start (n.starts (sym (eqb-true s.section before.section e)))
          go false e = refl

  -- rows that are good and rise have no fault
  no_fault : (rows : List Split) → All (Good lengths (given sections room)) rows → Rising rows → (k : ℕ) → k < length rows
      → split_fault lengths sections rows k ≡ 0
  unfolding split_fault any_of any_from
  no_fault rows q r k h =
      let s = all_at k no_split q h in
      rw (sound_good lengths (get_or rows k no_split) s.0, placed_good (split_before rows k) (get_or rows k no_split) s.1 (before_below rows r k h))

  -- THEOREM: the merge of a good split into a good table gives a good table
  pub one_good : (rows : List Split) (new : Split) (result : List Split) → ((k : ℕ) → k < length rows → split_fault lengths sections rows k ≡ 0)
      → Sound lengths new → merge_one (given sections room) rows new ≡ accepted result
      → (k : ℕ) → k < length result → split_fault lengths sections result k ≡ 0
  one_good rows new result faultless sound e =
      let g = given sections room in
      no_fault result (one_kept (Good lengths g) (good_keeps lengths g) g rows new result (rows_good rows faultless) (λ inside. (sound, inside)) e)
      (one_rising g rows new result (rows_rise rows faultless) e)

  -- THEOREM: the merge of a good partial list into a good table gives a good table
  pub all_good : (rows partials result : List Split) → ((k : ℕ) → k < length rows → split_fault lengths sections rows k ≡ 0)
      → ((k : ℕ) → k < length partials → partial_fault lengths partials k ≡ 0) → merge_all (given sections room) rows partials ≡ accepted result
      → (k : ℕ) → k < length result → split_fault lengths sections result k ≡ 0
  all_good rows partials result faultless sound e =
      let g = given sections room in
      no_fault result (all_kept (Good lengths g) (good_keeps lengths g) g rows partials result (rows_good rows faultless) (partials_good partials sound) e)
      (all_rising g rows partials result (rows_rise rows faultless) e)
