-- What every stage of a run leaves: a split table in which no split has a fault, of no more splits than there is room for. The merge of partial splits without a fault,
-- marking common, filling gaps, and the trim keep it so. Assumes nothing.
use Prim.Native.Nat.{ℕ, ◌≤◌, ◌<◌}
use mathlib.Core.Path.{◌≡◌, refl, sym, ap, subst, ◌∙◌}
use mathlib.Core.List.{List, [], map, map-id}
use mathlib.Core.Bool.{false}
use native.Mathlib.Nat.{not-suc-le-zero}
use native.Mathlib.Omega.{arith}
use lib.ListN.{length, get_or, take, drop, length-map, length-drop}
use lib.Seq.{length-take-le}
use Rattle.lists.specs.Outcome.{accepted}
use Rattle.lists.specs.Rows.{tabulate}
use Rattle.lists.proofs.Outcomes.{bind_inv, then_both, same_accepted}
use Rattle.lists.proofs.Parts.{tabulate-map, tabulate_list}
use Rattle.obj.specs.Records.{unit_at}
use Rattle.obj.specs.declared.Section.{Section}
use Rattle.obj.specs.declared.Split.{Split}
use Rattle.obj.specs.Nothing.{no_split}
use Rattle.names.specs.Names.{name_at, names_of}
use Rattle.tables.specs.Records.{sections_in, partials_in, partial_fault}
use Rattle.tables.proofs.Lookups.{length-partials_in}
use Rattle.load.specs.Load.{Loaded, names_in}
use Rattle.load.proofs.Laws.{good_splits}
use Rattle.loaded.specs.Tables.{image_from, sections_from, Usable}
use Rattle.loaded.proofs.Laws.{measured, section_below, few_units}
use Rattle.merge.specs.Merge.{given}
use Rattle.merge.proofs.Keeping.{all_few}
use Rattle.merge.proofs.Tables.{Sound, sound_good, all_good}
use Rattle.gap_splits.specs.Entering.{Filled, Ceilings}
use Rattle.gap_laws.specs.Good.{Within}
use Rattle.gap_laws.proofs.Tables.{Leaves, filled_good}
use Rattle.validate.specs.Check.{validate}
use Rattle.trim.specs.Trim.{trimmed}
use Rattle.trim.proofs.Bounds.{trim_faultless}
use Rattle.trim.proofs.Ends.{trim_keeps, same_length}
use Rattle.order.specs.LinkOrder.{link_order}
use Rattle.order.proofs.Theorems.{Ways, ways}
use Rattle.run_splits.specs.Table as table
use Rattle.run.specs.Run.{linked}
use Rattle.split_origins.proofs.Originated.{merged_originated, common_originated, gaps_originated, trimmed_originated}
use Rattle.run_entries.proofs.Good.{Good, by_section}
use Rattle.run_entries.proofs.Common.{common_faultless, common_length}

-- ---- the stages
module _ {file : List ℕ} {t : Loaded} (u : Usable file t) where
  abbrev pub heads : List Section
  heads = sections_in file t.sections

  -- the names have their lengths
  pub lengths_are : map length (names_in file t) ≡ t.lengths
  unfolding names_in names_of name_at
  lengths_are =
      sym (tabulate-map length (name_at file t.names t.lengths) (λ k. get_or t.lengths k 0) 0 (length t.names) (λ j a b. sym (own j (omega arith))))
      ∙ ap (λ (n : ℕ). tabulate (λ k. get_or t.lengths k 0) 0 n) (sym (measured u))
      ∙ tabulate_list (λ (x : ℕ). x) (λ k. get_or t.lengths k 0) t.lengths 0 (λ k h. refl)
      ∙ map-id t.lengths
    where
      own : (k : ℕ) → k < length t.names → length (take (get_or t.lengths k 0) (drop (get_or t.names k 0) file)) ≡ get_or t.lengths k 0
      own k h =
          length-take-le (get_or t.lengths k 0) (drop (get_or t.names k 0) file)
          (let held = u.good.names.held k h in let long = length-drop (get_or t.names k 0) file in omega arith)

  -- no partial split has a fault
  pub partials_faultless : (k : ℕ) → k < length (partials_in file t.splits) → partial_fault (map length (names_in file t)) (partials_in file t.splits) k ≡ 0
  unfolding partial_fault
  partials_faultless k h =
      let s : Split = get_or (partials_in file t.splits) k no_split in
      let g = good_splits u.good k (omega (arith, h, length-partials_in file t.splits)) in
      let sound : Sound (map length (names_in file t)) s =
      subst (λ (l : List ℕ). Sound l s) (sym lengths_are)
      (record { named = g.named; renamed = g.renamed; aligned = g.aligned; flags = g.flags; start = g.start; end = g.end }) in
      rw (sound_good (map length (names_in file t)) s sound)

  -- what the link order of a table without a fault may give
  pub link_ways : {room : ℕ} {names : List (List ℕ)} {rows : List Split} → Good heads room names rows → room ≤ 1024 → (most : ℕ)
      → Ways (linked file t rows) most (link_order (linked file t rows) most)
  link_ways {rows = rows} q low most =
      ways (linked file t rows) (by_section q) (omega (arith, q.few, low)) (omega (arith, length-map t.units (unit_at file), few_units u)) most

  module _ (room : ℕ) (names : Ceilings) where
    pub merged_good : (l : List Split) → table.merged file t room names ≡ accepted l → Good heads room (names_in file t) l
    unfolding table.merged
    merged_good l e = record {
      faultless = all_good (map length (names_in file t)) heads room [] (partials_in file t.splits) l (λ k h. absurd (not-suc-le-zero h)) partials_faultless e;
      few = all_few (given heads room) [] (partials_in file t.splits) l (omega arith) e;
      origins = merged_originated u room names l e;
    }

    pub common_good : (l m : List Split) → Good heads room (names_in file t) l → table.with_common file t room names l ≡ accepted m → Good heads room (names_in file t) m
    unfolding table.with_common
    common_good l m q e = record {
      faultless = common_faultless (map length (names_in file t)) heads false 0 _ l m e q.faultless;
      few = omega (arith, common_length false 0 _ l m e, q.few);
      origins = common_originated u room names l m q.origins e;
    }

    -- the gaps filled: with more names, within their ceilings
    pub gaps_leave : (l : List Split) (r : Filled) → Good heads room (names_in file t) l → table.with_gaps file t room names l ≡ accepted r
        → Leaves heads room names (record { names = names_in file t; rows = l }) r
    unfolding table.with_gaps
    gaps_leave l r q e =
        filled_good (image_from file t) (sections_from file t) heads room names (record { names = names_in file t; rows = l }) r (λ n h. section_below u n h) q.faultless e

    pub gaps_good : (l : List Split) (r : Filled) → Good heads room (names_in file t) l → table.with_gaps file t room names l ≡ accepted r
        → Good heads room r.names r.rows
    gaps_good l r q e = let g = gaps_leave l r q e in record { faultless = g.good; few = g.few q.few; origins = gaps_originated u room names l r q.origins e }

    pub trimmed_good : (all : List (List ℕ)) (l m : List Split) → Good heads room all l → trimmed (image_from file t) (sections_from file t) l ≡ accepted m → Good heads room all m
    trimmed_good all l m q e = record {
      faultless = trim_faultless (map length all) heads (image_from file t) (sections_from file t) l m e q.faultless;
      few = omega (arith, same_length l m (trim_keeps (image_from file t) (sections_from file t) l m e), q.few);
      origins = trimmed_originated u room names l m q.origins e;
    }

    -- the split table of a run: the gaps left a table without a fault, which passed the check, and the trim of it has none either
    pub record Staged (r : Filled) : Type 0 where
      pub filled : List Split
      pub before : Good heads room r.names filled
      pub checks : validate (image_from file t).symbol (image_from file t).count filled ≡ accepted tt
      pub trims : trimmed (image_from file t) (sections_from file t) filled ≡ accepted r.rows
      pub good : Good heads room r.names r.rows
      pub within : Within names (names_in file t) → Within names r.names

    -- THEOREM: so it is of every run
    pub staged : (r : Filled) → table.split_table file t room names ≡ accepted r → Staged r
    unfolding table.split_table table.checked
    staged r e =
        let a = bind_inv _ _ _ e in
        let b = bind_inv _ _ _ a.2 in
        let c = bind_inv _ _ _ b.2 in
        let d = bind_inv _ _ _ c.2 in
        let both = then_both _ _ _ d.1 in
        let marked = common_good a.0 b.0 (merged_good a.0 a.1) b.1 in
        let before = gaps_good b.0 c.0 marked c.1 in
        subst Staged (same_accepted d.2)
        (record {
          filled = c.0.rows;
          before = before;
          checks = both.0;
          trims = both.1;
          good = trimmed_good c.0.names c.0.rows d.0 before both.1;
          within = (gaps_leave b.0 c.0 marked c.1).within;
        })
