-- What each stage keeps of the rows: sections that are there, ends at or below the ceiling, units and renames that are names. The merge of such splits gives such rows, common only
-- sets a flag, gaps are such splits with a name that was found or added, and the trim leaves ends that it was asked. So no stage is given what it cannot take.
-- Assumes nothing.
use Prim.Native.Nat.{ℕ, ◌<◌, ◌≤◌}
use mathlib.Core.Path.{◌≡◌, refl, sym, subst, ◌∙◌}
use mathlib.Core.Bool.{Bool, true, false, cond, ◌&&◌}
use mathlib.Core.List.{List, [], ◌∷◌, ◌++◌, map}
use native.Mathlib.Omega.{arith}
use borrow.Author.Tests.{ltb-true}
use lib.Dec.{eqb, leb, ltb}
use lib.ListN.{length, get_or, length-map, length-append}
use Rattle.lists.specs.Outcome.{accepted, refuse, ◌>>◌}
use Rattle.lists.specs.Sort.{All, none, each}
use Rattle.lists.proofs.All.{all_at, all_map}
use Rattle.lists.proofs.Each.{all_placed}
use Rattle.lists.proofs.Outcomes.{bind_inv, then_inv, then_both, same_accepted}
use Rattle.obj.specs.Records.{section_at}
use Rattle.obj.specs.declared.Split.{Split}
use Rattle.obj.specs.Nothing.{no_split}
use Rattle.tables.specs.Records.{sections_in, partials_in}
use Rattle.tables.proofs.Lookups.{length-partials_in}
use Rattle.load.specs.Load.{Loaded, names_in}
use Rattle.load.proofs.Laws.{name_known, good_splits, length-names_in}
use Rattle.loaded.specs.Tables.{image_from, sections_from, Usable}
use Rattle.splits.specs.Updates.{with_common}
use Rattle.names.specs.Names.{number_of}
use Rattle.trim.proofs.Ends.{trim_keeps, same_length, same_row}
use Rattle.merge.specs.Merge.{Given, given, joint_of, section_end}
use Rattle.merge.specs.Kept.{Inside, Keeps}
use Rattle.merge.proofs.Keeping.{one_kept, all_kept}
use Rattle.common.specs.Common.{From, nowhere, on, marked, marked_from, first_common}
use Rattle.run_merge.proofs.Laws.{common_is}
use Rattle.gap_columns.specs.Columns.{Gap}
use Rattle.gaps.specs.Found.{Lies}
use Rattle.gaps.proofs.Inside.{found_lies}
use Rattle.gap_splits.specs.Entering.{Filled, Ceilings, Named, full, named, gap_split, unit_name, entered, filled}
use Rattle.create_gap_splits.specs.Create.{gaps_filled}
use Rattle.loaded.proofs.Laws.{section_below}
use Rattle.lists.proofs.Compare.{higher-is}
use Rattle.run_splits.specs.Table as table
use Rattle.run_splits.specs.Table.{Fine, Homed}

-- ---- the merge

fine_joint : {sections names : ℕ} (new old : Split) → Fine sections names new → Fine sections names old → Fine sections names (joint_of new old)
unfolding joint_of
fine_joint new old p q = record { section = p.section; end = omega (arith, higher-is old.end new.end, q.end, p.end); unit = p.unit; renamed = λ h. absurd (h refl) }

fine_keeps : (sections names : ℕ) → Keeps (Fine sections names)
fine_keeps sections names = record {
  joint = λ new old e p q. fine_joint new old p q;
  renamed = λ s other p q. record { section = p.section; end = p.end; unit = q.unit; renamed = p.renamed };
}

-- more names
pub fine_more : {sections names more : ℕ} → names ≤ more → {s : Split} → Fine sections names s → Fine sections more s
fine_more h p = record { section = p.section; end = p.end; unit = omega (arith, h, p.unit); renamed = λ q. omega (arith, h, p.renamed q) }

fine_all : {sections names more : ℕ} → names ≤ more → {l : List Split} → All (Fine sections names) l → All (Fine sections more) l
fine_all h q = all_map (λ s p. fine_more h p) q

module _ {file : List ℕ} {t : Loaded} (u : Usable file t) (room : ℕ) (names : Ceilings) where
  abbrev sections : ℕ
  sections = length t.sections

  abbrev ends : Given
  ends = given (sections_in file t.sections) room

  -- a section that the merge finds is there
  inside_there : (s : Split) → Inside ends s → s.section < sections
  inside_there s p = omega (arith, p.section, length-map (sections_in file t.sections) section_end, length-map t.sections (section_at file))

  partials_fine : All (λ s. Inside ends s → Fine sections (length t.names) s) (partials_in file t.splits)
  partials_fine = all_placed (partials_in file t.splits) no_split fine_at
    where
      fine_at : (k : ℕ) → k < length (partials_in file t.splits) → Inside ends (get_or (partials_in file t.splits) k no_split)
          → Fine sections (length t.names) (get_or (partials_in file t.splits) k no_split)
      fine_at k h p =
          let g = good_splits u.good k (omega (arith, h, length-partials_in file t.splits)) in
          record { section = inside_there _ p; end = g.end; unit = name_known u.good _ g.named; renamed = λ q. name_known u.good _ (g.renamed q) }

  pub merged_fine : (l : List Split) → table.merged file t room names ≡ accepted l → All (Fine sections (length t.names)) l
  unfolding table.merged
  merged_fine l e = all_kept (Fine sections (length t.names)) (fine_keeps sections (length t.names)) ends [] (partials_in file t.splits) l none partials_fine e

  -- ---- common
  marked_fine : (n section address : ℕ) (s : Split) → Fine sections n s → Fine sections n (marked section address s)
  unfolding marked
  marked_fine n section address s p = go (eqb s.section section && leb address s.start)
    where
      go : (b : Bool) → Fine sections n (cond b (with_common s) s)
      go true = record { section = p.section; end = p.end; unit = p.unit; renamed = p.renamed }
      go false = p

  all_marked : (n section address : ℕ) {l : List Split} → All (Fine sections n) l → All (Fine sections n) (map (marked section address) l)
  all_marked n section address none = none
  all_marked n section address (each p q) = each (marked_fine n section address _ p) (all_marked n section address q)

  from_fine : (n : ℕ) (from : From) (l : List Split) → All (Fine sections n) l → All (Fine sections n) (marked_from from l)
  unfolding marked_from
  from_fine n nowhere l q = q
  from_fine n (on section address) l q = all_marked n section address q

  pub common_fine : (n : ℕ) (l m : List Split) → All (Fine sections n) l → table.with_common file t room names l ≡ accepted m → All (Fine sections n) m
  unfolding table.with_common
  common_fine n l m q e = subst (All (Fine sections n)) (same_accepted (sym (common_is _ l) ∙ e)) (from_fine n (first_common _ l) l q)

  -- ---- gaps

  -- a name that was found or added is one of the names
  record Numbers (before : ℕ) (r : Named) : Type 0 where
    more : before ≤ length r.names
    there : r.number < length r.names

  numbered : (section start : ℕ) (old : List (List ℕ)) (x : List ℕ) (r : Named) → named names section start old x ≡ accepted r → Numbers (length old) r
  unfolding named
  numbered section start old x r e = go (ltb (number_of old x) (length old)) refl e
    where
      go : (b : Bool) → ltb (number_of old x) (length old) ≡ b
          → cond b (accepted (record { names = old; number = number_of old x }))
          (refuse 28 section start (full names old x) >> accepted (record { names = old ++ (x ∷ []); number = length old })) ≡ accepted r → Numbers (length old) r
      go true p q = subst (Numbers (length old)) (same_accepted q) (record { more = omega arith; there = ltb-true (number_of old x) (length old) p })
      go false p q =
          subst (Numbers (length old)) (same_accepted (then_inv _ _ _ _ _ _ q).1)
          (let n = length-append old (x ∷ []) in record { more = omega (arith, n); there = omega (arith, n) })

  abbrev Low : Gap → Type 0
  Low x = (x.section < sections) × (x.end ≤ 4026531840)

  module _ (section_name : ℕ → List ℕ) where
    entered_fine : (x : Gap) → Low x → (s r : Filled) → All (Fine sections (length s.names)) s.rows → entered section_name ends names s x ≡ accepted r
        → All (Fine sections (length r.names)) r.rows
    unfolding entered
    entered_fine x low s r q e =
        let a = bind_inv _ _ _ e in
        let b = bind_inv _ _ _ a.2 in
        let n = numbered x.section x.start s.names (unit_name section_name ends names x) a.0 a.1 in
        subst (λ (f : Filled). All (Fine sections (length f.names)) f.rows) (same_accepted b.2)
        (one_kept (Fine sections (length a.0.names)) (fine_keeps sections (length a.0.names)) ends s.rows (gap_split x a.0.number) b.0
        (fine_all n.more q) (λ inside. record { section = low.0; end = low.1; unit = n.there; renamed = λ h. absurd (h refl) }) b.1)

    filled_fine : {gaps : List Gap} → All Low gaps → (s r : Filled) → All (Fine sections (length s.names)) s.rows → filled section_name ends names s gaps ≡ accepted r
        → All (Fine sections (length r.names)) r.rows
    unfolding filled
    filled_fine none s r q e = subst (λ (f : Filled). All (Fine sections (length f.names)) f.rows) (same_accepted e) q
    filled_fine (each {x = x} low later) s r q e =
        let a = bind_inv _ _ _ e in
        filled_fine later a.0 r (entered_fine x low s a.0 q a.1) a.2

  gaps_low : (gaps : List Gap) → All (Lies (sections_from file t)) gaps → All Low gaps
  gaps_low gaps q = all_map (λ x l. (l.there, omega (arith, l.within, section_below u x.section l.there))) q

  pub gaps_fine : (l : List Split) (r : Filled) → All (Fine sections (length (names_in file t))) l → table.with_gaps file t room names l ≡ accepted r
      → All (Fine sections (length r.names)) r.rows
  unfolding table.with_gaps gaps_filled
  gaps_fine l r q e =
      let a = bind_inv _ _ _ e in
      filled_fine _ (gaps_low a.0 (found_lies (image_from file t) (sections_from file t) l a.0 a.1)) (record { names = names_in file t; rows = l }) r q a.2

  -- ---- the trim
  checked_homed : (n : ℕ) (l m : List Split) → All (Fine sections n) l → table.checked file t room names l ≡ accepted m → All (Homed sections n) m
  unfolding table.checked
  checked_homed n l m q e =
      let keeps = trim_keeps (image_from file t) (sections_from file t) l m (then_both _ _ _ e).1 in
      all_placed m no_split (λ k h.
      let f = all_at k no_split q (omega (arith, h, same_length l m keeps)) in
      subst (Homed sections n) (sym (same_row l m keeps k)) (record { section = f.section; unit = f.unit; renamed = f.renamed }))

  -- THEOREM: the rows of the split table lie in sections that are there, and their units and renames are names
  pub table_homed : (r : Filled) → table.split_table file t room names ≡ accepted r → All (Homed sections (length r.names)) r.rows
  unfolding table.split_table
  table_homed r e =
      let a = bind_inv _ _ _ e in
      let b = bind_inv _ _ _ a.2 in
      let c = bind_inv _ _ _ b.2 in
      let d = bind_inv _ _ _ c.2 in
      let known = subst (λ (n : ℕ). All (Fine sections n) a.0) (sym (length-names_in file t)) (merged_fine a.0 a.1) in
      subst (λ (f : Filled). All (Homed sections (length f.names)) f.rows) (same_accepted d.2)
      (checked_homed (length c.0.names) c.0.rows d.0 (gaps_fine b.0 c.0 (common_fine _ a.0 b.0 known b.1) c.1) d.1)
