-- The numbers of a run's refusals (DECISIONS.md, 21): the stages up to the check by their own lines, the trim after a check that passed (`trim_refused`), the link order by
-- what it may give (`ways`), and the walk of a trimmed table, in which every unit is a node. So 54, 62, 72 and 74 never come. Assumes nothing.
use Prim.Native.Nat.{ℕ, ◌+◌, ◌/◌, ◌≤◌, ◌<◌}
use mathlib.Core.Path.{◌≡◌, refl, sym, ap, subst, ◌∙◌}
use mathlib.Core.List.{List, [], map}
use mathlib.Core.Logic.{◌⊎◌, inl, inr}
use native.Mathlib.Omega.{arith}
use lib.ListN.{length, get_or, drop, length-map}
use Rattle.std.proofs.lemmas.List.{get_or-map}
use Rattle.lists.specs.Outcome.{Outcome, accepted, refused, ◌>>=◌}
use Rattle.lists.specs.Members.{In}
use Rattle.lists.specs.Sort.{All}
use Rattle.lists.proofs.Binds.{bind_goes}
use Rattle.lists.proofs.Each.{all_placed}
use Rattle.lists.proofs.Outcomes.{same_accepted}
use Rattle.obj.specs.declared.Split.{Split}
use Rattle.obj.specs.declared.Unit as units
use Rattle.obj.specs.Records.{section_at, partial_at, partial_numbered}
use Rattle.obj.specs.Nothing.{no_split}
use Rattle.tables.specs.Tables.{main_ceilings}
use Rattle.tables.specs.Records.{sections_in, partials_in, units_in}
use Rattle.tables.proofs.Lookups.{partial_is, length-partials_in}
use Rattle.load.specs.Load.{Loaded, load_of, names_in}
use Rattle.load.proofs.Laws.{good_splits}
use Rattle.loaded.specs.Tables.{image_from, sections_from, Usable}
use Rattle.loaded.proofs.Bytes.{loaded_usable}
use Rattle.loaded.proofs.Laws.{few_sections, section_below, symbols_sound}
use Rattle.relocs.specs.Relocs.{reloc_of}
use Rattle.merge.specs.Merge.{given}
use Rattle.run_merge.proofs.Laws.{common_is}
use Rattle.gap_splits.specs.Entering.{Filled, Ceilings}
use Rattle.validate.specs.Check.{validate}
use Rattle.trim.specs.Trim.{trimmed}
use Rattle.trim.proofs.Checked.{splitting, trim_rises}
use Rattle.trim.proofs.Ends.{trim_keeps, same_length, same_section, same_start}
use Rattle.trim.proofs.Refusals.{trim_refused}
use Rattle.toposort.specs.Search.{End}
use Rattle.link_graph.specs.Graph.{nodes, units_of}
use Rattle.link_graph.specs.Joined.{InOrder}
use Rattle.link_graph.proofs.Nodes.{counted_in}
use Rattle.link_graph.proofs.Graph.{in_at}
use Rattle.order.specs.LinkOrder.{link_order}
use Rattle.order.proofs.Theorems.{Ways, number_twice, no_room, ordered, on_cycle}
use Rattle.units.specs.Units.{unit_of}
use Rattle.pieces.specs.declared.Counts.{Counts}
use Rattle.walk.specs.Walk.{Input, start_in, splitting_end_in}
use Rattle.walk.specs.Giving.{input_of}
use Rattle.run_splits.specs.Table as table
use Rattle.run.specs.Run.{Rooms, Ended, linked, walked, on_order, ordered_and_walked, stages, run_of}
use Rattle.run.specs.Run as run
use Rattle.run_file.specs.RunFile.{rooms_in}
use Rattle.run_outputs.specs.Laid.{Sizes}
use Rattle.entry_resolve_link_order.proofs.Theorems.{records_names}
use Rattle.entry_split_file.specs.Entry.{split_file_of, word_by, Leaves}
use Rattle.stage_splits.specs.StageSplits.{room_of}
use Rattle.stage_splits.proofs.Laws.{room_low}
use Rattle.stage_walk.specs.Room.{room_in}
use Rattle.restore.proofs.Refusals.{Says, says_of, says_bind}
use Rattle.restore_entry.proofs.Answers.{says_map}
use Rattle.run_entries.specs.Numbers.{OfStages, CanCome, NeverThese, WordOf}
use Rattle.run_entries.specs.Numbers as places
use Rattle.run_entries.proofs.Numbers.{Run, Can, low, high, Fitting, Bounded, says_when, load_says, merge_can, end_can, gaps_can, check_can}
use Rattle.run_entries.proofs.Good.{Good, sound_at, aligned_at, section_at_lem}
use Rattle.run_entries.proofs.Rows.{link_ways, merged_good, common_good, gaps_good, Staged, staged}
use Rattle.run_entries.proofs.Walks.{unit_listed, walk_can}

-- every split's unit is a node
unit_node : (S : List Split) (k : ℕ) → k < length S → In (get_or S k no_split).unit (nodes S)
unfolding nodes
unit_node S k h =
    counted_in (get_or S k no_split).unit (units_of S) []
    (subst (λ (v : ℕ). In v (units_of S)) (get_or-map (λ (s : Split). s.unit) S k no_split 0 h) (in_at (units_of S) k (omega (arith, length-map S (λ (s : Split). s.unit)))))

module _ (B : Type 0) {file : List ℕ} {t : Loaded} (u : Usable file t) where
  -- ---- the rows of a table without a fault
  module _ {room : ℕ} {names : List (List ℕ)} {rows : List Split} (q : Good (sections_in file t.sections) room names rows) where
    rows_fitting : All (Fitting B) rows
    rows_fitting =
        all_placed rows no_split (λ k h. record {
          section = λ b. omega (arith, section_at_lem q k h, length-map t.sections (section_at file), few_sections u);
          start = (sound_at q k h).start;
        })

    rows_bounded : All Bounded rows
    rows_bounded = all_placed rows no_split (λ k h. record { start = (sound_at q k h).start; end = (sound_at q k h).end })

    -- ---- the trim of a table that passed the check
    trim_can : validate (image_from file t).symbol (image_from file t).count rows ≡ accepted tt → Says (Can B) (trimmed (image_from file t) (sections_from file t) rows)
    trim_can passed = go (trimmed (image_from file t) (sections_from file t) rows) refl
      where
        go : (o : Outcome (List Split)) → trimmed (image_from file t) (sections_from file t) rows ≡ o → Says (Can B) o
        go (accepted m) e = tt
        go (refused number section address) e =
            let r = trim_refused (image_from file t) (sections_from file t) (symbols_sound u) rows passed (aligned_at q) e in
            let head = (sections_from file t).head r.0 in
            let low : head.address + head.size ≤ 4026531840 = section_below u r.0 r.1 in
            says_of (Can B) (splitting (image_from file t) (sections_from file t) r.0) number section address
            (end_can B (image_from file t) r.0 head ((sections_from file t).bytes r.0) (omega (arith, r.1, few_sections u)) (omega (arith, low))) r.2

    checked_can : (most : ℕ) (ceilings : Ceilings) → Says (Can B) (table.checked file t most ceilings rows)
    unfolding table.checked
    checked_can most ceilings =
        says_when (Can B) (validate (image_from file t).symbol (image_from file t).count rows) _
        (check_can B (image_from file t).symbol (image_from file t).count rows_fitting) trim_can

  -- ---- up to the trim
  module _ (room : ℕ) (names : Ceilings) where
    common_can : (l : List Split) → Says (Can B) (table.with_common file t room names l)
    unfolding table.with_common
    common_can l = subst (λ (o : Outcome (List Split)). Says (Can B) o) (sym (common_is _ l)) tt

    with_gaps_can : (l : List Split) → All Bounded l → Says (Can B) (table.with_gaps file t room names l)
    unfolding table.with_gaps
    with_gaps_can l q =
        gaps_can B (image_from file t) (sections_from file t) (few_sections u) (section_below u) (given (sections_in file t.sections) room) names
        (record { names = names_in file t; rows = l }) q

    table_can : All (Fitting B) (partials_in file t.splits) → Says (Can B) (table.split_table file t room names)
    unfolding table.split_table table.merged
    table_can partials =
        says_bind (Can B) (table.merged file t room names) _ (merge_can B (given (sections_in file t.sections) room) [] partials) (λ l a.
        says_bind (Can B) (table.with_common file t room names l) _ (common_can l) (λ m b.
        let marked = common_good u room names l m (merged_good u room names l a) b in
        says_bind (Can B) (table.with_gaps file t room names m) _ (with_gaps_can m (rows_bounded marked)) (λ full c.
        says_bind (Can B) (table.checked file t room names full.rows) _ (checked_can (gaps_good u room names m full marked c) room names) (λ rows d. tt))))

  -- ---- the link order and the walk of a run's split table
  module _ {room : ℕ} {names : Ceilings} {full : Filled} (q : Staged u room names full) where
    abbrev out : List Split
    out = full.rows

    same : (k : ℕ) → ((get_or out k no_split).section ≡ (get_or q.filled k no_split).section) × ((get_or out k no_split).start ≡ (get_or q.filled k no_split).start)
    same k =
        let keeps = trim_keeps (image_from file t) (sections_from file t) q.filled out q.trims in
        (same_section q.filled out keeps k, same_start q.filled out keeps k)

    -- no split that is taken ends below its section's start
    forward : (n end : ℕ) → n < (sections_from file t).count → splitting_end_in (image_from file t) (sections_from file t) n ≡ accepted end
        → All (λ s. s.section ≡ n → s.start < end → start_in (sections_from file t) n ≤ s.start → start_in (sections_from file t) n ≤ s.end) out
    forward n end h e = all_placed out no_split one
      where
        one : (k : ℕ) → k < length out → (get_or out k no_split).section ≡ n → (get_or out k no_split).start < end → start_in (sections_from file t) n ≤ (get_or out k no_split).start
            → start_in (sections_from file t) n ≤ (get_or out k no_split).end
        one k p section below low =
            let there : k < length q.filled = omega (arith, p, same_length q.filled out (trim_keeps (image_from file t) (sections_from file t) q.filled out q.trims)) in
            let s = same k in
            let rises = trim_rises (image_from file t) (sections_from file t) (symbols_sound u) q.filled q.checks (aligned_at q.before) out q.trims k there (λ last f.
            let z : last ≡ end = same_accepted (sym f ∙ ap (splitting (image_from file t) (sections_from file t)) (sym s.0 ∙ section) ∙ e) in omega (arith, z, s.1, below)) in
            omega (arith, low, s.1, rises)

    -- THEOREM: neither 72 nor 74 comes of the walk in a link order
    pub walked_can : (output : Counts) (order : List units.Unit) → InOrder (linked file t full.rows) (map (λ (x : units.Unit). x.name) order)
        → Says (Can B) (walked file t output full.rows order)
    unfolding walked
    walked_can output order in_order = walk_can B input (few_sections u) (section_below u) forward (all_placed out no_split listed)
      where
        input : Input
        input =
            input_of (image_from file t) (sections_from file t) (reloc_of file t.relocations) (length t.relocations) out (map (λ (x : units.Unit). x.name) order) output

        listed : (k : ℕ) → k < length out → unit_of input.units (get_or out k no_split).unit < length input.units
        listed k h = unit_listed input.units (get_or out k no_split).unit (in_order.whole (get_or out k no_split).unit (unit_node out k h))

    ends_can : (output : Counts) (added : List (List ℕ)) (most : ℕ) (o : Outcome End) → Ways (linked file t out) most o → Says (Can B) (o >>= on_order file t output added out)
    unfolding ◌>>=◌ on_order
    ends_can output added most o (number_twice e) = low B (places.twice (omega arith) (omega arith)) (λ b. omega arith) (omega arith)
    ends_can output added most o (no_room e h) = high B (places.full (omega arith) (omega arith)) (omega arith)
    ends_can output added most o (ordered h l order inside free) =
        says_bind (Can B) (walked file t output out (run.units_of file t out l)) _
        (walked_can output (run.units_of file t out l) (subst (InOrder (linked file t out)) (sym (records_names out (units_in file t.units) l)) order)) (λ x e. tt)
    ends_can output added most o (on_cycle l c inside) = tt

  -- ---- all stages
  stages_can : All (Fitting B) (partials_in file t.splits) → (room : Rooms) → room.splits ≤ 1024 → Says (Can B) (stages file t room)
  unfolding stages ordered_and_walked
  stages_can partials room few =
      says_bind (Can B) (table.split_table file t room.splits room.names) _ (table_can room.splits room.names partials) (λ full e.
      let q = staged u room.splits room.names full e in
      ends_can q room.output (drop (length (names_in file t)) full.names) room.units (link_order (linked file t full.rows) room.units)
      (link_ways u q.good few room.units))

-- ---- the run of a file; where it is of bytes, a partial split's section has 16 bits
module _ (file : List ℕ) where
  abbrev pub OfBytes : Type 0
  OfBytes = (at : ℕ) → get_or file at 0 < 256

  partials_fitting : {t : Loaded} → Usable file t → All (Fitting OfBytes) (partials_in file t.splits)
  unfolding partial_numbered partial_at
  partials_fitting {t} u =
      all_placed (partials_in file t.splits) no_split (λ k h.
      let q : k < length t.splits = omega (arith, h, length-partials_in file t.splits) in
      let at = get_or t.splits k 0 in
      let is = partial_is file t.splits k q in
      record {
        section = λ b. subst (λ (s : Split). s.section < 65536) (sym is) (let x = b at in let y = b (at + 1) in omega arith);
        start = (good_splits u.good k q).start;
      })

  module _ (rooms : Loaded → Rooms) (few : (t : Loaded) → (rooms t).splits ≤ 1024) where
    staged_says : (t : Loaded) → load_of main_ceilings file ≡ accepted t → Says (Can OfBytes) (stages file t (rooms t))
    staged_says t e = let u = loaded_usable file t e in stages_can OfBytes u (partials_fitting u) (rooms t) (few t)

    run_says : Says (Run OfBytes) (run_of file rooms)
    unfolding run_of
    run_says =
        says_bind (Run OfBytes) (load_of main_ceilings file) _ (load_says OfBytes main_ceilings file)
        (λ t e. says_map {P = Can OfBytes} {Q = Run OfBytes} (λ number section address h. record { comes = places.staging h.comes; narrow = h.narrow }) (stages file t (rooms t))
        (staged_says t e))

    -- .. of a stage, where the loader accepted
    accepted_says : (t : Loaded) → load_of main_ceilings file ≡ accepted t → Says (Can OfBytes) (run_of file rooms)
    unfolding run_of
    accepted_says t e =
        subst (λ (o : Outcome Ended). Says (Can OfBytes) o) (sym (bind_goes (load_of main_ceilings file) (λ t. stages file t (rooms t)) t e)) (staged_says t e)

rooms_low : (file : List ℕ) (names bytes size units : ℕ) (output : Counts) (t : Loaded) → (rooms_in file names bytes (room_of size) units output t).splits ≤ 1024
unfolding rooms_in
rooms_low file names bytes size units output t = room_low size

-- THEOREM: a refusal of `split_file` has one of these numbers, and its place fits
pub split_file_says : (file : List ℕ) (sizes : Sizes) → Says (Run (OfBytes file)) (split_file_of file sizes)
split_file_says file sizes =
    run_says file _ (rooms_low file (sizes.ends / 2) sizes.bytes sizes.splits (sizes.units / 8) (room_in sizes.pieces sizes.symbols sizes.relocs))

-- THEOREM: a refusal of `split_file` has one of these numbers
pub run-numbers : (file : List ℕ) (sizes : Sizes) (number section address : ℕ) → split_file_of file sizes ≡ refused number section address → CanCome number
run-numbers file sizes number section address e = (says_of (Run (OfBytes file)) (split_file_of file sizes) number section address (split_file_says file sizes) e).comes

-- THEOREM: where the loader accepted, it is a stage's own: no number of a table check comes
pub stage_numbers : (file : List ℕ) (t : Loaded) (sizes : Sizes) (number section address : ℕ) → load_of main_ceilings file ≡ accepted t
    → split_file_of file sizes ≡ refused number section address → OfStages number
stage_numbers file t sizes number section address l e =
    (says_of (Can (OfBytes file)) (split_file_of file sizes) number section address
    (accepted_says file _ (rooms_low file (sizes.ends / 2) sizes.bytes sizes.splits (sizes.units / 8) (room_in sizes.pieces sizes.symbols sizes.relocs)) t l) e).comes

-- none of the four is among them
none_of_four : (number low high : ℕ) → low ≤ number → number ≤ high
    → (high < 54) ⊎ ((54 < low) × (high < 62)) ⊎ ((62 < low) × (high < 72)) ⊎ ((72 < low) × (high < 74)) ⊎ (74 < low) → NeverThese number
none_of_four number low high a b (inl h) = record { fall = λ e. omega arith; edge = λ e. omega arith; outside = λ e. omega arith; unlisted = λ e. omega arith }
none_of_four number low high a b (inr (inl h)) =
    record { fall = λ e. omega (arith, h.0); edge = λ e. omega (arith, h.1); outside = λ e. omega (arith, h.1); unlisted = λ e. omega (arith, h.1) }
none_of_four number low high a b (inr (inr (inl h))) =
    record { fall = λ e. omega (arith, h.0); edge = λ e. omega (arith, h.0); outside = λ e. omega (arith, h.1); unlisted = λ e. omega (arith, h.1) }
none_of_four number low high a b (inr (inr (inr (inl h)))) =
    record { fall = λ e. omega (arith, h.0); edge = λ e. omega (arith, h.0); outside = λ e. omega (arith, h.0); unlisted = λ e. omega (arith, h.1) }
none_of_four number low high a b (inr (inr (inr (inr h)))) = record { fall = λ e. omega arith; edge = λ e. omega arith; outside = λ e. omega arith; unlisted = λ e. omega arith }

stages_never : (number : ℕ) → OfStages number → NeverThese number
stages_never number (places.shared a b) = none_of_four number 10 11 a b (inl (omega arith))
stages_never number (places.merge a b) = none_of_four number 20 28 a b (inl (omega arith))
stages_never number (places.gap a b) = none_of_four number 40 42 a b (inl (omega arith))
stages_never number (places.check a b) = none_of_four number 50 53 a b (inl (omega arith))
stages_never number (places.twice a b) = none_of_four number 60 60 a b (inr (inl (omega arith, omega arith)))
stages_never number (places.missing a b) = none_of_four number 70 71 a b (inr (inr (inl (omega arith, omega arith))))
stages_never number (places.nonzero a b) = none_of_four number 73 73 a b (inr (inr (inr (inl (omega arith, omega arith)))))
stages_never number (places.full a b) = none_of_four number 75 76 a b (inr (inr (inr (inr (omega arith)))))

can_never : (number : ℕ) → CanCome number → NeverThese number
can_never number (places.loading a b) = none_of_four number 1 8 a b (inl (omega arith))
can_never number (places.staging h) = stages_never number h

-- THEOREM: in a run 54, 62, 72 and 74 can't come
pub never : (file : List ℕ) (sizes : Sizes) (number section address : ℕ) → split_file_of file sizes ≡ refused number section address → NeverThese number
never file sizes number section address e = can_never number (run-numbers file sizes number section address e)

-- ---- the entry's word
word_of : (o : Outcome Ended) → ((number section address : ℕ) → o ≡ refused number section address → CanCome number) → (word : ℕ) → word ≡ word_by o → WordOf word
word_of (accepted (run.done r)) f word e = places.whole e
word_of (accepted (run.cycle us)) f word e = places.cycle e
word_of (refused number section address) f word e = places.refusal number section address (f number section address refl) e

-- THEOREM: every word that `split_file` answers is 0, 61, or that of a number that can come
pub words : (file : List ℕ) (sizes : Sizes) (answer : ℕ) (ends bytes splits units pieces symbols relocs counts : List ℕ)
    → Leaves (split_file_of file sizes) sizes answer ends bytes splits units pieces symbols relocs counts → WordOf answer
words file sizes answer ends bytes splits units pieces symbols relocs counts l =
    word_of (split_file_of file sizes) (run-numbers file sizes) answer l.said
