-- T7 as one theorem: a run of a file is the stages' entries one after another. The run is a chain of stages, each entry on what the run's stages before it accepted is that stage
-- (proofs/Steps.antt), since what they leave has no fault (proofs/Rows.antt). Assumes nothing.
use Prim.Native.Nat.{ℕ, ◌/◌, ◌≤◌}
use mathlib.Core.Path.{◌≡◌, refl, sym, ap, subst, ◌∙◌}
use mathlib.Core.List.{List, ◌++◌}
use native.Mathlib.Omega.{arith}
use lib.ListN.{length, drop}
use Rattle.lists.specs.Outcome.{Outcome, accepted, refused, ◌>>◌, ◌>>=◌}
use Rattle.lists.proofs.Binds.{bind_assoc}
use Rattle.obj.specs.declared.Section.{Section}
use Rattle.obj.specs.declared.Split.{Split}
use Rattle.tables.specs.Tables.{main_ceilings}
use Rattle.tables.specs.Records.{sections_in}
use Rattle.stage_names.specs.StageNames.{flat, name_ends}
use Rattle.load.specs.Load.{Loaded, load_of, names_in}
use Rattle.loaded.specs.Tables.{image_from, sections_from, Usable}
use Rattle.loaded.proofs.Bytes.{loaded_usable}
use Rattle.splits.specs.Bytes.{table_bytes}
use Rattle.merge.specs.Merge.{given}
use Rattle.gap_splits.specs.Entering.{Filled}
use Rattle.validate.specs.Check.{validate}
use Rattle.trim.specs.Trim.{trimmed}
use Rattle.toposort.specs.Search.{End}
use Rattle.order.specs.LinkOrder.{link_order}
use Rattle.stage_splits.specs.StageSplits.{room_of}
use Rattle.stage_splits.proofs.Laws.{room_low}
use Rattle.stage_walk.specs.Room.{room_in}
use Rattle.run_splits.specs.Table as table
use Rattle.run.specs.Run.{Rooms, Ended, linked, on_order, ordered_and_walked, stages, run_of}
use Rattle.run_file.specs.RunFile.{rooms_in}
use Rattle.run_outputs.specs.Laid.{Sizes}
use Rattle.stages_alike.proofs.Lists.{bind_when}
use Rattle.file_tables.specs.Tables.{tables_of, Clean}
use Rattle.file_tables.proofs.Clean.{clean_loaded}
use Rattle.file_tables.proofs.Filled.{clean_run}
use Rattle.entry_validate_splits.specs.Entry.{validate_of}
use Rattle.entry_trim_splits.specs.Entry.{trim_of}
use Rattle.entry_resolve_link_order.specs.Entry.{resolve_of}
use Rattle.entry_split_file.specs.Entry.{split_file_of, Leaves}
use Rattle.run_entries.specs.Entries.{walk_entry, stage_entries, entries_of}
use Rattle.run_entries.proofs.Good.{Good}
use Rattle.run_entries.proofs.Rows.{link_ways, merged_good, common_good, gaps_leave, gaps_good, trimmed_good}
use Rattle.run_entries.proofs.Rooms.{names_low, bytes_low}
use Rattle.run_entries.proofs.Steps.{add_is, update_is, gaps_is, validate_is, trim_is, resolve_is, ends_is}

-- ---- chains

-- a check, a value that is changed, and what follows
after_chain : {A B C : Type 0} (v : Outcome (Unit {0})) (m : Outcome A) (f : A → B) (g : B → Outcome C) → (((v >> m) >>= λ a. accepted (f a)) >>= g) ≡ (v >> (m >>= λ a. g (f a)))
unfolding ◌>>=◌ ◌>>◌
after_chain (accepted u) (accepted a) f g = refl
after_chain (accepted u) (refused number section address) f g = refl
after_chain (refused number section address) m f g = refl

-- two chains, whose first outcomes are the same, and which go on alike from what the first accepts
bind_both : {A B : Type 0} (m n : Outcome A) (f g : A → Outcome B) → m ≡ n → ((a : A) → m ≡ accepted a → f a ≡ g a) → (m >>= f) ≡ (n >>= g)
bind_both {A} {B} m n f g e h = bind_when m f g h ∙ ap (λ (o : Outcome A). o >>= g) e

-- ---- the run as one chain
module _ (file : List ℕ) (t : Loaded) (room : Rooms) where
  -- the link order and the walk of a trimmed table
  abbrev onward : (names : List (List ℕ)) → List Split → Outcome Ended
  onward names rows = link_order (linked file t rows) room.units >>= on_order file t room.output (drop (length (names_in file t)) names) rows

  abbrev checked_onward : Filled → Outcome Ended
  checked_onward full =
      validate (image_from file t).symbol (image_from file t).count full.rows >> (trimmed (image_from file t) (sections_from file t) full.rows >>= onward full.names)

  abbrev chain : Outcome Ended
  chain =
      table.merged file t room.splits room.names
      >>= λ merged. table.with_common file t room.splits room.names merged
      >>= λ common. table.with_gaps file t room.splits room.names common
      >>= checked_onward

  -- the parts of the run as it stands: a filled table from what is left of the stages
  abbrev checked_table : Filled → Outcome Filled
  checked_table full = table.checked file t room.splits room.names full.rows >>= λ rows. accepted (record { names = full.names; rows = rows })

  abbrev filled_table : List Split → Outcome Filled
  filled_table common = table.with_gaps file t room.splits room.names common >>= checked_table

  abbrev walked_table : Filled → Outcome Ended
  walked_table full = onward full.names full.rows

  checked_chain : (full : Filled) → (checked_table full >>= walked_table) ≡ checked_onward full
  unfolding table.checked
  checked_chain full =
      after_chain (validate (image_from file t).symbol (image_from file t).count full.rows) (trimmed (image_from file t) (sections_from file t) full.rows)
      (λ rows. record { names = full.names; rows = rows }) walked_table

  stages_chain : stages file t room ≡ chain
  unfolding stages table.split_table ordered_and_walked
  stages_chain =
      bind_assoc (table.merged file t room.splits room.names) (λ merged. table.with_common file t room.splits room.names merged >>= filled_table) walked_table
      ∙ λ k.
      table.merged file t room.splits room.names
      >>= λ merged.
      (bind_assoc (table.with_common file t room.splits room.names merged) filled_table walked_table
      ∙ (λ j.
      table.with_common file t room.splits room.names merged
      >>= λ common.
      (bind_assoc (table.with_gaps file t room.splits room.names common) checked_table walked_table
      ∙ (λ i. table.with_gaps file t room.splits room.names common >>= λ full. checked_chain full i)) j)) k

-- ---- the entries
module _ (file : List ℕ) (t : Loaded) (accepts : load_of main_ceilings file ≡ accepted t) (sizes : Sizes) where
  abbrev rooms : Rooms
  rooms = rooms_in file (sizes.ends / 2) sizes.bytes (room_of sizes.splits) (sizes.units / 8) (room_in sizes.pieces sizes.symbols sizes.relocs) t

  abbrev room : ℕ
  room = room_of sizes.splits

  abbrev heads : List Section
  heads = sections_in file t.sections

  -- the entries from the link order on, and from the check on
  abbrev from_order : (names : List (List ℕ)) → List Split → Outcome Ended
  from_order names rows =
      resolve_of (name_ends names) (flat names) (tables_of file t).sections (table_bytes rows) (tables_of file t).units sizes.units >>= walk_entry file t sizes names rows

  abbrev from_check : Filled → Outcome Ended
  from_check full =
      validate_of (name_ends full.names) (flat full.names) (tables_of file t).sections (tables_of file t).symbols (table_bytes full.rows)
      >> (trim_of (name_ends full.names) (flat full.names) (tables_of file t).sections (tables_of file t).places file (tables_of file t).symbols (table_bytes full.rows)
      sizes.splits
      >>= from_order full.names)

  usable : Usable file t
  usable = loaded_usable file t accepts

  clean : Clean (names_in file t)
  clean = clean_loaded file t accepts

  low : room ≤ 1024
  low = room_low sizes.splits

  -- ---- after the gaps
  module _ (full : Filled) (more : List (List ℕ)) (extends : full.names ≡ names_in file t ++ more) (cleaned : Clean full.names) where
    ordered_same : (rows : List Split) → Good heads room full.names rows
        → onward file t rooms full.names rows ≡ from_order full.names rows
    unfolding rooms_in
    ordered_same rows q =
        sym (ends_is usable full.names more extends cleaned q sizes low (sizes.units / 8) (link_order (linked file t rows) (sizes.units / 8)) (link_ways usable q low (sizes.units / 8)))
        ∙ ap (λ (o : Outcome End). o >>= walk_entry file t sizes full.names rows) (sym (resolve_is usable full.names more extends cleaned q sizes.units low))

    checked_same : Good heads room full.names full.rows → checked_onward file t rooms full ≡ from_check full
    checked_same good =
        let check = sym (validate_is usable full.names more extends cleaned good low) in
        let rest =
        bind_both (trimmed (image_from file t) (sections_from file t) full.rows) _ _ _ (sym (trim_is usable full.names more extends cleaned good sizes.splits (omega arith)))
        (λ rows e. ordered_same rows (trimmed_good usable room rooms.names full.names full.rows rows good e)) in
        λ k. check k >> rest k

  -- what the gaps leave
  full_same : (common : List Split) (full : Filled) → Good heads room (names_in file t) common → table.with_gaps file t room rooms.names common ≡ accepted full
      → checked_onward file t rooms full ≡ from_check full
  unfolding rooms_in table.with_gaps
  full_same common full good e =
      let added = (gaps_leave usable room rooms.names common full good e).added in
      checked_same full added.0 added.1
      (clean_run file t accepts (given heads room) rooms.names common full (names_low (names_in file t) (sizes.ends / 2) clean.few)
      (bytes_low (names_in file t) sizes.bytes clean.short) e)
      (gaps_good usable room rooms.names common full good e)

  chain_same : chain file t rooms ≡ stage_entries file t sizes
  unfolding stage_entries rooms_in
  chain_same =
      bind_both (table.merged file t room rooms.names) _ _ _ (sym (add_is usable clean sizes.splits rooms.names)) (λ merged a.
      let first = merged_good usable room rooms.names merged a in
      bind_both (table.with_common file t room rooms.names merged) _ _ _ (sym (update_is usable clean sizes.splits first rooms.names)) (λ common b.
      let second = common_good usable room rooms.names merged common first b in
      bind_both (table.with_gaps file t room rooms.names common) _ _ _ (sym (gaps_is usable clean sizes.splits second sizes.ends sizes.bytes)) (λ full c.
      full_same common full second c)))

-- THEOREM: the run of a file is load and the stages' entries one after another, in bytes: no check of a table refuses between the stages
pub run_is_entries : (file : List ℕ) (sizes : Sizes) → split_file_of file sizes ≡ entries_of file sizes
unfolding run_of entries_of
run_is_entries file sizes =
    bind_when (load_of main_ceilings file) _ _ (λ t e. stages_chain file t (rooms file t e sizes) ∙ chain_same file t e sizes)

-- THEOREM: so what `split_file` answers, and every byte of its outputs, is what the entries one after another give
pub leaves_entries : (file : List ℕ) (sizes : Sizes) (answer : ℕ) (ends bytes splits units pieces symbols relocs counts : List ℕ)
    → Leaves (split_file_of file sizes) sizes answer ends bytes splits units pieces symbols relocs counts
    → Leaves (entries_of file sizes) sizes answer ends bytes splits units pieces symbols relocs counts
leaves_entries file sizes answer ends bytes splits units pieces symbols relocs counts l =
    subst (λ (o : Outcome Ended). Leaves o sizes answer ends bytes splits units pieces symbols relocs counts) (run_is_entries file sizes) l
