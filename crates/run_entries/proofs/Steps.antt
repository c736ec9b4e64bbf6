-- Each stage's entry, on the tables of a loaded file and what the stages before it left, is that stage of the run: its table checks pass, the tables are read as the run has
-- them, and no stage tells the two apart (stages_alike). Assumes nothing.
use Prim.Native.Nat.{ℕ, ◌-◌, ◌/◌, ◌≤◌, ◌<◌}
use mathlib.Core.Path.{◌≡◌, refl, sym, ap, ◌∙◌}
use mathlib.Core.List.{List, [], ◌++◌, map, append-nil}
use mathlib.Core.Bool.{false}
use native.Mathlib.Omega.{arith}
use lib.ListN.{length, get_or, drop, length-map}
use Rattle.lists.specs.Members.{In}
use Rattle.lists.specs.Outcome.{Outcome, accepted, ◌>>=◌}
use Rattle.lists.specs.Sort.{All}
use Rattle.lists.proofs.All.{all_map}
use Rattle.lists.proofs.Binds.{after_goes}
use Rattle.obj.specs.Records.{stage_places, section_at}
use Rattle.obj.specs.declared.Split.{Split}
use Rattle.obj.specs.declared.Unit as units
use Rattle.tables.specs.Records.{sections_in, units_in, image_places_of}
use Rattle.name_table.specs.Stored.{stage_lengths, name_starts}
use Rattle.stage_names.specs.StageNames.{flat, names_room, bytes_room, name_ends}
use Rattle.load.specs.Load.{Loaded, names_in}
use Rattle.loaded.specs.Tables.{image_from, sections_from, Usable}
use Rattle.sections.specs.Image.{Image, image_of}
use Rattle.sections.specs.Sections.{Sections, sections_of}
use Rattle.splits.specs.Bytes.{table_bytes}
use Rattle.stage_splits.specs.StageSplits.{room_of}
use Rattle.merge.specs.Merge.{given, merge_all}
use Rattle.common.specs.Common.{common_of}
use Rattle.gap_splits.specs.Entering.{Ceilings, bytes_of}
use Rattle.gap_splits.specs.Answers.{ceilings}
use Rattle.create_gap_splits.specs.Create.{gaps_filled}
use Rattle.validate.specs.Check.{validate}
use Rattle.trim.specs.Trim.{trimmed}
use Rattle.link_graph.specs.Graph.{nodes}
use Rattle.link_graph.proofs.Graph.{length-nodes}
use Rattle.order.specs.LinkOrder.{link_order, records_of}
use Rattle.order.specs.Bytes.{units_bytes}
use Rattle.order.proofs.Theorems.{Ways, number_twice, no_room, ordered, on_cycle}
use Rattle.toposort.specs.Search.{End}
use Rattle.relocs.specs.Relocs.{reloc_of}
use Rattle.pieces.specs.declared.Counts.{Counts}
use Rattle.walk.specs.Giving.{input_of}
use Rattle.stage_walk.specs.Room.{room_in}
use Rattle.run_splits.specs.Table as table
use Rattle.run.specs.Run.{done, cycle, linked, walked, on_order}
use Rattle.run.specs.Run as run
use Rattle.run_outputs.specs.Laid.{Sizes}
use Rattle.stages_alike.proofs.Gaps.{filled_alike}
use Rattle.stages_alike.proofs.Validate.{validate_alike}
use Rattle.stages_alike.proofs.Trim.{trim_alike}
use Rattle.stages_alike.proofs.Order.{link_alike}
use Rattle.stages_alike.proofs.Walk.{walk_alike}
use Rattle.file_tables.specs.Tables.{tables_of, Clean}
use Rattle.file_tables.proofs.Records.{sections_back, symbols_count, relocs_count, partials_back, units_back}
use Rattle.file_tables.proofs.Names.{all_back, fits_pass, names_pass}
use Rattle.file_tables.proofs.Checks.{relocs_pass}
use Rattle.file_tables.proofs.Alike.{images_same, sections_same, relocs_same, pointers_same, bss_same}
use Rattle.file_tables.proofs.Ordered.{stage_ordered-names, stage_ordered_pass}
use Rattle.file_tables.proofs.Stages.{stage_sections_pass, stage_image_pass, stage_symbols_pass, stage_partials_pass, stage_units_pass}
use Rattle.entry_add_splits.specs.Entry.{add_splits_of}
use Rattle.entry_update_common_splits.specs.Entry.{update_of}
use Rattle.entry_create_gap_splits.specs.Entry.{gap_splits_of}
use Rattle.entry_validate_splits.specs.Entry.{validate_of}
use Rattle.entry_trim_splits.specs.Entry.{trim_of}
use Rattle.entry_resolve_link_order.specs.Entry.{given_in, resolve_of}
use Rattle.entry_split_obj.specs.Entry.{input_in, split_obj_of}
use Rattle.lists.specs.Bounds.{lower}
use Rattle.run_entries.specs.Entries.{ends_size, bytes_size, units_left, walk_entry}
use Rattle.run_entries.proofs.Good.{Good, sections_there}
use Rattle.stage_tables.proofs.Laws.{no_splits}
use Rattle.run_entries.proofs.Tables.{rows_back, splits_pass, none_pass}
use Rattle.run_entries.proofs.Rooms.{names_room_lem, bytes_room_lem}

-- ---- the stages with the file's names
module _ {file : List ℕ} {t : Loaded} (u : Usable file t) (clean : Clean (names_in file t)) (size : ℕ) where
  abbrev N : List (List ℕ)
  N = names_in file t

  none_more : N ≡ N ++ []
  none_more = sym (append-nil N)

  -- THEOREM: `add_splits` is the merge
  pub add_is : (names : Ceilings)
      → add_splits_of (name_ends (names_in file t)) (flat (names_in file t)) (tables_of file t).sections [] (tables_of file t).partials size ≡ table.merged file t (room_of size) names
  unfolding add_splits_of table.merged
  add_is names =
      after_goes _ _ (names_pass N clean)
      ∙ after_goes _ _ (stage_sections_pass u N [] none_more clean)
      ∙ after_goes _ _ (none_pass u clean (room_of size))
      ∙ after_goes _ _ (stage_partials_pass u N [] none_more clean)
      ∙ λ k. merge_all (given (sections_back u k) (room_of size)) (no_splits k) (partials_back u k)

  module _ {rows : List Split} (good : Good (sections_in file t.sections) (room_of size) (names_in file t) rows) where
    -- THEOREM: `update_common_splits` with no start is the marking of common
    pub update_is : (names : Ceilings)
        → update_of (name_ends (names_in file t)) (flat (names_in file t)) (tables_of file t).sections (table_bytes rows) 0 0 size ≡ table.with_common file t (room_of size) names rows
    unfolding update_of table.with_common
    update_is names =
        after_goes _ _ (names_pass N clean)
        ∙ after_goes _ _ (stage_sections_pass u N [] none_more clean)
        ∙ after_goes _ _ (splits_pass u clean good (room_of size) (omega arith))
        ∙ λ k. common_of false 0 (sym (bss_same u N [] none_more clean.short) k) (rows_back u clean good k)

    -- THEOREM: `create_gap_splits` is the filling of gaps, with the names' ceilings that the run has
    pub gaps_is : (lent-ends lent-bytes : ℕ)
        → gap_splits_of (name_ends (names_in file t)) (flat (names_in file t)) (tables_of file t).sections (tables_of file t).places file (tables_of file t).symbols (table_bytes rows)
        (ends_size (names_in file t) lent-ends) (bytes_size (names_in file t) lent-bytes) size
        ≡ table.with_gaps file t (room_of size)
        (ceilings (names_in file t) (lower (4096 - length (names_in file t)) (lent-ends / 2)) (lower (65535 - bytes_of (names_in file t)) lent-bytes)) rows
    unfolding gap_splits_of table.with_gaps
    gaps_is lent-ends lent-bytes =
        let names = names_room_lem N lent-ends clean.few in
        let bytes = bytes_room_lem N lent-bytes clean.short in
        let images = images_same u N [] none_more clean.short in
        let sections = sections_same u N [] none_more clean.short in
        after_goes _ _ (fits_pass N clean.short (names_room (ends_size N lent-ends)) (bytes_room (bytes_size N lent-bytes)) (omega (arith, names)) (omega (arith, bytes)))
        ∙ after_goes _ _ (names_pass N clean)
        ∙ after_goes _ _ (stage_image_pass u N [] none_more clean)
        ∙ after_goes _ _ (stage_symbols_pass u N [] none_more clean)
        ∙ after_goes _ _ (splits_pass u clean good (room_of size) (omega arith))
        ∙ (λ k. gaps_filled I S (given (sections_back u k) (room_of size)) (record { names = names k; bytes = bytes k })
        (record { names = all_back N clean.short k; rows = rows_back u clean good k }))
        ∙ sym (filled_alike (image_from file t) I images (sections_from file t) S sections _ _ _)
      where
        I : Image
        I =
            image_of (tables_of file t).symbols (stage_places 20 (length (tables_of file t).symbols / 20)) (flat N)
            (name_starts (name_ends N) (length (name_ends N) / 2)) (stage_lengths (name_ends N) (flat N))

        S : Sections
        S = sections_of (tables_of file t).sections (stage_places 15 (length (tables_of file t).sections / 15)) file (image_places_of (tables_of file t).places)

-- ---- the stages with the names that the filling of gaps gave
module _ {file : List ℕ} {t : Loaded} (u : Usable file t) (names more : List (List ℕ)) (extends : names ≡ names_in file t ++ more) (clean : Clean names) where
  abbrev I : Image
  I =
      image_of (tables_of file t).symbols (stage_places 20 (length (tables_of file t).symbols / 20)) (flat names)
      (name_starts (name_ends names) (length (name_ends names) / 2)) (stage_lengths (name_ends names) (flat names))

  abbrev S : Sections
  S = sections_of (tables_of file t).sections (stage_places 15 (length (tables_of file t).sections / 15)) file (image_places_of (tables_of file t).places)

  module _ {room : ℕ} {rows : List Split} (good : Good (sections_in file t.sections) room names rows) where
    -- every split's section is there
    there : All (λ s. s.section < length t.sections) rows
    there = all_map (λ s h. omega (arith, h, length-map t.sections (section_at file))) (sections_there good)

    -- THEOREM: `validate_splits` is the check
    pub validate_is : room ≤ 1024
        → validate_of (name_ends names) (flat names) (tables_of file t).sections (tables_of file t).symbols (table_bytes rows)
        ≡ validate (image_from file t).symbol (image_from file t).count rows
    unfolding validate_of
    validate_is low =
        after_goes _ _ (names_pass names clean)
        ∙ after_goes _ _ (stage_sections_pass u names more extends clean)
        ∙ after_goes _ _ (stage_symbols_pass u names more extends clean)
        ∙ after_goes _ _ (splits_pass u clean good 1024 low)
        ∙ (λ k. validate I.symbol (symbols_count u k) (rows_back u clean good k))
        ∙ sym (validate_alike (image_from file t).symbol I.symbol (length t.symbols) (images_same u names more extends clean.short).symbols rows)

    -- THEOREM: `trim_splits` is the trim
    pub trim_is : (size : ℕ) → room ≤ room_of size
        → trim_of (name_ends names) (flat names) (tables_of file t).sections (tables_of file t).places file (tables_of file t).symbols (table_bytes rows) size
        ≡ trimmed (image_from file t) (sections_from file t) rows
    unfolding trim_of
    trim_is size low =
        after_goes _ _ (names_pass names clean)
        ∙ after_goes _ _ (stage_image_pass u names more extends clean)
        ∙ after_goes _ _ (stage_symbols_pass u names more extends clean)
        ∙ after_goes _ _ (splits_pass u clean good (room_of size) low)
        ∙ ap (trimmed I S) (rows_back u clean good)
        ∙ sym (trim_alike (image_from file t) I (images_same u names more extends clean.short) (sections_from file t) S (sections_same u names more extends clean.short) there)

    -- THEOREM: `resolve_link_order` is the link order
    pub resolve_is : (size : ℕ) → room ≤ 1024
        → resolve_of (name_ends names) (flat names) (tables_of file t).sections (table_bytes rows) (tables_of file t).units size ≡ link_order (linked file t rows) (size / 8)
    unfolding resolve_of
    resolve_is size low =
        after_goes _ _ (names_pass names clean)
        ∙ after_goes _ _ (stage_sections_pass u names more extends clean)
        ∙ after_goes _ _ (splits_pass u clean good 1024 low)
        ∙ after_goes _ _ (stage_units_pass u names more extends clean)
        ∙ sym (link_alike (linked file t rows) (given_in (name_ends names) (flat names) (tables_of file t).sections (table_bytes rows) (tables_of file t).units)
        (sym (rows_back u clean good)) (sym (units_back u)) (all_map (λ s h. pointers_same u names more extends clean.short s.section h) there) (size / 8))

    -- ---- the walk
    module _ (low : room ≤ 1024) (output : Counts) (l : List ℕ) (inside : (v : ℕ) → In v l → v < length (nodes rows)) (few : length l ≤ 1024) where
      -- THEOREM: `split_obj` with the unit table that the link order left is the walk
      pub walk_is :
          split_obj_of (name_ends names) (flat names) (tables_of file t).sections (tables_of file t).places file (tables_of file t).symbols (tables_of file t).relocations
          (table_bytes rows) (units_bytes (records_of rows (units_in file t.units) l)) output
          ≡ walked file t output rows (records_of rows (units_in file t.units) l)
      unfolding split_obj_of walked
      walk_is =
          after_goes _ _ (names_pass names clean)
          ∙ after_goes _ _ (stage_image_pass u names more extends clean)
          ∙ after_goes _ _ (stage_symbols_pass u names more extends clean)
          ∙ after_goes _ _ (relocs_pass u)
          ∙ after_goes _ _ (splits_pass u clean good 1024 low)
          ∙ after_goes _ _ (stage_ordered_pass u names more extends clean rows good.faultless l inside 1024 few)
          ∙ sym (walk_alike
          (input_of (image_from file t) (sections_from file t) (reloc_of file t.relocations) (length t.relocations) rows
          (map (λ (x : units.Unit). x.name) (records_of rows (units_in file t.units) l)) output)
          (input_in (name_ends names) (flat names) (tables_of file t).sections (tables_of file t).places file (tables_of file t).symbols (tables_of file t).relocations
          (table_bytes rows) (units_bytes (records_of rows (units_in file t.units) l)) output)
          (images_same u names more extends clean.short) (sections_same u names more extends clean.short) (relocs_same u) (sym (relocs_count u))
          (sym (rows_back u clean good)) (sym (stage_ordered-names u names more extends clean rows good.faultless l inside)) refl)

    -- the unit records are those of the run
    left_same : (sizes : Sizes) (l : List ℕ) → units_left file t sizes rows l ≡ run.units_of file t rows l
    left_same sizes l = λ k. records_of (rows_back u clean good k) (units_back u k) l

    -- THEOREM: after the link order, the walk and its end are those of the run
    pub ends_is : (sizes : Sizes) → room ≤ 1024 → (most : ℕ) (o : Outcome End) → Ways (linked file t rows) most o
        → (o >>= walk_entry file t sizes names rows)
        ≡ (o >>= on_order file t (room_in sizes.pieces sizes.symbols sizes.relocs) (drop (length (names_in file t)) names) rows)
    unfolding ◌>>=◌ walk_entry on_order
    ends_is sizes low most o (number_twice e) = refl
    ends_is sizes low most o (no_room e h) = refl
    ends_is sizes low most o (ordered h l order inside free) =
        let room = room_in sizes.pieces sizes.symbols sizes.relocs in
        let same = left_same sizes l in
        let few : length l ≤ 1024 = omega (arith, order.long, length-map l (λ v. get_or (nodes rows) v 0), length-nodes rows, good.few, low) in
        let walks = ap (λ (us : List units.Unit). split_obj_of (name_ends names) (flat names) (tables_of file t).sections (tables_of file t).places file (tables_of file t).symbols
        (tables_of file t).relocations (table_bytes rows) (units_bytes us) room) same
        ∙ walk_is low room l inside few in
        λ k. walks k >>= λ out. accepted (done (record { added = drop (length (names_in file t)) names; splits = rows; units = same k; output = out }))
    ends_is sizes low most o (on_cycle l c inside) = ap (λ (us : List units.Unit). accepted (cycle us)) (left_same sizes l)
