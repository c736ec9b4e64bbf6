-- Filling twice over the definition of the entry: the name table and the split table that it left, handed to it again with the same sections, symbols and ceilings, pass its
-- checks and come back as they are. Assumes nothing but what is needed of document 02's premises.
use mathlib.Core.Path.{◌≡◌, sym, ap, ap₂, ◌∙◌}
use mathlib.Core.List.{List, [], ◌++◌, map, map-append}
use Prim.Native.Nat.{ℕ, ◌+◌, ◌/◌, ◌≤◌, ◌<◌}
use native.Mathlib.Omega.{arith}
use lib.ListN
use lib.ListN.{length, length-map, length-append, get_or, get_or-append}
use Rattle.std.proofs.lemmas.List.{get_or-map}
use Rattle.lists.specs.Outcome.{accepted}
use Rattle.lists.specs.Sort.{All}
use Rattle.lists.proofs.Binds.{after_goes}
use Rattle.lists.proofs.Outcomes.{then_both}
use Rattle.obj.specs.Records.{section_at, symbol_at, stage_places, split_width}
use Rattle.obj.specs.declared.Section.{Section}
use Rattle.obj.specs.declared.Split.{Split}
use Rattle.obj.proofs.Laws.{length-stage_places}
use Rattle.obj.specs.Nothing.{no_section, no_symbol}
use Rattle.names.specs.Names.{name_at}
use Rattle.tables.specs.Tables.{records_check}
use Rattle.tables.specs.Records.{image_places_of, section_fault, split_fault}
use Rattle.tables.proofs.Laws as table-laws
use Rattle.tables.proofs.Lookups.{split_origins}
use Rattle.name_table.specs.NameTable.{stage_names, names_check}
use Rattle.name_table.specs.Stored.{name_starts, name_lengths, stage_lengths}
use Rattle.name_table.proofs.Laws.{length-stage_names}
use Rattle.stage_tables.specs.StageTables.{stage_sections, stage_symbols, stage_splits, image_check, symbols_check, splits_check}
use Rattle.stage_tables.proofs.Laws.{table_passed, length_sections, length_splits}
use Rattle.stage_names.specs.StageNames.{names_room, bytes_room, fit_check, flat, name_ends}
use Rattle.stage_gaps.proofs.Laws.{flat_bytes}
use Rattle.sections.specs.Image.{Image, image_of}
use Rattle.sections.specs.Sections.{Sections, sections_of}
use Rattle.splits.specs.Bytes.{table_bytes}
use Rattle.stage_splits.specs.StageSplits.{room_of}
use Rattle.merge.specs.Merge.{given}
use Rattle.merge.proofs.Keeping.{origins_keep}
use Rattle.gap_splits.specs.Entering.{Filled, Ceilings}
use Rattle.create_gap_splits.specs.Create as create
use Rattle.create_gap_splits.specs.Create.{gaps_filled}
use Rattle.entry_create_gap_splits.specs.Entry.{gap_splits_of}
use Rattle.entry_create_gap_splits.proofs.Passed.{names_end, names_room_lem, bytes_room_lem, fit_few, fit_end}
use Rattle.gap_laws.specs.Good.{Faultless, Below, Within}
use Rattle.gap_laws.proofs.Tables as gap-tables
use Rattle.file_tables.specs.Tables.{Clean}
use Rattle.file_tables.proofs.Names.{name_count, names_behind, lengths_behind, at_behind, fits_pass, name_stands, pass_behind}
use Rattle.file_tables.proofs.Filled.{clean_filled}
use Rattle.file_tables.proofs.Written.{split_table_back, split_table_passes}
use Rattle.gap_twice.specs.Twice.{Needed, SameNames, with_names}
use Rattle.gap_twice.proofs.Theorem.{name_there, filled_again}
use Rattle.gap_twice_entry.specs.Calls.{Call, outcome, list_of, NoSmaller}
use Rattle.gap_twice_entry.proofs.Names.{name_at_lem, clean_passed}
use Rattle.gap_twice_entry.proofs.Tables.{image_more, symbols_more}

-- ---- the entry
module _ (c : Call) (t' : Filled) (e : outcome c ≡ accepted t') where
  abbrev ends : List ℕ
  ends = c.ends

  abbrev bytes : List ℕ
  bytes = c.bytes

  abbrev sections : List ℕ
  sections = c.sections

  abbrev places : List ℕ
  places = c.places

  abbrev image : List ℕ
  image = c.image

  abbrev symbols : List ℕ
  symbols = c.symbols

  abbrev splits : List ℕ
  splits = c.splits

  -- the ceilings of the names, of their bytes and of the splits
  abbrev most-names : ℕ
  most-names = names_room c.ends_size

  abbrev most_bytes : ℕ
  most_bytes = bytes_room c.bytes_size

  abbrev most-splits : ℕ
  most-splits = room_of c.size

  abbrev image_of_lem : Image
  image_of_lem = image_of symbols (stage_places 20 (length symbols / 20)) bytes (name_starts ends (length ends / 2)) (stage_lengths ends bytes)

  abbrev sections_of_lem : Sections
  sections_of_lem = sections_of sections (stage_places 15 (length sections / 15)) image (image_places_of places)

  abbrev room : Ceilings
  room = record { names = most-names; bytes = most_bytes }

  -- each of its lines was accepted
  record Lines : Type 0 where
    fit : fit_check most-names most_bytes ends ≡ accepted tt
    named : names_check 4096 ends bytes ≡ accepted tt
    headed : image_check 64 (stage_lengths ends bytes) places (length image) sections ≡ accepted tt
    marked : symbols_check 4096 (length ends / 2) (stage_sections sections) symbols ≡ accepted tt
    split : splits_check most-splits (stage_lengths ends bytes) (stage_sections sections) splits ≡ accepted tt
    filled_first : gaps_filled image_of_lem sections_of_lem (given (stage_sections sections) most-splits) room (list_of c) ≡ accepted t'

  lines : Lines
  unfolding gap_splits_of
  lines =
      let a = then_both _ _ _ e in
      let b = then_both _ _ _ a.1 in
      let h = then_both _ _ _ b.1 in
      let m = then_both _ _ _ h.1 in
      let s = then_both _ _ _ m.1 in
      record { fit = a.0; named = b.0; headed = h.0; marked = m.0; split = s.0; filled_first = s.1 }

  -- ---- what they tell

  abbrev heads : List Section
  heads = stage_sections sections

  abbrev old : List (List ℕ)
  old = stage_names ends bytes (length ends / 2)

  many : length old ≡ length ends / 2
  many = length-stage_names ends bytes (length ends / 2)

  sections_few : length sections / 15 ≤ 64
  sections_few = (table_passed 15 64 sections _ lines.headed).1

  sections_passed : records_check (section_fault (stage_lengths ends bytes) heads) (length sections / 15) ≡ accepted tt
  sections_passed = table-laws.image_sections (stage_lengths ends bytes) (image_places_of places) (length image) heads (length sections / 15) (table_passed 15 64 sections _ lines.headed).2

  head_is : (n : ℕ) → n < length sections / 15 → sections_of_lem.head n ≡ get_or heads n no_section
  head_is n h = sym (get_or-map (section_at sections) (stage_places 15 (length sections / 15)) n 0 no_section (rw length-stage_places h))

  section_number : (n : ℕ) → n < sections_of_lem.count → n < length sections / 15
  section_number n h = rw length-stage_places at h

  few : sections_of_lem.count ≤ 64
  few = omega (arith, sections_few, length-stage_places 15 (length sections / 15))

  below : Below sections_of_lem
  below n h =
      let q = section_number n h in
      omega (arith, ap (λ (s : Section). s.address + s.size) (head_is n q), table-laws.sections_end (stage_lengths ends bytes) heads (length sections / 15) sections_passed n q)

  -- a name that has bytes is there
  known : (k : ℕ) → 0 < get_or (stage_lengths ends bytes) k 0 → (k < length ends / 2) × (get_or (stage_lengths ends bytes) k 0 ≡ length (get_or old k []))
  unfolding name_lengths
  known k h = (omega (arith, name_there old k h, many), ListN.get_or-map length old k [])

  head_named : (n : ℕ) → n < sections_of_lem.count → ((sections_of_lem.head n).name < length ends / 2) × (length (get_or old (sections_of_lem.head n).name []) ≤ 64)
  head_named n h =
      let q = section_number n h in
      let p = table-laws.sections_named (stage_lengths ends bytes) heads (length sections / 15) sections_passed n q in
      let i = ap (λ (s : Section). s.name) (head_is n q) in
      let k = known (get_or heads n no_section).name p.0 in
      rw i (k.0, omega (arith, k.1, p.1))

  symbol_named : (i : ℕ) → i < image_of_lem.count → (image_of_lem.symbol i).name < length ends / 2
  symbol_named i h =
      let q : i < length symbols / 20 = rw length-stage_places at h in
      let is : image_of_lem.symbol i ≡ get_or (stage_symbols symbols) i no_symbol = sym (get_or-map (symbol_at symbols) (stage_places 20 (length symbols / 20)) i 0 no_symbol (rw length-stage_places q)) in
      rw is (table-laws.symbols_name (length ends / 2) heads (stage_symbols symbols) (length symbols / 20) (table_passed 20 4096 symbols _ lines.marked).2 i q)

  faultless : Faultless heads (list_of c)
  unfolding name_lengths
  faultless k h = table-laws.records_passed (split_fault (stage_lengths ends bytes) heads (stage_splits splits)) (length splits / split_width) (table_passed split_width most-splits splits _ lines.split).2 k (omega (arith, h, (length_splits splits)))

  within : Within room old
  within = record {
    few = omega (arith, many, fit_few most-names most_bytes ends lines.fit);
    short = omega (arith, flat_bytes old, names_end 4096 ends bytes lines.named (length ends / 2) (omega arith), fit_end most-names most_bytes ends lines.fit);
  }

  leaves : gap-tables.Leaves heads most-splits room (list_of c) t'
  leaves = gap-tables.filled_good image_of_lem sections_of_lem heads most-splits room (list_of c) t' below faultless lines.filled_first

  pub rows_few : length t'.rows ≤ most-splits
  rows_few = leaves.few (omega (arith, length_splits splits, (table_passed split_width most-splits splits _ lines.split).1))

  within-after : Within room t'.names
  within-after = leaves.within within

  -- the names that were there keep their numbers
  name_kept : (k : ℕ) → k < length ends / 2 → get_or t'.names k [] ≡ get_or old k []
  name_kept k h = ap (λ (l : List (List ℕ)). get_or l k []) leaves.added.1 ∙ get_or-append old leaves.added.0 [] k (omega (arith, many))

  more_names : length ends / 2 ≤ length t'.names
  more_names = omega (arith, ap length leaves.added.1, length-append old leaves.added.0, many)

  -- a section's name
  section_name : (n : ℕ) → n < sections_of_lem.count → create.name_in image_of_lem sections_of_lem n ≡ get_or old (sections_of_lem.head n).name []
  section_name n h = name_at_lem ends bytes lines.named (sections_of_lem.head n).name (head_named n h).0

  -- its names are such as a table may hold
  pub names_clean : Clean t'.names
  names_clean =
      let before = clean_passed ends bytes lines.named (omega (arith, within.short, (bytes_room_lem c.bytes_size).0)) in
      clean_filled room (names_room_lem c.ends_size).0 (bytes_room_lem c.bytes_size).0 image_of_lem sections_of_lem (given heads most-splits) (list_of c) t'
      (λ n h. rw (section_name n h) (before.good _ (name_stands old (sections_of_lem.head n).name (omega (arith, (head_named n h).0, many)))))
      (λ n h. rw (section_name n h) (head_named n h).1)
      before lines.filled_first

  -- ---- the tables that it left, handed to it again

  few_lengths : length (map length t'.names) ≤ 65536
  few_lengths = omega (arith, length-map t'.names length, names_clean.few)

  few_heads : length heads ≤ 65536
  few_heads = omega (arith, length_sections sections, sections_few)

  -- the lent split table is of bytes, as every table is, so that its origins have 16 bits
  abbrev OfBytes : Type 0
  OfBytes = (i : ℕ) → get_or splits i 0 < 256

  origins : OfBytes → All (λ s. s.origin < 65536) t'.rows
  origins small =
      gap-tables.filled_kept (λ s. s.origin < 65536) (origins_keep 65536) (λ x unit. omega arith) image_of_lem sections_of_lem heads most-splits room (list_of c) t'
      (split_origins splits (stage_places split_width (length splits / split_width)) small) lines.filled_first

  rows_back : OfBytes → stage_splits (table_bytes t'.rows) ≡ t'.rows
  rows_back small = split_table_back (map length t'.names) heads t'.rows few_lengths few_heads leaves.good (origins small)

  module _ (extra : List ℕ) where
    abbrev ends' : List ℕ
    ends' = name_ends t'.names

    abbrev bytes' : List ℕ
    bytes' = flat t'.names ++ extra

    count_is : length ends' / 2 ≡ length t'.names
    count_is = name_count t'.names

    back : stage_names ends' bytes' (length ends' / 2) ≡ t'.names
    back = names_behind t'.names names_clean.short extra

    lengths_back : stage_lengths ends' bytes' ≡ map length t'.names
    lengths_back = lengths_behind t'.names names_clean.short extra

    lengths_more : stage_lengths ends' bytes' ≡ stage_lengths ends bytes ++ map length leaves.added.0
    unfolding name_lengths
    lengths_more = lengths_back ∙ ap (map length) leaves.added.1 ∙ map-append length old leaves.added.0

    -- a name that was there is asked for as before
    same_name : (k : ℕ) → k < length ends / 2 → name_at bytes' (name_starts ends' (length ends' / 2)) (stage_lengths ends' bytes') k ≡ image_of_lem.name k
    same_name k h =
        at_behind t'.names names_clean.short extra k (omega (arith, more_names))
        ∙ name_kept k h
        ∙ sym (name_at_lem ends bytes lines.named k h)

    same_names : SameNames image_of_lem sections_of_lem (name_at bytes' (name_starts ends' (length ends' / 2)) (stage_lengths ends' bytes'))
    same_names = record { heads = λ n h. same_name (sections_of_lem.head n).name (head_named n h).0; symbols = λ i h. same_name (image_of_lem.symbol i).name (symbol_named i h) }

    tables_back : OfBytes → ◌≡◌ {A = Filled} (record { names = stage_names ends' bytes' (length ends' / 2); rows = stage_splits (table_bytes t'.rows) }) t'
    tables_back small =
        ap₂ (λ (n : List (List ℕ)) (r : List Split). record { names = n; rows = r }) back (rows_back small)

    -- THEOREM (document 02, (k), over the entry's definition): the tables that the entry left, handed to it again with the same sections and symbols and outputs of no
    -- smaller ceilings, are accepted and come back as they are
    pub entry_again : OfBytes → Needed (list_of c) → (ends_size' bytes_size' size' : ℕ) → NoSmaller c.ends_size c.bytes_size c.size ends_size' bytes_size' size'
        → gap_splits_of (name_ends t'.names) (flat t'.names ++ extra) sections places image symbols (table_bytes t'.rows) ends_size' bytes_size' size' ≡ accepted t'
    unfolding gap_splits_of
    entry_again small needed ends_size' bytes_size' size' w =
        after_goes _ _ (fits_pass t'.names names_clean.short (names_room ends_size') (bytes_room bytes_size') (omega (arith, within-after.few, w.names)) (omega (arith, within-after.short, w.bytes)))
        ∙ after_goes _ _ (pass_behind t'.names names_clean extra 4096 names_clean.few)
        ∙ after_goes _ _
        (ap (λ (l : List ℕ). image_check 64 l places (length image) sections) lengths_more
        ∙ image_more 64 (stage_lengths ends bytes) (map length leaves.added.0) places (length image) sections lines.headed)
        ∙ after_goes _ _ (symbols_more 4096 (length ends / 2) (length ends' / 2) heads symbols (omega (arith, count_is, more_names)) lines.marked)
        ∙ after_goes _ _
        (ap (λ (l : List ℕ). splits_check (room_of size') l heads (table_bytes t'.rows)) lengths_back
        ∙ split_table_passes (map length t'.names) heads t'.rows few_lengths few_heads leaves.good (origins small) (room_of size') (omega (arith, rows_few, w.splits)))
        ∙ ap (gaps_filled (with_names image_of_lem (name_at bytes' (name_starts ends' (length ends' / 2)) (stage_lengths ends' bytes'))) sections_of_lem (given heads (room_of size')) (record { names = names_room ends_size'; bytes = bytes_room bytes_size' }))
        (tables_back small)
        ∙ filled_again image_of_lem sections_of_lem heads most-splits room few below (list_of c) t' faultless lines.filled_first _ same_names (given heads (room_of size'))
        (record { names = names_room ends_size'; bytes = bytes_room bytes_size' }) needed
