-- The stage tables of an accepted file say of every symbol, section and relocation what the file says, also where names came behind the file's: no record refers to those.
-- Assumes nothing.
use Prim.Native.Nat.{ℕ, ◌/◌, ◌≤◌, ◌<◌}
use mathlib.Core.Path.{◌≡◌, sym, ap, ap₂, ◌∙◌}
use mathlib.Core.Bool.{Bool}
use mathlib.Core.List.{List, [], ◌++◌}
use native.Mathlib.Omega.{arith}
use lib.ListN.{length, get_or}
use Rattle.std.proofs.lemmas.List.{get_or-map}
use Rattle.lists.proofs.All.{all_map}
use Rattle.lists.proofs.Filter.{keep_same}
use Rattle.lists.proofs.Rising.{numbers-below}
use Rattle.obj.specs.Records.{section_at, stage_places}
use Rattle.obj.specs.declared.Section.{Section}
use Rattle.obj.proofs.Laws.{length-stage_places}
use Rattle.obj.specs.Nothing.{no_section}
use Rattle.names.specs.Names.{name_at}
use Rattle.names.specs.Fixed.{is_bss, is_pointer_list}
use Rattle.tables.specs.Records.{image_places_of}
use Rattle.name_table.specs.NameTable.{name_in, stage_names}
use Rattle.name_table.specs.Stored.{name_starts, stage_lengths}
use Rattle.name_table.proofs.Laws.{stage_name}
use Rattle.stage_tables.specs.StageTables.{stage_sections}
use Rattle.stage_names.specs.StageNames.{flat, name_ends}
use Rattle.load.specs.Load.{Loaded, names_in}
use Rattle.sections.specs.Bytes as section_bytes_lem
use Rattle.sections.specs.Image.{image_of}
use Rattle.sections.specs.Sections.{head_of, sections_of}
use Rattle.relocs.specs.Relocs.{reloc_of}
use Rattle.common.specs.Common.{bss_sections}
use Rattle.common.specs.Sections.{bss_at, bss_in}
use Rattle.link_graph.specs.Columns.{pointers_in}
use Rattle.gap_splits.specs.Entering.{bytes_of}
use Rattle.loaded.specs.Tables.{image_from, sections_from, Usable}
use Rattle.loaded.proofs.Laws.{section_named}
use Rattle.stages_alike.specs.Alike.{SameImages, SameSections, SameRelocs}
use Rattle.file_tables.specs.Tables.{tables_of}
use Rattle.file_tables.proofs.Records.{sections_count, section_is, sections_back, symbols_count, symbol_is, reloc_is, places_back}
use Rattle.file_tables.proofs.Names.{name_count, name_in_lem, name_at_lem}
use Rattle.file_tables.proofs.Checks.{names_more, name_still}

-- ---- the relocations
pub relocs_same : {file : List ℕ} {t : Loaded} (u : Usable file t)
    → SameRelocs (reloc_of file t.relocations) (reloc_of (tables_of file t).relocations (stage_places 23 (length (tables_of file t).relocations / 23))) (length t.relocations)
relocs_same u = record { each = λ i h. sym (reloc_is u i h) }

module _ {file : List ℕ} {t : Loaded} (u : Usable file t) (names more : List (List ℕ)) (extends : names ≡ names_in file t ++ more) (short : bytes_of names ≤ 65535) where
  -- a name of the file, in the name table
  pub name_same : (k : ℕ) → k < length t.names
      → name_at file t.names t.lengths k ≡ name_at (flat names) (name_starts (name_ends names) (length (name_ends names) / 2)) (stage_lengths (name_ends names) (flat names)) k
  name_same k h = sym (name_at_lem names short k (omega (arith, names_more u names more extends)) ∙ name_still u names more extends k h)

  pub name_in_same : (k : ℕ) → k < length t.names → name_at file t.names t.lengths k ≡ name_in (name_ends names) (flat names) k
  name_in_same k h = sym (name_in_lem names short k (omega (arith, names_more u names more extends)) ∙ name_still u names more extends k h)

  -- ---- the symbols
  -- THEOREM: the tables have the file's symbols, and their names
  pub images_same : SameImages (image_from file t)
      (image_of (tables_of file t).symbols (stage_places 20 (length (tables_of file t).symbols / 20)) (flat names)
      (name_starts (name_ends names) (length (name_ends names) / 2)) (stage_lengths (name_ends names) (flat names)))
  images_same = record {
    counts = sym (length-stage_places 20 (length (tables_of file t).symbols / 20) ∙ symbols_count u);
    symbols = λ i h. sym (symbol_is u i h);
    names = λ i h. name_same ((image_from file t).symbol i).name (u.good.symbols.each i h).name;
  }

  -- ---- the sections

  -- THEOREM: .. and its sections, with their bytes and names
  pub sections_same : SameSections (image_from file t)
      (image_of (tables_of file t).symbols (stage_places 20 (length (tables_of file t).symbols / 20)) (flat names)
      (name_starts (name_ends names) (length (name_ends names) / 2)) (stage_lengths (name_ends names) (flat names)))
      (sections_from file t)
      (sections_of (tables_of file t).sections (stage_places 15 (length (tables_of file t).sections / 15)) file (image_places_of (tables_of file t).places))
  sections_same = record {
    counts = sym (length-stage_places 15 (length (tables_of file t).sections / 15) ∙ sections_count u);
    heads = λ n h. sym (section_is u n h);
    bytes = λ n h. ap₂ (λ (places : List ℕ) (head : Section). section_bytes_lem.bytes_of file places n head) (sym (places_back u)) (sym (section_is u n h));
    names = λ n h. name_same ((sections_from file t).head n).name (section_named u n h);
  }

  -- the head of section k, in the list of the sections
  head_same : (k : ℕ) → k < length t.sections → get_or (stage_sections (tables_of file t).sections) k no_section ≡ head_of file t.sections k
  head_same k h = ap (λ (l : List Section). get_or l k no_section) (sections_back u) ∙ get_or-map (section_at file) t.sections k 0 no_section h

  -- THEOREM: the same sections are those of pointer lists
  pub pointers_same : (k : ℕ) → k < length t.sections
      → pointers_in file t.sections file t.names t.lengths k
      ≡ is_pointer_list (name_in (name_ends names) (flat names) (get_or (stage_sections (tables_of file t).sections) k no_section).name)
  pointers_same k h =
      ap is_pointer_list (name_in_same (head_of file t.sections k).name (section_named u k h))
      ∙ ap (λ (s : Section). is_pointer_list (name_in (name_ends names) (flat names) s.name)) (sym (head_same k h))

  -- THEOREM: the same sections are named `.bss`
  pub bss_same : bss_in file t.names t.lengths file t.sections
      ≡ bss_sections (λ k. is_bss (get_or (stage_names (name_ends names) (flat names) (length (name_ends names) / 2)) (get_or (stage_sections (tables_of file t).sections) k no_section).name []))
      (length (tables_of file t).sections / 15)
  unfolding bss_sections bss_at
  bss_same =
      keep_same _ _ _ (all_map (λ k h. bss_at_lem k h) (numbers-below (length t.sections)))
      ∙ ap (bss_sections stage_bss) (sym (sections_count u))
    where
      stage_bss : ℕ → Bool
      stage_bss k = is_bss (get_or (stage_names (name_ends names) (flat names) (length (name_ends names) / 2)) (get_or (stage_sections (tables_of file t).sections) k no_section).name [])

      bss_at_lem : (k : ℕ) → k < length t.sections → is_bss (name_at file t.names t.lengths (head_of file t.sections k).name) ≡ stage_bss k
      bss_at_lem k h =
          let q = section_named u k h in
          ap is_bss
          (name_in_same (head_of file t.sections k).name q
          ∙ sym (stage_name (name_ends names) (flat names) (length (name_ends names) / 2) (head_of file t.sections k).name
          (omega (arith, q, names_more u names more extends, name_count names))))
          ∙ ap (λ (s : Section). is_bss (get_or (stage_names (name_ends names) (flat names) (length (name_ends names) / 2)) s.name [])) (sym (head_same k h))
