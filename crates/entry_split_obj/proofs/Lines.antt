-- Lines of the definition over the columns are those over the lent tables. Assumes nothing.
use Prim.Native.Nat.{ℕ, ◌/◌, ◌<◌}
use mathlib.Core.Path.{◌≡◌, ap, ◌∙◌}
use mathlib.Core.List.{List}
use lib.ListN.{length, get_or}
use Rattle.lists.specs.Outcome.{Outcome, ◌>>◌}
use Rattle.obj.specs.Records.{stage_places}
use Rattle.obj.specs.declared.Section.{Section}
use Rattle.obj.proofs.Laws.{length-stage_places}
use Rattle.tables.specs.Records.{sections_in, image_places_of}
use Rattle.name_table.specs.Stored.{name_starts, stage_lengths}
use Rattle.name_table.proofs.Laws.{length-stage_lengths}
use Rattle.stage_tables.specs.StageTables.{stage_sections, stage_splits, symbols_check, relocs_check, splits_check, units_check}
use Rattle.sections.specs.Image.{image_of}
use Rattle.sections.specs.Sections.{Sections, sections_of}
use Rattle.relocs.specs.Relocs.{reloc_of}
use Rattle.units.specs.Units.{unit_names}
use Rattle.pieces.specs.declared.Counts.{Counts}
use Rattle.walk.specs.Walk.{Output, walk}
use Rattle.stage_walk.specs.Lines.{from_units, from_splits}
use Rattle.entry_split_obj.specs.Entry.{input_in}
use Rattle.entry_split_obj.specs.Lines.{from_symbols}
use Rattle.entry_split_obj.proofs.Alike.{walk_alike}

-- ---- symbols and relocations that passed: the splits are asked with their places
pub tables_as : (name_bytes name_places name_lengths : List ℕ) (heads : List Section) (sections : Sections) (symbols symbol_places relocs places splits units : List ℕ) (room : Counts)
    → symbol_places ≡ stage_places 20 (length symbols / 20) → places ≡ stage_places 23 (length relocs / 23)
    → from_splits name_lengths heads (image_of symbols symbol_places name_bytes name_places name_lengths) sections (reloc_of relocs places) (length places) splits units room
    ≡ from_splits name_lengths heads (image_of symbols (stage_places 20 (length symbols / 20)) name_bytes name_places name_lengths) sections
    (reloc_of relocs (stage_places 23 (length relocs / 23))) (length relocs / 23) splits units room
tables_as name_bytes name_places name_lengths heads sections symbols symbol_places relocs places splits units room e f =
    (λ d. from_splits name_lengths heads (image_of symbols (e d) name_bytes name_places name_lengths) sections (reloc_of relocs (f d)) (length (f d)) splits units room)
    ∙ ap (λ (k : ℕ). from_splits name_lengths heads (image_of symbols (stage_places 20 (length symbols / 20)) name_bytes name_places name_lengths) sections (reloc_of relocs (stage_places 23 (length relocs / 23))) k splits units room)
    (length-stage_places 23 (length relocs / 23))

-- ---- names and sections that passed: the symbols are asked with their columns
module _ (ends bytes b image places symbols relocs splits units : List ℕ) (room : Counts) where
  -- the lines after the sections, with the walk of these
  abbrev lines : (names : ℕ) → Outcome Output → Outcome Output
  lines names walked =
      symbols_check 4096 names (stage_sections b) symbols
      >> (relocs_check 4096 (stage_sections b) (length symbols / 20) relocs
      >> (splits_check 1024 (stage_lengths ends bytes) (stage_sections b) splits
      >> (units_check 1024 (stage_lengths ends bytes) units
      >> walked)))

  pub symbols_as : (name_bytes name_places name_lengths head_places I : List ℕ)
      → name_bytes ≡ bytes → name_places ≡ name_starts ends (length ends / 2) → name_lengths ≡ stage_lengths ends bytes
      → head_places ≡ stage_places 15 (length b / 15) → ((n : ℕ) → n < length b / 15 → get_or I n 0 ≡ get_or (image_places_of places) n 0)
      → from_symbols name_bytes name_places name_lengths (sections_in b head_places) (sections_of b head_places image I) symbols relocs splits units room
      ≡ lines (length ends / 2) (walk (input_in ends bytes b places image symbols relocs splits units room))
  unfolding from_symbols from_splits from_units
  symbols_as name_bytes name_places name_lengths head_places I eb ep el there same =
      (λ d. from_symbols (eb d) (ep d) (el d) (sections_in b (there d)) (sections_of b (there d) image I) symbols relocs splits units room)
      ∙ ap (lines (length (stage_lengths ends bytes)))
      (walk_alike (image_of symbols (stage_places 20 (length symbols / 20)) bytes (name_starts ends (length ends / 2)) (stage_lengths ends bytes)) b (stage_places 15 (length b / 15)) image
      (reloc_of relocs (stage_places 23 (length relocs / 23))) (length relocs / 23) (stage_splits splits) (unit_names units (stage_places 8 (length units / 8))) room
      I (image_places_of places) (λ n h. same n (rw length-stage_places at h)))
      ∙ ap (λ (n : ℕ). lines n (walk (input_in ends bytes b places image symbols relocs splits units room))) (length-stage_lengths ends bytes)
