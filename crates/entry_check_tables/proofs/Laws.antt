-- The ceilings that the tables are asked with, and what the tables before leave in the columns is what the definition asks.
-- Assumes nothing.
use Prim.Native.Nat.{ℕ, ◌/◌}
use mathlib.Core.Path.{◌≡◌, ap, ◌∙◌}
use mathlib.Core.List.{List}
use lib.ListN.{length}
use Rattle.lists.specs.Outcome.{Outcome, ◌>>◌}
use Rattle.obj.specs.Records.{stage_places}
use Rattle.tables.specs.Records.{sections_in}
use Rattle.name_table.specs.Stored.{stage_lengths}
use Rattle.name_table.proofs.Laws.{length-stage_lengths}
use Rattle.stage_tables.specs.StageTables.{table_check, stage_sections, symbols_check, relocs_check, splits_check, units_check}
use Rattle.entry_check_tables.specs.Lines.{from_symbols}

-- a table was asked with this ceiling
pub below : (width ceiling most : ℕ) (b : List ℕ) (fault : ℕ → ℕ) {answer : Outcome (Unit {0})} → answer ≡ table_check width ceiling b fault → ceiling ≡ most
    → answer ≡ table_check width most b fault
below width ceiling most b fault e q = e ∙ ap (λ (k : ℕ). table_check width k b fault) q

-- the lengths in the columns are those of the names, and the sections at their places those of the table
pub symbols_as : (ends bytes b symbols relocations splits units lengths places : List ℕ) → lengths ≡ stage_lengths ends bytes → places ≡ stage_places 15 (length b / 15)
    → from_symbols lengths (sections_in b places) symbols relocations splits units
    ≡ (symbols_check 4096 (length ends / 2) (stage_sections b) symbols
    >> (relocs_check 4096 (stage_sections b) (length symbols / 20) relocations
    >> (splits_check 1024 (stage_lengths ends bytes) (stage_sections b) splits >> units_check 1024 (stage_lengths ends bytes) units)))
unfolding from_symbols
symbols_as ends bytes b symbols relocations splits units lengths places el ep =
    (λ d. from_symbols (el d) (sections_in b (ep d)) symbols relocations splits units)
    ∙ ap (λ (n : ℕ).
    symbols_check 4096 n (stage_sections b) symbols
    >> (relocs_check 4096 (stage_sections b) (length symbols / 20) relocations
    >> (splits_check 1024 (stage_lengths ends bytes) (stage_sections b) splits >> units_check 1024 (stage_lengths ends bytes) units)))
    (length-stage_lengths ends bytes)
