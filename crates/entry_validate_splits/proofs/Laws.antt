-- What tables that passed leave to the check: the symbol order over the columns, and lines of the definition over the columns that are those over the lent
-- tables. Assumes nothing.
use Prim.Native.Nat.{ℕ, ◌/◌}
use mathlib.Core.Path.{◌≡◌, sym, ap, ◌∙◌}
use mathlib.Core.List.{List}
use lib.ListN.{length}
use Rattle.lists.specs.Outcome.{◌>>◌}
use Rattle.obj.specs.Records.{stage_places}
use Rattle.obj.specs.declared.Section.{Section}
use Rattle.obj.proofs.Laws.{length-stage_places}
use Rattle.name_table.specs.Stored.{stage_lengths}
use Rattle.name_table.proofs.Laws.{length-stage_lengths}
use Rattle.tables.specs.Records.{sections_in}
use Rattle.stage_tables.specs.StageTables.{stage_sections, stage_splits, symbols_check, splits_check}
use Rattle.symbol_order.specs.Order.{symbol_of}
use Rattle.validate.specs.Check.{validate}
use Rattle.entry_validate_splits.specs.Lines.{from_splits, from_symbols}

-- ---- symbols that passed: the splits are asked with their places
pub splits_as : (sections : List Section) (b lengths splits : List ℕ) {places : List ℕ} → places ≡ stage_places 20 (length b / 20)
    → from_splits lengths sections (symbol_of b places) (length places) splits
    ≡ from_splits lengths sections (symbol_of b (stage_places 20 (length b / 20))) (length b / 20) splits
splits_as sections b lengths splits e =
    ap (λ (l : List ℕ). from_splits lengths sections (symbol_of b l) (length l) splits) e
    ∙ ap (λ (n : ℕ). from_splits lengths sections (symbol_of b (stage_places 20 (length b / 20))) n splits) (length-stage_places 20 (length b / 20))

-- ---- names and sections that passed
pub symbols_as : (ends bytes b symbols splits lengths places : List ℕ) → lengths ≡ stage_lengths ends bytes → places ≡ stage_places 15 (length b / 15)
    → from_symbols lengths (sections_in b places) symbols splits
    ≡ (symbols_check 4096 (length ends / 2) (stage_sections b) symbols
    >> (splits_check 1024 (stage_lengths ends bytes) (stage_sections b) splits
    >> validate (symbol_of symbols (stage_places 20 (length symbols / 20))) (length symbols / 20) (stage_splits splits)))
unfolding from_symbols from_splits
symbols_as ends bytes b symbols splits lengths places el ep =
    (λ d. from_symbols (el d) (sections_in b (ep d)) symbols splits)
    ∙ ap (λ (n : ℕ).
    symbols_check 4096 n (stage_sections b) symbols
    >> (splits_check 1024 (stage_lengths ends bytes) (stage_sections b) splits
    >> validate (symbol_of symbols (stage_places 20 (length symbols / 20))) (length symbols / 20) (stage_splits splits)))
    (length-stage_lengths ends bytes)
