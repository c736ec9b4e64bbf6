-- What a symbol table that passed is to the questions of `symbols`: each record's check gives its facts, record by record.
-- Assumes nothing.
use Prim.Native.Nat.{ℕ, ◌+◌, ◌/◌, ◌<◌, ◌≤◌}
use mathlib.Core.Path.{◌≡◌, sym}
use mathlib.Core.List.{List}
use mathlib.Core.Bool.{false}
use native.Mathlib.Omega.{arith}
use lib.ListN.{length, get_or}
use Rattle.std.proofs.lemmas.List.{get_or-map}
use Rattle.lists.specs.Outcome.{accepted}
use Rattle.align.specs.Align.{bad_align}
use Rattle.obj.specs.Records.{symbol_at, stage_places}
use Rattle.obj.specs.declared.Section.{Section}
use Rattle.obj.proofs.Laws.{length-stage_places}
use Rattle.obj.specs.Nothing.{no_symbol}
use Rattle.tables.specs.Tables.{records_check}
use Rattle.tables.specs.Records.{symbol_fault}
use Rattle.tables.proofs.Laws as tables
use Rattle.tables.proofs.Lookups.{stage_held}
use Rattle.stage_tables.specs.StageTables.{stage_symbols, symbols_check}
use Rattle.stage_tables.proofs.Laws.{table_passed}
use Rattle.symbol_order.specs.Order.{symbol_of, Whole}
use Rattle.symbols.specs.Sound.{Sound}

-- ---- symbols
module _ (ceiling names : ℕ) (sections : List Section) (b : List ℕ) (passed : symbols_check ceiling names sections b ≡ accepted tt) where
  let_passed : records_check (symbol_fault names sections (stage_symbols b)) (length b / 20) ≡ accepted tt
  let_passed = (table_passed 20 ceiling b _ passed).2

  -- symbol i of the table
  symbol_is : (i : ℕ) → i < length b / 20 → symbol_of b (stage_places 20 (length b / 20)) i ≡ get_or (stage_symbols b) i no_symbol
  symbol_is i h = sym (get_or-map (symbol_at b) (stage_places 20 (length b / 20)) i 0 no_symbol (rw length-stage_places h))

  pub symbol_named : (i : ℕ) → i < length b / 20 → (symbol_of b (stage_places 20 (length b / 20)) i).name < names
  symbol_named i h = rw (symbol_is i h) (tables.symbols_name names sections (stage_symbols b) (length b / 20) let_passed i h)

  pub symbol_end : (i : ℕ) → i < length b / 20
      → (symbol_of b (stage_places 20 (length b / 20)) i).address + (symbol_of b (stage_places 20 (length b / 20)) i).size ≤ 4026531840
  symbol_end i h = rw (symbol_is i h) (tables.symbols_end names sections (stage_symbols b) (length b / 20) let_passed i h)

  pub symbol_aligned : (i : ℕ) → i < length b / 20 → bad_align (symbol_of b (stage_places 20 (length b / 20)) i).alignment ≡ false
  symbol_aligned i h = rw (symbol_is i h) (tables.symbols_aligned names sections (stage_symbols b) (length b / 20) let_passed i h)

  -- the records can be read
  pub symbol_whole : ceiling ≤ 4096 → Whole b (stage_places 20 (length b / 20))
  symbol_whole low =
      let few = (table_passed 20 ceiling b _ passed).1 in
      record { each = (stage_held 20 (length b / 20) b (omega (arith, few, low)) (omega arith)).each }

-- ---- what check 5 gives of every symbol
pub symbols_sound : (ceiling names : ℕ) (sections : List Section) (b : List ℕ) → symbols_check ceiling names sections b ≡ accepted tt
    → Sound (symbol_of b (stage_places 20 (length b / 20))) (length b / 20)
symbols_sound ceiling names sections b passed =
    record { ends = symbol_end ceiling names sections b passed; aligned = symbol_aligned ceiling names sections b passed }
