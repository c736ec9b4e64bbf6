-- The symbol order of a table that passed: the records' places are those of the table, and the order is made of them.
-- Assumes nothing.
use Prim.Native.Nat.{ℕ, ◌/◌, ◌≤◌}
use mathlib.Core.Path.{◌≡◌, sym, ap, ◌∙◌}
use mathlib.Core.List.{List}
use native.Mathlib.Omega.{arith}
use lib.ListN.{length, take}
use Rattle.std.specs.Prelude.{Ok}
use Rattle.lists.specs.Outcome.{Outcome, accepted}
use Rattle.obj.specs.declared.Table.{Table}
use Rattle.obj.specs.Records.{stage_places}
use Rattle.stage_tables.specs.StageTables.{table_check, Filled, Taken}
use Rattle.stage_tables.proofs.Laws.{taken_few, taken-count, filled_few, filled-count, filled-held}
use Rattle.symbol_order.specs.Order.{symbol_of, order_of, Whole, Leads, Room as OrderRoom}
use Rattle.stage_symbols.specs.StageSymbols.{Room, LedInOrder, Ordered}

-- as many places as the ceiling allows have room
few_room : {ceiling n : ℕ} {places lent order scratch : List ℕ} → length places ≡ n → n ≤ ceiling → Room ceiling lent order scratch → OrderRoom places order scratch
few_room count few room =
    record {
      few = rw count (omega (arith, few, room.few));
      ordered = rw count (omega (arith, few, room.order_long));
      worked = rw count (omega (arith, few, room.scratch_long));
    }

-- ---- of a table that is answered
module _ (ceiling : ℕ) (b : List ℕ) (fault : ℕ → ℕ) {t : Table} (k : Taken (table_check 20 ceiling b fault) 20 b (Ok t)) where
  pub order_room : {places order scratch : List ℕ} → Room ceiling places order scratch → OrderRoom t.places.now order scratch
  order_room room = few_room (taken-count 20 b k.table) (taken_few 20 ceiling b fault k) room

  pub symbols_whole : Whole t.bytes.now t.places.now
  symbols_whole = record { each = k.table.held.each }

  pub order_is : (order : List ℕ) {r : ℕ} → Leads order (order_of (symbol_of t.bytes.now t.places.now) (length t.places.now)) t.places.now r
      → take r order ≡ order_of (symbol_of b (stage_places 20 (length b / 20))) (length b / 20)
  order_is order leads =
      leads.is
      ∙ ap (order_of (symbol_of t.bytes.now t.places.now)) (taken-count 20 b k.table)
      ∙ (λ z. order_of (symbol_of (k.table.bytes z) (k.table.places z)) (length b / 20))

-- ---- of a column
module _ (ceiling : ℕ) (b places : List ℕ) (fault : ℕ → ℕ) (f : Filled (accepted tt) (table_check 20 ceiling b fault) 20 (length b) places) where
  pub filled_room : {lent order scratch : List ℕ} → Room ceiling lent order scratch → OrderRoom (take (length b / 20) places) order scratch
  filled_room room = few_room (filled-count 20 ceiling b places fault f) (filled_few 20 ceiling b places fault f) room

  pub filled_whole : ceiling ≤ 4096 → Whole b (take (length b / 20) places)
  filled_whole low = record { each = (filled-held 20 ceiling b places fault f low).each }

  pub led_in_order : (order : List ℕ) {r : ℕ}
      → Leads order (order_of (symbol_of b (take (length b / 20) places)) (length (take (length b / 20) places))) (take (length b / 20) places) r → LedInOrder b order r
  led_in_order order leads =
      let count = filled-count 20 ceiling b places fault f in record {
        small = rw count at leads.small;
        is =
            leads.is
            ∙ ap (order_of (symbol_of b (take (length b / 20) places))) count
            ∙ ap (λ (l : List ℕ). order_of (symbol_of b l) (length b / 20)) (f.filled (sym f.said));
      }

-- what was answered of the symbols with their order is what was answered of their table
pub ordered-filled : {want : Outcome (Unit {0})} {b places order : List ℕ} {n : ℕ} → Ordered want b places order (Ok n) → Filled (accepted tt) want 20 (length b) places
ordered-filled o = record { said = o.said; filled = o.placed }
