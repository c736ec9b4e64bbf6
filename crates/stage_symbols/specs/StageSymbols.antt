-- The symbols of a stage: their table with all its checks, and the symbol order made of it. What a table that passed is to the questions of `symbols`: the
-- laws of proofs/Laws.antt; what it is to those of `sections`: stage_sections.
use Rattle.std.specs.Prelude.{ℕ, ◌/◌, ◌≤◌, ◌≡◌, List, length, take, Result, IfOk}
use Rattle.lists.specs.Outcome.{Outcome, accepted}
use Rattle.obj.specs.Answers.{meaning}
use Rattle.obj.specs.Records.{stage_places}
use Rattle.symbol_order.specs.Order.{symbol_of, order_of}
use Rattle.obj.specs.declared.Refusal.{Refusal}
use Rattle.stage_tables.specs.StageTables.{answered, Whole}
use Rattle.stage_symbols.specs.declared.OrderedSymbols.{OrderedSymbols}

-- the lent columns have room for `ceiling` symbols
pub record Room (ceiling : ℕ) (places order scratch : List ℕ) : Type 0 where
  pub few : ceiling ≤ 4096
  pub places_long : ceiling ≤ length places
  pub order_long : ceiling ≤ length order
  pub scratch_long : ceiling ≤ length scratch

-- the first n numbers of a column are the symbol order of the bytes b
pub record LedInOrder (b order : List ℕ) (n : ℕ) : Type 0 where
  pub small : n ≤ length b / 20
  pub is : take n order ≡ order_of (symbol_of b (stage_places 20 (length b / 20))) (length b / 20)

-- what was answered of the table b; if it was accepted, the places of its records and the symbol order
pub record Ordered (want : Outcome (Unit {0})) (b places order : List ℕ) (r : Result ℕ Refusal) : Type 0 where
  pub said : meaning (answered r) ≡ want
  pub placed : want ≡ accepted tt → take (length b / 20) places ≡ stage_places 20 (length b / 20)
  pub led : IfOk r (LedInOrder b order)

-- the symbols of the bytes b, and their order
pub record InOrder (b : List ℕ) (s : OrderedSymbols) : Type 0 where
  pub table : Whole 20 b s.table
  pub order : s.order.now ≡ order_of (symbol_of b (stage_places 20 (length b / 20))) (length b / 20)

-- what was answered of the bytes b, and their symbols if it was accepted
pub record TakenInOrder (want : Outcome (Unit {0})) (b : List ℕ) (r : Result OrderedSymbols Refusal) : Type 0 where
  pub said : meaning (answered r) ≡ want
  pub symbols : IfOk r (InOrder b)

-- the first r places of a column are those of the lent section places
pub record Placed (places column : List ℕ) (r : ℕ) : Type 0 where
  pub is : take r column ≡ take (length column) places
  pub inside : r ≤ length column
