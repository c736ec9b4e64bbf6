-- What an entry's own arrays give of a table of sections, and of one of symbols, if it passed.
use Rattle.std.specs.Prelude.{ℕ, ◌/◌, ◌≡◌, List, length, take, Result, IfOk}
use Rattle.lists.specs.Outcome.{Outcome}
use Rattle.obj.specs.Answers.{meaning}
use Rattle.obj.specs.Records.{stage_places}
use Rattle.obj.specs.declared.Refusal.{Refusal}
use Rattle.obj.specs.declared.Table.{Table}
use Rattle.names.specs.declared.Names.{Names}
use Rattle.tables.specs.Records.{image_places_of}
use Rattle.stage_tables.specs.StageTables.{answered, Whole}
use Rattle.symbol_order.specs.Order.{symbol_of, order_of}
use Rattle.sections.specs.declared.Obj.{Obj}
use Rattle.stage_sections.specs.declared.section_arrays.SectionTables.{SectionTables}

-- ---- sections

-- the sections of the bytes b, and the image with the places of their bytes, as many as there are and an array holds
pub record Headed (b places image : List ℕ) (s : SectionTables) : Type 0 where
  pub heads : Whole 15 b s.heads
  pub image_bytes : s.image.bytes.now ≡ image
  pub image_places : s.image.places.now ≡ take 64 (image_places_of places)

-- what was answered, and the tables if it was accepted
pub record TakesSections (want : Outcome (Unit {0})) (b places image : List ℕ) (r : Result SectionTables Refusal) : Type 0 where
  pub said : meaning (answered r) ≡ want
  pub tables : IfOk r (Headed b places image)

-- ---- symbols

-- the symbols of the bytes b, and their order, with these names and sections
pub record Asked (named : Names) (sections : Table) (b : List ℕ) (o : Obj) : Type 0 where
  pub names : o.names ≡ named
  pub heads : o.heads ≡ sections
  pub symbols : Whole 20 b o.symbols
  pub order : o.order.now ≡ order_of (symbol_of b (stage_places 20 (length b / 20))) (length b / 20)

-- what was answered, and what is asked if it was accepted
pub record TakesSymbols (want : Outcome (Unit {0})) (named : Names) (sections : Table) (b : List ℕ) (r : Result Obj Refusal) : Type 0 where
  pub said : meaning (answered r) ≡ want
  pub asked : IfOk r (Asked named sections b)
