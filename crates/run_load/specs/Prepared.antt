-- A record file made ready for the stages: loaded, with the places of the sections' bytes and the symbol order. "The tables are checked once".
use Rattle.std.specs.Prelude.{ℕ, ◌≤◌, ◌≡◌, List, Result, Ok, Err, length, take}
use Rattle.lists.specs.Outcome.{Outcome, accepted, refused}
use Rattle.obj.specs.declared.Refusal.{Refusal}
use Rattle.tables.specs.Tables.{main_ceilings}
use Rattle.load.specs.Load.{Loaded}
use Rattle.load.specs.Columns.{tables_in, Ready}
use Rattle.loaded.specs.Tables.{byte_places}
use Rattle.symbol_order.specs.Order.{symbol_of, order_of}
use Rattle.run_load.specs.declared.Prepared.{Prepared}

-- what the columns hold besides, where the file was accepted: t is what was loaded
pub record Ordered (file : List ℕ) (t : Loaded) (images order : List ℕ) (ordered : ℕ) : Type 0 where
  pub images_are : take (length t.sections) images ≡ byte_places t.sections
  pub order_is : take ordered order ≡ order_of (symbol_of file t.symbols) (length t.symbols)
  pub small : ordered ≤ length order

-- what an answer means: the tables that its counts say of the columns, or its refusal
abbrev pub prepared_as : Result Prepared Refusal → (places lengths : List ℕ) → Outcome Loaded
prepared_as (Ok p) places lengths = accepted (tables_in p.counts places lengths)
prepared_as (Err r) places lengths = refused r.number r.section r.address

-- the answer is this outcome's; what is accepted is ready for the stages
pub record Prepares (file : List ℕ) (o : Outcome Loaded) (r : Result Prepared Refusal) (places lengths heads chain images order : List ℕ) : Type 0 where
  pub means : prepared_as r places lengths ≡ o
  pub ready : (p : Prepared) → r ≡ Ok p → Ready main_ceilings file p.counts places lengths heads chain
  pub done : (p : Prepared) → r ≡ Ok p → Ordered file (tables_in p.counts places lengths) images order p.ordered
