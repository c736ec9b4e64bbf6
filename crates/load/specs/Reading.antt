-- The structs of this crate, as the definitions of `Load` speak of what they hold.
use Rattle.std.specs.Prelude.{ℕ, ◌≡◌, List, Result}
use Rattle.lists.specs.Outcome.{Outcome}
use Rattle.obj.specs.declared.Refusal.{Refusal}
use Rattle.tables.specs.declared.Counts.{Counts, Counts as Ceilings}
use Rattle.load.specs.Load.{Loaded}
use Rattle.load.specs.Columns.{tables_in, fault_as, Ready, Kept, Loads}
use Rattle.load.specs.declared.reading.Columns.{Columns}
use Rattle.load.specs.declared.reading.Payload.{Payload}
use Rattle.load.specs.declared.reading.SoFar.{SoFar}

-- what is loaded so far
abbrev pub so_far : SoFar → Loaded
so_far s = tables_in s.counts s.places.now s.lengths.now

-- what `number` says of a payload, as an error
abbrev pub fault_in : (number : Ceilings → (file : List ℕ) → (at len : ℕ) → Loaded → ℕ) → Payload → Result (Unit {0}) ℕ
fault_in number p = fault_as (number p.before.most p.before.file.now p.at p.len (so_far p.before))

-- ---- the columns that are written

-- what the columns hold
abbrev pub loaded_in : Columns → Loaded
loaded_in k = tables_in k.counts k.places.now k.lengths.now

-- they are the same lent columns, of the same file and with the same ceilings
pub record SameColumns (before after : Columns) : Type 0 where
  pub file : after.file.now ≡ before.file.now
  pub most : after.most ≡ before.most
  pub places : after.places.ghost_name ≡ before.places.ghost_name
  pub lengths : after.lengths.ghost_name ≡ before.lengths.ghost_name
  pub heads : after.heads.ghost_name ≡ before.heads.ghost_name
  pub chain : after.chain.ghost_name ≡ before.chain.ghost_name

abbrev pub ReadyIn : Columns → Type 0
ReadyIn k = Ready k.most k.file.now k.counts k.places.now k.lengths.now k.heads.now k.chain.now

abbrev pub KeptIn : (at len kind : ℕ) → Loaded → Columns → Type 0
KeptIn at len kind t k = Kept k.most k.file.now at len kind t k.counts k.places.now k.lengths.now k.heads.now k.chain.now

abbrev pub LoadsIn : Outcome Loaded → Result Counts Refusal → Columns → Type 0
LoadsIn o r k = Loads k.most k.file.now o r k.places.now k.lengths.now k.heads.now k.chain.now
