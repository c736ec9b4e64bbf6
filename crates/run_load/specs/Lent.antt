-- A record file made ready in the columns that are lent for it.
use Rattle.std.specs.Prelude.{ℕ, ◌≡◌, List, length, Result}
use Rattle.lists.specs.Outcome.{Outcome}
use Rattle.obj.specs.declared.Refusal.{Refusal}
use Rattle.load.specs.Load.{Loaded}
use Rattle.names.specs.declared.NameIndex.{NameIndex}
use Rattle.run_load.specs.Prepared.{Prepares}
use Rattle.run_load.specs.declared.Prepared.{Prepared}
use Rattle.run_load.specs.declared.file_columns.FileColumns.{FileColumns}

abbrev pub PreparesIn : (file : List ℕ) → Outcome Loaded → Result Prepared Refusal → FileColumns → Type 0
PreparesIn file o r c = Prepares file o r c.places.now c.lengths.now c.heads.now c.chain.now c.images.now c.order.now

-- index is the one in the columns
pub record ShowsIndex (c : FileColumns) (index : NameIndex) : Type 0 where
  pub heads : index.heads.now ≡ c.heads.now
  pub chain : index.chain.now ≡ c.chain.now

-- the columns are still those that were lent, of the same lengths
pub record SameColumns (before after : FileColumns) : Type 0 where
  pub places : after.places.ghost_name ≡ before.places.ghost_name
  pub lengths : after.lengths.ghost_name ≡ before.lengths.ghost_name
  pub heads : after.heads.ghost_name ≡ before.heads.ghost_name
  pub chain : after.chain.ghost_name ≡ before.chain.ghost_name
  pub images : after.images.ghost_name ≡ before.images.ghost_name
  pub order : after.order.ghost_name ≡ before.order.ghost_name
  pub places_size : length after.places.now ≡ length before.places.now
  pub lengths_size : length after.lengths.now ≡ length before.lengths.now
  pub heads_size : length after.heads.now ≡ length before.heads.now
  pub chain_size : length after.chain.now ≡ length before.chain.now
  pub images_size : length after.images.now ≡ length before.images.now
  pub order_size : length after.order.now ≡ length before.order.now
