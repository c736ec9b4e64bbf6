-- How long the columns are that a file is loaded into.
use Rattle.std.specs.Prelude.{ℕ, ◌≤◌, List, length}
use Rattle.tables.specs.Tables.{main_ceilings}
use Rattle.load.specs.Columns.{Room}

-- the loader has room for document 01's ceilings, and so have the places of the sections' bytes and the symbol order
pub record Long (places lengths heads chain images order : List ℕ) : Type 0 where
  pub loader : Room main_ceilings places lengths heads chain
  pub images_long : 64 ≤ length images
  pub order_long : 4096 ≤ length order
