-- What is asked of the tables that are lent together, and what they mean.
use Rattle.std.specs.Prelude.{length}
use Rattle.obj.specs.declared.Table.{Table}
use Rattle.sections.specs.declared.Obj.{Obj}
use Rattle.sections.specs.Sections.{Sections, sections_of}
use Rattle.splits.specs.Table.{columns_of}
use Rattle.splits.specs.declared.split_table.SplitColumns.{SplitColumns}
use Rattle.trim.specs.Steps.{Asks, AllPlaced}

-- the sections, their bytes in the image
abbrev pub sections_in : Obj → (image : Table) → Sections
sections_in o image = sections_of o.heads.bytes.now o.heads.places.now image.bytes.now image.places.now

-- a range of symbols and an alignment can be asked
abbrev pub AsksIn : Obj → Type 0
AsksIn o = Asks o.symbols.bytes.now o.symbols.places.now o.order.now o.names.bytes.now o.names.places.now o.names.lengths.now o.heads.bytes.now o.heads.places.now

-- each split lies in one of the sections
abbrev pub PlacedIn : Obj → SplitColumns → Type 0
PlacedIn o splits = AllPlaced (length o.heads.places.now) (columns_of splits) splits.count
