-- What is asked of tables that are lent by places.
use Rattle.obj.specs.declared.Table.{Table}
use Rattle.tables.specs.Tables.{AllHeld}

-- the records of the sections can be read
abbrev pub HeadsHeld : (heads : Table) → Type 0
HeadsHeld heads = AllHeld 15 heads.bytes.now heads.places.now
