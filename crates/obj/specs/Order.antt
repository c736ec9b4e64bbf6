-- The order of a stage's split table: document 01 refuses "sections falling, or starts falling in one". Ends may fall.
use Rattle.std.specs.Prelude.{◌≤◌, ◌≡◌}
use Rattle.obj.specs.declared.Split.{Split}

-- s may stand somewhere after a
pub record NotBelow (a s : Split) : Type 0 where
  pub sections : a.section ≤ s.section
  pub starts : a.section ≡ s.section → a.start ≤ s.start
