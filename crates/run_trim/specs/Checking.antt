-- The run checks and trims: "checks (`validate_splits`), trims (..)".
use Rattle.std.specs.Prelude.{List}
use Rattle.lists.specs.Outcome.{Outcome, ◌>>◌}
use Rattle.obj.specs.declared.Split.{Split}
use Rattle.sections.specs.Image.{Image}
use Rattle.sections.specs.Sections.{Sections}
use Rattle.validate.specs.Check.{validate}
use Rattle.trim.specs.Trim.{trimmed}

-- the table that is left of these rows
abbrev pub checked_table : Image → Sections → List Split → Outcome (List Split)
checked_table g sections rows = validate g.symbol g.count rows >> trimmed g sections rows
