-- The first stages of the run: "It merges the partial splits in file order (`add_split`), marks common (`update_common_splits` with no start)".
use Rattle.std.specs.Prelude.{ℕ, false, List}
use Rattle.lists.specs.Outcome.{Outcome, ◌>>=◌}
use Rattle.obj.specs.declared.Split.{Split}
use Rattle.common.specs.Common.{common_of}

-- common marked in a table that is given, by the sections named `.bss`
abbrev pub marked_in : (bss : List ℕ) → Outcome (List Split) → Outcome (List Split)
marked_in bss table = table >>= λ rows. common_of false 0 bss rows
