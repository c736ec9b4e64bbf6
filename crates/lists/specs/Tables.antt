-- What is left in a lent output table: its records and then zeros to the end of the lent slice, so zeros throughout where it holds none.
-- No record of a table is written in part: what does not fit whole is not written at all.
use Rattle.std.specs.Prelude.{ℕ, ◌-◌, List, ◌++◌, length, replicate}

-- these bytes at the front of a table of this length, and zeros after them
abbrev pub laid : ℕ → List ℕ → List ℕ
laid size bytes = bytes ++ replicate (size - length bytes) 0
