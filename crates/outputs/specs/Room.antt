-- The room of a lent output: how many records it may take.
use Rattle.std.specs.Prelude.{ℕ, ◌/◌, cond, ltb}

-- a table of `size` bytes for records of `width` bytes: "A shorter lent output table has its own length as ceiling"
unfoldable pub room_for : (ceiling width size : ℕ) → ℕ
room_for ceiling width size = cond (ltb (size / width) ceiling) (size / width) ceiling
