-- The lower and the higher of two numbers, and numbers that are bytes.
use Rattle.std.specs.Prelude.{ℕ, ◌<◌, List, cond, get_or, ltb}

abbrev pub lower : ℕ → ℕ → ℕ
lower a b = cond (ltb a b) a b

abbrev pub higher : ℕ → ℕ → ℕ
higher a b = cond (ltb a b) b a

-- each of these numbers is below 256
abbrev pub Bytes : List ℕ → Type 0
Bytes l = (k : ℕ) → get_or l k 0 < 256
