-- The sum of lengths, by which the room for names is told.
use Rattle.std.specs.Prelude.{ℕ, ◌+◌, List, [], ◌∷◌}

-- the sum of these lengths
unfoldable pub sum : List ℕ → ℕ
sum [] = 0
sum (x ∷ later) = x + sum later
