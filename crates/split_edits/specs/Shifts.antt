-- Rows, or the numbers of a column, that go down together to close a gap.
use Rattle.std.specs.Prelude.{ℕ, ◌+◌, ◌<◌, ◌≡◌}

-- from f₀ to f, what stood at place `from` and after it, `count` of them, went down to place `to`; what is below stays
pub record Lowered {A : Type 0} (to from count : ℕ) (f₀ f : ℕ → A) : Type 0 where
  pub below : (k : ℕ) → k < to → f k ≡ f₀ k
  pub moved : (j : ℕ) → j < count → f (to + j) ≡ f₀ (from + j)
