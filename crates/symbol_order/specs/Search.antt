-- A column of record numbers that stands by a key, which calls of a closure give: place by place, a call's result is the key of the number there.
-- The laws of a search in such a column are proved once, of any key (`part` and `first_at` of search.rt).
use Rattle.std.specs.Prelude.{ℕ, ◌<◌, ◌≡◌, List, length, get_or}
use Rattle.lists.specs.Sort.{Sorted}

pub record Keyed (post : ℕ → ℕ → Type 0) (k : ℕ → ℕ) (s : List ℕ) : Type 0 where
  pub sorted : Sorted k s
  pub gives : (i r : ℕ) → i < length s → post i r → r ≡ k (get_or s i 0)
