-- Names: bytes that lie somewhere in lent bytes. Name k has a place and a length, so the names of a record file and those of a stage
-- table are read alike, and none is copied. Everything above speaks of the list of names that they mean, `names_of`.
-- Callers use `same_name`, `number_of` and the laws of proofs/Laws.antt.
use Rattle.std.specs.Prelude.{ℕ, ◌+◌, ◌≤◌, ◌<◌, List, [], ◌∷◌, Bool, true, false, ◌&&◌, ◌||◌, length, get_or, take, drop, eqb, ltb}
use Rattle.lists.specs.Rows.{tabulate, first_in, any_of, some}

-- name k: so many bytes from its place on
unfoldable pub name_at : (bytes places lengths : List ℕ) → ℕ → List ℕ
name_at bytes places lengths k = take (get_or lengths k 0) (drop (get_or places k 0) bytes)

-- the first n names
unfoldable pub names_of : (bytes places lengths : List ℕ) → ℕ → List (List ℕ)
names_of bytes places lengths n = tabulate (name_at bytes places lengths) 0 n

-- the first n names have places, and lie within the bytes
pub record Named (bytes places lengths : List ℕ) (n : ℕ) : Type 0 where
  pub placed : n ≤ length places
  pub measured : n ≤ length lengths
  pub inside : (k : ℕ) → k < n → get_or places k 0 + get_or lengths k 0 ≤ length bytes

-- two names are the same bytes
unfoldable pub same_name : List ℕ → List ℕ → Bool
same_name [] [] = true
same_name [] (y ∷ ys) = false
same_name (x ∷ xs) [] = false
same_name (x ∷ xs) (y ∷ ys) = eqb x y && same_name xs ys

-- the number of a name: where it first stands among the names, or their count
unfoldable pub number_of : List (List ℕ) → List ℕ → ℕ
number_of names x = first_in (same_name x) names

-- "name (bytes 0x21..0x7E)"
abbrev pub outside : ℕ → Bool
outside b = ltb b 33 || ltb 126 b

-- "3 name byte or length": "a name 1 to 128 bytes .. a symbol's also empty", so the table may hold the empty name (DECISIONS.md, 5)
unfoldable pub name_bad : List ℕ → Bool
name_bad name = any_of (ltb 128 (length name) ∷ some outside name ∷ [])
