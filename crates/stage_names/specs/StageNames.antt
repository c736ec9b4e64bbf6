-- The name table of a stage that gives one back: whether the names that it is given fit, and the names laid into the lent outputs, their ends and their bytes.
-- "A shorter lent output table has its own length as ceiling; more input splits or names: 2" (DECISIONS.md, 39): 2 at the first name that does not fit, by count or by
-- bytes, before anything else of the table but 1 of its length.
use Rattle.std.specs.Prelude.{ℕ, ◌+◌, ◌*◌, ◌/◌, ◌%◌, ◌≤◌, ◌<◌, ◌≡◌, List, [], ◌∷◌, ◌++◌, Bool, cond, not, ◌||◌, length, eqb, leb, ltb}
use Rattle.std.proofs.lemmas.List.Edits.{sets}
use Rattle.lists.specs.Rows.{first_from}
use Rattle.lists.specs.Outcome.{Outcome, accepted, refuse, ◌>>◌}
use Rattle.lists.specs.Tables.{laid}
use Rattle.obj.specs.Answers.{place}
use Rattle.outputs.specs.Outputs.{halves}
use Rattle.name_table.specs.NameTable.{end_of}

-- ---- the ceilings

-- "4,096 names", or the whole ends of a shorter output of `size` bytes
unfoldable pub names_room : (size : ℕ) → ℕ
names_room size = cond (ltb (size / 2) 4096) (size / 2) 4096

-- "of 65,535 bytes in all", or a shorter output's bytes
unfoldable pub bytes_room : (size : ℕ) → ℕ
bytes_room size = cond (ltb size 65535) size 65535

-- ---- the names that are given

-- name k does not fit
abbrev pub beyond : (most most_bytes : ℕ) → (ends : List ℕ) → ℕ → Bool
beyond most most_bytes ends k = leb most k || ltb most_bytes (end_of ends k)

-- the first of them, or their number
unfoldable pub first_beyond : (most most_bytes : ℕ) → (ends : List ℕ) → ℕ
first_beyond most most_bytes ends = first_from (beyond most most_bytes ends) 0 (length ends / 2)

unfoldable pub fit_check : (most most_bytes : ℕ) → (ends : List ℕ) → Outcome (Unit {0})
fit_check most most_bytes ends = do
  -- "1 .. cut"
  refuse 1 0 (place (length ends / 2)) (not (eqb (length ends % 2) 0))
  -- "more input splits or names: 2", at the first that does not fit
  refuse 2 0 (first_beyond most most_bytes ends) (ltb (first_beyond most most_bytes ends) (length ends / 2))
  accepted tt

-- ---- the names that are given back

-- where names end that lie one after another from `at` on
unfoldable pub ends_from : (at : ℕ) → List (List ℕ) → List ℕ
ends_from at [] = []
ends_from at (x ∷ names) = (at + length x) ∷ ends_from (at + length x) names

-- their bytes
unfoldable pub flat : List (List ℕ) → List ℕ
flat [] = []
flat (x ∷ names) = x ++ flat names

-- .. and these two are a stage's name table: the ends, two bytes each, and `flat`
abbrev pub name_ends : List (List ℕ) → List ℕ
name_ends names = halves (ends_from 0 names)

-- the names were put behind those that are there: `first` of them, which end at `at`; r is where the last ends
pub record Put (names : List (List ℕ)) (first at : ℕ) (ends bytes ends' bytes' : List ℕ) (r : ℕ) : Type 0 where
  pub ended : ends' ≡ sets ends (2 * first) (halves (ends_from at names))
  pub filled : bytes' ≡ sets bytes at (flat names)
  pub last : r ≡ at + length (flat names)

-- two lists of names fit into outputs of so many bytes, and their bytes into a count
pub record Fits (base more : List (List ℕ)) (ends_size bytes_size : ℕ) : Type 0 where
  pub long_ends : 2 * (length base + length more) ≤ ends_size
  pub long_bytes : length (flat base) + length (flat more) ≤ bytes_size
  pub short : length (flat base) + length (flat more) < 65536

-- these names are in the outputs, and zeros after them; r is how many bytes they have
pub record Given (names : List (List ℕ)) (ends_size bytes_size : ℕ) (ends bytes : List ℕ) (r : ℕ) : Type 0 where
  pub ends_laid : ends ≡ laid ends_size (halves (ends_from 0 names))
  pub bytes_laid : bytes ≡ laid bytes_size (flat names)
  pub count : r ≡ length (flat names)
