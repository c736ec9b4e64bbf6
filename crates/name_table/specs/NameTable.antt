-- The name table of a stage: `name_ends` has an end of two bytes for each name, which starts where the one before ends; bytes past the last
-- end are no fault. 1 where an end falls or passes the bytes, 3 for a bad byte or length, and "Two equal names in stage tables: 3", at the
-- later one (DECISIONS.md, 12 and 13).
use Rattle.std.specs.Prelude.{ℕ, ◌*◌, ◌-◌, ◌/◌, List, [], ◌∷◌, Bool, cond, length, take, drop, eqb, ltb}
use Rattle.lists.specs.Rows.{tabulate, any_of}
use Rattle.lists.specs.Outcome.{Outcome, ◌>>◌}
use Rattle.fields.specs.Fields.{le16}
use Rattle.names.specs.Names.{name_bad, number_of}
use Rattle.tables.specs.Tables.{size_check, records_check}

-- where name k starts and ends
unfoldable pub start_of : List ℕ → ℕ → ℕ
start_of ends k = cond (eqb k 0) 0 (le16 ends (2 * k - 2))

abbrev pub end_of : List ℕ → ℕ → ℕ
end_of ends k = le16 ends (2 * k)

unfoldable pub name_in : (ends bytes : List ℕ) → ℕ → List ℕ
name_in ends bytes k = take (end_of ends k - start_of ends k) (drop (start_of ends k) bytes)

-- the first n names of a stage's tables
unfoldable pub stage_names : (ends bytes : List ℕ) → ℕ → List (List ℕ)
stage_names ends bytes n = tabulate (name_in ends bytes) 0 n

-- its end falls below its start, or passes the bytes
unfoldable pub name_cut : (ends bytes : List ℕ) → ℕ → Bool
name_cut ends bytes k = any_of (ltb (end_of ends k) (start_of ends k) ∷ ltb (length bytes) (end_of ends k) ∷ [])

-- "3 name byte or length"; equal to an earlier name
unfoldable pub name_wrong : (ends bytes : List ℕ) → ℕ → Bool
name_wrong ends bytes k = any_of (name_bad (name_in ends bytes k) ∷ ltb (number_of (stage_names ends bytes k) (name_in ends bytes k)) k ∷ [])

unfoldable pub name_fault : (ends bytes : List ℕ) → ℕ → ℕ
name_fault ends bytes k = cond (name_cut ends bytes k) 1 (cond (name_wrong ends bytes k) 3 0)

-- the table: 1, 2, then its names in order
unfoldable pub names_check : (ceiling : ℕ) → (ends bytes : List ℕ) → Outcome (Unit {0})
names_check ceiling ends bytes = size_check 2 ceiling (length ends) >> records_check (name_fault ends bytes) (length ends / 2)
