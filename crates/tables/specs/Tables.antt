-- The checks that every stage table has: document 01, "stage tables by kind (record: its number there; for 2 the first too many), each for
-- 1, 2, then its kind's number". First the table's length (1) and its count (2), then its records in order (DECISIONS.md, 9).
-- What a table that passed is: the laws of proofs/Laws.antt.
use Rattle.std.specs.Prelude.{ℕ, ◌+◌, ◌/◌, ◌%◌, ◌<◌, ◌≤◌, List, not, length, get_or, eqb, ltb}
use Rattle.lists.specs.Rows.{first_from}
use Rattle.lists.specs.Outcome.{Outcome, accepted, refuse, ◌>>◌}
use Rattle.obj.specs.Answers.{place}
use Rattle.tables.specs.declared.Counts.{Counts as Ceilings}

-- "4,096 names", "64 sections, 4,096 symbols, 4,096 relocations, 1,024 splits, 1,024 units"
abbrev pub main_ceilings : Ceilings
main_ceilings = record { names = 4096; sections = 64; symbols = 4096; relocations = 4096; splits = 1024; units = 1024 }

-- a table of records of `width` bytes, of which at most `ceiling` are allowed
unfoldable pub size_check : (width ceiling : ℕ) → (size : ℕ) → Outcome (Unit {0})
size_check width ceiling size = do
  -- "1 .. cut": not whole records; at the number of the whole ones
  refuse 1 0 (place (size / width)) (not (eqb (size % width) 0))
  -- "2 count above its ceiling": "for 2 the first too many"
  refuse 2 0 ceiling (ltb ceiling (size / width))
  accepted tt

-- the first of n records that has a fault; `fault` gives the number of a record's fault, 0 if it has none
unfoldable pub first_fault : (fault : ℕ → ℕ) → (n : ℕ) → ℕ
first_fault fault n = first_from (λ k. ltb 0 (fault k)) 0 n

-- record k has this fault, 0 if it has none: it is refused at its number in the table
abbrev pub record_check : (fault k : ℕ) → Outcome (Unit {0})
record_check fault k = refuse fault 0 k (ltb 0 fault)

-- the first record that has a fault is refused
unfoldable pub records_check : (fault : ℕ → ℕ) → (n : ℕ) → Outcome (Unit {0})
records_check fault n = refuse (fault (first_fault fault n)) 0 (first_fault fault n) (ltb (first_fault fault n) n)

-- all records of a table have their bytes within the lent ones, and a record's number fits an address
pub record AllHeld (width : ℕ) (b places : List ℕ) : Type 0 where
  pub few : length places ≤ 4294967295
  pub each : (k : ℕ) → k < length places → get_or places k 0 + width ≤ length b
