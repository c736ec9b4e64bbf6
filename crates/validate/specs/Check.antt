-- The check of a split table (`validate_splits`): document 01, "**Check.** Only the last sized unstripped symbol below a split's start, and below
-- its end, is looked at.", and the place "Check (section, start)": 50 to 53, each split's before the next split's.
-- What a table that passed is: the laws of proofs/Laws.antt, no two splits of a section overlap and none is open.
use Rattle.std.specs.Prelude.{ℕ, ◌+◌, List, [], ◌∷◌, false, ◌&&◌, ◌||◌, eqb, ltb}
use Rattle.lists.specs.Outcome.{Outcome, accepted, refuse, ◌>>◌}
use Rattle.obj.specs.declared.Symbol.{Symbol}
use Rattle.obj.specs.declared.Split.{Split}
use Rattle.symbols.specs.Ranges.{last_below}
use Rattle.std.specs.Prelude.{Option}
use Rattle.std.specs.Prelude.{Some, None}

module _ (symbol : ℕ → Symbol) (count : ℕ) where
  -- where the found symbol ends; 0 where there is none, which nothing lies below
  unfoldable pub end_of : Option ℕ → ℕ
  end_of (Some i) = (symbol i).address + (symbol i).size
  end_of None = 0

  -- where "the last sized unstripped symbol below" an address of section n ends
  abbrev pub end_below : (n address : ℕ) → ℕ
  end_below n address = end_of (last_below symbol count n false address)

  -- one split, after a split of section `before` that ends at `last`
  unfoldable pub validate_one : (before last : ℕ) → Split → Outcome (Unit {0})
  validate_one before last s = do
    -- "50 overlap": it starts below the end of the split before it in its section
    refuse 50 s.section s.start (eqb s.section before && ltb s.start last)
    -- "51 end 0 or below start"
    refuse 51 s.section s.start (eqb s.end 0 || ltb s.end s.start)
    -- "52 start inside symbol"
    refuse 52 s.section s.start (ltb s.start (end_below s.section s.start))
    -- "53 end inside symbol"
    refuse 53 s.section s.start (ltb s.end (end_below s.section s.end))
    accepted tt

  -- the splits in the table's order
  unfoldable pub validate_from : (before last : ℕ) → List Split → Outcome (Unit {0})
  validate_from before last [] = accepted tt
  validate_from before last (s ∷ l) = do
    validate_one before last s
    validate_from s.section s.end l

  -- before the first split nothing ends
  unfoldable pub validate : List Split → Outcome (Unit {0})
  validate rows = validate_from 0 0 rows
