-- The split table of a stage that gives one back: taken into columns with all its checks, and laid into the lent output with its count.
-- "A shorter lent output table has its own length as ceiling; more input splits or names: 2" (DECISIONS.md, 39), and all outputs are zero after a refusal
-- (DECISIONS.md, 75). An entry's contract is `Leaves` of its outcome; the functions inside an entry ensure `Gives`, and the laws of proofs/Laws.antt lead from
-- a line of the entry's definition to the next: `gives_stops`, `Gives-goes`, `Gives-as`.
use Rattle.std.specs.Prelude.{ℕ, ◌/◌, ◌≡◌, List, [], ◌∷◌, cond, length, ltb}
use Rattle.lists.specs.Outcome.{Outcome, accepted, refused}
use Rattle.lists.specs.Tables.{laid}
use Rattle.obj.specs.Answers.{meaning, outcome_word}
use Rattle.obj.specs.Answers.{Answer}
use Rattle.obj.specs.declared.Split.{Split}
use Rattle.outputs.specs.Outputs.{counts_of}
use Rattle.splits.specs.Bytes.{table_bytes}
use Rattle.stage_tables.specs.StageTables.{stage_splits}
use Rattle.obj.specs.Records.{split_width}

-- how many splits a stage may hold and give back: "1,024 splits", or the whole records of a shorter output of `size` bytes
unfoldable pub room_of : (size : ℕ) → ℕ
room_of size = cond (ltb (size / split_width) 1024) (size / split_width) 1024

-- the rows that an outcome leaves: none after a refusal
abbrev pub rows_of : Outcome (List Split) → List Split
rows_of (accepted l) = l
rows_of (refused number section address) = []

-- the answer of an entry, and every byte of its output and of the counts
pub record Leaves (o : Outcome (List Split)) (size counts_size answer : ℕ) (out counts : List ℕ) : Type 0 where
  pub said : answer ≡ outcome_word o
  pub splits : out ≡ laid size (table_bytes (rows_of o))
  pub counted : counts ≡ counts_of counts_size (length (rows_of o) ∷ [])

-- ---- inside an entry

-- what was answered of the table b, and the rows that the columns hold if it was accepted
pub record Taken (answer want : Outcome (Unit {0})) (b : List ℕ) (rows : List Split) : Type 0 where
  pub said : answer ≡ want
  pub taken : want ≡ accepted tt → rows ≡ stage_splits b

-- these rows are in the output, and their number is in the counts
pub record Laid (l : List Split) (size counts_size : ℕ) (out counts : List ℕ) : Type 0 where
  pub splits : out ≡ laid size (table_bytes l)
  pub counted : counts ≡ counts_of counts_size (length l ∷ [])

-- an outcome, whatever it carries
abbrev pub said : {A : Type 0} → Outcome A → Outcome (Unit {0})
said (accepted a) = accepted tt
said (refused number section address) = refused number section address

-- what was answered, and the outputs if it was accepted; after a refusal they are still to be cleared
pub record Gives (o : Outcome (List Split)) (a : Answer) (size counts_size : ℕ) (out counts : List ℕ) : Type 0 where
  pub answered : meaning a ≡ said o
  pub given : (l : List Split) → o ≡ accepted l → Laid l size counts_size out counts
