-- The entry `check_file` on its lent bytes: the loader's answer for a record file under document 01's ceilings, `load_of main_ceilings file`,
-- and the counts of what it loaded, for every input.
-- What an accepted file is: `loaded_good` of load's laws.
use Rattle.std.specs.Prelude.{ℕ, ◌≡◌, List, [], ◌∷◌, Result, Ok, Err}
use Rattle.lists.specs.Outcome.{Outcome, accepted, refused}
use Rattle.obj.specs.declared.Refusal.{Refusal}
use Rattle.obj.specs.Answers.{Answer, outcome_word}
use Rattle.outputs.specs.Outputs.{counts_of, store_counts}
use Rattle.load.specs.Load.{Loaded}
use Rattle.load.specs.Columns.{Counted, counts_in}
use Rattle.tables.specs.declared.Counts.{Counts}

-- names, sections, symbols, relocations, splits, units
abbrev pub listed : Counts → List ℕ
listed n = n.names ∷ n.sections ∷ n.symbols ∷ n.relocations ∷ n.splits ∷ n.units ∷ []

-- the answer, and every byte of the counts: zeros after a refusal
pub record Leaves (o : Outcome Loaded) (size answer : ℕ) (counts : List ℕ) : Type 0 where
  pub said : answer ≡ outcome_word o
  pub counted : counts ≡ counts_of size (listed (counts_in o))

-- ---- inside the entry

-- so many records were loaded
pub record Accepted (o : Outcome Loaded) (n : Counts) : Type 0 where
  pub tables : Loaded
  pub said : o ≡ accepted tables
  pub counted : n ≡ counts_in o
  pub small : Counted n

-- the loader's answer, before it is written
abbrev pub Answers : Outcome Loaded → Result Counts Refusal → Type 0
Answers o (Ok n) = Accepted o n
Answers o (Err r) = o ≡ refused r.number r.section r.address

-- .. and after it: the counts of what was loaded are stored, and a refusal leaves the bytes as they were
abbrev pub CountedIn : Outcome Loaded → (before after : List ℕ) → Answer → Type 0
CountedIn o before after (Ok u) = (outcome_word o ≡ 0) × (after ≡ store_counts 0 (listed (counts_in o)) before)
CountedIn o before after (Err r) = (o ≡ refused r.number r.section r.address) × (after ≡ before)
