-- What `mend_splits` leaves in its lent outputs: the definitions of `Outputs` over the struct that they are lent as.
use Rattle.std.specs.Prelude.{Result, ℕ, ◌≡◌, length}
use Rattle.lists.specs.Outcome.{Outcome}
use Rattle.obj.specs.Answers.{Answer}
use Rattle.obj.specs.declared.Refusal.{Refusal}
use Rattle.splits.specs.Table.{rows_of}
use Rattle.splits.specs.declared.split_table.SplitColumns.{SplitColumns}
use Rattle.mend.specs.Mend.{Mended}
use Rattle.mend_outputs.specs.declared.MendOutputs.{MendOutputs}
use Rattle.mend_outputs.specs.Outputs.{Laid, Gives, Stores, Finishes}

-- what was answered; the rows, their number and that of the bytes of lines are stored if the mending was accepted
abbrev pub StoresIn : Result ℕ Refusal → SplitColumns → Answer → (before after : MendOutputs) → Type 0
StoresIn r splits a before after = Stores r (rows_of splits) splits.count a before.splits.now before.counts.now after.splits.now after.counts.now

-- what was answered, and what stands in the outputs if it was accepted
abbrev pub GivesIn : Outcome Mended → Answer → (before after : MendOutputs) → Type 0
GivesIn o a before after = Gives o a (Laid before.splits.now before.lines.now before.counts.now after.splits.now after.lines.now after.counts.now)

-- the answer's word, and the outputs zeros if it is a refusal
abbrev pub FinishesIn : Answer → (answer : ℕ) → (before after : MendOutputs) → Type 0
FinishesIn a answer before after =
    Finishes a before.splits.now before.lines.now before.counts.now answer after.splits.now after.lines.now after.counts.now

-- the same outputs are lent, of the same lengths
pub record SameLent (before after : MendOutputs) : Type 0 where
  pub splits : after.splits.ghost_name ≡ before.splits.ghost_name
  pub lines : after.lines.ghost_name ≡ before.lines.ghost_name
  pub counts : after.counts.ghost_name ≡ before.counts.ghost_name
  pub size : length after.splits.now ≡ length before.splits.now
  pub lines_size : length after.lines.now ≡ length before.lines.now
  pub counts_size : length after.counts.now ≡ length before.counts.now
