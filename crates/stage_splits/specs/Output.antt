-- What a stage leaves in the lent outputs: the definitions of `StageSplits` over the struct.
use Rattle.std.specs.Prelude.{ℕ, ◌≡◌, List, length}
use Rattle.lists.specs.Outcome.{Outcome}
use Rattle.obj.specs.Answers.{Answer}
use Rattle.obj.specs.declared.Split.{Split}
use Rattle.stage_splits.specs.declared.output.SplitOutput.{SplitOutput}
use Rattle.stage_splits.specs.StageSplits.{Laid, Gives, Leaves}

-- these rows were laid
abbrev pub LaidIn : List Split → (before after : SplitOutput) → Type 0
LaidIn l before after = Laid l (length before.splits.now) (length before.counts.now) after.splits.now after.counts.now

-- what was answered, and the rows that were laid if it was accepted
abbrev pub GivesIn : Outcome (List Split) → Answer → (before after : SplitOutput) → Type 0
GivesIn o a before after = Gives o a (length before.splits.now) (length before.counts.now) after.splits.now after.counts.now

-- the word, and every byte
abbrev pub LeavesIn : Outcome (List Split) → (answer : ℕ) → (before after : SplitOutput) → Type 0
LeavesIn o answer before after = Leaves o (length before.splits.now) (length before.counts.now) answer after.splits.now after.counts.now

-- the same outputs are lent, of the same lengths
pub record SameLent (before after : SplitOutput) : Type 0 where
  pub splits : after.splits.ghost_name ≡ before.splits.ghost_name
  pub counts : after.counts.ghost_name ≡ before.counts.ghost_name
  pub size : length after.splits.now ≡ length before.splits.now
  pub counts_size : length after.counts.now ≡ length before.counts.now
