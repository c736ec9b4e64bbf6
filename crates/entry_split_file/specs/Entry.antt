-- The entry `split_file` on its lent bytes: what it answers for every file, and every byte of its outputs. It is the run (run/specs/Run.antt): load, then the stages one after
-- another, each as its own entry would give it on the tables before it. "A shorter lent output table has its own length as ceiling". The names that are given are those
-- that were added to the file's, numbered on from them. All outputs are zeros after a refusal, but for "61 cycle, left in the unit table, zeros after".
use Rattle.std.specs.Prelude.{ℕ, ◌/◌, ◌≡◌, List, []}
use Rattle.lists.specs.Outcome.{Outcome, accepted, refused}
use Rattle.obj.specs.Answers.{refusal_word}
use Rattle.stage_splits.specs.StageSplits.{room_of}
use Rattle.walk.specs.Walk.{nothing}
use Rattle.stage_walk.specs.Room.{room_in}
use Rattle.run.specs.Run.{Result, Ended, done, cycle, run_of}
use Rattle.run_outputs.specs.Laid.{Sizes, Laid}
use Rattle.run_outputs.specs.Outputs.{sizes_in}
use Rattle.run_outputs.specs.declared.RunOutputs.{RunOutputs}
use Rattle.run_file.specs.RunFile.{rooms_in}

-- the run of the file, with the room that these outputs give
abbrev pub split_file_of : (file : List ℕ) → Sizes → Outcome Ended
split_file_of file sizes =
    run_of file (rooms_in file (sizes.ends / 2) sizes.bytes (room_of sizes.splits) (sizes.units / 8) (room_in sizes.pieces sizes.symbols sizes.relocs))

-- what an outcome leaves: nothing after a refusal, but "61 cycle, left in the unit table"
abbrev pub left_by : Outcome Ended → Result
left_by (accepted (done r)) = r
left_by (accepted (cycle us)) = record { added = []; splits = []; units = us; output = nothing }
left_by (refused number section address) = record { added = []; splits = []; units = []; output = nothing }

-- its word
abbrev pub word_by : Outcome Ended → ℕ
word_by (accepted (done r)) = 0
word_by (accepted (cycle us)) = refusal_word 61 0 0
word_by (refused number section address) = refusal_word number section address

-- the answer of the entry, and every byte of its outputs
pub record Leaves (o : Outcome Ended) (sizes : Sizes) (answer : ℕ) (ends bytes splits units pieces symbols relocs counts : List ℕ) : Type 0 where
  pub said : answer ≡ word_by o
  pub left : Laid (left_by o) sizes ends bytes splits units pieces symbols relocs counts

-- .. in outputs that were `before` and are `after`
abbrev pub LeavesIn : Outcome Ended → (answer : ℕ) → (before after : RunOutputs) → Type 0
LeavesIn o answer before after =
    Leaves o (sizes_in before) answer after.ends.now after.bytes.now after.splits.now after.units.now after.pieces.now after.entries.now
    after.offsets.now after.counts.now
