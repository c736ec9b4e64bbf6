-- What an answer of the run keeps in each table, and the tables before they are cleared behind it.
use Rattle.std.specs.Prelude.{ℕ, ◌*◌, ◌≤◌, ◌≡◌, List, [], ◌∷◌, length}
use Rattle.obj.specs.Answers.{refusal_word}
use Rattle.names.specs.Append.{Columns as Beside}
use Rattle.splits.specs.Columns.{Columns, rows}
use Rattle.gap_splits.specs.Added.{added}
use Rattle.pieces.specs.declared.Counts.{Counts}
use Rattle.walk.specs.Giving.{output_in}
use Rattle.run.specs.Run.{Result}
use Rattle.run.specs.Answers.{units_at, Names, Units}
use Rattle.run.specs.declared.Ran.{Ran}
use Rattle.order.specs.declared.Unlinked.{Unlinked}
use Rattle.order.specs.declared.Unlinked.TheVariants.{Refused, Cycle}
use Rattle.order.specs.Columns.{refusal_of}
use Rattle.std.specs.Prelude.{Ok, Err}
use Rattle.std.specs.Prelude as std
use Rattle.obj.specs.Records.{split_width}
use Rattle.run_outputs.specs.Laid.{Sizes}
use Rattle.stage_walk.specs.Laid.{OutputFits}
use Rattle.stage_walk.specs.Lines.{none}

-- how many records an answer keeps in each table
abbrev pub kept_by : std.Result Ran Unlinked → Ran
kept_by (Ok r) = r
kept_by (Err (Cycle units)) = record { names = 0; used = 0; splits = 0; units = units; made = none }
kept_by (Err (Refused r)) = record { names = 0; used = 0; splits = 0; units = 0; made = none }

-- its word
abbrev pub word_of : std.Result Ran Unlinked → ℕ
word_of (Ok r) = 0
word_of (Err why) = refusal_word (refusal_of why).number (refusal_of why).section (refusal_of why).address

-- what the tables hold, of which so many records are kept
abbrev pub left_in : Beside → Columns → (units pieces entries offsets : List ℕ) → Ran → Result
left_in c table units pieces entries offsets k = record {
  added = added c k.names;
  splits = rows table k.splits;
  units = units_at units k.units;
  output = output_in pieces entries offsets k.made;
}

-- each number has two bytes
pub record Countable (k : Ran) : Type 0 where
  pub names : k.names ≤ 4096
  pub used : k.used ≤ 65535
  pub splits : k.splits ≤ 1024
  pub units : k.units ≤ 1024
  pub pieces : k.made.pieces ≤ 1024
  pub symbols : k.made.symbols ≤ 4096
  pub relocs : k.made.relocs ≤ 4096

abbrev pub listed : Ran → List ℕ
listed k = k.names ∷ k.used ∷ k.splits ∷ k.units ∷ k.made.pieces ∷ k.made.symbols ∷ k.made.relocs ∷ []

-- what is kept is there, and fits into the outputs
pub record Fits (c : Beside) (units : List ℕ) (sizes : Sizes) (k : Ran) : Type 0 where
  pub names : Names c k.names k.used sizes.ends sizes.bytes
  pub ends : 2 * k.names ≤ sizes.ends
  pub splits : split_width * k.splits ≤ sizes.splits
  pub few_splits : k.splits ≤ 1024
  pub units_there : Units units k.units
  pub output : OutputFits k.made sizes.pieces sizes.symbols sizes.relocs

abbrev pub sizes_of : (ends bytes splits units pieces entries offsets counts : List ℕ) → Sizes
sizes_of ends bytes splits units pieces entries offsets counts = record {
  ends = length ends;
  bytes = length bytes;
  splits = length splits;
  units = length units;
  pieces = length pieces;
  symbols = length entries;
  relocs = length offsets;
  counts = length counts;
}
