-- The entry `write_srecords` on its lent bytes: document 02, (n). What it answers for every input, and every byte of its outputs.
use Rattle.std.specs.Prelude.{ℕ, ◌<◌, List, length, get_or}
use Rattle.lists.specs.Outcome.{Outcome, ◌>>=◌, ◌>>◌}
use Rattle.stage_tables.specs.StageTables.{stage_sections}
use Rattle.piece_records.specs.Records.{parts_of}
use Rattle.srecords.specs.Lines.{write_of}
use Rattle.head_tables.specs.HeadTables.{head_tables}
use Rattle.kept_output.specs.Kept.{Leaves}

-- `room` is the number of bytes lent for the lines
unfoldable pub write_srecords : (ends bytes sections pieces : List ℕ) → (room : ℕ) → Outcome (List ℕ)
write_srecords ends bytes sections pieces room = do
  -- names, then section heads
  head_tables ends bytes sections
  -- then the pieces, "each for 1, 2"
  parts ← parts_of pieces
  -- "87 .., right after the table checks; then 82 and 83; 80 if the lines don't fit, last"
  write_of (stage_sections sections) room parts

-- a call: the answer and every byte of the outputs are those of the outcome; and what was lent as pieces is bytes, as each slice of `u8` is
pub record Called (ends bytes sections pieces lines size : List ℕ) (answer : ℕ) (lines' size' : List ℕ) : Type 0 where
  pub leaves : Leaves (write_srecords ends bytes sections pieces (length lines)) lines size answer lines' size'
  pub small : (i : ℕ) → get_or pieces i 0 < 256
