-- What the joiner's functions ask of the lent bytes, and what they leave. The definition is that of crate join, over the pieces of crate piece_records.
use Rattle.std.specs.Prelude.{ℕ, ◌*◌, ◌≤◌, ◌≡◌, List, ◌++◌, Bool, false, length, take, drop, replicate}
use Rattle.lists.specs.Outcome.{Outcome, accepted, ◌>>=◌}
use Rattle.obj.specs.Answers.{meaning}
use Rattle.obj.specs.Answers.{Answer}
use Rattle.obj.specs.Parts.{Part}
use Rattle.lists.specs.Rows.{some}
use Rattle.join.specs.Join.{held}
use Rattle.stage_tables.specs.StageTables.{stage_sections}
use Rattle.piece_records.specs.Records.{part_at, parts_at, Lying}

-- r is how many bytes the sections before section k hold: each fewer than 2 ^ 32
pub record Base (sections : List ℕ) (k r : ℕ) : Type 0 where
  pub is : r ≡ held (take k (stage_sections sections))
  pub small : r ≤ 4294967295 * k

-- the record at `at` is whole, and its piece is one of the first n: what none of them passes, it doesn't pass
pub record Among (n : ℕ) (b : List ℕ) (at : ℕ) : Type 0 where
  pub lying : Lying b at
  pub one : (p : Part → Bool) → some p (parts_at n b 0) ≡ false → p (part_at b at) ≡ false

-- the first bytes of the output made zeros
abbrev pub zeroed : (total : ℕ) → List ℕ → List ℕ
zeroed total out = replicate total 0 ++ drop total out

-- what was answered, and the joined bytes in front of those that stay, if it was accepted
pub record Joins (o : Outcome (List ℕ)) (before : List ℕ) (answer : Answer) (after : List ℕ) : Type 0 where
  pub said : meaning answer ≡ (o >>= λ bytes. accepted tt)
  pub long : length after ≡ length before
  pub laid : (bytes : List ℕ) → o ≡ accepted bytes → after ≡ bytes ++ drop (length bytes) before
