-- J1 and J2 over the entries. J1: the pieces of an accepted call of `split_obj`, as records of kind 7 in any order, are joined by `join_pieces`. J2: only which
-- pieces are handed in counts. The theorems: proofs/Theorems.antt. What the entry leaves for an outcome: `Leaves` of crate kept_output.
use Rattle.std.specs.Prelude.{ℕ, ◌+◌, ◌-◌, ◌≤◌, ◌<◌, ◌≡◌, List, get_or, take}
use Rattle.lists.specs.Outcome.{accepted}
use Rattle.stage_tables.specs.StageTables.{stage_sections}
use Rattle.walk.specs.Walk.{start_in, splitting_end_in}
use Rattle.restore.specs.Restoring.{byte_at, Plain}
use Rattle.restore_entry.specs.Entry.{Run, input}
use Rattle.obj.specs.Parts.{Part}
use Rattle.join.specs.Join.{joined, held}
use Rattle.piece_records.specs.Records.{records_of}
use Rattle.entry_join_pieces.specs.Entry.{join_pieces}

-- what `join_pieces` gives for these parts as records, with the names and section heads of the call
pub record JoinsRun (r : Run) (room : ℕ) (parts : List Part) : Type 0 where
  -- they "are accepted wherever `joined` is long enough"
  pub accepts : held (stage_sections r.call.sections) ≤ room
      → join_pieces r.call.ends r.call.bytes r.call.sections (records_of parts) room ≡ accepted (joined (stage_sections r.call.sections) parts)
  -- the place of an address of a section of the restoring rule, below the splitting end, is one of the joined bytes
  pub within : (n : ℕ) → Plain (input r) n → (end : ℕ) → splitting_end_in (input r).image (input r).sections n ≡ accepted end
      → (x : ℕ) → start_in (input r).sections n ≤ x → x < end
      → held (take n (stage_sections r.call.sections)) + (x - start_in (input r).sections n) < held (stage_sections r.call.sections)
  -- "the joined bytes equal the image below the splitting end"
  pub own : (n : ℕ) → Plain (input r) n → (end : ℕ) → splitting_end_in (input r).image (input r).sections n ≡ accepted end
      → (x : ℕ) → start_in (input r).sections n ≤ x → x < end
      → get_or (joined (stage_sections r.call.sections) parts) (held (take n (stage_sections r.call.sections)) + (x - start_in (input r).sections n)) 0
      ≡ byte_at (input r).sections n x

-- the same of the bytes that a call of `join_pieces` leaves: it answers 0, and `out` has the sections' own bytes
pub record PutBack (r : Run) (answer : ℕ) (out : List ℕ) : Type 0 where
  pub said : answer ≡ 0
  pub own : (n : ℕ) → Plain (input r) n → (end : ℕ) → splitting_end_in (input r).image (input r).sections n ≡ accepted end
      → (x : ℕ) → start_in (input r).sections n ≤ x → x < end
      → get_or out (held (take n (stage_sections r.call.sections)) + (x - start_in (input r).sections n)) 0 ≡ byte_at (input r).sections n x
