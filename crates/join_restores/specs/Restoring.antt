-- Joining the walk's pieces: document 02, (e), "On the walk's pieces of such sections, under the premises of the restoring rule, the joined bytes equal the image
-- below the splitting end." The theorem J1 is `joins_back` of proofs/Theorem.antt.
use Rattle.std.specs.Prelude.{ℕ, ◌+◌, ◌-◌, ◌≤◌, ◌<◌, ◌≡◌, List, map, Bool, not, eqb, get_or, take}
use Rattle.lists.specs.Outcome.{accepted}
use Rattle.lists.specs.Rows.{tabulate, keep_if}
use Rattle.obj.specs.declared.Section.{Section}
use Rattle.obj.specs.Parts.{Part}
use Rattle.sections.specs.Sections.{Sections}
use Rattle.pieces.specs.declared.Piece.{Piece}
use Rattle.walk.specs.Walk.{Input, start_in, splitting_end_in}
use Rattle.restore.specs.Restoring.{byte_at, Plain, part_of}
use Rattle.join.specs.Join.{joined, held, join_of}

-- the heads of the sections that were walked, by number
abbrev pub heads_of : Sections → List Section
heads_of sections = tabulate sections.head 0 sections.count

-- a piece of a section that holds bytes
abbrev pub of_bytes : Sections → Piece → Bool
of_bytes sections p = not (eqb (sections.head p.section).kind 3)

-- "the walk's pieces of such sections"
abbrev pub parts_of_walk : Sections → List Piece → List Part
parts_of_walk sections pieces = map (part_of sections) (keep_if (of_bytes sections) pieces)

-- what joining these parts gives
pub record JoinsBack (t : Input) (room : ℕ) (parts : List Part) : Type 0 where
  -- they are accepted wherever the output is long enough
  pub accepts : held (heads_of t.sections) ≤ room → join_of (heads_of t.sections) room parts ≡ accepted (joined (heads_of t.sections) parts)
  -- the place of such an address is one of the joined bytes
  pub within : (n : ℕ) → Plain t n → (end : ℕ) → splitting_end_in t.image t.sections n ≡ accepted end → (x : ℕ) → start_in t.sections n ≤ x → x < end
      → held (take n (heads_of t.sections)) + (x - start_in t.sections n) < held (heads_of t.sections)
  -- "the joined bytes equal the image below the splitting end": past the bytes of the sections before it, a section of the restoring rule has its own byte at
  -- every address from its start on and below its splitting end
  pub own : (n : ℕ) → Plain t n → (end : ℕ) → splitting_end_in t.image t.sections n ≡ accepted end → (x : ℕ) → start_in t.sections n ≤ x → x < end
      → get_or (joined (heads_of t.sections) parts) (held (take n (heads_of t.sections)) + (x - start_in t.sections n)) 0 ≡ byte_at t.sections n x
