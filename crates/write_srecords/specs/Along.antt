-- The lines of all sections from their joined bytes, one section's after another's, as the writer goes along them; and how long they are. That these are the lines of
-- the definition: `along_is` and `room_is` of proofs/Laws.antt.
use Rattle.std.specs.Prelude.{ℕ, ◌+◌, ◌/◌, ◌≤◌, ◌≡◌, List, [], ◌∷◌, ◌++◌, length, take, drop, false}
use Rattle.obj.specs.declared.Section.{Section}
use Rattle.lists.specs.Rows.{some}
use Rattle.join.specs.Join.{outside, differ, held_by, held}
use Rattle.stage_tables.specs.StageTables.{stage_sections}
use Rattle.piece_records.specs.Records.{parts_at, Whole}
use Rattle.srecords.specs.Lines.{S7, line_of, section_lines, Ended}
use Rattle.srecord_text.specs.Room.{lines_size}

-- "sections by number", their bytes one after another
unfoldable pub lines_along : List Section → (bytes : List ℕ) → List ℕ
lines_along [] bytes = []
lines_along (head ∷ later) bytes = section_lines head.address (take (held_by head) bytes) ++ lines_along later (drop (held_by head) bytes)

-- how many bytes their lines take, without the last line
unfoldable pub room_along : List Section → ℕ
room_along [] = 0
room_along (head ∷ later) = lines_size (held_by head) + room_along later

-- all lines: the S7 line takes 15 bytes
abbrev pub all_lines : List Section → (bytes : List ℕ) → List ℕ
all_lines heads bytes = lines_along heads bytes ++ line_of S7 0 []

-- the bytes of the sections lie from `from` on, at the end of the room for their lines or behind it
pub record Ready (sections out : List ℕ) (from : ℕ) : Type 0 where
  pub few : length sections / 15 ≤ 64
  pub ended : Ended (stage_sections sections)
  pub there : from + held (stage_sections sections) ≤ length out
  pub behind : room_along (stage_sections sections) + 15 ≤ from + held (stage_sections sections)

-- no piece is 82 or 83, and the lines fit
pub record Laying (sections b : List ℕ) (n room : ℕ) (out : List ℕ) : Type 0 where
  pub few : length sections / 15 ≤ 64
  pub whole : Whole n b 0
  pub ended : Ended (stage_sections sections)
  pub all_in : some (outside (stage_sections sections)) (parts_at n b 0) ≡ false
  pub agree : differ (parts_at n b 0) ≡ false
  pub is : room ≡ room_along (stage_sections sections) + 15
  pub fits : room ≤ length out
