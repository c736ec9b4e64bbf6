-- The round trip over the bytes of a call of `write_srecords`: document 02, (n), "A reader by the public definition gives back each section's joined bytes at its
-- addresses". The reader is that of srecords/specs/Reader.antt. The theorem: `gives_back` of proofs/Theorems.antt.
use Rattle.std.specs.Prelude.{ℕ, ◌+◌, ◌-◌, ◌≤◌, ◌≡◌, List, [], ◌∷◌, length, get_or, take}
use Rattle.lists.specs.Outcome.{accepted}
use Rattle.fields.specs.Fields.{le64}
use Rattle.stage_tables.specs.StageTables.{stage_sections}
use Rattle.obj.specs.Parts.{Part}
use Rattle.join.specs.Join.{nowhere, joined, held}
use Rattle.piece_records.specs.Records.{parts_of}
use Rattle.srecords.specs.Reader.{bytes_put, Has, ReadsBack}
use Rattle.entry_join_pieces.specs.Entry.{join_pieces}
use Rattle.entry_write_srecords.specs.Entry.{write_srecords, Called}

-- an accepted call: what was lent and is left, as the entry's contract says it
pub record Call : Type 0 where
  pub ends : List ℕ
  pub bytes : List ℕ
  pub sections : List ℕ
  pub pieces : List ℕ
  pub lines : List ℕ
  pub size : List ℕ
  pub answer : ℕ
  pub lines' : List ℕ
  pub size' : List ℕ
  pub called : Called ends bytes sections pieces lines size answer lines' size'
  pub text : List ℕ
  pub accepts : write_srecords ends bytes sections pieces (length lines) ≡ accepted text

-- the bytes of lines in the output
abbrev pub written : Call → List ℕ
written c = take (length c.text) c.lines'

-- what it gives back
pub record GivenBack (c : Call) : Type 0 where
  pub said : c.answer ≡ 0
  -- `size` says how many bytes of lines there are, where eight bytes are lent for it
  pub sized : 8 ≤ length c.size → le64 c.size' 0 ≡ length c.text
  pub parts : List Part
  pub given : parts_of c.pieces ≡ accepted parts
  -- the reader takes every line; each section's joined bytes are at its addresses, each once, and nothing else is anywhere
  pub back : ReadsBack (written c) (stage_sections c.sections) parts
  -- the joined bytes are those that `join_pieces` gives, lent the same tables and room for them
  pub joins : (room : ℕ) → held (stage_sections c.sections) ≤ room
      → join_pieces c.ends c.bytes c.sections c.pieces room ≡ accepted (joined (stage_sections c.sections) parts)
  pub same : (n x : ℕ) → Has x (get_or (stage_sections c.sections) n nowhere)
      → bytes_put back.lines x
      ≡ get_or (joined (stage_sections c.sections) parts) (held (take n (stage_sections c.sections)) + (x - (get_or (stage_sections c.sections) n nowhere).address)) 0 ∷ []
