-- What a character of a case does to what was read, and what it is to the program.
use Rattle.std.specs.Prelude.{ℕ, zero, suc, ◌≡◌, ◌<◌, ◌+◌, ◌-◌, ◌*◌, ◌%◌, List, [], ◌∷◌, ◌++◌, ◌||◌, cond, eqb, ltb, length, take, get_or, Some, None}
use Rattle.std.proofs.Common.{set}
use Rattle.names.specs.GapName.{digit}
use Rattle.program_input.specs.declared.case_reader.Mode.{Mode}
use Rattle.program_input.specs.declared.case_reader.Mode.TheVariants as modes
use Rattle.program_input.specs.declared.case_reader.Turn.{Turn}
use Rattle.program_input.specs.declared.case_reader.Turn.TheVariants.{Taken, Sign}
use Rattle.program_input.specs.declared.case_reader.CaseReader.{CaseReader}
use Rattle.program_input.specs.declared.gathered.Gathered.{Gathered}

-- the bytes, and the digit of one, are as they were
pub record SameBytes (old new : CaseReader) : Type 0 where
  pub buffer : new.bytes.buffer.now ≡ old.bytes.buffer.now
  pub used : new.bytes.used ≡ old.bytes.used
  pub high : new.high ≡ old.high

-- a byte more, where there is room, and no digit of the next
pub record Added (old new : CaseReader) (v : ℕ) : Type 0 where
  pub byte : old.bytes.used < length old.bytes.buffer.now → new.bytes.buffer.now ≡ set old.bytes.buffer.now old.bytes.used v
  pub used : old.bytes.used < length old.bytes.buffer.now → new.bytes.used ≡ old.bytes.used + 1
  pub high : new.high ≡ None
  pub mode : new.mode ≡ old.mode

-- a first digit waits for the second
pub record Halved (old new : CaseReader) (k : ℕ) : Type 0 where
  pub buffer : new.bytes.buffer.now ≡ old.bytes.buffer.now
  pub used : new.bytes.used ≡ old.bytes.used
  pub high : new.high ≡ Some k
  pub mode : new.mode ≡ old.mode

-- no digit
abbrev pub NoDigit : ℕ → Type 0
NoDigit c = (k : ℕ) → k < 16 → digit k ≡ c → ⊥

-- where bytes are read
pub record ReadByte (old new : CaseReader) (c : ℕ) (turn : Turn) : Type 0 where
  pub first : (k : ℕ) → k < 16 → digit k ≡ c → old.high ≡ None → (turn ≡ Taken) × Halved old new k
  pub second : (h k : ℕ) → k < 16 → digit k ≡ c → old.high ≡ Some h → (turn ≡ Taken) × Added old new (h % 16 * 16 + k)
  pub other : NoDigit c → (turn ≡ Sign c) × (new.mode ≡ old.mode) × SameBytes old new

-- a title or a comment, up to the line's end
pub record LineOf (old new : CaseReader) (c : ℕ) : Type 0 where
  pub ends : c ≡ 10 → new.mode ≡ modes.Bytes
  pub goes_on : (c ≡ 10 → ⊥) → new.mode ≡ old.mode
  pub same : SameBytes old new

-- something else than bytes begins
pub record Starts (old new : CaseReader) (begun : Mode) : Type 0 where
  pub mode : new.mode ≡ begun
  pub same : SameBytes old new

-- ---- what stands several times

-- the bytes so far
abbrev pub gathered : Gathered → List ℕ
gathered g = take g.used g.buffer.now

-- a byte more, where the buffer of so many bytes has room for it
abbrev pub pushed : (room : ℕ) → List ℕ → (v : ℕ) → List ℕ
pushed room bytes v = cond (ltb (length bytes) room) (bytes ++ (v ∷ [])) bytes

-- the byte `width` before the end, 0 if there is none
abbrev pub before : (width : ℕ) → List ℕ → ℕ
before width bytes = cond (eqb width 0 || ltb (length bytes) width) 0 (get_or bytes (length bytes - width) 0)

-- that byte n times, each time of the bytes so far: for n the width, the last `width` bytes once more
unfoldable pub again : (room width n : ℕ) → List ℕ → List ℕ
again room width zero bytes = bytes
again room width (suc n) bytes = pushed room (again room width n bytes) (before width (again room width n bytes))

-- the last `width` bytes so many times more
unfoldable pub repeated : (room width more : ℕ) → List ℕ → List ℕ
repeated room width zero bytes = bytes
repeated room width (suc more) bytes = again room width width (repeated room width more bytes)

-- no decimal digit
abbrev pub NoDecimal : ℕ → Type 0
NoDecimal c = (k : ℕ) → k < 10 → digit k ≡ c → ⊥

-- a count has ended: the bytes stand so many times in all, and bytes are read again
pub record Repeats (old new : CaseReader) (width count : ℕ) : Type 0 where
  pub mode : new.mode ≡ modes.Bytes
  pub high : new.high ≡ None
  pub bytes : gathered new.bytes ≡ repeated (length old.bytes.buffer.now) width (count - 1) (gathered old.bytes)
