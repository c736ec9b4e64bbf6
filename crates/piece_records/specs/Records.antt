-- Piece records: document 02, (e), "up to 1,024 pieces, each a record of kind 7, known only here: section 2, address 4, its bytes". Document 01: "A record is a
-- four-byte length of its payload, a two-byte kind, the payload; all little-endian", and "Records are checked in file order, .. each for 1, 2". They stand one
-- after another in lent bytes of any length. Callers use the laws of proofs/Laws.antt: `counted_whole` (records that were counted lie whole in the bytes),
-- `parts_turn`, and `read_back` of proofs/Written.antt (what was written as records is read).
use Rattle.std.specs.Prelude.{ℕ, zero, suc, ◌+◌, ◌-◌, ◌≤◌, ◌<◌, ◌≡◌, List, [], ◌∷◌, ◌++◌, Bool, true, cond, not, length, take, drop, eqb, ltb, leb}
use Rattle.lists.specs.Outcome.{Outcome, accepted, refused, refuse, ◌>>=◌, ◌>>◌}
use Rattle.lists.specs.Rows.{any_of}
use Rattle.fields.specs.Fields.{le16, le32, enc16, enc32}
use Rattle.obj.specs.Parts.{Part}
use Rattle.piece_records.specs.declared.PieceHead.{PieceHead}

-- ---- a record at a place

-- "section 2, address 4, its bytes", past the length and the kind
unfoldable pub part_at : List ℕ → (at : ℕ) → Part
part_at b at = record { section = le16 b (at + 6); address = le32 b (at + 8); bytes = take (le32 b at - 6) (drop (at + 12) b) }

-- where the next record starts
abbrev pub next_at : List ℕ → (at : ℕ) → ℕ
next_at b at = at + 6 + le32 b at

-- 1: "file cut" in its head or its payload, "unknown kind", "payload length wrong"
unfoldable pub record_bad : List ℕ → (at : ℕ) → Bool
record_bad b at =
    cond (ltb (length b) (at + 6)) true
    (cond (ltb (length b) (next_at b at)) true
    (any_of (not (eqb (le16 b (at + 4)) 7) ∷ ltb (le32 b at) 6 ∷ [])))

-- ---- all records

-- how many there are, those before `at` counted: n; `left` more are allowed. 1 at the record's number, 2 at "the first too many"
unfoldable pub count_from : (left : ℕ) → List ℕ → (at n : ℕ) → Outcome ℕ
count_from zero b at n = cond (leb (length b) at) (accepted n) (refuse 1 0 n (record_bad b at) >> refused 2 0 n)
count_from (suc left) b at n = cond (leb (length b) at) (accepted n) (refuse 1 0 n (record_bad b at) >> count_from left b (next_at b at) (suc n))

-- so many records from `at` on
unfoldable pub parts_at : (count : ℕ) → List ℕ → (at : ℕ) → List Part
parts_at zero b at = []
parts_at (suc count) b at = part_at b at ∷ parts_at count b (next_at b at)

-- "up to 1,024 pieces"
abbrev pub most_pieces : ℕ
most_pieces = 1024

-- the table of pieces: its checks, and the pieces
unfoldable pub parts_of : List ℕ → Outcome (List Part)
parts_of b = count_from most_pieces b 0 0 >>= λ n. accepted (parts_at n b 0)

-- ---- as they are written

unfoldable pub record_of : Part → List ℕ
record_of p = enc32 (6 + length p.bytes) ++ enc16 7 ++ enc16 p.section ++ enc32 p.address ++ p.bytes

unfoldable pub records_of : List Part → List ℕ
records_of [] = []
records_of (p ∷ later) = record_of p ++ records_of later

-- each field has its width
pub record Fits (p : Part) : Type 0 where
  pub section : p.section < 65536
  pub address : p.address < 4294967296
  pub bytes : 6 + length p.bytes < 4294967296

-- ---- what the functions ask and leave

-- the record at `at` is whole
pub record Lying (b : List ℕ) (at : ℕ) : Type 0 where
  pub head : at + 6 ≤ length b
  pub payload : next_at b at ≤ length b
  pub long : 6 ≤ le32 b at

-- so many records from `at` on are
unfoldable pub Whole : (count : ℕ) → List ℕ → (at : ℕ) → Type 0
Whole zero b at = Unit {0}
Whole (suc count) b at = Lying b at × Whole count b (next_at b at)

-- a piece without its bytes: how many they are
pub record IsHead (p : Part) (r : PieceHead) : Type 0 where
  pub section : r.section ≡ p.section
  pub address : r.address ≡ p.address
  pub «length» : r.«length» ≡ length p.bytes
