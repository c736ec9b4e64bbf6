-- A reader of S-records by the public definition, for every type that it has: a line is `S`, a type digit, and bytes of two hexadecimal digits each, upper case. The
-- first is the count of the bytes that follow; then come the address, of 2, 3 or 4 bytes by the type, the data, and the checksum, the ones' complement of the low
-- byte of the sum of all bytes before it. Lines of type 1, 2 and 3 hold data; what a text puts at an address are the bytes of all its data lines there.
use Rattle.std.specs.Prelude.{ℕ, ◌+◌, ◌*◌, ◌-◌, ◌%◌, ◌≤◌, ◌<◌, ◌≡◌, ◌≢◌, Bool, cond, ◌&&◌, ◌||◌, length, get_or, take, drop, eqb, ltb, leb}
use mathlib.Core.List.{List, [], ◌∷◌, Memᴰ}
use Rattle.fields.specs.Fields.{big, number_at}
use Rattle.obj.specs.declared.Section.{Section}
use Rattle.obj.specs.Parts.{Part}
use Rattle.join.specs.Join.{nowhere, joined_at}
use Rattle.srecords.specs.Lines.{sum}

-- what is read, or that it can't be
pub data Reading (A : Type 0) : Type 0 where
  read : A → Reading A
  bad : Reading A

-- ---- digits

-- the value of a digit `0` to `9`, `A` to `F`; 16 of any other character
unfoldable pub value_of : ℕ → ℕ
value_of c = cond (leb 48 c && leb c 57) (c - 48) (cond (leb 65 c && leb c 70) (c - 55) 16)

-- one byte more in front
unfoldable pub with_byte : (high low : ℕ) → Reading (List ℕ) → Reading (List ℕ)
with_byte high low bad = bad
with_byte high low (read l) = cond (ltb high 16 && ltb low 16) (read ((16 * high + low) ∷ l)) bad

-- two digits for each byte
unfoldable pub pairs : List ℕ → Reading (List ℕ)
pairs [] = read []
pairs (c ∷ []) = bad
pairs (c ∷ d ∷ l) = with_byte (value_of c) (value_of d) (pairs l)

-- ---- a line

pub record Line : Type 0 where
  pub type : ℕ
  pub address : ℕ
  pub bytes : List ℕ

-- how many bytes the address has: 4 of types 3 and 7, 3 of types 2, 6 and 8, else 2
unfoldable pub width_of : (type : ℕ) → ℕ
width_of type = cond (eqb type 51 || eqb type 55) 4 (cond (eqb type 50 || (eqb type 54 || eqb type 56)) 3 2)

-- type, count, and what follows it: as many bytes as the count says, among them an address and a checksum that is right
unfoldable pub counts : (type count : ℕ) → (body : List ℕ) → Bool
counts type count body =
    eqb count (length body)
    && (leb (width_of type + 1) (length body)
    && eqb (get_or body (length body - 1) 0) (255 - sum (count ∷ take (length body - 1) body) % 256))

unfoldable pub line_in : (type : ℕ) → Reading (List ℕ) → Reading Line
line_in type bad = bad
line_in type (read []) = bad
line_in type (read (count ∷ body)) =
    cond (counts type count body)
    (read (record { type = type; address = number_at big (width_of type) body 0; bytes = take (length body - 1 - width_of type) (drop (width_of type) body) }))
    bad

-- `S`, a type digit, and the bytes
unfoldable pub read_line : List ℕ → Reading Line
read_line [] = bad
read_line (s ∷ []) = bad
read_line (s ∷ type ∷ l) = cond (eqb s 83 && (leb 48 type && leb type 57)) (line_in type (pairs l)) bad

-- ---- a text

-- a character more in front of the first line
unfoldable pub on_first : ℕ → List (List ℕ) → List (List ℕ)
on_first c [] = (c ∷ []) ∷ []
on_first c (l ∷ later) = (c ∷ l) ∷ later

-- its lines: each ends with a line feed, the last perhaps with the text
unfoldable pub text_lines : List ℕ → List (List ℕ)
text_lines [] = []
text_lines (c ∷ t) = cond (eqb c 10) ([] ∷ text_lines t) (on_first c (text_lines t))

unfoldable pub and_line : Reading Line → Reading (List Line) → Reading (List Line)
and_line bad rest = bad
and_line (read l) bad = bad
and_line (read l) (read rest) = read (l ∷ rest)

unfoldable pub read_lines : List (List ℕ) → Reading (List Line)
read_lines [] = read []
read_lines (l ∷ later) = and_line (read_line l) (read_lines later)

abbrev pub read_text : List ℕ → Reading (List Line)
read_text t = read_lines (text_lines t)

-- ---- what the lines put where

-- types 1, 2 and 3
abbrev pub is_data : Line → Bool
is_data l = leb 49 l.type && leb l.type 51

-- a data line has a byte for address x
unfoldable pub puts : (x : ℕ) → Line → Bool
puts x l = is_data l && (leb l.address x && ltb x (l.address + length l.bytes))

-- the bytes that the lines put at address x, in order
unfoldable pub bytes_put : List Line → (x : ℕ) → List ℕ
bytes_put [] x = []
bytes_put (l ∷ later) x = cond (puts x l) (get_or l.bytes (x - l.address) 0 ∷ bytes_put later x) (bytes_put later x)

-- ---- what a text gives back

-- address x of a section that holds bytes
pub record Has (x : ℕ) (s : Section) : Type 0 where
  pub holds : s.kind ≢ 3
  pub low : s.address ≤ x
  pub high : x < s.address + s.size

-- "A reader by the public definition gives back each section's joined bytes at its addresses"
pub record ReadsBack (text : List ℕ) (heads : List Section) (parts : List Part) : Type 0 where
  pub lines : List Line
  -- it accepts every line
  pub taken : read_text text ≡ read lines
  -- each section's joined bytes at its addresses, each once
  pub own : (n x : ℕ) → Has x (get_or heads n nowhere) → bytes_put lines x ≡ joined_at parts n x ∷ []
  -- and nothing else
  pub nothing_else : (x : ℕ) → ((s : Section) → Memᴰ s heads → Has x s → ⊥) → bytes_put lines x ≡ []
