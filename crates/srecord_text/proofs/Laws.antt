-- The lines of bytes are the line of the first of them and the lines of the others; how long a line is; stores below what is read. Assumes nothing.
use Prim.Native.Nat.{ℕ, zero, suc, ◌+◌, ◌*◌, ◌-◌, ◌/◌, ◌≤◌, ◌<◌, min}
use mathlib.Core.Path.{◌≡◌, refl, sym, ap, ap₂, ◌∙◌}
use mathlib.Core.List.{List, [], ◌∷◌, ◌++◌}
use native.Mathlib.Omega.{arith}
use native.Mathlib.Decide.{dec_lt}
use lib.ListN.{length, take, drop, length-append, length-drop, length-take}
use lib.Seq.{sets, length-sets, drop-drop, take_all, take-take}
use Rattle.lists.specs.Rows.{tabulate}
use Rattle.lists.proofs.Rows.{tabulate_ext}
use Rattle.lists.proofs.Stores.{sets-sets, drop-take, drop-sets}
use Rattle.fields.specs.Fields.{big, bytes_of}
use Rattle.fields.proofs.Laws.{length-bytes_of}
use Rattle.names.specs.GapName.{hexes}
use Rattle.srecords.specs.Lines.{checksum, counted, line_of, S3, concat, data_line, section_lines}
use Rattle.srecords.proofs.Digits.{length-hexes}
use Rattle.srecord_text.specs.Room.{lines_size, Fits}

-- ---- a line's length

pub line-length : (type address : ℕ) (bytes : List ℕ) → length (line_of type address bytes) ≡ 15 + 2 * length bytes
unfolding line_of counted
line-length type address bytes =
    let all = ((length bytes + 5) ∷ (bytes_of big 4 address ++ bytes)) ++ (checksum ((length bytes + 5) ∷ (bytes_of big 4 address ++ bytes)) ∷ []) in
    let a = length-append (hexes all) (10 ∷ []) in
    let b = length-hexes all in
    let c = length-append ((length bytes + 5) ∷ (bytes_of big 4 address ++ bytes)) (checksum ((length bytes + 5) ∷ (bytes_of big 4 address ++ bytes)) ∷ []) in
    let d = length-append (bytes_of big 4 address) bytes in
    let e = length-bytes_of big 4 address in
    omega arith

-- ---- the lines of bytes

pub lines_none : (address : ℕ) (bytes : List ℕ) → length bytes ≡ 0 → section_lines address bytes ≡ []
unfolding section_lines concat tabulate
lines_none address bytes e = ap (λ (n : ℕ). concat (tabulate (data_line address bytes) 0 n)) (let z : (length bytes + 15) / 16 ≡ 0 = omega arith in z)

-- 16 bytes on
lines_sixteen : (address : ℕ) (bytes : List ℕ) → 0 < length bytes
    → section_lines address bytes ≡ line_of S3 address (take 16 bytes) ++ section_lines (address + 16) (drop 16 bytes)
unfolding section_lines concat tabulate data_line
lines_sixteen address bytes h =
    ap (λ (n : ℕ). concat (tabulate (data_line address bytes) 0 n)) (let z : (length bytes + 15) / 16 ≡ suc ((length (drop 16 bytes) + 15) / 16) = omega (arith, length-drop 16 bytes) in z)
    ∙ ap₂ (λ (l r : List ℕ). l ++ r)
    (ap₂ (λ (a k : ℕ). line_of S3 a (take 16 (drop k bytes))) (let z : address + 16 * 0 ≡ address = omega arith in z) (let z : 16 * 0 ≡ 0 = refl in z))
    (ap concat (tabulate_ext (data_line address bytes) (data_line (address + 16) (drop 16 bytes)) 1 0 ((length (drop 16 bytes) + 15) / 16) (λ k l. same k)))
  where
    same : (k : ℕ) → data_line address bytes (1 + k) ≡ data_line (address + 16) (drop 16 bytes) (0 + k)
    same k =
        ap₂ (λ (a : ℕ) (l : List ℕ). line_of S3 a (take 16 l)) (let z : address + 16 * (1 + k) ≡ address + 16 + 16 * (0 + k) = omega arith in z)
        (ap (λ (i : ℕ). drop i bytes) (let z : 16 * (1 + k) ≡ 16 + 16 * (0 + k) = omega arith in z) ∙ sym (drop-drop (16 * (0 + k)) 16 bytes))

-- THEOREM: the line of the first m bytes, 16 or as many as there are, and then the lines of the others
pub lines_turn : (address : ℕ) (bytes : List ℕ) (m : ℕ) → 0 < length bytes → m ≡ min 16 (length bytes)
    → section_lines address bytes ≡ line_of S3 address (take m bytes) ++ section_lines (address + m) (drop m bytes)
lines_turn address bytes m h e = lines_sixteen address bytes h ∙ go (dec_lt (length bytes) 16)
  where
    go : Dec (length bytes < 16)
        → line_of S3 address (take 16 bytes) ++ section_lines (address + 16) (drop 16 bytes) ≡ line_of S3 address (take m bytes) ++ section_lines (address + m) (drop m bytes)
    go (yes l) =
        ap₂ (λ (x y : List ℕ). line_of S3 address x ++ y) (take_all 16 bytes (omega arith) ∙ sym (take_all m bytes (omega arith)))
        (lines_none (address + 16) (drop 16 bytes) (omega (arith, length-drop 16 bytes)) ∙ sym (lines_none (address + m) (drop m bytes) (omega (arith, length-drop m bytes))))
    go (no l) = ap (λ (k : ℕ). line_of S3 address (take k bytes) ++ section_lines (address + k) (drop k bytes)) (let z : 16 ≡ m = omega arith in z)

-- ---- how long the lines of a section are

lines_from_length : (address : ℕ) (bytes : List ℕ) (i n : ℕ) → i + n ≡ (length bytes + 15) / 16
    → length (concat (tabulate (data_line address bytes) i n)) ≡ 15 * n + 2 * (length bytes - 16 * i)
unfolding concat tabulate data_line
lines_from_length address bytes i zero h = omega arith
lines_from_length address bytes i (suc n) h =
    let ih = lines_from_length address bytes (suc i) n (omega arith) in
    let a = length-append (data_line address bytes i) (concat (tabulate (data_line address bytes) (suc i) n)) in
    let b = line-length S3 (address + 16 * i) (take 16 (drop (16 * i) bytes)) in
    let c = length-take 16 (drop (16 * i) bytes) in
    let d = length-drop (16 * i) bytes in
    omega arith

-- THEOREM: 15 bytes for each line, and two for each byte
pub lines_length : (address : ℕ) (bytes : List ℕ) → length (section_lines address bytes) ≡ lines_size (length bytes)
unfolding section_lines
lines_length address bytes = lines_from_length address bytes 0 ((length bytes + 15) / 16) (omega arith) ∙ (let z : 15 * ((length bytes + 15) / 16) + 2 * (length bytes - 16 * 0) ≡ lines_size (length bytes) = omega arith in z)

-- ---- a turn of the loop: `rest` is what is left to read, `m` bytes of it make the line that is written at `at`

module _ (out : List ℕ) (at from address : ℕ) (rest : List ℕ) (m : ℕ) (some : 0 < length rest) (most : m ≡ min 16 (length rest))
    (there : take (length rest) (drop from out) ≡ rest) where
  -- the line's bytes are the first that are left
  pub line_bytes : take m (drop from out) ≡ take m rest
  line_bytes = sym (take-take m (length rest) (drop from out) (omega arith)) ∙ ap (take m) there

  line_size : length (line_of S3 address (take m rest)) ≡ 15 + 2 * m
  line_size = line-length S3 address (take m rest) ∙ ap (λ (k : ℕ). 15 + 2 * k) (let z : length (take m rest) ≡ m = omega (arith, length-take m rest) in z)

  abbrev pub after : List ℕ
  after = sets out at (line_of S3 address (take m rest))

  -- what is left after it is written is written all the same
  pub written : sets after (at + 15 + 2 * m) (section_lines (address + m) (drop m rest)) ≡ sets out at (section_lines address rest)
  written =
      sets-sets out at (line_of S3 address (take m rest)) (at + 15 + 2 * m) (section_lines (address + m) (drop m rest)) (let z = line_size in omega arith)
      ∙ ap (sets out at) (sym (lines_turn address rest m some most))

  -- .. and is still there to be read
  pub unread : at + 15 + 2 * m ≤ from + m → take (length (drop m rest)) (drop (from + m) after) ≡ drop m rest
  unread h =
      ap (take (length (drop m rest))) (drop-sets out at (line_of S3 address (take m rest)) (from + m) (let z = line_size in omega arith))
      ∙ ap₂ (λ (k : ℕ) (l : List ℕ). take k l) (length-drop m rest) (sym (drop-drop m from out))
      ∙ sym (drop-take m (length rest) (drop from out))
      ∙ ap (drop m) there

-- ---- the loop over a section: `done` of its bytes are written as lines that end at `at`

module _ (out₀ : List ℕ) (to from address size : ℕ) where
  -- the section's bytes
  abbrev bytes : List ℕ
  bytes = take size (drop from out₀)

  pub record Left (out : List ℕ) (done at : ℕ) : Type 0 where
    pub few : done ≤ size
    pub long : length out ≡ length out₀
    pub behind : at + lines_size (size - done) ≤ from + size
    pub there : take (size - done) (drop (from + done) out) ≡ drop done bytes
    pub written : sets out at (section_lines (address + done) (drop done bytes)) ≡ sets out₀ to (section_lines address bytes)

  module _ (fits : Fits out₀ to from size address) where
    bytes_length : length bytes ≡ size
    bytes_length = let h = fits.there in omega (arith, length-take size (drop from out₀), length-drop from out₀)

    pub left_start : Left out₀ 0 to
    left_start = record {
      few = omega arith;
      long = refl;
      behind = let h = fits.behind in omega arith;
      there = ap₂ (λ (n k : ℕ). take n (drop k out₀)) (let z : size - 0 ≡ size = omega arith in z) (let z : from + 0 ≡ from = omega arith in z);
      written = ap (λ (k : ℕ). sets out₀ to (section_lines k bytes)) (let z : address + 0 ≡ address = omega arith in z);
    }

    module _ (out : List ℕ) (done at m : ℕ) (l : Left out done at) (more : done < size) (most : m ≡ min 16 (size - done)) where
      rest-length : length (drop done bytes) ≡ size - done
      rest-length = length-drop done bytes ∙ ap (λ (k : ℕ). k - done) bytes_length

      some_left : 0 < length (drop done bytes)
      some_left = let r = rest-length in omega arith

      most_left : m ≡ min 16 (length (drop done bytes))
      most_left = most ∙ ap (min 16) (sym rest-length)

      there_left : take (length (drop done bytes)) (drop (from + done) out) ≡ drop done bytes
      there_left = ap (λ (k : ℕ). take k (drop (from + done) out)) rest-length ∙ l.there

      -- the next line lies behind what is left to be read
      pub line_behind : at + 15 + 2 * m ≤ from + done + m
      line_behind = let b = l.behind in omega arith

      pub left_turn : (out' : List ℕ) → out' ≡ sets out at (line_of S3 (address + done) (take m (drop (from + done) out))) → Left out' (done + m) (at + (15 + 2 * m))
      left_turn out' e =
          let b = l.behind in
          let same : out' ≡ after out at (from + done) (address + done) (drop done bytes) m some_left most_left there_left =
          e ∙ ap (λ (x : List ℕ). sets out at (line_of S3 (address + done) x)) (line_bytes out at (from + done) (address + done) (drop done bytes) m some_left most_left there_left) in
          let on : drop (done + m) bytes ≡ drop m (drop done bytes) = sym (drop-drop m done bytes) in
          record {
            few = omega arith;
            long = ap length e ∙ length-sets out at (line_of S3 (address + done) (take m (drop (from + done) out))) ∙ l.long;
            behind = omega arith;
            there =
                ap₂ (λ (n k : ℕ). take n (drop k out')) (let z : size - (done + m) ≡ length (drop m (drop done bytes)) = omega (arith, length-drop m (drop done bytes), rest-length) in z)
                (let z : from + (done + m) ≡ from + done + m = omega arith in z)
                ∙ ap (λ (x : List ℕ). take (length (drop m (drop done bytes))) (drop (from + done + m) x)) same
                ∙ unread out at (from + done) (address + done) (drop done bytes) m some_left most_left there_left line_behind
                ∙ sym on;
            written =
                ap₂ (λ (k : ℕ) (x : List ℕ). sets out' k x) (let z : at + (15 + 2 * m) ≡ at + 15 + 2 * m = omega arith in z)
                (ap₂ (λ (k : ℕ) (x : List ℕ). section_lines k x) (let z : address + (done + m) ≡ address + done + m = omega arith in z) on)
                ∙ ap (λ (x : List ℕ). sets x (at + 15 + 2 * m) (section_lines (address + done + m) (drop m (drop done bytes)))) same
                ∙ written out at (from + done) (address + done) (drop done bytes) m some_left most_left there_left
                ∙ l.written;
          }

    pub left_end : (out : List ℕ) (done at : ℕ) → Left out done at → size ≤ done → out ≡ sets out₀ to (section_lines address bytes)
    left_end out done at l h =
        let b = bytes_length in
        ap (sets out at) (sym (lines_none (address + done) (drop done bytes) (omega (arith, length-drop done bytes)))) ∙ l.written
