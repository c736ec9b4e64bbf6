-- Marking in the columns: the common flag is bit 32 of a row's rest, and setting it changes nothing else of the row. Assumes nothing.
use mathlib.Core.Path.{◌≡◌, refl, ap, ◌∙◌}
use mathlib.Core.List.{List, map}
use mathlib.Core.Bool.{true, false, ◌&&◌}
use Prim.Native.Nat.{ℕ, ◌+◌, ◌-◌, ◌*◌, ◌/◌, ◌%◌, ◌≤◌, ◌<◌}
use native.Mathlib.Omega.{arith}
use lib.Dec.{eqb, leb}
use lib.ListN.{length, get_or, set, length-set}
use lib.Seq.{get_or-set_same, get_or-set_other}
use borrow.Author.Count.{below_more}
use Rattle.lists.proofs.Parts.{tabulate-map}
use Rattle.splits.specs.Columns.{alignment_of, section_in, rename_in, flags_in, origin_in, columns, row_of, row_at, rows}
use Rattle.splits.specs.Updates.{with_common}
use Rattle.common.specs.Common.{marked}

-- bit 32 set
abbrev pub flagged : ℕ → ℕ
flagged rest = rest - rest / 4294967296 % 2 * 4294967296 + 4294967296

-- a quotient and a remainder, of which the lowest bit of the quotient is set
set_bit : (rest : ℕ) → flagged rest ≡ rest % 4294967296 + 4294967296 * (rest / 4294967296 / 2 * 2 + 1)
set_bit rest = omega arith

-- the lowest bit of a byte set, before the byte is taken or after it
odd_byte : (q : ℕ) → (q / 2 * 2 + 1) % 256 ≡ q % 256 / 2 * 2 + 1
odd_byte q =
    let whole : q ≡ 256 * (q / 256) + q % 256 = omega arith in
    let half : q / 2 ≡ 128 * (q / 256) + q % 256 / 2 = omega arith in
    let small : q % 256 / 2 * 2 + 1 < 256 = omega arith in
    ap (λ (h : ℕ). (h * 2 + 1) % 256) half ∙ low_byte (q / 256) (q % 256 / 2 * 2 + 1) (q % 256 / 2) refl small
  where
    low_byte : (a r h : ℕ) → r ≡ h * 2 + 1 → r < 256 → ((128 * a + h) * 2 + 1) % 256 ≡ r
    low_byte a r h e s = omega arith

odd_above : (q : ℕ) → (q / 2 * 2 + 1) / 256 ≡ q / 256
odd_above q = omega arith

odd_top : (q : ℕ) → (q / 2 * 2 + 1) / 65536 ≡ q / 65536
odd_top q = omega arith

above_half : (rest : ℕ) → rest / 4294967296 / 65536 ≡ rest / 281474976710656
above_half rest = omega arith

above_byte : (rest : ℕ) → rest / 4294967296 / 256 ≡ rest / 1099511627776
above_byte rest = omega arith

module _ (low high : ℕ) (h : low < 4294967296) where
  abbrev joined : ℕ
  joined = low + 4294967296 * high

  section_of : joined % 65536 ≡ low % 65536
  section_of = omega arith

  rename_of : joined / 65536 % 65536 ≡ low / 65536 % 65536
  rename_of = omega arith

  flags_of : joined / 4294967296 % 256 ≡ high % 256
  flags_of = omega arith

  bits_of : joined / 1099511627776 ≡ high / 256
  bits_of = omega arith

  origin_of : joined / 281474976710656 ≡ high / 65536
  origin_of = omega arith

-- a row with its rest so changed is common
pub row_common : (start end unit rest : ℕ) → row_of start end unit (flagged rest) ≡ with_common (row_of start end unit rest)
unfolding row_of
row_common start end unit rest =
    let low = rest % 4294967296 in
    let high = rest / 4294967296 / 2 * 2 + 1 in
    let small : low < 4294967296 = omega arith in
    let whole : flagged rest ≡ low + 4294967296 * high = set_bit rest in
    let section_is : section_in (flagged rest) ≡ section_in rest = ap (λ (r : ℕ). r % 65536) whole ∙ section_of low high small ∙ (let e : low % 65536 ≡ rest % 65536 = omega arith in e) in
    let rename-is : rename_in (flagged rest) ≡ rename_in rest = ap (λ (r : ℕ). r / 65536 % 65536) whole ∙ rename_of low high small ∙ (let e : low / 65536 % 65536 ≡ rest / 65536 % 65536 = omega arith in e) in
    let flags-is : flags_in (flagged rest) ≡ flags_in rest / 2 * 2 + 1 = ap (λ (r : ℕ). r / 4294967296 % 256) whole ∙ flags_of low high small ∙ odd_byte (rest / 4294967296) in
    let bits_is : flagged rest / 1099511627776 % 256 ≡ rest / 1099511627776 % 256 = ap (λ (r : ℕ). r / 1099511627776 % 256) whole ∙ ap (λ (r : ℕ). r % 256) (bits_of low high small) ∙ ap (λ (r : ℕ). r % 256) (odd_above (rest / 4294967296) ∙ above_byte rest) in
    let origin-is : origin_in (flagged rest) ≡ origin_in rest = ap (λ (r : ℕ). r / 281474976710656 % 65536) whole ∙ ap (λ (r : ℕ). r % 65536) (origin_of low high small) ∙ ap (λ (r : ℕ). r % 65536) (odd_top (rest / 4294967296) ∙ above_half rest) in
    λ i. record {
      section = section_is i;
      start = start;
      end = end;
      unit = unit;
      alignment = alignment_of (bits_is i);
      flags = flags-is i;
      rename = rename-is i;
      origin = origin-is i;
    }

module _ (section address start end unit rest : ℕ) where
  pub mark_hit : (eqb (rest % 65536) section && leb address start) ≡ true → row_of start end unit (flagged rest) ≡ marked section address (row_of start end unit rest)
  unfolding marked row_of
  mark_hit e = row_common start end unit rest ∙ rw e

  pub mark_miss : (eqb (rest % 65536) section && leb address start) ≡ false → row_of start end unit rest ≡ marked section address (row_of start end unit rest)
  unfolding marked row_of
  mark_miss e = rw e

-- ---- place by place: the rows up to i are seen to
abbrev pub MarkedAt : (section address start before after : ℕ) → Type 0
MarkedAt section address start before after = (end unit : ℕ) → row_of start end unit after ≡ marked section address (row_of start end unit before)

pub record Marking (section address : ℕ) (starts rest₀ rest : List ℕ) (i : ℕ) : Type 0 where
  pub long : length rest ≡ length rest₀
  pub passed : (j : ℕ) → j < i → MarkedAt section address (get_or starts j 0) (get_or rest₀ j 0) (get_or rest j 0)
  pub left : (j : ℕ) → i ≤ j → get_or rest j 0 ≡ get_or rest₀ j 0

module _ (section address : ℕ) (starts rest₀ : List ℕ) where
  pub marking_start : Marking section address starts rest₀ rest₀ 0
  marking_start = record { long = refl; passed = λ j l. absurd (let z : ⊥ = omega arith in z); left = λ j l. refl }

  pub marking_more : (rest : List ℕ) (i v : ℕ) → i < length rest → MarkedAt section address (get_or starts i 0) (get_or rest i 0) v
      → Marking section address starts rest₀ rest i → Marking section address starts rest₀ (set rest i v) (i + 1)
  marking_more rest i v h q m = record {
    long = length-set rest i v ∙ m.long;
    passed = below_more _ _
        (λ j l end unit. ap (λ (x : ℕ). row_of (get_or starts j 0) end unit x) (get_or-set_other rest i j v 0 (λ z. omega arith)) ∙ m.passed j l end unit)
        (λ end unit.
        ap (λ (x : ℕ). row_of (get_or starts i 0) end unit x) (get_or-set_same rest i v 0 h)
        ∙ q end unit
        ∙ ap (λ (x : ℕ). marked section address (row_of (get_or starts i 0) end unit x)) (m.left i (omega arith)));
    left = λ j l. get_or-set_other rest i j v 0 (λ z. omega arith) ∙ m.left j (omega arith);
  }

  pub marking_done : (ends units rest : List ℕ) (n : ℕ) → Marking section address starts rest₀ rest n
      → rows (columns starts ends units rest) n ≡ map (marked section address) (rows (columns starts ends units rest₀) n)
  marking_done ends units rest n m =
      tabulate-map (marked section address) (row_at (columns starts ends units rest₀)) (row_at (columns starts ends units rest)) 0 n
      (λ j l h. m.passed j (omega arith) (get_or ends j 0) (get_or units j 0))
