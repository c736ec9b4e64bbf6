-- Document 01's cases P1 to P8 as one table: what is asked of a stage's definition, and the numbers that it answers: number, section and address of a refusal; 0 and then
-- the result's numbers if it is accepted; 61 and the cycle.
use Rattle.std.specs.Prelude.{ℕ, ◌+◌, ◌-◌, List, [], ◌∷◌, ◌++◌, map, length}
use Rattle.lists.specs.Outcome.{Outcome, accepted, refused}
use Rattle.obj.specs.declared.Section.{Section}
use Rattle.obj.specs.declared.Symbol.{Symbol}
use Rattle.obj.specs.declared.Reloc.{Reloc}
use Rattle.obj.specs.declared.Split.{Split}
use Rattle.obj.specs.Records.{symbol_at, reloc_at}
use Rattle.names.specs.Fixed.{codes}
use Rattle.toposort.specs.Search.{End, all, cyclic, lost}
use Rattle.toposort.specs.Sorting.{sort_of}
use Rattle.sections.specs.Image.{Image}
use Rattle.sections.specs.Sections.{Sections}
use Rattle.sections.specs.Ends.{splitting_end}
use Rattle.validate.specs.Check.{validate}
use Rattle.gap_columns.specs.Columns.{Gap}
use Rattle.gaps.specs.Gaps.{found_gaps}
use Rattle.pieces.specs.declared.Piece.{Piece}
use Rattle.walk.specs.Walk.{Output, walk}

-- ---- what is asked

pub data Asked : Type 0 where
  -- an order of so many nodes, with room for so many
  sorted : (nodes : ℕ) → (edges : List (ℕ × ℕ)) → (room : ℕ) → Asked
  -- the splitting end of a `.ctors` at 0x80100000 with these bytes
  ended : (bytes : List ℕ) → Asked
  -- whether one split passes the check, without symbols
  checked : (start end : ℕ) → Asked
  -- the gaps of a section that starts at `current`, whose one split has this alignment and start, and ends with the section
  gapped : (current alignment start : ℕ) → Asked
  -- the alignment of the piece of a section's one split, which is given this one
  aligned : (alignment address : ℕ) → Asked

pub record Row : Type 0 where
  pub asked : Asked
  pub answer : List ℕ

abbrev pub table : List Row
table =
    -- P1 no nodes: empty order
    record { asked = sorted 0 [] 0; answer = 0 ∷ [] }
    -- P2 three nodes, 0→2, 1→2: order 1 0 2
    ∷ record { asked = sorted 3 ((0, 2) ∷ (1, 2) ∷ []) 3; answer = 0 ∷ 1 ∷ 0 ∷ 2 ∷ [] }
    -- P3 0→1, 1→2, 2→1: cycle 1 2
    ∷ record { asked = sorted 3 ((0, 1) ∷ (1, 2) ∷ (2, 1) ∷ []) 3; answer = 61 ∷ 1 ∷ 2 ∷ [] }
    -- P4 two nodes, 0→2: 62
    ∷ record { asked = sorted 2 ((0, 2) ∷ []) 2; answer = 62 ∷ 0 ∷ 0 ∷ [] }
    -- P5 `.ctors` of 8 bytes at 0x80100000, last four zero: end 0x80100004; 3 bytes: 10
    ∷ record { asked = ended (1 ∷ 2 ∷ 3 ∷ 4 ∷ 0 ∷ 0 ∷ 0 ∷ 0 ∷ []); answer = 0 ∷ 0x80100004 ∷ [] }
    ∷ record { asked = ended (0 ∷ 0 ∷ 0 ∷ []); answer = 10 ∷ 0 ∷ 0x80100000 ∷ [] }
    -- P6 no symbols: split 0x100..0x100 passes, 0x100..0 gives 51
    ∷ record { asked = checked 0x100 0x100; answer = 0 ∷ [] }
    ∷ record { asked = checked 0x100 0; answer = 51 ∷ 0 ∷ 0x100 ∷ [] }
    -- P7 current 0x1003, next alignment 8: start 0x1008 no gap, 0x1009 gap 0x1003..0x1009
    ∷ record { asked = gapped 0x1003 8 0x1008; answer = 0 ∷ [] }
    ∷ record { asked = gapped 0x1003 8 0x1009; answer = 0 ∷ 0x1003 ∷ 0x1009 ∷ [] }
    -- P8 alignment 32 at 0x1008 becomes 8; at 0x1002: 75
    ∷ record { asked = aligned 32 0x1008; answer = 0 ∷ 8 ∷ [] }
    ∷ record { asked = aligned 32 0x1002; answer = 75 ∷ 0 ∷ 0x1002 ∷ [] }
    ∷ []

-- ---- what is answered

-- the numbers of an outcome
abbrev pub numbers : {A : Type 0} → (A → List ℕ) → Outcome A → List ℕ
numbers shown (accepted a) = 0 ∷ shown a
numbers shown (refused number section address) = number ∷ section ∷ address ∷ []

-- those of a sort: an order, or "61 cycle"
abbrev pub sort_numbers : Outcome End → List ℕ
sort_numbers (accepted (all l)) = 0 ∷ l
sort_numbers (accepted (cyclic l)) = 61 ∷ l
sort_numbers (accepted lost) = []
sort_numbers (refused number section address) = number ∷ section ∷ address ∷ []

-- one section of data, of one name, without symbols
abbrev pub image_named : (name : List ℕ) → Image
image_named name = record { symbol = symbol_at []; count = 0; name = λ (k : ℕ). name }

abbrev pub head_of : (address size : ℕ) → Section
head_of address size = record { name = 0; kind = 1; address = address; size = size; offset = 0 }

abbrev pub section_of : (address size : ℕ) → (bytes : List ℕ) → Sections
section_of address size bytes = record { count = 1; head = λ (n : ℕ). head_of address size; bytes = λ (n : ℕ). bytes }

abbrev pub split_of : (start end alignment : ℕ) → Split
split_of start end alignment = record { section = 0; start = start; end = end; unit = 1; alignment = alignment; flags = 0; rename = 65535; origin = 65535 }

abbrev pub gap_numbers : List Gap → List ℕ
gap_numbers [] = []
gap_numbers (x ∷ later) = x.start ∷ x.end ∷ gap_numbers later

unfoldable pub answered : Asked → List ℕ
unfolding codes
answered (sorted nodes edges room) = sort_numbers (sort_of (record { count = nodes; from = map (λ (e : ℕ × ℕ). e.0) edges; to = map (λ (e : ℕ × ℕ). e.1) edges }) room)
answered (ended bytes) = numbers (λ (end : ℕ). end ∷ []) (splitting_end (image_named (codes ".ctors")) 0 (head_of 0x80100000 (length bytes)) bytes)
answered (checked start end) = numbers (λ (u : Unit {0}). []) (validate (symbol_at []) 0 (split_of start end 0 ∷ []))
answered (gapped current alignment start) =
    numbers gap_numbers (found_gaps (image_named (codes ".data")) (section_of current (0x1010 - current) []) (split_of start 0x1010 alignment ∷ []))
answered (aligned alignment address) =
    numbers (λ (o : Output). map (λ (p : Piece). p.alignment) o.pieces)
    (walk (record {
      image = image_named (codes ".data");
      sections = section_of address 4 (1 ∷ 2 ∷ 3 ∷ 4 ∷ []);
      reloc = reloc_at [];
      relocs = 0;
      splits = record { section = 0; start = address; end = address + 4; unit = 1; alignment = alignment; flags = 0; rename = 65535; origin = 65535 } ∷ [];
      units = 1 ∷ [];
      room = record { pieces = 1024; symbols = 4096; relocs = 4096 };
    }))
