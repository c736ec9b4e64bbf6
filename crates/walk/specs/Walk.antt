-- The walk (`split_obj` of util/split.rs, its section loop): pieces, their symbols and relocations, in walk order, or the first refusal. Document 01,
-- "**Walk.**", and its places 10, 11 and 70 to 76 (DECISIONS.md, 23, 26 to 28, 41 to 44 and 65 to 76).
-- Symbols, relocations and units are numbers; sections come one after another, and nothing is carried from one to the next but the output. Splits may
-- lie in any order and overlap: no rule here rests on the table checks.
use Rattle.std.specs.Prelude.{ℕ, zero, suc, ◌+◌, ◌-◌, ◌*◌, ◌/◌, ◌%◌, List, [], ◌∷◌, ◌++◌, Bool, cond, not, ◌&&◌, ◌||◌, eqb, leb, ltb, length}
use Rattle.lists.specs.Rows.{keep_if}
use Rattle.lists.specs.Outcome.{Outcome, accepted, refuse, ◌>>=◌, ◌>>◌}
use Rattle.obj.specs.declared.Section.{Section}
use Rattle.obj.specs.declared.Symbol.{Symbol}
use Rattle.obj.specs.declared.Reloc.{Reloc}
use Rattle.obj.specs.declared.Split.{Split}
use Rattle.names.specs.Fixed.{is_linker_label, is_vector_table_end}
use Rattle.symbols.specs.Ranges.{symbols_through, has_symbols}
use Rattle.sections.specs.Image.{Image}
use Rattle.sections.specs.Sections.{Sections}
use Rattle.sections.specs.Bytes.{zero_between}
use Rattle.sections.specs.Ends.{splitting_end}
use Rattle.sections.specs.Alignment.{Chosen, default_alignment, alignment_of}
use Rattle.splits.specs.Questions.{within, is_common, is_skipped, next_start}
use Rattle.pieces.specs.declared.Piece.{Piece}
use Rattle.pieces.specs.declared.PieceSymbol.{PieceSymbol}
use Rattle.pieces.specs.declared.PieceReloc.{PieceReloc}
use Rattle.pieces.specs.Questions.{count_of, has}
use Rattle.relocs.specs.Relocs.{relocs_between, has_relocs}
use Rattle.units.specs.Units.{unit_of}
use Rattle.pieces.specs.declared.Counts.{Counts}

-- ---- what the walk is given, and what it gives

pub record Input : Type 0 where
  -- symbols and names
  pub image : Image
  pub sections : Sections
  -- relocations, and how many they are
  pub reloc : ℕ → Reloc
  pub relocs : ℕ
  pub splits : List Split
  -- the units' names, by name number
  pub units : List ℕ
  -- how many records the output tables hold
  pub room : Counts

pub record Output : Type 0 where
  pub pieces : List Piece
  pub symbols : List PieceSymbol
  pub relocs : List PieceReloc

-- ---- a section

abbrev pub start_in : Sections → (n : ℕ) → ℕ
start_in sections n = (sections.head n).address

abbrev pub end_in : Sections → (n : ℕ) → ℕ
end_in sections n = (sections.head n).address + (sections.head n).size

-- "Splitting end (`end_for_section`)"
abbrev pub splitting_end_in : Image → Sections → (n : ℕ) → Outcome ℕ
splitting_end_in image sections n = splitting_end image n (sections.head n) (sections.bytes n)

-- ---- the bytes between two splits, or from the last to the splitting end

-- "72 between-range outside section": as `contains_range` of obj/sections.rs
abbrev pub outside : Sections → (n from to : ℕ) → Bool
outside sections n from to =
    not ((leb (start_in sections n) from && ltb from (end_in sections n)) && (ltb (start_in sections n) to && leb to (end_in sections n)))

-- "73 nonzero byte there"; a section of kind 3 has none
abbrev pub nonzero : Sections → (n from to : ℕ) → Bool
nonzero sections n from to = not (zero_between (sections.bytes n) (from - start_in sections n) (to - start_in sections n))

-- ---- a split

-- "Alignment of a split. The given one, else .."
abbrev pub alignment_in : Image → (head : Section) → (n start : ℕ) → Split → Outcome Chosen
alignment_in image head n start s =
    alignment_of image.symbol image.count n (default_alignment head (image.name head.name)) s.alignment start s.end

abbrev pub fits : (alignment address : ℕ) → Bool
fits alignment address = eqb (address % alignment) 0

-- "A misfitting alignment is halved until it fits or is 4 or less."; 14 times are enough for 65,536
unfoldable pub halved : (times alignment address : ℕ) → ℕ
halved zero alignment address = alignment
halved (suc times) alignment address = cond (fits alignment address) alignment (cond (leb alignment 4) alignment (halved times (alignment / 2) address))

-- ---- the symbols of a split

-- "without linker labels; one at the end is passed over, `gTRKInterruptVectorTableEnd` at the start instead"
unfoldable pub passed_over : (name : List ℕ) → Split → Symbol → Bool
passed_over name s y = is_linker_label name || eqb y.address (cond (is_vector_table_end name) s.start s.end)

-- the symbol's number i is recorded; "A common split gives no piece: its symbols take their alignment (else 4) as address, and only the flags of
-- `keep_flags` plus Common"
unfoldable pub entry_of : (unit place : ℕ) → Split → (i : ℕ) → Symbol → PieceSymbol
entry_of unit place s i y =
    cond (is_common s)
    (record {
      unit = unit;
      piece = 65535;
      symbol = i;
      flags = y.flags % 256 / 4 * 4 + 2;
      address = cond (eqb y.alignment 0) 4 y.alignment;
    })
    (record { unit = unit; piece = place; symbol = i; flags = y.flags; address = y.address - s.start })

-- symbol i, "each once per unit", behind those that are there; then all of these symbols
unfoldable pub add_symbol : Image → (unit place : ℕ) → Split → List PieceSymbol → (i : ℕ) → List PieceSymbol
add_symbol image unit place s out i =
    cond (passed_over (image.name (image.symbol i).name) s (image.symbol i) || has unit i out) out
    (out ++ (entry_of unit place s i (image.symbol i) ∷ []))

unfoldable pub add_symbols : Image → (unit place : ℕ) → Split → List PieceSymbol → List ℕ → List PieceSymbol
add_symbols image unit place s out [] = out
add_symbols image unit place s out (i ∷ later) = add_symbols image unit place s (add_symbol image unit place s out i) later

-- "Symbols lie in start..=end"
abbrev pub split_symbols : Image → (n : ℕ) → Split → List ℕ
split_symbols image n s = symbols_through image.symbol image.count n s.start s.end

-- ---- the relocations of a split

-- "Relocation offsets in a piece are rounded down to fours."
abbrev pub reloc_entry : (place start : ℕ) → (i : ℕ) → Reloc → PieceReloc
reloc_entry place start i r = record { piece = place; relocation = i; offset = (r.address - start) / 4 * 4 }

-- these relocations, behind those that are there
unfoldable pub add_relocs : (reloc : ℕ → Reloc) → (place start : ℕ) → List PieceReloc → List ℕ → List PieceReloc
add_relocs reloc place start out [] = out
add_relocs reloc place start out (i ∷ later) = add_relocs reloc place start (out ++ (reloc_entry place start i (reloc i) ∷ [])) later

abbrev pub split_relocs : (reloc : ℕ → Reloc) → (count n : ℕ) → Split → List ℕ
split_relocs reloc count n s = relocs_between reloc count n s.start s.end

-- ---- the piece of a split

-- "A piece also records its section number"; a renamed split's piece has that name, "rename 2 (0xFFFF none)"; the offset has 64 bits
unfoldable pub piece_of : (head : Section) → (n unit number alignment : ℕ) → Split → Piece
piece_of head n unit number alignment s = record {
  unit = unit;
  number = number;
  section = n;
  name = cond (eqb s.rename 65535) head.name s.rename;
  address = s.start;
  size = s.end - s.start;
  alignment = alignment;
  offset = head.offset + (s.start - head.address);
  origin = s.origin;
}

-- what a split adds to the output, in the unit that takes its pieces: "A common split gives no piece", and so no relocations
unfoldable pub given : Input → (n unit alignment : ℕ) → Split → Output → Output
given t n unit alignment s out =
    record {
      pieces = out.pieces ++ cond (is_common s) [] (piece_of (t.sections.head n) n unit (count_of unit out.pieces) alignment s ∷ []);
      symbols = add_symbols t.image unit (length out.pieces) s out.symbols (split_symbols t.image n s);
      relocs =
          cond (is_common s) out.relocs
          (add_relocs t.reloc (length out.pieces) s.start out.relocs (split_relocs t.reloc t.relocs n s));
    }

-- more than the output tables hold
abbrev pub over : (room : Counts) → Output → Bool
over room out =
    (ltb room.symbols (length out.symbols) || ltb room.relocs (length out.relocs)) || ltb room.pieces (length out.pieces)

-- ---- the splits of a section, one after another; the place of each refusal is "(section, current)"

-- a split at `current` with this alignment, halved
unfoldable pub on_aligned : Input → (n current unit alignment : ℕ) → Split → Output → Outcome Output
on_aligned t n current unit alignment s out = do
  -- "75 alignment misfits"
  refuse 75 n current (not (fits alignment current))
  -- "11 start above end, asked of a section that has such records": relocations, symbols
  refuse 11 n current (ltb s.end current && has_relocs t.reloc t.relocs n)
  refuse 11 n current (ltb s.end current && has_symbols t.image.symbol t.image.count n)
  -- "or a piece of negative length"
  refuse 11 n current (ltb s.end current && not (is_common s))
  -- "76 output table full"
  refuse 76 n current (over t.room (given t n unit alignment s out))
  accepted (given t n unit alignment s out)

-- a split at `current` that is not skipped
unfoldable pub on_kept : Input → (n current : ℕ) → Split → Output → Outcome Output
on_kept t n current s out = do
  -- "74 unit not listed"
  refuse 74 n current (eqb (unit_of t.units s.unit) (length t.units))
  -- "11 may come after 74 or 75": the alignment may ask a range backwards
  chosen ← alignment_in t.image (t.sections.head n) n current s
  on_aligned t n current (unit_of t.units s.unit) (halved 16 chosen.value current) s out

-- a split at `current`; the next one, or the splitting end, is at `next`
unfoldable pub on_split : Input → (n current next : ℕ) → Split → Output → Outcome Output
on_split t n current next s out = do
  -- "71 start isn't current"
  refuse 71 n current (not (eqb s.start current))
  -- "bytes between two, or from the last to the splitting end, must be zero"
  refuse 72 n current (ltb s.end next && outside t.sections n s.end next)
  refuse 73 n current (ltb s.end next && nonzero t.sections n s.end next)
  -- 72 and 73 come before skip and 74 (DECISIONS.md, 66)
  cond (is_skipped s) (accepted out) (on_kept t n current s out)

-- the splits that are left of a section, from `current` on
unfoldable pub walk_splits : Input → (n end current : ℕ) → Output → List Split → Outcome Output
walk_splits t n end current out [] = do
  -- "70 no split"
  refuse 70 n current (ltb current end)
  accepted out
walk_splits t n end current out (s ∷ later) =
    cond (ltb current end)
    (do
      more ← on_split t n current (next_start end later) s out
      walk_splits t n end (next_start end later) more later)
    (accepted out)

-- "The first split starts at the section's start. Later ones may overlap"; the section's splits from its start on and below the splitting end
unfoldable pub walk_section : Input → (n : ℕ) → Output → Outcome Output
walk_section t n out = do
  -- "10 `.ctors` or `.dtors` with 1 to 3 bytes"
  end ← splitting_end_in t.image t.sections n
  walk_splits t n end (start_in t.sections n) out (keep_if (within n (start_in t.sections n) end) t.splits)

-- so many sections, from section n on
unfoldable pub walk_sections : Input → (n more : ℕ) → Output → Outcome Output
walk_sections t n zero out = accepted out
walk_sections t n (suc more) out = do
  next ← walk_section t n out
  walk_sections t (suc n) more next

abbrev pub nothing : Output
nothing = record { pieces = []; symbols = []; relocs = [] }

-- the whole walk
unfoldable pub walk : Input → Outcome Output
walk t = walk_sections t 0 t.sections.count nothing
