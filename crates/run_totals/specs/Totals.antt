-- The totals of a run (T8): document 01, "Total: units, pieces, bytes.", and "made-up totals (each is summed from the pieces)" is shut out; document 02, (c): "the unit
-- figure is the pieces' sizes plus the sizes of the unit's symbols of known size that are listed as `common`, each once. The total line's bytes follow." Sums are told
-- place by place over the piece table and the table of piece symbols, once of their rows and once of their bytes; the listing's own definitions group by unit. The
-- theorems are `run_totals` and `tables_totals` of proofs/Totals.antt.
use Rattle.std.specs.Prelude.{ℕ, zero, suc, ◌+◌, ◌*◌, ◌<◌, ◌≡◌, List, [], ◌∷◌, ◌++◌, map, cond, eqb, length, get_or}
use Rattle.lists.specs.Sort.{All}
use Rattle.fields.specs.Fields.{le16, le32}
use Rattle.obj.specs.declared.Symbol.{Symbol}
use Rattle.obj.specs.declared.Reloc.{Reloc}
use Rattle.obj.specs.declared.Unit as units
use Rattle.run.specs.Run.{Result}
use Rattle.lines.specs.Lines.{total_line}
use Rattle.listing.specs.Listing.{Run, sizes, commons, figure, units_lines, listing}
use Rattle.listing.specs.Tables.{Records, Tables, run_of}
use Rattle.pieces.specs.Pieces.{piece_width}
use Rattle.pieces.specs.declared.PieceSymbol.{PieceSymbol}

-- f from + f (from + 1) + .., so many
unfoldable pub sum : (f : ℕ → ℕ) → (from count : ℕ) → ℕ
sum f from zero = 0
sum f from (suc count) = f from + sum f (suc from) count

-- what is listed of a result; in whatever way names and relocations are read, they have no say in the totals
abbrev pub listed : (name : ℕ → List ℕ) → (symbol : ℕ → Symbol) → (reloc : ℕ → Reloc) → Result → Run
listed name symbol reloc r = record {
  name = name;
  symbol = symbol;
  reloc = reloc;
  units = map (λ (u : units.Unit). u.name) r.units;
  pieces = r.output.pieces;
  symbols = r.output.symbols;
  relocs = r.output.relocs;
}

-- ---- of rows

-- "each once": no unit lists a symbol twice
unfoldable pub Once : List PieceSymbol → Type 0
Once [] = Unit {0}
Once (y ∷ later) = All (λ z. z.unit ≡ y.unit → z.symbol ≡ y.symbol → ⊥) later × Once later

-- the sizes of all pieces and of all common symbols of known size
abbrev pub total_of : Run → ℕ
total_of t = sizes t.pieces + commons t.symbol t.symbols

pub record Totals (t : Run) : Type 0 where
  -- each piece and each symbol is of a unit that is listed, so that none is left out of the figures
  pub units : All (λ p. p.unit < length t.units) t.pieces
  pub symbol_units : All (λ y. y.unit < length t.units) t.symbols
  pub once : Once t.symbols
  -- the listing's last line: its bytes are the sum of the sizes of all pieces and of all common symbols of known size
  pub line : listing t ≡ units_lines t 0 t.units ++ total_line (length t.units) (length t.pieces) (total_of t)
  -- .. and the sum of the figures of all units
  pub figures : total_of t ≡ sum (figure t) 0 (length t.units)
  -- .. in 64 bits
  pub fits : total_of t < 18446744073709551616

-- ---- of bytes

-- a piece record: at its front "unit 2", at 12 "size 4"
abbrev pub unit_in : (pieces : List ℕ) → (k : ℕ) → ℕ
unit_in pieces k = le16 pieces (piece_width * k)

abbrev pub size_in : (pieces : List ℕ) → (k : ℕ) → ℕ
size_in pieces k = le32 pieces (piece_width * k + 12)

-- what record k adds to a unit's figure: its size, if it is the unit's
abbrev pub added_by : (pieces : List ℕ) → (unit k : ℕ) → ℕ
added_by pieces unit k = cond (eqb (unit_in pieces k) unit) (size_in pieces k) 0

-- a piece symbol's record: at its front "unit 2", at 2 "piece 2", at 4 "symbol 2", the number of the image's symbol; that one's record: at 8 "size 4", at 12 "size known 1"
abbrev pub symbol_place : (entries : List ℕ) → (symbols : Records) → (k : ℕ) → ℕ
symbol_place entries symbols k = get_or symbols.places (le16 entries (12 * k + 4)) 0

-- the size of the image's symbol, if the record is listed as common and that size is known
abbrev pub common_in : (entries : List ℕ) → (symbols : Records) → (k : ℕ) → ℕ
common_in entries symbols k =
    cond (eqb (le16 entries (12 * k + 2)) 65535)
    (cond (eqb (get_or symbols.bytes (symbol_place entries symbols k + 12) 0) 1) (le32 symbols.bytes (symbol_place entries symbols k + 8)) 0)
    0

-- what record k adds to a unit's figure
abbrev pub common_by : (entries : List ℕ) → (symbols : Records) → (unit k : ℕ) → ℕ
common_by entries symbols unit k = cond (eqb (le16 entries (12 * k)) unit) (common_in entries symbols k) 0

-- a unit's figure: of all records of both tables, those whose unit it is
abbrev pub figure_in : Tables → (unit : ℕ) → ℕ
figure_in t unit =
    sum (added_by t.pieces.bytes unit) 0 t.pieces.count
    + sum (common_by t.piece_symbols.bytes t.symbols unit) 0 t.piece_symbols.count

-- all records of both tables
abbrev pub total_in : Tables → ℕ
total_in t =
    sum (size_in t.pieces.bytes) 0 t.pieces.count + sum (common_in t.piece_symbols.bytes t.symbols) 0 t.piece_symbols.count

pub record Read (t : Tables) : Type 0 where
  pub figure : (unit : ℕ) → figure (run_of t) unit ≡ figure_in t unit
  -- the listing's last line
  pub line : listing (run_of t) ≡ units_lines (run_of t) 0 (run_of t).units ++ total_line (length t.units.places) t.pieces.count (total_in t)
  -- .. and the sum of the figures of all units
  pub figures : total_in t ≡ sum (figure_in t) 0 (length t.units.places)
  -- .. in 64 bits
  pub fits : total_in t < 18446744073709551616
