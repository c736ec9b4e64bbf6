-- The listing of a run: document 01, "Unit: number, name, sum of its piece sizes. Piece: number in its unit, name, address, size, alignment. Total: units, pieces,
-- bytes. After a unit's pieces come `sym` ..; then `reloc` ..". Pieces, symbols and relocations lie in the walk's order; the listing groups them by unit and keeps
-- that order (DECISIONS.md, 71). Document 02, (c), adds the common symbols of known size to the unit's figure (DECISIONS.md, 135 and 136). Each figure is summed from
-- the pieces and the piece symbols, in 64 bits.
use Rattle.std.specs.Prelude.{ℕ, Option, Some, None, suc, ◌+◌, List, [], ◌∷◌, ◌++◌, cond, length, get_or, eqb}
use Rattle.lists.specs.Rows.{keep_if}
use Rattle.obj.specs.declared.Symbol.{Symbol}
use Rattle.obj.specs.declared.Reloc.{Reloc}
use Rattle.pieces.specs.declared.Piece.{Piece}
use Rattle.pieces.specs.declared.PieceSymbol.{PieceSymbol}
use Rattle.pieces.specs.declared.PieceReloc.{PieceReloc}
use Rattle.lines.specs.Lines.{unit_line, piece_line, sym_line, reloc_line, total_line}

-- what is listed: names, symbols and relocations by number, the units' names in link order, and what the walk gave
pub record Run : Type 0 where
  pub name : ℕ → List ℕ
  pub symbol : ℕ → Symbol
  pub reloc : ℕ → Reloc
  pub units : List ℕ
  pub pieces : List Piece
  pub symbols : List PieceSymbol
  pub relocs : List PieceReloc

-- ---- the figures

-- the sum of what each of these adds
unfoldable pub sum_by : {A : Type 0} → (adds : A → ℕ) → List A → ℕ
sum_by adds [] = 0
sum_by adds (x ∷ later) = adds x + sum_by adds later

abbrev pub sizes : List Piece → ℕ
sizes pieces = sum_by (λ (p : Piece). p.size) pieces

abbrev pub pieces_of : (unit : ℕ) → List Piece → List Piece
pieces_of unit pieces = keep_if (λ (p : Piece). eqb p.unit unit) pieces

abbrev pub symbols_of : (unit : ℕ) → List PieceSymbol → List PieceSymbol
symbols_of unit symbols = keep_if (λ (y : PieceSymbol). eqb y.unit unit) symbols

-- what a listed symbol adds: "the sizes of the unit's symbols of known size that are listed as `common`"; size and size known are those of the image's symbol
abbrev pub common_size : (symbol : ℕ → Symbol) → PieceSymbol → ℕ
common_size symbol y = cond (eqb y.piece 65535) (cond (eqb (symbol y.symbol).size_known 1) (symbol y.symbol).size 0) 0

abbrev pub commons : (symbol : ℕ → Symbol) → List PieceSymbol → ℕ
commons symbol symbols = sum_by (common_size symbol) symbols

-- "the unit figure is the pieces' sizes plus the sizes of the unit's symbols of known size that are listed as `common`, each once"
abbrev pub figure_of : (symbol : ℕ → Symbol) → List Piece → List PieceSymbol → (unit : ℕ) → ℕ
figure_of symbol pieces symbols unit = sizes (pieces_of unit pieces) + commons symbol (symbols_of unit symbols)

abbrev pub figure : Run → (unit : ℕ) → ℕ
figure t unit = figure_of t.symbol t.pieces t.symbols unit

-- the sum of the figures of so many units, from this one on
unfoldable pub figures : Run → (unit : ℕ) → (units : List ℕ) → ℕ
figures t unit [] = 0
figures t unit (name ∷ later) = figure t unit + figures t (suc unit) later

-- ---- the lines of a unit

abbrev pub piece_in : Run → (place : ℕ) → Piece
piece_in t place = get_or t.pieces place (record { unit = 0; number = 0; section = 0; name = 0; address = 0; size = 0; alignment = 0; offset = 0; origin = 0 })

unfoldable pub piece_lines : Run → List Piece → List ℕ
piece_lines t [] = []
piece_lines t (p ∷ later) = piece_line p.number (t.name p.name) p.address p.size p.alignment p.origin ++ piece_lines t later

-- "piece or `common`"
abbrev pub owner_in : Run → (place : ℕ) → Option ℕ
owner_in t place = cond (eqb place 65535) None (Some (piece_in t place).number)

-- name and size are those of the image's symbol
unfoldable pub sym_lines : Run → List PieceSymbol → List ℕ
sym_lines t [] = []
sym_lines t (y ∷ later) =
    sym_line (t.name (t.symbol y.symbol).name) (owner_in t y.piece) y.address (t.symbol y.symbol).size ++ sym_lines t later

-- a relocation is its piece's unit's
abbrev pub relocs_of : Run → (unit : ℕ) → List PieceReloc → List PieceReloc
relocs_of t unit relocs = keep_if (λ (r : PieceReloc). eqb (piece_in t r.piece).unit unit) relocs

-- kind, target and addend are those of the image's relocation
unfoldable pub reloc_lines : Run → List PieceReloc → List ℕ
reloc_lines t [] = []
reloc_lines t (r ∷ later) =
    reloc_line (piece_in t r.piece).number r.offset (t.reloc r.relocation).kind (t.reloc r.relocation).target (t.reloc r.relocation).addend
    ++ reloc_lines t later

unfoldable pub unit_lines : Run → (unit name : ℕ) → List ℕ
unit_lines t unit name =
    unit_line unit (t.name name) (figure t unit)
    ++ piece_lines t (pieces_of unit t.pieces)
    ++ sym_lines t (symbols_of unit t.symbols)
    ++ reloc_lines t (relocs_of t unit t.relocs)

-- ---- the listing

-- these units' lines, numbered from `unit` on
unfoldable pub units_lines : Run → (unit : ℕ) → (units : List ℕ) → List ℕ
units_lines t unit [] = []
units_lines t unit (name ∷ later) = unit_lines t unit name ++ units_lines t (suc unit) later

unfoldable pub listing : Run → List ℕ
listing t = units_lines t 0 t.units ++ total_line (length t.units) (length t.pieces) (figures t 0 t.units)
