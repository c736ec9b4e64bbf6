-- What the walk's tables hold, and a record more: the other tables and the room stay as they are.
use Rattle.std.specs.Prelude.{◌+◌, ◌≡◌, List, [], ◌∷◌, ◌++◌, length}
use Rattle.pieces.specs.declared.Piece.{Piece}
use Rattle.pieces.specs.declared.PieceSymbol.{PieceSymbol}
use Rattle.pieces.specs.declared.PieceReloc.{PieceReloc}
use Rattle.pieces.specs.declared.lent.PieceTables.{PieceTables}
use Rattle.pieces.specs.Pieces.{pieces_in, symbols_in, relocs_in}

-- the records that are made
abbrev pub pieces_of : PieceTables → List Piece
pieces_of t = pieces_in t.pieces.now t.made.pieces

abbrev pub symbols_of : PieceTables → List PieceSymbol
symbols_of t = symbols_in t.symbols.now t.made.symbols

abbrev pub relocs_of : PieceTables → List PieceReloc
relocs_of t = relocs_in t.relocs.now t.made.relocs

-- one table's records stay as they are
pub record SamePieces (before after : PieceTables) : Type 0 where
  pub bytes : after.pieces.now ≡ before.pieces.now
  pub made : after.made.pieces ≡ before.made.pieces

pub record SameSymbols (before after : PieceTables) : Type 0 where
  pub bytes : after.symbols.now ≡ before.symbols.now
  pub made : after.made.symbols ≡ before.made.symbols

pub record SameRelocs (before after : PieceTables) : Type 0 where
  pub bytes : after.relocs.now ≡ before.relocs.now
  pub made : after.made.relocs ≡ before.made.relocs

-- the same tables are lent, as long as before and with the same room
pub record SameLent (before after : PieceTables) : Type 0 where
  pub room : after.room ≡ before.room
  pub pieces : after.pieces.ghost_name ≡ before.pieces.ghost_name
  pub symbols : after.symbols.ghost_name ≡ before.symbols.ghost_name
  pub relocs : after.relocs.ghost_name ≡ before.relocs.ghost_name
  pub pieces_size : length after.pieces.now ≡ length before.pieces.now
  pub symbols_size : length after.symbols.now ≡ length before.symbols.now
  pub relocs_size : length after.relocs.now ≡ length before.relocs.now

-- a record more
pub record AddedPiece (before after : PieceTables) (p : Piece) : Type 0 where
  pub more : pieces_of after ≡ pieces_of before ++ (p ∷ [])
  pub one : after.made.pieces ≡ before.made.pieces + 1
  pub symbols : SameSymbols before after
  pub relocs : SameRelocs before after
  pub lent : SameLent before after

pub record AddedSymbol (before after : PieceTables) (y : PieceSymbol) : Type 0 where
  pub more : symbols_of after ≡ symbols_of before ++ (y ∷ [])
  pub one : after.made.symbols ≡ before.made.symbols + 1
  pub pieces : SamePieces before after
  pub relocs : SameRelocs before after
  pub lent : SameLent before after

pub record AddedReloc (before after : PieceTables) (r : PieceReloc) : Type 0 where
  pub more : relocs_of after ≡ relocs_of before ++ (r ∷ [])
  pub one : after.made.relocs ≡ before.made.relocs + 1
  pub pieces : SamePieces before after
  pub symbols : SameSymbols before after
  pub lent : SameLent before after
