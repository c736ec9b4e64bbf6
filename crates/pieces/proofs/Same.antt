-- Tables whose bytes and number of records stay hold the same records, also over two steps. Assumes nothing.
use mathlib.Core.Path.{◌≡◌, refl, ap₂, ◌∙◌}
use Rattle.pieces.specs.declared.lent.PieceTables.{PieceTables}
use Rattle.pieces.specs.Pieces.{pieces_in, symbols_in, relocs_in}
use Rattle.pieces.specs.Tables.{pieces_of, symbols_of, relocs_of, SamePieces, SameSymbols, SameRelocs, SameLent}

module _ {a b : PieceTables} where
  pub pieces_same : SamePieces a b → pieces_of b ≡ pieces_of a
  pieces_same s = ap₂ pieces_in s.bytes s.made

  pub symbols_same : SameSymbols a b → symbols_of b ≡ symbols_of a
  symbols_same s = ap₂ symbols_in s.bytes s.made

  pub relocs_same : SameRelocs a b → relocs_of b ≡ relocs_of a
  relocs_same s = ap₂ relocs_in s.bytes s.made

  module _ {c : PieceTables} where
    pub pieces_still : SamePieces a b → SamePieces b c → SamePieces a c
    pieces_still s t = record { bytes = t.bytes ∙ s.bytes; made = t.made ∙ s.made }

    pub symbols_still : SameSymbols a b → SameSymbols b c → SameSymbols a c
    symbols_still s t = record { bytes = t.bytes ∙ s.bytes; made = t.made ∙ s.made }

    pub relocs_still : SameRelocs a b → SameRelocs b c → SameRelocs a c
    relocs_still s t = record { bytes = t.bytes ∙ s.bytes; made = t.made ∙ s.made }

    pub lent_still : SameLent a b → SameLent b c → SameLent a c
    lent_still s t = record {
      room = t.room ∙ s.room;
      pieces = t.pieces ∙ s.pieces;
      symbols = t.symbols ∙ s.symbols;
      relocs = t.relocs ∙ s.relocs;
      pieces_size = t.pieces_size ∙ s.pieces_size;
      symbols_size = t.symbols_size ∙ s.symbols_size;
      relocs_size = t.relocs_size ∙ s.relocs_size;
    }

pub lent_same : {a : PieceTables} → SameLent a a
lent_same = record { room = refl; pieces = refl; symbols = refl; relocs = refl; pieces_size = refl; symbols_size = refl; relocs_size = refl }
