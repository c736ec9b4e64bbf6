-- What the walk leaves in its three outputs: its records, and zeros after them.
use Rattle.std.specs.Prelude.{ℕ, ◌*◌, ◌≤◌, ◌≡◌, List}
use Rattle.lists.specs.Tables.{laid}
use Rattle.pieces.specs.declared.Counts.{Counts}
use Rattle.pieces.specs.Pieces.{piece_bytes, symbol_bytes, reloc_bytes, packed, piece_width}
use Rattle.walk.specs.Walk.{Output}

-- the walk's records are whole in tables of these sizes
pub record OutputFits (made : Counts) (pieces symbols relocs : ℕ) : Type 0 where
  pub pieces_fit : piece_width * made.pieces ≤ pieces
  pub symbols_fit : 12 * made.symbols ≤ symbols
  pub relocs_fit : 8 * made.relocs ≤ relocs
  pub few_pieces : made.pieces ≤ 1024
  pub few_symbols : made.symbols ≤ 4096
  pub few_relocs : made.relocs ≤ 4096

-- .. and are there, zeros after them
pub record OutputLaid (out : Output) (pieces_size symbols-size relocs-size : ℕ) (pieces symbols relocs : List ℕ) : Type 0 where
  pub pieces_are : pieces ≡ laid pieces_size (packed piece_bytes out.pieces)
  pub symbols_are : symbols ≡ laid symbols-size (packed symbol_bytes out.symbols)
  pub relocs_are : relocs ≡ laid relocs-size (packed reloc_bytes out.relocs)
