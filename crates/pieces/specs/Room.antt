-- What the tables of the walk's output may hold: no more than lies in them.
use Rattle.std.specs.Prelude.{ℕ, ◌*◌, ◌≤◌, List, length}
use Rattle.pieces.specs.declared.Counts.{Counts}
use Rattle.pieces.specs.Pieces.{piece_width}

-- so many were made, in tables with room for so many
pub record Fits (pieces symbols relocs : List ℕ) (room made : Counts) : Type 0 where
  pub pieces_long : piece_width * room.pieces ≤ length pieces
  pub symbols_long : 12 * room.symbols ≤ length symbols
  pub relocs_long : 8 * room.relocs ≤ length relocs
  pub few_pieces : made.pieces ≤ room.pieces
  pub few_symbols : made.symbols ≤ room.symbols
  pub few_relocs : made.relocs ≤ room.relocs

-- "1,024 pieces, 4,096 piece symbols, 4,096 piece relocations" at most
pub record Ceilings (room : Counts) : Type 0 where
  pub pieces : room.pieces ≤ 1024
  pub symbols : room.symbols ≤ 4096
  pub relocs : room.relocs ≤ 4096
