-- Where the records lie that the walk gave: as many as were made, and no more of them than the walk makes at most.
use Rattle.std.specs.Prelude.{ℕ, ◌*◌, ◌≤◌, List, length}
use Rattle.pieces.specs.declared.Counts.{Counts}
use Rattle.pieces.specs.Pieces.{piece_width}

-- the tables hold as many records as were made, of at most 1,024 pieces and 4,096 piece symbols
pub record Kept (pieces symbols relocs : List ℕ) (made : Counts) : Type 0 where
  pub pieces_long : piece_width * made.pieces ≤ length pieces
  pub symbols_long : 12 * made.symbols ≤ length symbols
  pub relocs_long : 8 * made.relocs ≤ length relocs
  pub few_pieces : made.pieces ≤ 1024
  pub few_symbols : made.symbols ≤ 4096
