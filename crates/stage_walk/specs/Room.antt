-- The room of the outputs of the walk: how many records each lent table may take.
use Rattle.std.specs.Prelude.{ℕ, min}
use Rattle.outputs.specs.Room.{room_for}
use Rattle.pieces.specs.declared.Counts.{Counts}
use Rattle.pieces.specs.Pieces.{piece_width}

-- "Outputs: 1,024 pieces, 4,096 piece symbols, 4,096 piece relocations"
abbrev pub room_in : (pieces symbols relocs : ℕ) → Counts
room_in pieces symbols relocs = record { pieces = room_for 1024 piece_width pieces; symbols = room_for 4096 12 symbols; relocs = room_for 4096 8 relocs }

-- what is taken of a room that may be above these
abbrev pub within_ceilings : Counts → Counts
within_ceilings room = record { pieces = min room.pieces 1024; symbols = min room.symbols 4096; relocs = min room.relocs 4096 }
