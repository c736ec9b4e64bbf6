-- `listing::line_at` meets its contract: the line of the record at which the cursor stands.
-- Assumes nothing.
use native.Mathlib.Omega.{arith}
use mathlib.Core.Path.{refl, ap}
use Prim.Native.Nat.{ℕ, ◌+◌}
use Rattle.listing.specs.declared.Cursor.TheVariants.{Pieces}
use Rattle.listing.proofs.Seeks.{sought_here}
use Rattle.listing.proofs.Nexts.{unit_ready, unit_before, piece_ready, symbol_ready, reloc_ready, next_unit, next_piece, next_symbol, next_reloc, next_total}
use Rattle.listing.proofs.line_at.Goals as goal

pub unit_line-length-requires : goal.unit_line-length-requires
unit_line-length-requires c = (unit_ready c.args.tables.now.readable (sought_here c.args.cursor c.requires.0 c.requires.1) c.in-Units.is, c.requires.2)

pub piece_line-length-requires : goal.piece_line-length-requires
piece_line-length-requires c = (piece_ready c.args.tables.now.readable (sought_here c.args.cursor c.requires.0 c.requires.1) c.in-Pieces.is, c.requires.2)

pub symbol_line-length-requires : goal.symbol_line-length-requires
symbol_line-length-requires c = (symbol_ready c.args.tables.now.readable (sought_here c.args.cursor c.requires.0 c.requires.1) c.in-Symbols.is, c.requires.2)

pub reloc_line-length-requires : goal.reloc_line-length-requires
reloc_line-length-requires c = (reloc_ready c.args.tables.now.readable (sought_here c.args.cursor c.requires.0 c.requires.1) c.in-Relocs.is, c.requires.2)

-- the sum of the figures has 64 bits, and so has the next number of a record
pub overflow_add-bytes : goal.overflow_add-bytes
overflow_add-bytes c = omega (arith, unit_ready c.args.tables.now.readable (sought_here c.args.cursor c.requires.0 c.requires.1) c.in-Units.is, (unit_before c.args.tables.now.readable (sought_here c.args.cursor c.requires.0 c.requires.1) c.in-Units.is).few, c.figure_of-size.ensures.few, c.args.tables.now.readable.few_units)

pub overflow_add-at : goal.overflow_add-at
overflow_add-at c = omega (arith, piece_ready c.args.tables.now.readable (sought_here c.args.cursor c.requires.0 c.requires.1) c.in-Pieces.is)

pub overflow_add-at-in-Symbols : goal.overflow_add-at-in-Symbols
overflow_add-at-in-Symbols c = omega (arith, symbol_ready c.args.tables.now.readable (sought_here c.args.cursor c.requires.0 c.requires.1) c.in-Symbols.is)

pub overflow_add-at-in-Relocs : goal.overflow_add-at-in-Relocs
overflow_add-at-in-Relocs c = omega (arith, reloc_ready c.args.tables.now.readable (sought_here c.args.cursor c.requires.0 c.requires.1) c.in-Relocs.is, c.args.tables.now.counted)

pub returns-in-Units : goal.returns-in-Units
returns-in-Units c =
    let g = c.in-Units in
    let size = c.figure_of-size.ensures in
    next_unit c.args.tables.now.readable (sought_here c.args.cursor c.requires.0 c.requires.1) g.unit g.bytes g.is (omega (arith, size.is, size.few))
    (record { written = rw size.is at c.unit_line-length.ensures; next = ap (λ (k : ℕ). Pieces g.unit 0 (g.bytes + k)) size.is })

pub returns-in-Pieces : goal.returns-in-Pieces
returns-in-Pieces c = let g = c.in-Pieces in next_piece c.args.tables.now.readable (sought_here c.args.cursor c.requires.0 c.requires.1) g.unit g.at g.bytes g.is (record { written = c.piece_line-length.ensures; next = refl })

pub returns-in-Symbols : goal.returns-in-Symbols
returns-in-Symbols c = let g = c.in-Symbols in next_symbol c.args.tables.now.readable (sought_here c.args.cursor c.requires.0 c.requires.1) g.unit g.at g.bytes g.is (record { written = c.symbol_line-length.ensures; next = refl })

pub returns-in-Relocs : goal.returns-in-Relocs
returns-in-Relocs c = let g = c.in-Relocs in next_reloc c.args.tables.now.readable (sought_here c.args.cursor c.requires.0 c.requires.1) g.unit g.at g.bytes g.is (record { written = c.reloc_line-length.ensures; next = refl })

pub returns-in-Total : goal.returns-in-Total
returns-in-Total c = next_total c.args.tables.now.readable (sought_here c.args.cursor c.requires.0 c.requires.1) c.in-Total.bytes c.in-Total.is c.write_total-length.ensures
