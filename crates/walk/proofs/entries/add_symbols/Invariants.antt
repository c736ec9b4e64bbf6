-- `walk::entries::add_symbols` meets its contract. Invariant: adding the symbols that are left to the entries so far adds them all.
use mathlib.Core.Path.{◌≡◌}
use Prim.Native.Nat.{◌≤◌}
use lib.ListN.{length, drop}
use Rattle.sections.specs.Image.{image_of}
use Rattle.pieces.specs.Tables.{symbols_of, SamePieces, SameRelocs, SameLent}
use Rattle.walk.specs.Walk.{add_symbols}
use Rattle.walk.specs.Adding.{Entries}
use Rattle.walk.proofs.entries.add_symbols.Given as goal

abbrev pub invariant-loop-i : goal.invariant-loop-i
invariant-loop-i l =
    (l.i-index ≤ length l.part) × Entries (length l.symbols.places.now) l.chains l.tables
    × SamePieces l.initial.tables l.tables × SameRelocs l.initial.tables l.tables × SameLent l.initial.tables l.tables
    × (add_symbols (image_of l.symbols.bytes.now l.symbols.places.now l.names.bytes.now l.names.places.now l.names.lengths.now) l.unit l.initial.tables.made.pieces l.s (symbols_of l.tables) (drop l.i-index l.part)
    ≡ add_symbols (image_of l.symbols.bytes.now l.symbols.places.now l.names.bytes.now l.names.places.now l.names.lengths.now) l.unit l.initial.tables.made.pieces l.s (symbols_of l.initial.tables) l.part)
