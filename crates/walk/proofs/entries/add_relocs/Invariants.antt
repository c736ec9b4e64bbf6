-- `walk::entries::add_relocs` meets its contract. Invariant: adding the relocations that are left to those so far adds them all.
use mathlib.Core.Path.{◌≡◌}
use Prim.Native.Nat.{◌+◌, ◌≤◌}
use lib.ListN.{length, drop}
use Rattle.pieces.specs.Tables.{relocs_of, SamePieces, SameSymbols, SameLent}
use Rattle.relocs.specs.Relocs.{reloc_of}
use Rattle.walk.specs.Walk.{add_relocs}
use Rattle.walk.proofs.entries.add_relocs.Given as goal

abbrev pub invariant-loop-i : goal.invariant-loop-i
invariant-loop-i l =
    (l.i-index ≤ length l.part) × (l.tables.made.relocs ≡ l.initial.tables.made.relocs + l.i-index)
    × SamePieces l.initial.tables l.tables × SameSymbols l.initial.tables l.tables × SameLent l.initial.tables l.tables
    × (add_relocs (reloc_of l.relocs.bytes.now l.relocs.places.now) l.place l.start (relocs_of l.tables) (drop l.i-index l.part)
    ≡ add_relocs (reloc_of l.relocs.bytes.now l.relocs.places.now) l.place l.start (relocs_of l.initial.tables) l.part)
