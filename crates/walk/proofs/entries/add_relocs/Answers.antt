-- `walk::entries::add_relocs` meets its contract. Invariant: adding the relocations that are left to those so far adds them all.
use mathlib.Core.Path.{◌≡◌, sym, ap, ◌∙◌}
use mathlib.Core.List.{List, [], ◌∷◌, ◌++◌}
use Prim.Native.Nat.{ℕ, ◌+◌}
use native.Mathlib.Omega.{arith}
use lib.ListN.{length, get_or, drop}
use Rattle.lists.proofs.All.{all_at}
use Rattle.obj.specs.declared.Reloc.{Reloc}
use Rattle.pieces.specs.declared.PieceReloc.{PieceReloc}
use Rattle.pieces.specs.Tables.{relocs_of}
use Rattle.pieces.proofs.Same.{pieces_still, symbols_still, lent_still}
use Rattle.relocs.specs.Relocs.{reloc_of, address_of}
use Rattle.relocs.proofs.Laws.{held_at}
use Rattle.walk.specs.Walk.{reloc_entry, add_relocs}
use Rattle.walk.proofs.Adding.{relocs_turn, relocs_done}
use Rattle.walk.proofs.entries.add_relocs.Goals as goal

pub record-r-requires : goal.record-r-requires
record-r-requires c = held_at _ _ _ c.requires.0.readable c.loop-i.i-index _ c.loop-i-test.true c.from.ensures

pub overflow_sub-r : goal.overflow_sub-r
overflow_sub-r c = omega (arith, all_at c.loop-i.i-index 0 c.requires.0.above c.loop-i-test.true, ap (λ (r : Reloc). r.address) c.record-r.ensures, ap (address_of c.args.relocs.now.bytes.now c.args.relocs.now.places.now) c.from.ensures)

pub loop-i-preserved : goal.loop-i-preserved
loop-i-preserved c =
    let a = c.args in
    let l = c.loop-i in
    let f = reloc_of a.relocs.now.bytes.now a.relocs.now.places.now in
    let place = a.tables.now.made.pieces in
    let e = c.add_reloc.ensures in
    let entry = ap (reloc_entry place a.start (get_or a.part.now l.i-index 0)) (c.record-r.ensures ∙ ap f c.from.ensures) in (
      omega arith,
      omega (arith, e.one, l.invariant.1),
      pieces_still l.invariant.2 e.pieces,
      symbols_still l.invariant.3 e.symbols,
      lent_still l.invariant.4 e.lent,
      ap (λ (t : List PieceReloc). add_relocs f place a.start t (drop (l.i-index + 1) a.part.now)) (e.more ∙ ap (λ (r : PieceReloc). relocs_of l.tables ++ (r ∷ [])) entry)
          ∙ sym (relocs_turn f place a.start (relocs_of l.tables) a.part.now l.i-index c.loop-i-test.true)
          ∙ l.invariant.5,
    )

pub returns : goal.returns
returns c =
    let a = c.args in
    let l = c.loop-i in
    let f = reloc_of a.relocs.now.bytes.now a.relocs.now.places.now in
    let e : l.i-index ≡ length a.part.now = omega (arith, l.invariant.0, c.loop-i-test.false) in
    record {
      is = sym (relocs_done f a.tables.now.made.pieces a.start (relocs_of l.tables) a.part.now l.i-index c.loop-i-test.false) ∙ l.invariant.5;
      made = l.invariant.1 ∙ ap (λ (k : ℕ). a.tables.now.made.relocs + k) e;
      pieces = l.invariant.2;
      symbols = l.invariant.3;
      lent = l.invariant.4;
    }
