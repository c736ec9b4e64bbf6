-- `walk::output::give_piece` meets its contract: no room, or the relocations and the piece stand behind those that were there.
use mathlib.Core.Path.{sym, ap, ◌∙◌}
use mathlib.Core.Bool.{true, ◌&&◌}
use Prim.Native.Nat.{ℕ, ◌+◌}
use native.Mathlib.Omega.{arith}
use lib.Dec.{leb, ltb}
use lib.ListN.{length, length-append}
use Rattle.lists.specs.Rows.{keep_if}
use Rattle.pieces.specs.declared.Counts.{Counts}
use Rattle.pieces.specs.declared.Piece.{Piece}
use Rattle.pieces.specs.Tables.{pieces_of, relocs_of}
use Rattle.pieces.proofs.Laws.{length-pieces_in, length-relocs_in}
use Rattle.pieces.proofs.Same.{lent_same}
use Rattle.piece_columns.proofs.Same.{counted_same}
use Rattle.relocs.specs.Relocs.{reloc_of, address_of}
use Rattle.relocs.proofs.Laws.{section_ordered, readable_part}
use Rattle.sections.specs.Sections.{head_of}
use Rattle.walk.specs.Giving.{pieces_with, relocs_with}
use Rattle.walk.proofs.Adding.{length_relocs}
use Rattle.walk.proofs.Giving.{full_test, room_left, piece_unit, kept_above}
use Rattle.walk.proofs.output.give_piece.Goals as goal

pub range-inside-requires : goal.range-inside-requires
range-inside-requires c = (let p = c.requires.1 in section_ordered _ _ _ c.args.n p.whole p.rising p.is)

pub returns-then-tables-most : goal.returns-then-tables-most
returns-then-tables-most c =
    let a = c.args in
    let t = a.tables.now in
    let reloc = reloc_of a.relocs.now.bytes.now a.relocs.now.places.now in
    let address = address_of a.relocs.now.bytes.now a.relocs.now.places.now in (
      full_test t.room t.made (pieces_with (head_of a.heads.now.bytes.now a.heads.now.places.now a.n) a.n a.target.unit a.target.alignment a.s (pieces_of t)) (relocs_with reloc (length a.relocs.now.places.now) a.n a.s t.made.pieces (relocs_of t)) _ true
          (length-append (pieces_of t) _ ∙ ap (λ (m : ℕ). m + 1) (length-pieces_in t.pieces.now t.made.pieces))
          (length_relocs reloc t.made.pieces a.s.start (relocs_of t) _
          ∙ (λ d. length-relocs_in t.relocs.now t.made.relocs d + length (sym (c.range-inside.ensures ∙ ap (keep_if (λ (i : ℕ). leb a.s.start (address i) && ltb (address i) a.s.end)) c.requires.1.is) d)))
          c.if-tables-most.true,
      lent_same,
    )

pub add_relocs-requires : goal.add_relocs-requires
add_relocs-requires c =
    let a = c.args in
    let t = a.tables.now in
    let address = address_of a.relocs.now.bytes.now a.relocs.now.places.now in (
      record {
        readable = readable_part _ _ _ _ (let p = c.requires.1 in section_ordered _ _ _ a.n p.whole p.rising p.is).readable c.range-inside.ensures;
        above = kept_above address a.s.start (λ (i : ℕ). ltb (address i) a.s.end) a.part.now c.range-inside.ensures;
        few = omega (arith, c.requires.1.few);
      },
      (room_left t.room t.made _ c.if-tables-most.false).0,
      omega (arith, t.fits.few_pieces, c.requires.6),
    )

pub push_piece-requires : goal.push_piece-requires
push_piece-requires c =
    let a = c.args in
    let t = a.tables.now in
    let added = c.add_relocs.ensures in
    let unit = ap (λ (p : Piece). p.unit) c.piece_of-p.ensures ∙ piece_unit c.record-head.result a.n a.target.unit c.count_of-number.result a.target.alignment a.s in (
      omega (arith, unit, c.requires.3),
      counted_same added.pieces c.requires.0,
      omega (arith, (room_left t.room t.made _ c.if-tables-most.false).1, added.pieces.made, ap (λ (m : Counts). m.pieces) added.lent.room),
      omega (arith, t.fits.few_pieces, c.requires.6, added.pieces.made),
    )
