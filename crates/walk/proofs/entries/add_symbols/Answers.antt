-- `walk::entries::add_symbols` meets its contract: a turn adds a symbol, and where there is no room for it there is none for all.
use mathlib.Core.Path.{◌≡◌, sym, ap, ◌∙◌}
use mathlib.Core.List.{List}
use Prim.Native.Nat.{ℕ, ◌+◌}
use native.Mathlib.Omega.{arith}
use lib.ListN.{length, get_or, drop}
use Rattle.lists.proofs.All.{all_at}
use Rattle.obj.proofs.Errors.{is_err}
use Rattle.symbol_order.specs.Order.{symbol_of}
use Rattle.symbol_order.proofs.Parts.{held_at}
use Rattle.sections.specs.Image.{image_of}
use Rattle.pieces.specs.declared.Counts.{Counts}
use Rattle.pieces.specs.declared.PieceSymbol.{PieceSymbol}
use Rattle.pieces.specs.Tables.{symbols_of}
use Rattle.pieces.proofs.Same.{pieces_still, relocs_still, lent_still}
use Rattle.walk.specs.Walk.{add_symbol, add_symbols}
use Rattle.walk.proofs.Adding.{symbols_longer, symbols_turn, symbols_done}
use Rattle.walk.proofs.entries.add_symbols.Goals as goal

pub add_symbol-requires : goal.add_symbol-requires
add_symbol-requires c =
    let l = c.loop-i in
    let h = c.loop-i-test.true in
    let e = c.from.ensures in (
      held_at _ _ _ c.requires.0.readable l.i-index _ h e,
      c.requires.1,
      omega (arith, all_at l.i-index 0 c.requires.0.above h, ap (λ (i : ℕ). (symbol_of c.args.symbols.now.bytes.now c.args.symbols.now.places.now i).address) e),
      l.invariant.1,
    )

pub returns-in_err-add_symbol : goal.returns-in_err-add_symbol
returns-in_err-add_symbol c =
    let a = c.args in
    let g = image_of a.symbols.now.bytes.now a.symbols.now.places.now a.names.now.bytes.now a.names.now.places.now a.names.now.lengths.now in
    let l = c.loop-i in
    let place = a.tables.now.made.pieces in
    let out = symbols_of l.tables in
    let more = add_symbol g a.unit place a.s out (get_or a.part.now l.i-index 0) in
    let asked : add_symbol g a.unit l.tables.made.pieces a.s out c.from.result ≡ more = λ d. add_symbol g a.unit (l.invariant.2.made d) a.s out (c.from.ensures d) in
    let full = c.in_err-add_symbol.ensures in
    rw (is_err _ c.from_residual.ensures.1) (
      omega (
        arith,
        full.0,
        ap (λ (m : Counts). m.symbols) l.invariant.4.room,
        ap (λ (e : List PieceSymbol). length e) asked,
        symbols_longer g a.unit place a.s more (drop (l.i-index + 1) a.part.now),
        ap (λ (e : List PieceSymbol). length e) (symbols_turn g a.unit place a.s out a.part.now l.i-index c.loop-i-test.true),
        ap (λ (e : List PieceSymbol). length e) l.invariant.5,
      ),
      lent_still l.invariant.4 full.1,
    )

pub loop-i-preserved : goal.loop-i-preserved
loop-i-preserved c =
    let a = c.args in
    let g = image_of a.symbols.now.bytes.now a.symbols.now.places.now a.names.now.bytes.now a.names.now.places.now a.names.now.lengths.now in
    let l = c.loop-i in
    let place = a.tables.now.made.pieces in
    let out = symbols_of l.tables in
    let asked : add_symbol g a.unit l.tables.made.pieces a.s out c.from.result ≡ add_symbol g a.unit place a.s out (get_or a.part.now l.i-index 0) =
    λ d. add_symbol g a.unit (l.invariant.2.made d) a.s out (c.from.ensures d) in
    let now = c.in_ok-add_symbol.ensures in (
      let h = c.loop-i-test.true in omega arith,
      record {
        chained = now.chained;
        most = omega (arith, l.invariant.1.most, ap (λ (m : Counts). m.symbols) now.lent.room);
        placed = omega (arith, l.invariant.1.placed, now.pieces.made);
        long = omega (arith, l.invariant.1.long, c.add_symbol.auto.chains, ap (λ (m : Counts). m.symbols) now.lent.room);
        most_symbols = l.invariant.1.most_symbols;
      },
      pieces_still l.invariant.2 now.pieces,
      relocs_still l.invariant.3 now.relocs,
      lent_still l.invariant.4 now.lent,
      ap (λ (e : List PieceSymbol). add_symbols g a.unit place a.s e (drop (l.i-index + 1) a.part.now)) (now.is ∙ asked)
          ∙ sym (symbols_turn g a.unit place a.s out a.part.now l.i-index c.loop-i-test.true)
          ∙ l.invariant.5,
    )

pub returns : goal.returns
returns c =
    let a = c.args in
    let g = image_of a.symbols.now.bytes.now a.symbols.now.places.now a.names.now.bytes.now a.names.now.places.now a.names.now.lengths.now in
    let l = c.loop-i in
    record {
      is = sym (symbols_done g a.unit a.tables.now.made.pieces a.s (symbols_of l.tables) a.part.now l.i-index c.loop-i-test.false) ∙ l.invariant.5;
      chained = l.invariant.1.chained;
      pieces = l.invariant.2;
      relocs = l.invariant.3;
      lent = l.invariant.4;
    }
