-- `walk::entries::add_symbol` meets its contract: the symbol is passed over, or the unit has it, or there is no room, or it is entered.
use mathlib.Core.Path.{◌≡◌, refl, sym, ap, ap₂, ◌∙◌}
use mathlib.Core.List.{[], ◌∷◌, ◌++◌}
use mathlib.Core.Bool.{Bool, ◌||◌}
use native.Mathlib.Omega.{arith}
use lib.ListN.{length, length-append}
use Rattle.sections.specs.Image.{image_of}
use Rattle.pieces.specs.declared.PieceSymbol.{PieceSymbol}
use Rattle.pieces.specs.Tables.{symbols_of}
use Rattle.pieces.proofs.Laws.{length-symbols_in}
use Rattle.pieces.proofs.Same.{lent_same}
use Rattle.piece_columns.proofs.Regions.{length_lasts, length_prevs}
use Rattle.walk.specs.Walk.{entry_of, add_symbol}
use Rattle.walk.proofs.Adding.{entry_symbol, symbol_passed, symbol_entered}
use Rattle.walk.proofs.entries.add_symbol.Goals as goal
use Rattle.walk.proofs.entries.add_symbol.Goals.{Else-is_passed_over-is_entered}

-- a symbol that is not passed over is entered
entered : (c : Else-is_passed_over-is_entered)
    → symbols_of c.args.tables.now ++ (entry_of c.args.unit c.args.tables.now.made.pieces c.args.s c.args.i c.record-y.result ∷ [])
    ≡ add_symbol (image_of c.args.symbols.now.bytes.now c.args.symbols.now.places.now c.args.names.now.bytes.now c.args.names.now.places.now c.args.names.now.lengths.now) c.args.unit c.args.tables.now.made.pieces c.args.s (symbols_of c.args.tables.now) c.args.i
entered c =
    let a = c.args in
    symbol_entered (image_of a.symbols.now.bytes.now a.symbols.now.places.now a.names.now.bytes.now a.names.now.places.now a.names.now.lengths.now) a.unit a.tables.now.made.pieces a.s (symbols_of a.tables.now) a.i c.record-y.result c.name_at-name.result.now c.record-y.ensures c.name_at-name.ensures
    (ap₂ (λ (p q : Bool). p || q) (sym c.is_passed_over.ensures) (sym c.is_entered.ensures) ∙ c.if-is_passed_over-is_entered.false)

pub is_entered-requires : goal.is_entered-requires
is_entered-requires c =
    let e = c.requires.3 in
    (omega (arith, c.requires.0.there, e.most_symbols, length_lasts c.args.chains.now (omega (arith, e.long))), e.chained)

pub returns-then-is_passed_over-is_entered : goal.returns-then-is_passed_over-is_entered
returns-then-is_passed_over-is_entered c =
    let a = c.args in
    record {
      is = symbol_passed (image_of a.symbols.now.bytes.now a.symbols.now.places.now a.names.now.bytes.now a.names.now.places.now a.names.now.lengths.now) a.unit a.tables.now.made.pieces a.s (symbols_of a.tables.now) a.i c.record-y.result c.name_at-name.result.now c.record-y.ensures c.name_at-name.ensures
          (ap₂ (λ (p q : Bool). p || q) (sym c.is_passed_over.ensures) (sym c.is_entered.ensures) ∙ c.if-is_passed_over-is_entered.true);
      chained = c.requires.3.chained;
      pieces = record { bytes = refl; made = refl };
      relocs = record { bytes = refl; made = refl };
      lent = lent_same;
    }

pub returns-then-tables : goal.returns-then-tables
returns-then-tables c =
    let t = c.args.tables.now in (
      omega (arith, c.if-tables.true, length-symbols_in t.symbols.now t.made.symbols, length-append (symbols_of t) (entry_of c.args.unit t.made.pieces c.args.s c.args.i c.record-y.result ∷ []), ap length (entered (goal.at.returns-then-tables c).Else-is_passed_over-is_entered)),
      lent_same,
    )

pub push_symbol-requires : goal.push_symbol-requires
push_symbol-requires c =
    let t = c.args.tables.now in
    let h = c.if-tables.false in
    let e = c.requires.3 in
    let y = ap (λ (y : PieceSymbol). y.symbol) c.entry_of.ensures ∙ entry_symbol c.args.unit t.made.pieces c.args.s c.args.i c.record-y.result in (
      omega (arith, y, c.requires.0.there, e.most_symbols, length_lasts c.args.chains.now (omega (arith, e.long))),
      e.chained,
      omega (arith, t.fits.few_symbols, h, e.long, length_prevs c.args.chains.now),
      omega (arith, t.fits.few_symbols, h),
      omega (arith, t.fits.few_symbols, e.most, h),
    )

pub returns : goal.returns
returns c =
    let pushed = c.push_symbol.ensures in
    record {
      is = pushed.added.more ∙ ap (λ (y : PieceSymbol). symbols_of c.args.tables.now ++ (y ∷ [])) c.entry_of.ensures
          ∙ entered (goal.at.returns c).Else-is_passed_over-is_entered;
      chained = pushed.chained;
      pieces = pushed.added.pieces;
      relocs = pushed.added.relocs;
      lent = pushed.added.lent;
    }
