-- `entry_validate_splits::with_symbols` meets its contract. Symbols that are refused are the answer; else the arrays have their places and their order, and the splits are
-- asked with them. Assumes nothing.
use mathlib.Core.Path.{refl, sym, ◌∙◌}
use lib.ListN.{length}
use Rattle.lists.proofs.Outcomes.{then_stops, then_goes}
use Rattle.obj.proofs.Errors.{is_err}
use Rattle.tables.specs.Records.{sections_in}
use Rattle.stage_sections.proofs.Laws.{symbols_ordered}
use Rattle.entry_validate_splits.specs.Lines.{from_symbols}
use Rattle.entry_validate_splits.proofs.Laws.{splits_as}
use Rattle.entry_validate_splits.proofs.with_symbols.Goals as goal

pub returns-in_err-obj : goal.returns-in_err-obj
unfolding from_symbols
returns-in_err-obj c = rw (is_err _ c.from_residual.ensures.1) (then_stops c.in_err-obj.ensures.said _ refl)

pub with_splits-requires : goal.with_splits-requires
with_splits-requires c =
    let k = c.in_ok-obj.ensures in
    let o = k.asked in
    let names = length c.args.names.now.lengths.now in
    let heads = sections_in c.args.heads.now.bytes.now c.args.heads.now.places.now in
    let b = c.args.lent.now.symbols.now in (
      rw o.heads c.requires,
      rw (o.symbols.bytes, o.symbols.places, o.order) (symbols_ordered names heads b (sym k.said)),
    )

pub returns : goal.returns
unfolding from_symbols
returns c =
    let t = c.args.lent.now in
    let k = c.in_ok-obj.ensures in
    let o = k.asked in
    (rw (o.names, o.heads, o.symbols.bytes) at c.with_splits.ensures)
    ∙ splits_as (sections_in c.args.heads.now.bytes.now c.args.heads.now.places.now) t.symbols.now c.args.names.now.lengths.now t.splits.now o.symbols.places
    ∙ then_goes k.said _ refl
