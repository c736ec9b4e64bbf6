-- `entry_trim_splits::from_symbols` meets its contract. Symbols that are refused are the answer; else the arrays have their places and their order, and the splits are
-- asked with them. Assumes nothing.
use mathlib.Core.Path.{refl, sym, ap}
use mathlib.Core.List.{List}
use Prim.Native.Nat.{ℕ}
use lib.ListN.{length}
use Rattle.obj.proofs.Errors.{is_err}
use Rattle.obj.proofs.Laws.{length-stage_places}
use Rattle.tables.specs.Records.{sections_in}
use Rattle.sections.specs.Image.{image_of}
use Rattle.sections.specs.Sections.{sections_of}
use Rattle.stage_symbols.proofs.Laws.{symbols_sound}
use Rattle.stage_sections.proofs.Laws.{symbols_asked}
use Rattle.stage_splits.proofs.Laws.{gives_as, gives_stops, gives_goes}
use Rattle.entry_trim_splits.specs.Entry.{from_symbols, from_splits}
use Rattle.entry_trim_splits.proofs.from_symbols.Goals as goal

pub returns-in_err-obj-clause-gives : goal.returns-in_err-obj-clause-gives
unfolding from_symbols
returns-in_err-obj-clause-gives c = rw (is_err _ c.from_residual.ensures.1) (gives_stops _ c.in_err-obj.ensures.said refl)

pub from_splits-requires : goal.from_splits-requires
from_splits-requires c =
    let a = c.args in
    let k = c.in_ok-obj.ensures in
    let o = k.asked in
    let q = c.requires in
    let names = length a.names.now.lengths.now in
    let heads = sections_in a.heads.now.bytes.now a.heads.now.places.now in (
      rw (o.names, o.symbols.bytes, o.symbols.places, o.order) (symbols_asked names heads a.lent.now.symbols.now (sym k.said) _ _ _ (sym q.0.paired) q.0.named),
      rw (o.symbols.bytes, o.symbols.places, length-stage_places) (symbols_sound 4096 names heads a.lent.now.symbols.now (sym k.said)),
      rw o.heads q.1.all,
      rw (o.names, o.heads) q.1.kept,
    )

pub returns-clause-gives : goal.returns-clause-gives
unfolding from_symbols
returns-clause-gives c =
    let n = c.args.names.now in
    let heads = c.args.heads.now in
    let image = c.args.image.now in
    let lent = c.args.lent.now in
    let k = c.in_ok-obj.ensures in
    let o = k.asked in
    gives_goes (sym k.said)
    (gives_as
    (ap
    (λ (l : List ℕ).
    from_splits n.lengths.now (sections_in heads.bytes.now heads.places.now) (image_of lent.symbols.now l n.bytes.now n.places.now n.lengths.now)
    (sections_of heads.bytes.now heads.places.now image.bytes.now image.places.now) lent.splits.now (length c.args.output.now.splits.now))
    o.symbols.places)
    (rw (o.names, o.heads, o.symbols.bytes) at c.from_splits.ensures.gives))
