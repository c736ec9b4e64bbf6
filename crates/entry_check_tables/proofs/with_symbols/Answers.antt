-- Each table is a line of the definition: a refused one is the answer, one that passed is passed over.
use Rattle.std.proofs.Common.{◌∙◌, ap, refl}
use Rattle.lists.proofs.Outcomes.{then_stops, then_goes}
use Rattle.obj.proofs.Errors.{is_err}
use Rattle.tables.specs.declared.Counts.{Counts as Ceilings}
use Rattle.stage_tables.proofs.Laws.{taken-count}
use Rattle.entry_check_tables.specs.Lines.{from_symbols}
use Rattle.entry_check_tables.proofs.Laws.{below}
use Rattle.entry_check_tables.proofs.with_symbols.Goals as goal

pub returns-in_err-symbols : goal.returns-in_err-symbols
unfolding from_symbols
returns-in_err-symbols c =
    let symbols = below _ _ _ _ _ c.in_err-symbols.ensures.said (ap (λ (m : Ceilings). m.symbols) c.main_ceilings-most.ensures) in
    rw (is_err _ c.from_residual.ensures.1) (then_stops symbols _ refl)

pub returns-in_err-take_relocs : goal.returns-in_err-take_relocs
unfolding from_symbols
returns-in_err-take_relocs c =
    let k = c.in_ok-symbols.ensures in
    let symbols = below _ _ _ _ _ k.said (ap (λ (m : Ceilings). m.symbols) c.main_ceilings-most.ensures) in
    let relocs = below _ _ _ _ _ (rw (taken-count 20 c.args.lent.now.symbols.now k.table) at c.in_err-take_relocs.ensures.said) (ap (λ (m : Ceilings). m.relocations) c.main_ceilings-most.ensures) in
    rw (is_err _ c.from_residual-in_err-take_relocs.ensures.1) (then_stops relocs _ refl ∙ then_goes symbols _ refl)

pub returns-in_err-take_splits : goal.returns-in_err-take_splits
unfolding from_symbols
returns-in_err-take_splits c =
    let k = c.in_ok-symbols.ensures in
    let symbols = below _ _ _ _ _ k.said (ap (λ (m : Ceilings). m.symbols) c.main_ceilings-most.ensures) in
    let relocs = below _ _ _ _ _ (rw (taken-count 20 c.args.lent.now.symbols.now k.table) at c.in_ok-take_relocs.ensures.said) (ap (λ (m : Ceilings). m.relocations) c.main_ceilings-most.ensures) in
    let splits = below _ _ _ _ _ c.in_err-take_splits.ensures.said (ap (λ (m : Ceilings). m.splits) c.main_ceilings-most.ensures) in
    rw (is_err _ c.from_residual-in_err-take_splits.ensures.1) (then_stops splits _ refl ∙ then_goes relocs _ refl ∙ then_goes symbols _ refl)

pub returns : goal.returns
unfolding from_symbols
returns c =
    let k = c.in_ok-symbols.ensures in
    let symbols = below _ _ _ _ _ k.said (ap (λ (m : Ceilings). m.symbols) c.main_ceilings-most.ensures) in
    let relocs = below _ _ _ _ _ (rw (taken-count 20 c.args.lent.now.symbols.now k.table) at c.in_ok-take_relocs.ensures.said) (ap (λ (m : Ceilings). m.relocations) c.main_ceilings-most.ensures) in
    let splits = below _ _ _ _ _ c.in_ok-take_splits.ensures.said (ap (λ (m : Ceilings). m.splits) c.main_ceilings-most.ensures) in
    below _ _ _ _ _ c.take_units.ensures.said (ap (λ (m : Ceilings). m.units) c.main_ceilings-most.ensures) ∙ then_goes splits _ refl ∙ then_goes relocs _ refl ∙ then_goes symbols _ refl
