-- `units::number_units`: the name that was read is that of unit k, and has a place in the column. That the filled column has the length at each place
-- is found only where the goal says so alone.
use Rattle.std.proofs.Common.{◌≡◌, ℕ, length, get_or, sym, ap, ◌∙◌, arith, rules}
use Rattle.std.proofs.lemmas.List.{get_or-map}
use lib.ListN.{length-map}
use Rattle.obj.specs.declared.Unit as units
use Rattle.obj.specs.Records.{unit_at}
use Rattle.units.specs.Units.{unit_names}
use Rattle.units.proofs.Laws.{after_none, after_more, after_all}
use Rattle.units.proofs.number_units.Goals as goal

pub loop-k-init : goal.loop-k-init
loop-k-init c =
    let a = c.args in
    let e = length-map a.table.now.places.now (λ (at : ℕ). (unit_at a.table.now.bytes.now at).name) in
    after_none (unit_names a.table.now.bytes.now a.table.now.places.now) _ (λ name h. let filled : get_or c.fill.new.self name 0 ≡ length a.table.now.places.now = search rules in filled ∙ sym e)

pub loop-k-preserved : goal.loop-k-preserved
loop-k-preserved c =
    let a = c.args in
    let e = length-map a.table.now.places.now (λ (at : ℕ). (unit_at a.table.now.bytes.now at).name) in
    let named = c.requires.named c.loop-k.k c.loop-k-test.true in
    let read = c.from-name.ensures ∙ ap (λ (u : units.Unit). u.name) c.record.ensures in
    after_more _ _ _ _ c.loop-k.invariant (omega (arith, c.loop-k-test.true, e))
    (read ∙ sym (get_or-map (λ (at : ℕ). (unit_at a.table.now.bytes.now at).name) a.table.now.places.now c.loop-k.k 0 0 c.loop-k-test.true))
    (omega (arith, read, named, c.loop-k.auto.column))

pub returns : goal.returns
returns c =
    let a = c.args in
    after_all _ _ _ (omega (arith, c.loop-k-test.false, length-map a.table.now.places.now (λ (at : ℕ). (unit_at a.table.now.bytes.now at).name))) c.loop-k.invariant
