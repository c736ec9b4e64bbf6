-- `load::name_number` meets its contract: a repeated name, the count, and the name's test, in the definition's order.
-- Assumes nothing.
use mathlib.Core.Path.{refl, sym, ap, ◌∙◌}
use Rattle.names.specs.Names.{name_bad}
use Rattle.names.proofs.Laws.{part_is}
use Rattle.load.proofs.Deciding.{name_again, name_over, name_faulty, name_passes}
use Rattle.load.specs.Columns.{fault_as}
use Rattle.load.proofs.name_number.Goals as goal

pub returns-then-is_some : goal.returns-then-is_some
returns-then-is_some c =
    let p = c.args.payload.now in
    let b = p.before in
    ap fault_as
    (name_again _ b.file.now p.at p.len b.counts b.places.now b.lengths.now b.index.heads.now b.index.chain.now b.readable _ c.find_name.ensures (sym c.is_some.ensures ∙ c.if-is_some.true))

pub returns-then-before : goal.returns-then-before
returns-then-before c =
    let p = c.args.payload.now in
    let b = p.before in
    ap fault_as
    (name_over _ b.file.now p.at p.len b.counts b.places.now b.lengths.now b.index.heads.now b.index.chain.now b.readable _ c.find_name.ensures (sym c.is_some.ensures ∙ c.if-is_some.false) c.if-before.true)

pub returns-then-bad_name : goal.returns-then-bad_name
returns-then-bad_name c =
    let p = c.args.payload.now in
    let b = p.before in
    ap fault_as
    (name_faulty _ b.file.now p.at p.len b.counts b.places.now b.lengths.now b.index.heads.now b.index.chain.now b.readable _ c.find_name.ensures (sym c.is_some.ensures ∙ c.if-is_some.false) c.if-before.false
    (c.bad_name.ensures ∙ ap name_bad (part_is b.file.now {a = p.at} {b = p.len} p.at p.len refl refl)) c.if-bad_name.true)

pub returns : goal.returns
returns c =
    let p = c.args.payload.now in
    let b = p.before in
    ap fault_as
    (name_passes _ b.file.now p.at p.len b.counts b.places.now b.lengths.now b.index.heads.now b.index.chain.now b.readable _ c.find_name.ensures (sym c.is_some.ensures ∙ c.if-is_some.false) c.if-before.false
    (c.bad_name.ensures ∙ ap name_bad (part_is b.file.now {a = p.at} {b = p.len} p.at p.len refl refl)) c.if-bad_name.false)
