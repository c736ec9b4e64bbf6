-- `load::unit_number` meets its contract: its length, its count, and its test, in the definition's order.
-- Assumes nothing.
use Rattle.load.proofs.Deciding.{unit_cut, unit_over, unit_faulty, unit_passes}
use Rattle.std.proofs.Common.{ap}
use Rattle.load.specs.Columns.{fault_as}
use Rattle.load.proofs.unit_number.Goals as goal

pub returns-then-payload-ne8 : goal.returns-then-payload-ne8
returns-then-payload-ne8 c =
    let p = c.args.payload.now in
    let b = p.before in
    ap fault_as
    (unit_cut _ b.file.now p.at p.len b.counts b.places.now b.lengths.now b.index.heads.now b.index.chain.now b.readable c.if-payload-ne8.true)

pub returns-then-before : goal.returns-then-before
returns-then-before c =
    let p = c.args.payload.now in
    let b = p.before in
    ap fault_as
    (unit_over _ b.file.now p.at p.len b.counts b.places.now b.lengths.now b.index.heads.now b.index.chain.now b.readable c.if-payload-ne8.false c.if-before.true)

pub returns-then-unit_bad : goal.returns-then-unit_bad
returns-then-unit_bad c =
    let p = c.args.payload.now in
    let b = p.before in
    ap fault_as
    (unit_faulty _ b.file.now p.at p.len b.counts b.places.now b.lengths.now b.index.heads.now b.index.chain.now b.readable c.if-payload-ne8.false c.if-before.false c.read-u.ensures
    c.name_length.ensures c.unit_bad.ensures c.if-unit_bad.true)

pub returns : goal.returns
returns c =
    let p = c.args.payload.now in
    let b = p.before in
    ap fault_as
    (unit_passes _ b.file.now p.at p.len b.counts b.places.now b.lengths.now b.index.heads.now b.index.chain.now b.readable c.if-payload-ne8.false c.if-before.false c.read-u.ensures
    c.name_length.ensures c.unit_bad.ensures c.if-unit_bad.false)
