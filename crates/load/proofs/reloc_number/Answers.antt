-- `load::reloc_number` meets its contract: its length, its count, and its test, in the definition's order.
-- Assumes nothing.
use Rattle.load.proofs.Deciding.{reloc_cut, reloc_over, reloc_faulty, reloc_passes}
use Rattle.std.proofs.Common.{ap}
use Rattle.load.specs.Columns.{fault_as}
use Rattle.load.proofs.reloc_number.Goals as goal

pub returns-then-payload-ne23 : goal.returns-then-payload-ne23
returns-then-payload-ne23 c =
    let p = c.args.payload.now in
    let b = p.before in
    ap fault_as
    (reloc_cut _ b.file.now p.at p.len b.counts b.places.now b.lengths.now b.index.heads.now b.index.chain.now b.readable c.if-payload-ne23.true)

pub returns-then-before-n : goal.returns-then-before-n
returns-then-before-n c =
    let p = c.args.payload.now in
    let b = p.before in
    ap fault_as
    (reloc_over _ b.file.now p.at p.len b.counts b.places.now b.lengths.now b.index.heads.now b.index.chain.now b.readable c.if-payload-ne23.false c.if-before-n.true)

pub returns-then-reloc_bad : goal.returns-then-reloc_bad
returns-then-reloc_bad c =
    let p = c.args.payload.now in
    let b = p.before in
    ap fault_as
    (reloc_faulty _ b.file.now p.at p.len b.counts b.places.now b.lengths.now b.index.heads.now b.index.chain.now b.readable c.if-payload-ne23.false c.if-before-n.false c.read-r.ensures
    c.home_of-home.ensures c.floor_of-floor.ensures c.reloc_bad.ensures c.if-reloc_bad.true)

pub returns : goal.returns
returns c =
    let p = c.args.payload.now in
    let b = p.before in
    ap fault_as
    (reloc_passes _ b.file.now p.at p.len b.counts b.places.now b.lengths.now b.index.heads.now b.index.chain.now b.readable c.if-payload-ne23.false c.if-before-n.false c.read-r.ensures
    c.home_of-home.ensures c.floor_of-floor.ensures c.reloc_bad.ensures c.if-reloc_bad.false)
