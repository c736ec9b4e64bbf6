-- `load::symbol_number` meets its contract: its length, its count, and its test, in the definition's order.
-- Assumes nothing.
use Rattle.load.proofs.Deciding.{symbol_cut, symbol_over, symbol_faulty, symbol_passes}
use Rattle.std.proofs.Common.{ap}
use Rattle.load.specs.Columns.{fault_as}
use Rattle.load.proofs.symbol_number.Goals as goal

pub returns-then-payload-ne20 : goal.returns-then-payload-ne20
returns-then-payload-ne20 c =
    let p = c.args.payload.now in
    let b = p.before in
    ap fault_as
    (symbol_cut _ b.file.now p.at p.len b.counts b.places.now b.lengths.now b.index.heads.now b.index.chain.now b.readable c.if-payload-ne20.true)

pub returns-then-before-n : goal.returns-then-before-n
returns-then-before-n c =
    let p = c.args.payload.now in
    let b = p.before in
    ap fault_as
    (symbol_over _ b.file.now p.at p.len b.counts b.places.now b.lengths.now b.index.heads.now b.index.chain.now b.readable c.if-payload-ne20.false c.if-before-n.true)

pub returns-then-symbol_bad : goal.returns-then-symbol_bad
returns-then-symbol_bad c =
    let p = c.args.payload.now in
    let b = p.before in
    ap fault_as
    (symbol_faulty _ b.file.now p.at p.len b.counts b.places.now b.lengths.now b.index.heads.now b.index.chain.now b.readable c.if-payload-ne20.false c.if-before-n.false c.read-s.ensures
    c.home_of.ensures c.symbol_bad.ensures c.if-symbol_bad.true)

pub returns : goal.returns
returns c =
    let p = c.args.payload.now in
    let b = p.before in
    ap fault_as
    (symbol_passes _ b.file.now p.at p.len b.counts b.places.now b.lengths.now b.index.heads.now b.index.chain.now b.readable c.if-payload-ne20.false c.if-before-n.false c.read-s.ensures
    c.home_of.ensures c.symbol_bad.ensures c.if-symbol_bad.false)
