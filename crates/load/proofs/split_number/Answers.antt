-- `load::split_number` meets its contract: its length, its count, and its test, in the definition's order.
-- Assumes nothing.
use Rattle.load.proofs.Deciding.{split_cut, split_over, split_faulty, split_passes}
use Rattle.std.proofs.Common.{ap}
use Rattle.load.specs.Columns.{fault_as}
use Rattle.load.proofs.split_number.Goals as goal

pub returns-then-payload-ne-PARTIAL_BYTES : goal.returns-then-payload-ne-PARTIAL_BYTES
returns-then-payload-ne-PARTIAL_BYTES c =
    let p = c.args.payload.now in
    let b = p.before in
    ap fault_as
    (split_cut _ b.file.now p.at p.len b.counts b.places.now b.lengths.now b.index.heads.now b.index.chain.now b.readable c.if-payload-ne-PARTIAL_BYTES.true)

pub returns-then-before : goal.returns-then-before
returns-then-before c =
    let p = c.args.payload.now in
    let b = p.before in
    ap fault_as
    (split_over _ b.file.now p.at p.len b.counts b.places.now b.lengths.now b.index.heads.now b.index.chain.now b.readable c.if-payload-ne-PARTIAL_BYTES.false c.if-before.true)

pub returns-then-split_bad : goal.returns-then-split_bad
returns-then-split_bad c =
    let p = c.args.payload.now in
    let b = p.before in
    ap fault_as
    (split_faulty _ b.file.now p.at p.len b.counts b.places.now b.lengths.now b.index.heads.now b.index.chain.now b.readable c.if-payload-ne-PARTIAL_BYTES.false c.if-before.false c.read_partial-s.ensures
    c.name_length-unit_len.ensures c.name_length-rename_len.ensures c.split_bad.ensures c.if-split_bad.true)

pub returns : goal.returns
returns c =
    let p = c.args.payload.now in
    let b = p.before in
    ap fault_as
    (split_passes _ b.file.now p.at p.len b.counts b.places.now b.lengths.now b.index.heads.now b.index.chain.now b.readable c.if-payload-ne-PARTIAL_BYTES.false c.if-before.false c.read_partial-s.ensures
    c.name_length-unit_len.ensures c.name_length-rename_len.ensures c.split_bad.ensures c.if-split_bad.false)
