-- `load::section_number` meets its contract: its length, its count, and its test, in the definition's order.
-- Assumes nothing.
use mathlib.Core.Path.{sym, ◌∙◌}
use native.Mathlib.Omega.{arith}
use Rattle.load.proofs.Numbers.{section_long}
use Rattle.load.proofs.Deciding.{section_cut, section_over, section_faulty, section_passes}
use Rattle.std.proofs.Common.{ap}
use Rattle.load.specs.Columns.{fault_as}
use Rattle.load.proofs.section_number.Goals as goal

pub returns-then-section_length_wrong : goal.returns-then-section_length_wrong
returns-then-section_length_wrong c =
    let p = c.args.payload.now in
    let b = p.before in
    ap fault_as
    (section_cut _ b.file.now p.at p.len b.counts b.places.now b.lengths.now b.index.heads.now b.index.chain.now b.readable (sym c.section_length_wrong.ensures ∙ c.if-section_length_wrong.true))

pub returns-then-before : goal.returns-then-before
returns-then-before c =
    let p = c.args.payload.now in
    let b = p.before in
    ap fault_as
    (section_over _ b.file.now p.at p.len b.counts b.places.now b.lengths.now b.index.heads.now b.index.chain.now b.readable (sym c.section_length_wrong.ensures ∙ c.if-section_length_wrong.false) c.if-before.true)

pub read-s-requires : goal.read-s-requires
read-s-requires c =
    let long = section_long _ _ _ (sym c.section_length_wrong.ensures ∙ c.if-section_length_wrong.false) in
    omega (arith, c.args.payload.now.inside)

pub returns-then-section_bad : goal.returns-then-section_bad
returns-then-section_bad c =
    let p = c.args.payload.now in
    let b = p.before in
    ap fault_as
    (section_faulty _ b.file.now p.at p.len b.counts b.places.now b.lengths.now b.index.heads.now b.index.chain.now b.readable (sym c.section_length_wrong.ensures ∙ c.if-section_length_wrong.false) c.if-before.false c.read-s.ensures
    c.name_length.ensures c.section_bad.ensures c.if-section_bad.true)

pub returns : goal.returns
returns c =
    let p = c.args.payload.now in
    let b = p.before in
    ap fault_as
    (section_passes _ b.file.now p.at p.len b.counts b.places.now b.lengths.now b.index.heads.now b.index.chain.now b.readable (sym c.section_length_wrong.ensures ∙ c.if-section_length_wrong.false) c.if-before.false c.read-s.ensures
    c.name_length.ensures c.section_bad.ensures c.if-section_bad.false)
