-- `join_pieces::spot_of` meets its contract. The piece lies in a section that is there, so nothing wraps.
-- Assumes nothing.
use Rattle.join_pieces.proofs.Laws.{home_there, section_there}
use Rattle.join.proofs.Sizes.{inside}
use native.Mathlib.Omega.{arith}
use mathlib.Core.Path.{ap, ap₂, ◌∙◌}
use Prim.Native.Nat.{ℕ, ◌+◌, ◌-◌}
use lib.ListN.{take}
use Rattle.obj.specs.declared.Section.{Section}
use Rattle.join.specs.Join.{held}
use Rattle.stage_tables.specs.StageTables.{stage_sections}
use Rattle.piece_records.specs.Records.{part_at}
use Rattle.join_pieces.proofs.spot_of.Goals as goal

pub head_of-s-requires : goal.head_of-s-requires
head_of-s-requires c =
    let a = c.args in
    let p = part_at a.pieces.now.bytes.now a.at in
    let there = section_there a.pieces.now.sections.now p (c.requires.one _ c.args.pieces.now.inside) in
    let e = c.head_at-p.ensures.section in
    omega arith

pub base_of-requires : goal.base_of-requires
base_of-requires c =
    let a = c.args in
    let p = part_at a.pieces.now.bytes.now a.at in
    let there = section_there a.pieces.now.sections.now p (c.requires.one _ c.args.pieces.now.inside) in
    let e = c.head_at-p.ensures.section in
    let few = c.args.pieces.now.few in
    (omega arith, omega arith)

pub overflow_sub-result : goal.overflow_sub-result
overflow_sub-result c =
    let s = c in
    let a = s.args in
    let p = part_at a.pieces.now.bytes.now a.at in
    let h = c.head_at-p.ensures in
    let start = ap (λ (s : Section). s.address) (home_there a.pieces.now.sections.now p h.section c.head_of-s.ensures) in
    let i = inside (stage_sections a.pieces.now.sections.now) p (s.requires.one _ s.args.pieces.now.inside) in
    omega (arith, h.address, start, i.low)

pub returns : goal.returns
returns c =
    let s = c in
    let a = s.args in
    let p = part_at a.pieces.now.bytes.now a.at in
    let h = c.head_at-p.ensures in
    let start = ap (λ (s : Section). s.address) (home_there a.pieces.now.sections.now p h.section c.head_of-s.ensures) in
    ap₂ (λ (x y : ℕ). x + y)
    (c.base_of.ensures.is ∙ ap (λ (k : ℕ). held (take k (stage_sections a.pieces.now.sections.now))) h.section)
    (ap₂ (λ (x y : ℕ). x - y) h.address start)
