-- `write_srecords::write_lines` meets its contract. Invariant: `Left`, that writing the lines of the sections that are left is writing all.
-- Assumes nothing.
use Prim.Native.Nat.{◌<◌, ℕ, ◌+◌}
use Rattle.srecord_text.specs.Room.{lines_size}
use lib.ListN.{length, get_or}
use native.Mathlib.Omega.{arith}
use mathlib.Core.Path.{sym, ap, subst, ◌∙◌}
use Rattle.join.specs.Join.{nowhere, held_by}
use Rattle.stage_tables.specs.StageTables.{stage_sections}
use Rattle.stage_tables.proofs.Laws.{length_sections}
use Rattle.write_srecords.proofs.Laws.{Left, left_turn, left_end, section_fits}
use Rattle.write_srecords.proofs.write_lines.Goals as goal

pub write_one-requires : goal.write_one-requires
write_one-requires c =
    let l = c.loop-k in
    let h = c.loop-k-test.true in
    (h, section_fits (stage_sections c.args.sections.now) _ _ c.requires.ended l.out l.k l.at l.read l.invariant (let z = length_sections c.args.sections.now in omega arith))

pub loop-k-preserved : goal.loop-k-preserved
loop-k-preserved c =
    let a = c.args in
    let heads = stage_sections a.sections.now in
    let l = c.loop-k in
    let more : l.k < length heads = (let z = length_sections a.sections.now in let t = c.loop-k-test.true in omega arith) in
    let size = c.held_by-size.ensures in
    subst (λ (n : ℕ). Left heads a.out.now a.from c.write_one.new.out (l.k + 1) (l.at + c.lines_size-at.result) (l.read + n)) (sym size)
    (subst (λ (n : ℕ). Left heads a.out.now a.from c.write_one.new.out (l.k + 1) (l.at + n) (l.read + held_by (get_or heads l.k nowhere))) (sym (c.lines_size-at.ensures ∙ ap lines_size size))
    (left_turn heads a.out.now a.from c.requires.ended l.out l.k l.at l.read l.invariant more _ c.write_one.ensures))

pub returns : goal.returns
returns c =
    let l = c.loop-k in
    c.put_line.ensures
    ∙ left_end (stage_sections c.args.sections.now) c.args.out.now c.args.from l.out l.k l.at l.read l.invariant (let z = length_sections c.args.sections.now in let t = c.loop-k-test.false in omega arith)
