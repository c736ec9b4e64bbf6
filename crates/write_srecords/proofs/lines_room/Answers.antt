-- `write_srecords::lines_room` meets its contract. Invariant: the sum and what the sections that are left take is what all take.
-- Assumes nothing.
use native.Mathlib.Omega.{arith}
use mathlib.Core.Path.{ap}
use Rattle.stage_tables.specs.StageTables.{stage_sections}
use Rattle.stage_tables.proofs.Laws.{length_sections}
use Rattle.write_srecords.proofs.Laws.{room_turn, room_none}
use Rattle.srecord_text.specs.Room.{lines_size}
use Rattle.write_srecords.proofs.lines_room.Goals as goal

pub loop-k-preserved : goal.loop-k-preserved
loop-k-preserved c =
    let a = c.args in
    let l = c.loop-k in
    let e = c.lines_size-sum.ensures in
    let size = ap lines_size c.held_by.ensures in
    let turn = room_turn (stage_sections a.sections.now) l.k (let z = length_sections a.sections.now in let t = c.loop-k-test.true in omega arith) in
    let i = l.invariant.1 in
    (omega arith, omega arith, omega arith)

pub returns : goal.returns
returns c =
    let a = c.args in
    let l = c.loop-k in
    let z = room_none (stage_sections a.sections.now) l.k (let z = length_sections a.sections.now in let t = c.loop-k-test.false in omega arith) in
    let i = l.invariant.1 in
    omega arith
