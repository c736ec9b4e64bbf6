-- `CaseReader::repeat` meets its contract: each turn puts the last bytes once more.
use Rattle.std.proofs.Common.{refl, arith, ◌∙◌}
use Rattle.program_input.specs.Cases.{repeated}
use Rattle.program_input.proofs.Bytes.{repeat_turn, repeat_ended}
use Rattle.program_input.proofs.case_reader.CaseReader.repeat.Goals as goal

pub loop-i-init : goal.loop-i-init
unfolding repeated
loop-i-init c = (refl, refl, omega arith, omega arith, refl)

pub loop-i-preserved : goal.loop-i-preserved
loop-i-preserved c =
    let i = c.loop-i.invariant in
    let a = c.again.ensures in (
      a.lent ∙ i.0,
      a.long ∙ i.1,
      omega arith,
      omega arith,
      repeat_turn _ _ _ _ i.1 i.2 i.4 a.is,
    )

pub returns-clause-is : goal.returns-clause-is
returns-clause-is c =
    let i = c.loop-i.invariant in repeat_ended _ _ _ _ c.args.count (omega arith) i.4
