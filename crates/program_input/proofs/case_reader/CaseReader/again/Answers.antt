-- `CaseReader::again` meets its contract: each turn pushes the byte `width` before the end.
use Rattle.std.proofs.Common.{rules, refl, arith}
use Rattle.program_input.specs.Cases.{again}
use Rattle.program_input.proofs.Bytes.{pushed_is, again_turn, again_ended}
use Rattle.program_input.proofs.case_reader.CaseReader.again.Goals as goal

pub loop-i-init : goal.loop-i-init
unfolding again
loop-i-init c = (refl, refl, omega arith, refl)

pub loop-i-preserved : goal.loop-i-preserved
loop-i-preserved c =
    let l = c.loop-i in
    let p = c.push.ensures in (
      search rules,
      search rules,
      omega arith,
      again_turn _ _ _ _ l.invariant.1 l.invariant.3 c.before-byte.ensures (pushed_is l.self.bytes.buffer.now l.self.bytes.used c.before-byte.result l.self.bytes.fits p.room p.none),
    )

pub returns-clause-is : goal.returns-clause-is
returns-clause-is c =
    let i = c.loop-i.invariant in again_ended _ _ _ _ _ (omega arith) i.3
