-- `CaseReader::repeat_byte` meets its contract: each turn pushes the byte that is the last one, which then is the last one again.
use Rattle.std.proofs.Common.{rules, refl, sym, ap, arith, ◌∙◌, length}
use Rattle.program_input.specs.Cases.{gathered, repeated, before, pushed}
use Rattle.program_input.proofs.Bytes.{pushed_is, last_again, byte_turn, repeat_ended}
use Rattle.program_input.proofs.case_reader.CaseReader.repeat_byte.Goals as goal

pub loop-time-init : goal.loop-time-init
unfolding repeated
loop-time-init c = (refl, refl, omega arith, omega arith, c.before-byte.ensures, refl)

pub loop-time-preserved : goal.loop-time-preserved
loop-time-preserved c =
    let l = c.loop-time in
    let i = l.invariant in
    let p = c.push.ensures in
    let is = pushed_is l.self.bytes.buffer.now l.self.bytes.used c.before-byte.result l.self.bytes.fits p.room p.none in (
      search rules,
      search rules,
      omega arith,
      omega arith,
      i.4 ∙ sym (last_again (length l.self.bytes.buffer.now) (gathered l.self.bytes)) ∙ sym (ap (before 1) (is ∙ ap (pushed (length l.self.bytes.buffer.now) (gathered l.self.bytes)) i.4)),
      byte_turn _ _ _ i.1 i.2 i.5 i.4 is,
    )

pub returns-clause-is : goal.returns-clause-is
returns-clause-is c =
    let i = c.loop-time.invariant in repeat_ended _ _ _ _ c.args.count (omega arith) i.5
