-- Six counts are put where the loader accepted; its refusal is the answer.
use Rattle.std.proofs.Common.{arith, ap, ◌∙◌}
use Rattle.obj.specs.Answers.{outcome_word}
use Rattle.tables.specs.declared.Counts.{Counts}
use Rattle.outputs.specs.Outputs.{store_counts}
use Rattle.entry_check_file.specs.Entry.{listed}
use Rattle.entry_check_file.proofs.counted.Goals as goal

pub overflow_cast-n-5 : goal.overflow_cast-n-5
overflow_cast-n-5 c = omega (arith, c.in_ok-n.ensures.small.splits)

pub overflow_cast-n-6 : goal.overflow_cast-n-6
overflow_cast-n-6 c = omega (arith, c.in_ok-n.ensures.small.units)

pub returns : goal.returns
returns c =
    let a = c.in_ok-n.ensures in
    (ap outcome_word a.said, c.put_counts.ensures ∙ ap (λ (m : Counts). store_counts 0 (listed m) c.args.counts.now) a.counted)
