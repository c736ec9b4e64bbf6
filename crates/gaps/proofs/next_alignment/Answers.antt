-- The alignment of the split without its reason, or 11.
use Rattle.std.proofs.Common.{◌∙◌, sym, ap}
use Rattle.std.proofs.lemmas.Result.{err_from_is_err_and}
use Rattle.lists.specs.Outcome.{Outcome, accepted, ◌>>=◌}
use Rattle.sections.specs.Alignment.{Chosen, alignment_meaning}
use Rattle.gaps.proofs.next_alignment.Goals as goal

pub returns : goal.returns
unfolding ◌>>=◌
returns c =
    rw c.value.ensures
    (ap (λ (o : Outcome Chosen). o >>= λ chosen. accepted chosen.value) (sym (ap (alignment_meaning c.args.here.now.section c.args.s.start) c.in_ok-chosen.was) ∙ c.alignment_of.ensures))

pub returns-in_err-chosen : goal.returns-in_err-chosen
unfolding ◌>>=◌
returns-in_err-chosen c =
    let p = err_from_is_err_and c.from_residual.result c.from_residual.ensures.1 in
    rw p.1 (ap (λ (o : Outcome Chosen). o >>= λ chosen. accepted chosen.value) (sym (ap (alignment_meaning c.args.here.now.section c.args.s.start) c.in_err-chosen.was) ∙ c.alignment_of.ensures))
