use Rattle.std.proofs.Common.{◌∙◌, eqb}
use Rattle.names.proofs.Laws.{any_some}
use Rattle.elf_names.proofs.is_seen.Goals as goal

pub returns : goal.returns
returns c = c.contains.ensures.value ∙ any_some (λ k. eqb k c.args.mark) c.args.seen.now
