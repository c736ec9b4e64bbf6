-- 20 and 21 were asked, and what was made at once is the rest of the merge.
use mathlib.Core.Path.{sym, ◌∙◌}
use Rattle.tables.specs.Records.{sections_in}
use Rattle.merge.proofs.AtOnce.{neither, at_once}
use Rattle.merge.proofs.join_at_once.Goals as goal

pub returns-clause-made : goal.returns-clause-made
returns-clause-made c made =
    let t = c.args.heads.now.table in
    let sections = sections_in t.bytes.now t.places.now in
    at_once sections c.args.joint (neither sections c.args.joint _ (sym c.is_err.ensures.value ∙ c.if-is_err.false) c.check_place.ensures) _ _ _ _ (c.join_and_push.ensures.made made)
