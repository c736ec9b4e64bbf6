use Rattle.std.proofs.Common.{rules, tests, lt-ltb, le-ltb, ◌∙◌}
use Rattle.std.proofs.lemmas.Iterator.{YieldsList-from_slice}
use Rattle.std.proofs.lemmas.Iterator.Search.{any_from_yields_List}
use Rattle.lists.specs.Rows.{any_of, any_from}
use Rattle.names.specs.Names.{outside, name_bad}
use Rattle.names.proofs.Laws.{any_some}
use Rattle.names.proofs.bad_name.Goals as goal

pub returns-then-name-gt128 : goal.returns-then-name-gt128
unfolding name_bad any_of any_from
returns-then-name-gt128 c = rw (lt-ltb _ _ c.if-name-gt128.true)

pub returns-else-name-gt128 : goal.returns-else-name-gt128
unfolding name_bad any_of any_from
returns-else-name-gt128 c =
    rw (le-ltb _ _ c.if-name-gt128.false)
    (any_from_yields_List outside _ _ _ c.any.ensures.ran (YieldsList-from_slice c.args.name.now cc) (λ x b q k. search (rules, tests))
    ∙ any_some outside c.args.name.now)
