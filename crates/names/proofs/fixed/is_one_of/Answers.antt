use Rattle.std.proofs.Common.{rules, tests, ◌∙◌, List, ℕ, Bor, sym}
use Rattle.std.proofs.lemmas.Iterator.{YieldsList-from_slice}
use Rattle.std.proofs.lemmas.Iterator.Search.{any_from_yields_List}
use Rattle.lists.proofs.Some.{some-map}
use Rattle.names.specs.Names.{same_name}
use Rattle.names.proofs.Laws.{any_some}
use Rattle.names.proofs.fixed.is_one_of.Goals as goal

pub returns : goal.returns
returns c =
    let name : List ℕ = c.args.name.now in
    let test = λ (t : Bor (List ℕ)). same_name name t.now in
    any_from_yields_List test _ _ _ c.any.ensures.ran (YieldsList-from_slice c.args.texts.now cc) (λ x b q k. search (rules, tests))
    ∙ any_some test c.args.texts.now
    ∙ sym (some-map (same_name name) (λ (t : Bor (List ℕ)). t.now) c.args.texts.now)
