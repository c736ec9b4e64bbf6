-- `entry_resolve_link_order::resolve_link_order` meets its contract: what the tables and the stage gave, with zeros after it.
use mathlib.Core.Path.{ap, ◌∙◌}
use Rattle.outputs.specs.Outputs.{store_count}
use Rattle.entry_resolve_link_order.proofs.Laws.{leaves}
use Rattle.entry_resolve_link_order.proofs.resolve_link_order.Goals as goal

pub returns : goal.returns
returns c =
    let a = c.args in
    let k = c.checked-r in
    leaves _ _ _ k.result a.out.now k.new.out a.counts.now _ _ _ _ _ k.ensures c.kept-k.ensures c.answer_of.ensures c.word_of.ensures c.clear_from.ensures
    (c.put_count.ensures ∙ ap (store_count 0 c.kept-k.result) c.clear_from-2.ensures)
