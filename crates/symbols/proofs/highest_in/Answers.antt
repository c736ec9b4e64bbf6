-- `symbols::highest_in` meets its contract: 11 if the range is asked backwards, else the highest alignment of the part.
use mathlib.Core.Path.{sym, ap, ◌∙◌}
use mathlib.Core.List.{List}
use Prim.Native.Nat.{ℕ}
use Rattle.lists.specs.Rows.{keep_if}
use Rattle.lists.specs.Outcome.{accepted}
use Rattle.lists.proofs.Outcomes.{fails, passes}
use Rattle.symbol_order.specs.Order.{symbol_of}
use Rattle.symbols.specs.Ranges.{highest_in, sized, highest_of}
use Rattle.symbols.proofs.Parts.{part_readable}
use Rattle.symbols.proofs.highest_in.Goals as goal

pub highest_of-requires : goal.highest_of-requires
highest_of-requires c = part_readable _ _ _ c.requires _ _ c.for_section_range-part.ensures

pub returns : goal.returns
unfolding highest_in
returns c =
    let a = c.args in
    sym (passes 11 _ _ _ _ (sym c.is_backwards.ensures ∙ c.if-is_backwards.false)
    ∙ ap accepted (sym (c.highest_of.ensures
    ∙ ap (λ (l : List ℕ). highest_of (symbol_of a.table.now.bytes.now a.table.now.places.now) (keep_if (λ i. sized (symbol_of a.table.now.bytes.now a.table.now.places.now i)) l)) c.for_section_range-part.ensures)))

pub returns-then-is_backwards : goal.returns-then-is_backwards
unfolding highest_in
returns-then-is_backwards c = sym (fails 11 _ _ _ _ (sym c.is_backwards.ensures ∙ c.if-is_backwards.true))
