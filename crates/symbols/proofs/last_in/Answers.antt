-- `symbols::last_in` meets its contract: 11 if the range is asked backwards, else the last that passes of the part.
use mathlib.Core.Path.{sym, ap, ◌∙◌}
use mathlib.Core.List.{List}
use mathlib.Core.Bool.{false}
use Prim.Native.Nat.{ℕ}
use Rattle.std.specs.Prelude.{None}
use Rattle.lists.specs.Rows.{keep_if}
use Rattle.lists.specs.Outcome.{accepted}
use Rattle.lists.proofs.Outcomes.{fails, passes}
use Rattle.symbol_order.specs.Order.{symbol_of}
use Rattle.symbols.specs.Ranges.{last_in, sized_unstripped, last_or}
use Rattle.symbols.proofs.Parts.{part_readable}
use Rattle.symbols.proofs.last_in.Goals as goal

pub returns-then-is_backwards : goal.returns-then-is_backwards
unfolding last_in
returns-then-is_backwards c = sym (fails 11 _ _ _ _ (sym c.is_backwards.ensures ∙ c.if-is_backwards.true))

pub last_of-requires : goal.last_of-requires
last_of-requires c = part_readable _ _ _ c.requires _ _ c.for_section_range-part.ensures

pub returns : goal.returns
unfolding last_in
returns c =
    let a = c.args in
    sym (passes 11 _ _ _ _ (sym c.is_backwards.ensures ∙ c.if-is_backwards.false)
    ∙ ap accepted (sym (c.last_of.ensures
    ∙ ap (λ (l : List ℕ). last_or None (keep_if (λ i. sized_unstripped false (symbol_of a.table.now.bytes.now a.table.now.places.now i)) l)) c.for_section_range-part.ensures)))
