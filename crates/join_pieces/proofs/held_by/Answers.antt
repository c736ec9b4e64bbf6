-- `join_pieces::held_by` meets its contract. A section of kind 3 holds none.
-- Assumes nothing.
use mathlib.Core.Path.{sym, ap, ◌∙◌}
use borrow.Author.Tests.{eqb-true, eqb-false}
use Rattle.obj.specs.declared.Section.{Section}
use Rattle.join.proofs.Sizes.{held_by_is, held_by-none}
use Rattle.join_pieces.proofs.held_by.Goals as goal

pub returns-then-is_bss : goal.returns-then-is_bss
returns-then-is_bss c =
    sym (held_by-none _ (ap (λ (s : Section). s.kind) (sym c.head_of-s.ensures) ∙ eqb-true _ _ (sym c.is_bss.ensures ∙ c.if-is_bss.true)))

pub returns : goal.returns
returns c =
    ap (λ (s : Section). s.size) c.head_of-s.ensures
    ∙ sym (held_by_is _ (λ e. eqb-false _ _ (sym c.is_bss.ensures ∙ c.if-is_bss.false) (ap (λ (s : Section). s.kind) c.head_of-s.ensures ∙ e)))
