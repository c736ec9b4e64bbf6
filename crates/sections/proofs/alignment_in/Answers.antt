-- `sections::alignment_in` meets its contract: the given one, else the alignment with the default of the section.
use mathlib.Core.Path.{ap, ◌∙◌}
use Prim.Native.Nat.{ℕ}
use lib.ListN.{length}
use Rattle.symbol_order.specs.Order.{symbol_of}
use Rattle.sections.specs.Alignment.{alignment_of}
use Rattle.sections.proofs.Larger.{its_own}
use Rattle.sections.proofs.alignment_in.Goals as goal

pub returns-then-s-ne0 : goal.returns-then-s-ne0
returns-then-s-ne0 c = its_own _ _ _ _ _ _ _ c.if-s-ne0.true

pub returns : goal.returns
returns c =
    let a = c.args in
    let s = a.s in
    c.alignment_of.ensures
    ∙ ap (λ (least : ℕ). alignment_of (symbol_of a.obj.now.symbols.bytes.now a.obj.now.symbols.places.now) (length a.obj.now.symbols.places.now) a.n least s.alignment a.start s.end) c.default_of-least.ensures
