-- `split_obj::end_in` meets its contract: the end, or 10 at the section's start.
use borrow.Author.Rules.{rules}
use mathlib.Core.Path.{refl, sym, ap, ◌∙◌}
use Prim.Native.Nat.{ℕ}
use Rattle.sections.specs.Ends.{end_meaning}
use Rattle.sections.proofs.Refused.{refused_else}
use Rattle.split_obj.proofs.end_in.Goals as goal

pub returns : goal.returns
returns c =
    let a = c.args in
    sym (refused_else (end_meaning a.n a.low) c.end_of.result c.map_err.result c.map_err.ensures.cases (λ e d q. search rules) (λ x. refl) (λ e. refl))
    ∙ ap (λ (low : ℕ). end_meaning a.n low c.end_of.result) c.requires.4 ∙ c.end_of.ensures
