-- `walk::choice::alignment_at` meets its contract: the alignment of the split over the section's default, which is good.
use mathlib.Core.Path.{sym, subst}
use Prim.Native.Nat.{ℕ}
use Rattle.std.proofs.lemmas.Result.{err_from_is_err_and}
use Rattle.sections.specs.Image.{image_in}
use Rattle.sections.specs.Sections.{head_of}
use Rattle.sections.specs.Alignment.{Chosen, default_alignment}
use Rattle.sections.proofs.Good.{default_good, chosen_good}
use Rattle.walk.specs.Walk.{alignment_in}
use Rattle.walk.specs.Steps.{Valued}
use Rattle.walk.proofs.Deciding.{aligned_value}
use Rattle.walk.proofs.choice.alignment_at.Goals as goal

pub returns-in_err-alignment : goal.returns-in_err-alignment
returns-in_err-alignment c = let p = err_from_is_err_and c.from_residual.result c.from_residual.ensures.1 in rw p.1 (sym c.in_err-alignment.ensures)

pub returns : goal.returns
returns c =
    let a = c.args in
    let g = image_in a.obj.now in
    let head = head_of a.obj.now.heads.bytes.now a.obj.now.heads.places.now a.n in
    let wanted = alignment_in g head a.n a.start a.s in
    subst (λ (r : ℕ). Valued wanted r) (sym c.value.ensures)
    (aligned_value wanted a.n a.start
    (λ (x : Chosen) e. chosen_good g.symbol g.count a.n (default_alignment head (g.name head.name)) a.s.alignment a.start a.s.end c.requires.0.sound (default_good head (g.name head.name)) c.requires.2 x e)
    c.in_ok-alignment.alignment c.in_ok-alignment.ensures)
