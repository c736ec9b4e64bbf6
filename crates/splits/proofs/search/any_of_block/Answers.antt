-- `splits::any_of_block` meets its contract. Invariant: `any`, or the answer of the numbers that are left, is the answer of the block.
-- Assumes nothing.
use Rattle.std.proofs.Common.{rules, ◌≡◌, ◌∙◌, ap, ℕ, ◌+◌, ◌-◌, get_or, arith}
use Rattle.std.proofs.lemmas.List.{get_or_default}
use Rattle.lists.proofs.Parts.{get_or-part}
use Rattle.splits.proofs.Blocks.{length_part, left_start, left_turn, left_end}
use Rattle.splits.proofs.search.any_of_block.Goals as goal

pub loop-x-init : goal.loop-x-init
loop-x-init g c = (search rules, λ p d h. left_start p (λ (j : ℕ). get_or c.args.column.now j d) c.args.at 32)

pub loop-x-preserved : goal.loop-x-preserved
loop-x-preserved g c =
    let l = c.loop-x in
    let a = c.args in
    let column = a.column.now in
    let few = length_part column a.at (a.at + 32 - a.at) (let z = c.requires.room in omega arith) in (
      l.invariant.0,
      λ p d h.
          let f = λ (j : ℕ). get_or column j d in
          let here = c.x-item.is ∙ get_or-part column a.at (a.at + 32 - a.at) l.x-index _ (omega (arith, few, c.loop-x-test.true)) in
          let e : c.passes-any.result ≡ p (f (a.at + l.x-index)) = h _ _ c.passes-any.ensures ∙ ap p (here ∙ get_or_default column (a.at + l.x-index) _ d (let z = c.requires.room in omega (arith, few, c.loop-x-test.true))) in
          rw e (left_turn p f a.at 32 l.any l.x-index (omega (arith, few, c.loop-x-test.true)) (l.invariant.1 p d h)),
    )

pub returns : goal.returns
returns g c =
    λ p d h.
    let a = c.args in
    let few = length_part a.column.now a.at (a.at + 32 - a.at) (let z = c.requires.room in omega arith) in
    left_end p (λ (j : ℕ). get_or a.column.now j d) a.at 32 c.loop-x.any c.loop-x.x-index (omega (arith, few, c.loop-x-test.false)) (c.loop-x.invariant.1 p d h)
