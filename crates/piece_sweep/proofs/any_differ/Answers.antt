-- `piece_sweep::any_differ` meets its contract: the starts, the order by them, and the pass, which finds 83.
-- Assumes nothing.
use native.Mathlib.Omega.{arith}
use mathlib.Core.Path.{◌≡◌, sym, subst, ◌∙◌}
use Prim.Native.Nat.{ℕ, ◌<◌}
use lib.ListN.{length, length-take}
use Rattle.lists.specs.Sort.{All}
use Rattle.piece_records.specs.Records.{Whole}
use Rattle.piece_sweep.proofs.Laws.{starts_are, starts-placed, order_below, pass_finds}
use Rattle.piece_sweep.proofs.any_differ.Goals as goal

pub fill_starts-requires : goal.fill_starts-requires
fill_starts-requires c = subst (λ (k : ℕ). Whole k c.args.b.now 0) (omega (arith, length-take {A = ℕ})) c.requires.0

pub order_pieces-requires : goal.order_pieces-requires
order_pieces-requires c =
    let f = c.fill_starts in
    let k : length f.new.starts ≡ c.args.n = omega (arith, f.auto.starts, length-take {A = ℕ}) in
    (starts-placed c.args.n c.args.b.now (omega (arith, length-take {A = ℕ})) f.ensures c.requires.0, omega (arith, k, c.requires.1), omega (arith, k, length-take {A = ℕ}))

pub pass-requires : goal.pass-requires
pass-requires c =
    let f = c.fill_starts in (
      starts-placed c.args.n c.args.b.now (omega (arith, length-take {A = ℕ})) f.ensures c.requires.0,
      subst (All (λ k. k < length f.new.starts)) (sym c.order_pieces.ensures) (order_below c.args.b.now f.new.starts),
    )

pub returns : goal.returns
returns c =
    let f = c.fill_starts in
    c.pass.ensures
    ∙ pass_finds c.args.n c.args.b.now (λ i. (c.type_inv.b i).fits) _ _ (starts_are c.args.n c.args.b.now (omega (arith, length-take {A = ℕ})) f.ensures) c.order_pieces.ensures
