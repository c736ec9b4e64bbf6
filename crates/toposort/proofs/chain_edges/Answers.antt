-- `toposort::chain_edges`: before the first turn, a turn, and after the last one.
use Prim.Native.Nat.{◌-◌}
use native.Mathlib.Omega.{arith}
use Rattle.toposort.proofs.Chains.{chain_start, chain_more, chain_done}
use Rattle.toposort.proofs.chain_edges.Goals as goal

pub loop-i-init : goal.loop-i-init
loop-i-init c = chain_start _ _ _ _ c.requires.heads_long (c.fill.ensures.after (λ y e. e)) c.requires.chain_long

pub loop-i-preserved : goal.loop-i-preserved
loop-i-preserved c = chain_more _ _ _ _ c.loop-i.invariant (omega arith) (c.requires.starts (c.loop-i.i - 1) (omega arith))

pub returns : goal.returns
returns c = chain_done _ _ _ _ c.loop-i.invariant c.loop-i-test.false
