-- `piece_columns::has_symbol` meets its contract. Invariant: j is on the symbol's chain, so what lies below it is what lies below k.
use Prim.Native.Nat.{ℕ}
use Rattle.piece_columns.specs.Columns.{entry_at, ChainedOf}
use Rattle.piece_columns.proofs.Chains.{On}
use Rattle.piece_columns.proofs.has_symbol.Given as goal

abbrev pub invariant-loop-j : goal.invariant-loop-j
invariant-loop-j l = (k : ℕ) → ChainedOf l.chains l.entries k → On (entry_at l.entries) l.unit l.symbol k l.j

abbrev pub decreases-loop-j : goal.decreases-loop-j
decreases-loop-j l = l.j
