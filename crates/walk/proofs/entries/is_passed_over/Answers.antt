-- `walk::entries::is_passed_over` meets its contract: a linker label, or a symbol at the edge where its name is passed over.
use mathlib.Core.Path.{ap₂}
use mathlib.Core.Bool.{Bool, ◌||◌}
use Prim.Native.Nat.{ℕ}
use lib.Dec.{eqb}
use Rattle.walk.specs.Walk.{passed_over}
use Rattle.walk.proofs.entries.is_passed_over.Goals as goal

pub returns : goal.returns
unfolding passed_over
returns c = ap₂ (λ (t : Bool) (a : ℕ). t || eqb c.args.y.address a) c.is_linker_generated_label.ensures c.passed_at.ensures
