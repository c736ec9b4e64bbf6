-- `entry_toposort::column`. Invariant: the first i places are those of the whole column.
use Rattle.std.specs.Prelude.{◌≡◌, ◌+◌, ◌*◌, length, take}
use Rattle.lists.specs.Rows.{tabulate}
use Rattle.fields.specs.Fields.{le16}
use Rattle.entry_toposort.proofs.column.Given as goal

abbrev pub invariant-loop-i : goal.invariant-loop-i
invariant-loop-i l = take l.i l.out ≡ take l.i (tabulate (λ j. le16 l.edges (4 * j + l.at)) 0 (length l.initial.out))
