-- `number_names::is_name` meets its contract. The name lies from its start to its end. Assumes nothing.
use Prim.Native.Nat.{ℕ, ◌-◌}
use mathlib.Core.Path.{ap₂, ◌∙◌}
use lib.ListN.{take, drop}
use Rattle.names.specs.Names.{same_name}
use Rattle.name_table.specs.NameTable.{name_in}
use Rattle.number_names.proofs.is_name.Goals as goal

pub returns : goal.returns
unfolding name_in
returns c =
    let s = c.args in
    c.same.ensures
    ∙ ap₂ (λ (a e : ℕ). same_name s.x.now (take (e - a) (drop a s.bytes.now))) c.start_of-start.ensures.is c.end_of-end.ensures.is
