-- `names::gap_name::write_gap_name` meets its contract. The section, the address and the rest of the section's name are stored one behind
-- another, so together they are the name. Assumes nothing.
use Prim.Native.Nat.{◌-◌, ◌≤◌}
use lib.ListN.{length, take, drop, length-take, length-drop}
use native.Mathlib.Omega.{arith}
use mathlib.Core.Path.{◌∙◌}
use Rattle.names.proofs.Gaps.{part_to_end, gap-written}
use Rattle.names.proofs.gap_name.write_gap_name.Goals as goal

pub returns : goal.returns
returns c =
    let name = c.args.name.now in
    let at = c.leading_dots-dots in
    let few : length (take (length name - at.result) (drop at.result name)) ≤ 64 = simp (length-take, length-drop) (omega (arith, c.requires.0)) in
    gap-written _ _ _ c.put_section.ensures c.put_address.ensures (part_to_end name at.result ∙ at.ensures.rest)
    c.put_bytes.ensures
    few
    c.requires.1
