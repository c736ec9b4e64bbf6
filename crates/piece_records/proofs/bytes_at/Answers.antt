-- `piece_records::bytes_at` meets its contract.
-- Assumes nothing.
use mathlib.Core.Path.{◌≡◌, ap}
use Prim.Native.Nat.{ℕ, ◌+◌, ◌-◌}
use lib.ListN.{take, drop}
use Rattle.fields.specs.Fields.{le32}
use Rattle.piece_records.specs.Records.{part_at}
use native.Mathlib.Omega.{arith}
use Rattle.piece_records.proofs.bytes_at.Goals as goal

pub returns : goal.returns
unfolding part_at
returns c =
    let a = c.args in
    ap (λ (k : ℕ). take k (drop (a.at + 12) a.b.now)) (let z : a.at + 6 + c.get-size.result - (a.at + 12) ≡ le32 a.b.now a.at - 6 = omega arith in z)
