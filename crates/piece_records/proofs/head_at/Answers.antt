-- `piece_records::head_at` meets its contract.
-- Assumes nothing.
use mathlib.Core.Path.{sym, ap, ◌∙◌}
use Prim.Native.Nat.{ℕ, ◌-◌}
use Rattle.piece_records.specs.Records.{part_at}
use Rattle.piece_records.proofs.Laws.{bytes_length}
use Rattle.piece_records.proofs.head_at.Goals as goal

pub returns : goal.returns
unfolding part_at
returns c = record {
  section = c.get.ensures;
  address = c.get-2.ensures;
  «length» = ap (λ (k : ℕ). k - 6) c.get-3.ensures ∙ sym (bytes_length _ _ c.requires);
}
