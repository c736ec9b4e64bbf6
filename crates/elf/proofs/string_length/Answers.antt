-- `elf::string_length`: what std's search says of the first NUL, or of there being none. The check finds each fact only where it stands alone, as what the laws ask, and not
-- the answer in one step.
use Rattle.std.proofs.Common.{rules, ◌≡◌, ◌-◌, ℕ, length, refl, arith}
use Rattle.std.specs.Prelude.{Option, Some, None, unwrap_or}
use Rattle.std.proofs.lemmas.Slice.{between_to_end}
use Rattle.elf.specs.Strings.{Spanned}
use Rattle.elf.proofs.Strings.{nul_found, nul_none}
use Rattle.elf.proofs.string_length.Goals as goal

pub returns : goal.returns
returns c = rw c.unwrap_or.ensures (go c.position.result refl)
  where
    go : (r : Option ℕ) → c.position.result ≡ r → Spanned c.args.table.now c.args.at (unwrap_or r (length c.args.table.now - c.args.at))
    go (Some k) e = nul_found c.args.table.now c.args.at c.requires (between_to_end c.args.table.now c.args.at (length c.args.table.now) (omega arith)) k (search (rules, e)) (search (rules, e)) (search (rules, e))
    go None e = nul_none c.args.table.now c.args.at c.requires (between_to_end c.args.table.now c.args.at (length c.args.table.now) (omega arith)) (search (rules, e))
