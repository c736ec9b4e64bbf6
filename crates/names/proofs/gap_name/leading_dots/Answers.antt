-- `names::gap_name::leading_dots`: what std's search says of the place, or of there being none. The check finds each fact only where it stands alone, as what `dots_found` asks,
-- and not the answer in one step.
use Rattle.std.proofs.Common.{rules, ◌≡◌, ℕ, length, refl}
use Rattle.std.specs.Prelude.{Option, Some, None, unwrap_or}
use Rattle.names.specs.GapName.{Dots}
use Rattle.names.proofs.Gaps.{dots_found, dots_all}
use Rattle.names.proofs.gap_name.leading_dots.Goals as goal

pub returns : goal.returns
returns c = rw c.unwrap_or.ensures (go c.position.result refl)
  where
    go : (r : Option ℕ) → c.position.result ≡ r → Dots c.args.name.now (unwrap_or r (length c.args.name.now))
    go (Some k) e = record { few = search (rules, e); rest = dots_found c.args.name.now k (search (rules, e)) (search (rules, e)) (search (rules, e)) }
    go None e = record { few = search rules; rest = dots_all c.args.name.now (search (rules, e)) }
