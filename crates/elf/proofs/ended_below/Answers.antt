-- `elf::ended_below`: no byte past the place that std's search answers is a NUL, and that one is. The check finds both facts only where they stand alone,
-- as what `none_from` asks, and not the answer in one step.
use Rattle.std.proofs.Common.{◌≡◌, ℕ, rules, refl}
use Rattle.std.specs.Prelude.{Option, Some, None}
use Rattle.elf.specs.Strings.{EndedBelow}
use Rattle.elf.proofs.Strings.{none_from, last_nul, no_nul}
use Rattle.elf.proofs.ended_below.Goals as goal

pub returns : goal.returns
returns c = go c.rposition.result refl
  where
    go : (r : Option ℕ) → c.rposition.result ≡ r → EndedBelow c.args.table.now c.map_or.result
    go (Some k) e =
        let ended = none_from c.args.table.now c.map_or.result (search (rules, e)) (search (rules, e)) in
        last_nul c.args.table.now c.map_or.result ended (search (rules, e)) (search (rules, e))
    go None e =
        let is : c.map_or.result ≡ 0 = search (rules, e) in
        rw is (no_nul c.args.table.now (none_from c.args.table.now 0 (search rules) (search (rules, e))))
