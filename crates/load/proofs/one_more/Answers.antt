-- The count of the kind and 1, each other one and 0.
use Rattle.std.proofs.Common.{◌≡◌, ◌+◌, ℕ, sym}
use native.Mathlib.Nat.{add-zero}
use Rattle.load.specs.Columns.{one_more}
use Rattle.load.proofs.one_more.Goals as goal

stays : (k : ℕ) → k ≡ k + 0
stays k = sym (add-zero k)

pub returns-in-Name : goal.returns-in-Name
unfolding one_more
returns-in-Name c = let n = c.args.n in rw c.in-Name.is (λ z. record { names = n.names + 1; sections = stays n.sections z; symbols = stays n.symbols z; relocations = stays n.relocations z; splits = stays n.splits z; units = stays n.units z })

pub returns-in-Section : goal.returns-in-Section
unfolding one_more
returns-in-Section c = let n = c.args.n in rw c.in-Section.is (λ z. record { names = stays n.names z; sections = n.sections + 1; symbols = stays n.symbols z; relocations = stays n.relocations z; splits = stays n.splits z; units = stays n.units z })

pub returns-in-Symbol : goal.returns-in-Symbol
unfolding one_more
returns-in-Symbol c = let n = c.args.n in rw c.in-Symbol.is (λ z. record { names = stays n.names z; sections = stays n.sections z; symbols = n.symbols + 1; relocations = stays n.relocations z; splits = stays n.splits z; units = stays n.units z })

pub returns-in-Relocation : goal.returns-in-Relocation
unfolding one_more
returns-in-Relocation c = let n = c.args.n in rw c.in-Relocation.is (λ z. record { names = stays n.names z; sections = stays n.sections z; symbols = stays n.symbols z; relocations = n.relocations + 1; splits = stays n.splits z; units = stays n.units z })

pub returns-in-Split : goal.returns-in-Split
unfolding one_more
returns-in-Split c = let n = c.args.n in rw c.in-Split.is (λ z. record { names = stays n.names z; sections = stays n.sections z; symbols = stays n.symbols z; relocations = stays n.relocations z; splits = n.splits + 1; units = stays n.units z })

pub returns-in-Unit : goal.returns-in-Unit
unfolding one_more
returns-in-Unit c = let n = c.args.n in rw c.in-Unit.is (λ z. record { names = stays n.names z; sections = stays n.sections z; symbols = stays n.symbols z; relocations = stays n.relocations z; splits = stays n.splits z; units = n.units + 1 })
