-- `trim::past_start` meets its contract: the rows before the place that `find` stops at start where s does.
use native.Mathlib.Omega.{arith}
use Rattle.std.proofs.Common.{rules}
use Rattle.std.proofs.lemmas.Iterator.{first_from_Range}
use mathlib.Core.Path.{◌≡◌, refl, sym, ap, subst, ◌∙◌}
use mathlib.Core.Bool.{Bool, true, false, ◌&&◌}
use Prim.Native.Nat.{ℕ, ◌-◌, ◌+◌, ◌≤◌, ◌<◌}
use lib.Dec.{eqb}
use borrow.Author.Tests.{tests}
use Rattle.std.specs.Option.{unwrap_or}
use Rattle.std.specs.Prelude.{Option, None, Some, MatchOption}
use Rattle.lists.specs.Rows.{tabulate}
use Rattle.obj.specs.declared.Split.{Split}
use Rattle.splits.specs.Columns.{Columns, row_at}
use Rattle.splits.specs.Table.{columns_of}
use Rattle.trim.specs.Trim.{alongside}
use Rattle.trim.specs.Steps.{Past}
use Rattle.trim.proofs.Carry.{along_past, along_ends, along_none}
use Rattle.trim.proofs.past_start.Goals as goal

module _ (s : Split) (cols : Columns) (n from : ℕ) (low : from ≤ n) where
  abbrev same : ℕ → Bool
  same j = eqb (row_at cols j).section s.section && eqb (row_at cols j).start s.start

  stops : (r : Option ℕ) → MatchOption r ((k : ℕ) → from ≤ k → k < n → same k ≡ true) (λ i. (from ≤ i) × (i < n) × (same i ≡ false) × ((k : ℕ) → from ≤ k → k < i → same k ≡ true))
      → Past s cols n from (unwrap_or r n)
  stops None h =
      let z : from + (n - from) ≡ n = omega (arith, low) in
      let far = along_past s (row_at cols) n from (n - from) (omega (arith, low)) (λ j a b. h j a (omega arith)) in
      record { is = sym (far ∙ along_none s (row_at cols) n (from + (n - from)) (omega arith) ∙ z); past = low; small = omega arith }
  stops (Some i) h =
      let z : from + (i - from) ≡ i = omega (arith, h.0) in
      let far = along_past s (row_at cols) n from (i - from) (omega (arith, h.0, h.1)) (λ j a b. h.3 j a (omega (arith, h.0))) in
      let near = along_ends s (row_at cols) n i (row_at cols i) refl h.1 h.2 in
      record { is = sym (far ∙ ap (λ (m : ℕ). m + alongside s (tabulate (row_at cols) m (n - m))) z ∙ near); past = h.0; small = omega (arith, h.1) }

pub returns : goal.returns
returns c =
    let a = c.args in
    let cols = columns_of a.splits.now in
    let n = a.splits.now.count in
    subst (Past a.s cols n a.from) (sym c.unwrap_or.ensures)
    (stops a.s cols n a.from c.requires c.find.result
    (first_from_Range _ _ _ c.find.result (λ j. same a.s cols n a.from c.requires j ≡ false) (λ j. same a.s cols n a.from c.requires j ≡ true)
    c.find.ensures.ran (λ x q k. search (rules, tests)) (λ x q k. search (rules, tests))))
