-- `symbols::last_of`: the place that `find` stops at from behind has the last symbol that passes.
use native.Mathlib.Omega.{arith}
use Rattle.std.proofs.Common.{rules}
use mathlib.Core.Path.{◌≡◌, sym, ◌∙◌}
use mathlib.Core.List.{List}
use mathlib.Core.Bool.{Bool, true, false}
use Prim.Native.Nat.{ℕ, ◌≤◌, ◌<◌}
use lib.ListN.{length, get_or}
use borrow.Author.Tests.{tests}
use Rattle.std.specs.Prelude.{Option, None, Some, MatchOption}
use Rattle.std.specs.Option.{option_map}
use Rattle.lists.specs.Rows.{keep_if}
use Rattle.lists.proofs.Backwards.{last_from_Range}
use Rattle.symbol_order.specs.Order.{symbol_of}
use Rattle.symbols.specs.Ranges.{sized_unstripped, last_or}
use Rattle.symbols.proofs.Laws.{last_is, last_nowhere}
use Rattle.symbols.proofs.last_of.Goals as goal

-- what the search from behind says, as the contract has it
last : (p : ℕ → Bool) (l : List ℕ) (r : Option ℕ)
    → MatchOption r ((k : ℕ) → 0 ≤ k → k < length l → p (get_or l k 0) ≡ false)
    (λ j. (0 ≤ j) × (j < length l) × (p (get_or l j 0) ≡ true) × ((k : ℕ) → j < k → k < length l → p (get_or l k 0) ≡ false))
    → option_map (λ j. get_or l j 0) r ≡ last_or None (keep_if p l)
last p l None h = sym (last_nowhere p l None (λ k a. h k (omega arith) a))
last p l (Some j) h = sym (last_is p l j None h.1 h.2 h.3)

pub returns : goal.returns
returns c =
    let t = c.args.table.now in
    let l = c.args.part.now in
    let p = λ (i : ℕ). sized_unstripped c.args.objects (symbol_of t.bytes.now t.places.now i) in
    -- `map` keeps the cases, which is all that `search` takes of its clause
    let is : c.map.result ≡ option_map (λ j. get_or l j 0) c.find-last.result = search rules in
    is ∙ last p l c.find-last.result
    (rw c.rev.ensures.source at
    (last_from_Range c.rev.result _ _ c.find-last.result (λ j. p (get_or l j 0) ≡ true) (λ j. p (get_or l j 0) ≡ false)
    c.find-last.ensures.ran (λ x q k. search (rules, tests)) (λ x q k. search (rules, tests))))
