-- `toposort::bad_edge`: the edge that `find` stops at is the one that the whole scan finds, since none before it is bad.
use Rattle.std.proofs.Common.{rules, arith, ◌≡◌, ℕ, ◌<◌, ◌≤◌, true, false, length, sym, ◌∙◌, MatchOption, None, Some, Option, List}
use borrow.Author.Tests.{tests}
use Rattle.std.proofs.lemmas.Iterator.{first_from_Range}
use Rattle.toposort.specs.Search.{bad_edge, is_bad}
use Rattle.toposort.proofs.Edges.{bad_past, bad_here, bad_end}
use Rattle.toposort.proofs.bad_edge.Goals as goal

-- what the search over the places says, as the scan has it
stops : (n : ℕ) (from to : List ℕ) (r : Option ℕ) → length to ≡ length from
    → MatchOption r ((k : ℕ) → 0 ≤ k → k < length from → is_bad n from to k ≡ false)
    (λ e. (0 ≤ e) × (e < length from) × (is_bad n from to e ≡ true) × ((k : ℕ) → 0 ≤ k → k < e → is_bad n from to k ≡ false))
    → MatchOption r (bad_edge n from to ≡ length from) (λ e. (e ≡ bad_edge n from to) × (e < length from))
stops n from to None p h = bad_past n from to (length from) (omega arith) p (λ k q. h k (omega arith) q) ∙ bad_end n from to (length from) (omega arith)
stops n from to (Some e) p h =
    (sym (bad_past n from to e (omega arith) p (λ k q. h.3 k (omega arith) q) ∙ bad_here n from to e h.1 p h.2), h.1)

pub returns : goal.returns
returns c =
    let g = c.args.graph.now in
    stops g.count g.from.now g.to.now c.find.result (omega arith)
    (first_from_Range _ _ _ c.find.result (λ e. is_bad g.count g.from.now g.to.now e ≡ true) (λ e. is_bad g.count g.from.now g.to.now e ≡ false)
    c.find.ensures.ran (λ x q k. search (rules, tests)) (λ x q k. search (rules, tests)))
