-- What is filled has the length of the rest, and nothing lies past it.
use Rattle.std.proofs.Common.{◌≡◌, ◌-◌, ◌++◌, List, ℕ, [], length, take, drop, sym, ap, arith, length-take, length-drop, append-nil, drop_of_length-le}
use Rattle.lists.proofs.Clear.{clear_is, clear_done}
use lib.ListN.{replicate}
use Rattle.outputs.proofs.clear_from.Goals as goal

pub returns-then-from-out : goal.returns-then-from-out
returns-then-from-out c =
    let from = c.args.from in
    let out : List ℕ = c.args.out.now in
    let size = length out - from in
    let filled = c.fill.ensures.after (λ y e. e) in
    let long : length (take size (drop from out)) ≡ size = simp (length-take, length-drop) (omega arith) in
    let rest : drop size (drop from out) ≡ [] = drop_of_length-le (drop from out) (simp length-drop (omega arith)) in
    rw (clear_is 0 from out, filled, long, rest) (ap (λ (m : List ℕ). take from out ++ m) (append-nil (replicate size 0)))

pub returns-else-from-out : goal.returns-else-from-out
returns-else-from-out c = sym (clear_done 0 c.args.from c.args.out.now c.if-from-out.false)
