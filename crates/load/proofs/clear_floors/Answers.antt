-- What is filled has the length of the rest, and nothing lies past it.
use Rattle.std.proofs.Common.{◌≡◌, ◌-◌, ◌++◌, List, ℕ, [], length, take, drop, ap, arith, length-take, length-drop, append-nil, drop_of_length-le}
use Rattle.lists.proofs.Clear.{clear_is}
use lib.ListN.{replicate}
use Rattle.load.proofs.clear_floors.Goals as goal

pub returns : goal.returns
returns c =
    let places : List ℕ = c.args.places.now in
    let size = length places - 14400 in
    let filled = c.fill.ensures.after (λ y e. e) in
    let long : length (take size (drop 14400 places)) ≡ size = simp (length-take, length-drop) (omega arith) in
    let rest : drop size (drop 14400 places) ≡ [] = drop_of_length-le (drop 14400 places) (simp length-drop (omega arith)) in
    rw (clear_is 0 14400 places, filled, long, rest) (ap (λ (m : List ℕ). take 14400 places ++ m) (append-nil (replicate size 0)))
