-- `gap_splits::add_name` meets its contract: what was appended is one name more, and where nothing was, there was no room.
use Rattle.gap_splits.specs.Added.{beside}
use Rattle.gap_splits.proofs.Naming.{stand_more, adds_done, adds_full}
use Rattle.gap_splits.proofs.add_name.Goals as goal

pub invariant_of-added : goal.invariant_of-added
invariant_of-added c =
    let a = c.args.added.now in
    record { stand = stand_more c.args.x.now (beside a.bytes.now a.places.now a.lengths.now) _ a.count a.used a.most.names a.most.bytes a.stand c.append-done.ensures c.if-done.true }

pub returns-then-done-clause-names : goal.returns-then-done-clause-names
returns-then-done-clause-names c =
    let a = c.args.added.now in
    adds_done c.args.x.now (beside a.bytes.now a.places.now a.lengths.now) _ a.count a.used a.most.names a.most.bytes a.stand c.append-done.ensures c.if-done.true

pub returns-else-done-clause-names : goal.returns-else-done-clause-names
returns-else-done-clause-names c =
    let a = c.args.added.now in
    adds_full c.args.x.now (beside a.bytes.now a.places.now a.lengths.now) _ a.count a.used a.most.names a.most.bytes a.stand c.append-done.ensures c.if-done.false
