-- `gap_splits::number_of_name` meets its contract: a name of the tables is reused, another is added, unless the table is full.
-- Assumes nothing.
use mathlib.Core.Path.{refl}
use native.Mathlib.Omega.{arith}
use lib.ListN.{length}
use Rattle.names.proofs.Laws.{length-names}
use Rattle.gap_splits.specs.Answers.{added_in, ceilings_in}
use Rattle.names.specs.Listed.{names_in}
use Rattle.gap_splits.proofs.Naming.{numbered_there, numbered_new, numbered-full, far_away}
use Rattle.gap_splits.proofs.number_of_name.Goals as goal

pub returns-in-Some-clause-unit : goal.returns-in-Some-clause-unit
returns-in-Some-clause-unit c =
    let a = c.args in
    let f = c.in-Some.ensures in
    numbered_there (names_in a.table_names.now) a.x.now (added_in a.added.now) (ceilings_in a.table_names.now a.added.now) refl f.0.is f.1

pub returns-then-add_name-clause-unit : goal.returns-then-add_name-clause-unit
returns-then-add_name-clause-unit c =
    let a = c.args in
    let t = a.table_names.now in
    let o = a.added.now in
    let long = length-names t.bytes.now t.places.now t.lengths.now (length t.places.now) in
    let many = length-names o.bytes.now o.places.now o.lengths.now o.count in
    let far = far_away (names_in t) a.x.now c.in_default.ensures in
    numbered_new (names_in t) a.x.now (added_in o) _ o.most.names o.most.bytes far c.requires.2 c.add_name.ensures.names c.if-add_name.true (omega (arith, long, many))

pub overflow_cast-result-then-add_name : goal.overflow_cast-result-then-add_name
overflow_cast-result-then-add_name c = let s = c.args.added.now.stand in omega (arith, c.requires.1.few, s.few, s.room.few, length-names c.args.table_names.now.bytes.now c.args.table_names.now.places.now c.args.table_names.now.lengths.now (length c.args.table_names.now.places.now))

pub returns-clause-unit : goal.returns-clause-unit
returns-clause-unit c =
    let a = c.args in
    let t = a.table_names.now in
    let o = a.added.now in
    let far = far_away (names_in t) a.x.now c.in_default.ensures in
    numbered-full (names_in t) a.x.now (added_in o) _ o.most.names o.most.bytes far c.requires.2 c.add_name.ensures.names c.if-add_name.false
