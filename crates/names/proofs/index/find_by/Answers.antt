-- `names::index::find_by` meets its contract: each list of names that the calls tell of is searched; that there is one says that the chain goes down. Assumes nothing.
use Rattle.names.proofs.Indexes.{search_starts, search_none, search_head, left_asked, left_chain, left_found, left_less, left_other}
use Rattle.names.proofs.index.find_by.Goals as goal

pub loop-cur-init : goal.loop-cur-init
loop-cur-init g c = λ names a.
    let at = c.bucket_of.ensures in
    search_starts names c.args.x.now _ (search_head a.index at c.number-cur.ensures)

pub is_name-requires : goal.is_name-requires
is_name-requires g c = left_asked c.requires.1 (c.loop-cur.invariant _ c.requires.1) c.loop-cur-test.true

pub returns-then-is_name : goal.returns-then-is_name
returns-then-is_name g c = λ names a. left_found a (c.loop-cur.invariant names a) c.loop-cur-test.true c.is_name.ensures c.if-is_name.true

pub number-cur-requires-in-loop-cur : goal.number-cur-requires-in-loop-cur
number-cur-requires-in-loop-cur g c = left_chain c.requires.1 (c.loop-cur.invariant _ c.requires.1) c.loop-cur-test.true

pub loop-cur-smaller : goal.loop-cur-smaller
loop-cur-smaller g c = left_less c.requires.1 (c.loop-cur.invariant _ c.requires.1) c.loop-cur-test.true c.number-cur-in-loop-cur.ensures

pub loop-cur-preserved : goal.loop-cur-preserved
loop-cur-preserved g c = λ names a. left_other a (c.loop-cur.invariant names a) c.loop-cur-test.true c.number-cur-in-loop-cur.ensures c.is_name.ensures c.if-is_name.false

pub returns : goal.returns
returns g c = λ names a. search_none names c.args.x.now (c.loop-cur.invariant names a) c.loop-cur-test.false
