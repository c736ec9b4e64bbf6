-- What a round decides is an outcome of `decide`, and what is then done is the round's end or the rows of the next one.
use Rattle.std.proofs.Common.{◌≡◌, ◌∙◌, sym, ap, arith, List}
use Rattle.std.specs.Prelude.{Ok}
use Rattle.obj.proofs.Errors.{is_err}
use Rattle.lists.specs.Outcome.{accepted}
use Rattle.obj.specs.declared.Split.{Split}
use Rattle.tables.specs.Records.{sections_in}
use Rattle.splits.specs.Table.{rows_in, columns_in}
use Rattle.splits.proofs.Lent.{lent_still}
use Rattle.splits.proofs.Rows.{unchanged_rows}
use Rattle.split_joins.specs.Joins.{joined_by}
use Rattle.merge.specs.Merge.{given, push, join, decide, merge_one}
use Rattle.merge.specs.Answers.{decided}
use Rattle.merge.proofs.Rounds.{round_refused, round_keep, round_push, round_join}
use Rattle.merge.proofs.Decisions.{handed, join_less, push_below}
use Rattle.merge.proofs.add_split.Goals as goal

pub returns-in_err-decide_round-clause-rows : goal.returns-in_err-decide_round-clause-rows
returns-in_err-decide_round-clause-rows c =
    let l = c.loop-table in
    let e = sym (rw c.columns.ensures.rows at c.decide_round.ensures.0) ∙ ap decided c.in_err-decide_round.was in
    rw (is_err _ c.from_residual.ensures.1) (sym (round_refused _ _ l.s _ _ _ e) ∙ l.invariant.merges)

pub returns-in-Keep-clause-rows : goal.returns-in-Keep-clause-rows
returns-in-Keep-clause-rows c =
    let l = c.loop-table in
    let e = sym (rw c.columns.ensures.rows at c.decide_round.ensures.0) ∙ ap decided (c.in_ok-decide_round.was ∙ ap Ok c.in-Keep.is) in
    sym (round_keep _ _ l.s e) ∙ l.invariant.merges

pub push-requires : goal.push-requires
push-requires c =
    let l = c.loop-table in
    let a = c.args in
    let t = l.table in
    let g = given (sections_in a.heads.now.bytes.now a.heads.now.places.now) a.table.now.room in
    let pushes : decide g (rows_in t) l.s ≡ accepted push =
    sym (rw c.columns.ensures.rows at c.decide_round.ensures.0) ∙ ap decided (c.in_ok-decide_round.was ∙ ap Ok c.in-Push.is) in
    (omega (arith, push_below g (columns_in t) t.count l.s pushes, l.invariant.lent.room), l.invariant.good)

pub returns-in-Push-clause-rows : goal.returns-in-Push-clause-rows
returns-in-Push-clause-rows c =
    let l = c.loop-table in
    let a = c.args in
    let g = given (sections_in a.heads.now.bytes.now a.heads.now.places.now) a.table.now.room in
    let pushes : decide g (rows_in l.table) l.s ≡ accepted push =
    sym (rw c.columns.ensures.rows at c.decide_round.ensures.0) ∙ ap decided (c.in_ok-decide_round.was ∙ ap Ok c.in-Push.is) in
    ap accepted c.push.ensures.rows ∙ sym (round_push _ _ l.s pushes) ∙ l.invariant.merges

pub returns-then-join_at_once-clause-rows : goal.returns-then-join_at_once-clause-rows
returns-then-join_at_once-clause-rows c =
    let l = c.loop-table in
    let a = c.args in
    let t = l.table in
    let g = given (sections_in a.heads.now.bytes.now a.heads.now.places.now) a.table.now.room in
    let joins : decide g (rows_in t) l.s ≡ accepted (join c.in-Join.joint) =
    sym (rw c.columns.ensures.rows at c.decide_round.ensures.0) ∙ ap decided (c.in_ok-decide_round.was ∙ ap Ok c.in-Join.is) in
    c.join_at_once.ensures.made c.if-join_at_once.true a.table.now.room (omega (arith, t.fits, l.invariant.lent.room)) ∙ sym (round_join _ _ l.s _ joins) ∙ l.invariant.merges

pub loop-table-smaller : goal.loop-table-smaller
loop-table-smaller c =
    let l = c.loop-table in
    let a = c.args in
    let x = l.table in
    let y = c.join.new.table in
    let g = given (sections_in a.heads.now.bytes.now a.heads.now.places.now) a.table.now.room in
    let joins : decide g (rows_in x) l.s ≡ accepted (join c.in-Join.joint) =
    sym (rw c.columns.ensures.rows at c.decide_round.ensures.0) ∙ ap decided (c.in_ok-decide_round.was ∙ ap Ok c.in-Join.is) in
    let same = c.join_at_once.ensures.none c.if-join_at_once.false in
    let r = c.of.ensures in
    let done : rows_in y ≡ joined_by c.in-Join.joint (rows_in x) =
    rw (r.section, r.from, r.to) at c.join.ensures.rows ∙ ap (joined_by c.in-Join.joint) (unchanged_rows _ _ same) in
    join_less g (columns_in x) (columns_in y) x.count y.count l.s _ joins done

pub loop-table-preserved : goal.loop-table-preserved
loop-table-preserved c =
    let l = c.loop-table in
    let a = c.args in
    let x = l.table in
    let g = given (sections_in a.heads.now.bytes.now a.heads.now.places.now) a.table.now.room in
    let joins : decide g (rows_in x) l.s ≡ accepted (join c.in-Join.joint) =
    sym (rw c.columns.ensures.rows at c.decide_round.ensures.0) ∙ ap decided (c.in_ok-decide_round.was ∙ ap Ok c.in-Join.is) in
    let same = c.join_at_once.ensures.none c.if-join_at_once.false in
    let r = c.of.ensures in
    let done : rows_in c.join.new.table ≡ joined_by c.in-Join.joint (rows_in x) =
    rw (r.section, r.from, r.to) at c.join.ensures.rows ∙ ap (joined_by c.in-Join.joint) (unchanged_rows _ _ same) in
    record {
      lent = lent_still (lent_still l.invariant.lent same.lent) c.join.ensures.size.lent;
      good = handed _ _ (c.in_ok-decide_round.was ∙ ap Ok c.in-Join.is) c.decide_round.ensures.1;
      merges = ap (λ (r : List Split). merge_one g r c.in-Join.joint) done ∙ sym (round_join _ _ l.s _ joins) ∙ l.invariant.merges;
    }
