-- Each split is merged as the definition merges it, and the rows that it leaves are those of the next one.
use Rattle.std.proofs.Common.{◌∙◌, sym, ap}
use Rattle.obj.proofs.Errors.{is_err}
use Rattle.lists.proofs.Parts.{tabulate_all}
use Rattle.align.specs.Align.{bad_align}
use Rattle.obj.specs.Answers.{Answer}
use Rattle.obj.specs.declared.Split.{Split}
use Rattle.splits.specs.Table.{rows_in}
use Rattle.splits.proofs.Lent.{lent_same, lent_still}
use Rattle.splits.proofs.Alignment.{good_alignment}
use Rattle.merge.specs.Merge.{merge_all}
use Rattle.merge.specs.Answers.{merged}
use Rattle.merge.proofs.Rounds.{places_refused, places_on, places_done}
use Rattle.merge.proofs.add_splits.Goals as goal

pub loop-i-init : goal.loop-i-init
loop-i-init c = record { lent = lent_same; merges = ap (merge_all _ _) (tabulate_all _ _) }

pub add_split-requires : goal.add_split-requires
add_split-requires c =
    let l = c.loop-i in
    let q = c.requires in
    let s = c.partial_at-new in (
      q.0,
      good_alignment s.result.alignment (ap (λ (x : Split). bad_align x.alignment) s.ensures ∙ q.1.aligned l.i c.loop-i-test.true),
    )

pub returns-in_err-add_split-clause-rows : goal.returns-in_err-add_split-clause-rows
returns-in_err-add_split-clause-rows c =
    let l = c.loop-i in
    let a = c.args in
    let o = c.add_split in
    rw (is_err _ c.from_residual.ensures.1)
    (sym (places_refused a.partials.now.bytes.now a.partials.now.places.now _ _ l.i c.loop-i-test.true _ c.partial_at-new.ensures
    (sym (rw l.invariant.lent.room at o.ensures.rows) ∙ ap (λ (r : Answer). merged r (rows_in o.new.table)) c.in_err-add_split.was))
    ∙ l.invariant.merges)

pub loop-i-preserved : goal.loop-i-preserved
loop-i-preserved c =
    let l = c.loop-i in
    let a = c.args in
    let o = c.add_split in
    record {
      lent = lent_still l.invariant.lent o.ensures.lent;
      merges = sym (places_on a.partials.now.bytes.now a.partials.now.places.now _ _ l.i c.loop-i-test.true _ c.partial_at-new.ensures
          (sym (rw l.invariant.lent.room at o.ensures.rows) ∙ ap (λ (r : Answer). merged r (rows_in o.new.table)) c.in_ok-add_split.was))
          ∙ l.invariant.merges;
    }

pub returns-clause-rows : goal.returns-clause-rows
returns-clause-rows c =
    let l = c.loop-i in
    let a = c.args in
    sym (places_done a.partials.now.bytes.now a.partials.now.places.now _ _ l.i c.loop-i-test.false) ∙ l.invariant.merges
