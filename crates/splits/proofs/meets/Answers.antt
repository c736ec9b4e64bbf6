-- `splits::meets`: the next row in the range counts, and the rows between two in the range do not.
use mathlib.Core.Path.{sym, ap, ◌∙◌}
use mathlib.Core.Bool.{Bool, true, false, not, ◌&&◌}
use Prim.Native.Nat.{◌+◌, zero-le}
use lib.Dec.{eqb}
use lib.ListN.{get_or}
use Rattle.std.proofs.Math.Bool.{or-true}
use Rattle.lists.specs.Rows.{some}
use Rattle.lists.proofs.Parts.{tabulate_all}
use Rattle.splits.specs.Columns.{row_of, row_at}
use Rattle.splits.specs.Table.{columns_of}
use Rattle.splits.specs.Questions.{in_range, is_auto, is_by_hand, is_of_other}
use Rattle.splits.proofs.Next.{next_in, fewer_left}
use Rattle.splits.proofs.Meeting.{left_on, left_next}
use Rattle.splits.proofs.meets.Goals as goal

pub loop-next-init : goal.loop-next-init
loop-next-init c =
    let a = c.args in
    let r = c.next_within-next in
    let n = a.splits.now.count in
    let k = columns_of a.splits.now in
    let p = in_range a.range in (
      next_in p k n 0 r.result r.ensures,
      left_on p p (λ y e. e) k n 0 false r.result zero-le r.ensures (ap (some p) (tabulate_all (row_at k) n)),
      left_on p (is_by_hand p) (λ y e. ap (λ (b : Bool). b && not (is_auto y)) e) k n 0 false r.result zero-le r.ensures (ap (some (is_by_hand p)) (tabulate_all (row_at k) n)),
      left_on p (is_of_other p a.unit) (λ y e. ap (λ (b : Bool). b && (not (is_auto y) && not (eqb y.unit a.unit))) e) k n 0 false r.result zero-le r.ensures
          (ap (some (is_of_other p a.unit)) (tabulate_all (row_at k) n)),
    )

pub loop-next-smaller : goal.loop-next-smaller
loop-next-smaller c =
    let a = c.args in
    let r = c.next_within-next-in-Some in
    let here = rw c.in-Some.is at c.loop-next.invariant.0 in
    rw c.in-Some.is (fewer_left (in_range a.range) (columns_of a.splits.now) a.splits.now.count c.in-Some.i r.result here.0 r.ensures)

pub loop-next-preserved : goal.loop-next-preserved
unfolding row_of
loop-next-preserved c =
    let l = c.loop-next in
    let a = c.args in
    let i = c.in-Some.i in
    let r = c.next_within-next-in-Some in
    let n = a.splits.now.count in
    let k = columns_of a.splits.now in
    let p = in_range a.range in
    let v = rw c.in-Some.is at l.invariant in
    let by_hand = c.is_hand-by_hand.ensures in
    let of_other = not (eqb (get_or a.splits.now.units.now i 0) a.unit) in (
      next_in p k n (i + 1) r.result r.ensures,
      rw (or-true l.any) at (left_next p p (λ y e. e) k n l.any true i r.result v.0.0 v.0.1 r.ensures v.1),
      left_next p (is_by_hand p) (λ y e. ap (λ (b : Bool). b && not (is_auto y)) e) k n l.hand _ i r.result v.0.0
          (ap (λ (b : Bool). b && not (is_auto (row_at k i))) v.0.1 ∙ sym by_hand) r.ensures v.2,
      left_next p (is_of_other p a.unit) (λ y e. ap (λ (b : Bool). b && (not (is_auto y) && not (eqb y.unit a.unit))) e) k n l.other _ i r.result v.0.0
          (ap (λ (b : Bool). b && (not (is_auto (row_at k i)) && of_other)) v.0.1 ∙ ap (λ (b : Bool). b && of_other) (sym by_hand)) r.ensures v.3,
    )

pub returns : goal.returns
returns c =
    let v = rw c.in_default.is at c.loop-next.invariant in
    record { any = v.1; hand = v.2; other = v.3 }
