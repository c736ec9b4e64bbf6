-- `splits::meets` meets its contract. Invariant, for each of the three answers: it, or the answer of the rows that are left, is the answer of the table; the
-- next of these is in the range, and the rows between two in the range do not count. Assumes nothing.
use Prim.Native.Nat.{◌-◌}
use Rattle.std.specs.Prelude.{unwrap_or}
use Rattle.splits.specs.Table.{columns_of}
use Rattle.splits.specs.Questions.{in_range, is_by_hand, is_of_other}
use Rattle.splits.proofs.Next.{NextIn}
use Rattle.splits.proofs.Meeting.{LeftFrom}
use Rattle.splits.proofs.meets.Given as goal

abbrev pub invariant-loop-next : goal.invariant-loop-next
invariant-loop-next l =
    NextIn (in_range l.range) (columns_of l.splits) l.splits.count l.next
    × LeftFrom l.any (in_range l.range) (columns_of l.splits) l.splits.count l.next
    × LeftFrom l.hand (is_by_hand (in_range l.range)) (columns_of l.splits) l.splits.count l.next
    × LeftFrom l.other (is_of_other (in_range l.range) l.unit) (columns_of l.splits) l.splits.count l.next

abbrev pub decreases-loop-next : goal.decreases-loop-next
decreases-loop-next l = l.splits.count - unwrap_or l.next l.splits.count
