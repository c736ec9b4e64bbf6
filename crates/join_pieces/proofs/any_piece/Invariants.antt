-- The loop of `join_pieces::any_piece`: the pieces that are left (`Passing`), and looking among them is looking among all.
use Rattle.std.specs.Prelude.{ℕ, ◌≡◌, ◌-◌, Bool}
use Rattle.lists.specs.Rows.{some}
use Rattle.obj.specs.Parts.{Part}
use Rattle.piece_records.specs.Records.{part_at, parts_at}
use Rattle.join_pieces.specs.Joins.{Among}
use Rattle.join_pieces.proofs.Passing.{Passing}
use Rattle.join_pieces.proofs.any_piece.Given as goal

abbrev pub invariant-loop-i : goal.invariant-loop-i
invariant-loop-i g l =
    Passing l.n l.b l.at l._i
    × ((p : Part → Bool) → ((at : ℕ) (r : Bool) → Among l.n l.b at → goal.F-post g l.test at r → r ≡ p (part_at l.b at)) → some p (parts_at (l.n - l._i) l.b l.at) ≡ some p (parts_at l.n l.b 0))
