-- Each line is written of a cursor of the run, takes some bytes off what is left, and leaves a cursor of the run.
use Rattle.std.proofs.Common.{arith, refl}
use Rattle.listing.proofs.Whole.{first_valid}
use Rattle.print_run.proofs.Lines.{line_less, line_valid, listed_first, listed_more, listed_last}
use Rattle.print_run.proofs.print_listed.Goals as goal

pub loop-length-init : goal.loop-length-init
loop-length-init g c = (first_valid _, listed_first _ _)

pub next_line-requires : goal.next_line-requires
next_line-requires g c = (c.loop-length.invariant.0, omega arith)

pub slice_bounds-write_all-end : goal.slice_bounds-write_all-end
slice_bounds-write_all-end g c = let n = c.in-Some.ensures.0 in omega (arith, n.few, n.long)

pub returns : goal.returns
returns g c = listed_last _ _ _ c.loop-length.cursor _ c.loop-length.invariant.1 c.in_default.ensures refl

pub loop-length-smaller : goal.loop-length-smaller
loop-length-smaller g c = let n = c.in-Some.ensures in line_less _ c.loop-length.cursor _ n.0 (omega arith) n.1

pub loop-length-preserved : goal.loop-length-preserved
loop-length-preserved g c = (
  line_valid _ c.loop-length.cursor _ c.in-Some.ensures.0,
  listed_more _ _ _ _ c.loop-length.cursor _ c.loop-length.invariant.1 c.in-Some.ensures.0 c.in_ok-write_all.ensures.bytes,
)
