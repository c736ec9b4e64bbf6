-- The gaps of each section enter after those found.
use Rattle.std.proofs.Common.{◌∙◌, refl, sym, ap, arith}
use Rattle.obj.proofs.Errors.{is_err}
use Rattle.sections.specs.Image.{image_in}
use Rattle.sections.specs.Sections.{sections_of}
use Rattle.splits.specs.Table.{columns_of}
use Rattle.gaps.specs.Found.{searched}
use Rattle.gaps.proofs.Sections.{search_start, search_space, search_refused, search_on, search_done}
use Rattle.gap_columns.proofs.Lent.{lent_same}
use Rattle.gaps.proofs.find_gaps.Goals as goal

pub loop-k-init : goal.loop-k-init
loop-k-init c =
    let a = c.args in
    let g = image_in a.obj.now in
    let sections = sections_of a.obj.now.heads.bytes.now a.obj.now.heads.places.now a.image.now.bytes.now a.image.now.places.now in
    record { holds = search_start g sections (columns_of a.splits.now) a.splits.now.count _ _ refl lent_same; clean = c.requires.3 }

pub gaps_of-requires : goal.gaps_of-requires
gaps_of-requires c =
    let p = c.requires in
    let l = c.loop-k in (
      p.0,
      p.1,
      record { symbols = p.0.symbols; markable = λ i h. omega (arith, p.0.names.named i h, p.4, l.auto.marks); clean = l.invariant.clean },
      p.2,
      c.loop-k-test.true,
      search_space _ _ _ _ _ _ _ l.invariant.holds c.loop-k-test.true p.5,
    )

pub returns-in_err-gaps_of-clause-gaps : goal.returns-in_err-gaps_of-clause-gaps
returns-in_err-gaps_of-clause-gaps c =
    let l = c.loop-k in
    let g = c.gaps_of in
    rw (is_err _ c.from_residual.ensures.1) (search_refused _ _ _ _ _ _ _ l.invariant.holds c.loop-k-test.true _ _ _ (sym (ap (searched g.new.found) c.in_err-gaps_of.was) ∙ g.ensures.gaps))

pub loop-k-preserved : goal.loop-k-preserved
loop-k-preserved c =
    let l = c.loop-k in
    let g = c.gaps_of in
    record {
      holds = search_on _ _ _ _ _ _ _ l.invariant.holds c.loop-k-test.true c.requires.2 g.new.found g.ensures.lent (sym (ap (searched g.new.found) c.in_ok-gaps_of.was) ∙ g.ensures.gaps);
      clean = g.ensures.marks;
    }

pub returns-clause-gaps : goal.returns-clause-gaps
returns-clause-gaps c = search_done _ _ _ _ _ _ _ c.loop-k.invariant.holds c.loop-k-test.false
