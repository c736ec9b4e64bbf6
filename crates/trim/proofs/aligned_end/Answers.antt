-- `trim::aligned_end` meets its contract: 11 of the range, else the end of the found symbol aligned up, or 11 of the alignment.
use mathlib.Core.Path.{sym, ap, ap₂, ◌∙◌}
use Prim.Native.Nat.{ℕ}
use Rattle.std.proofs.lemmas.Result.{err_from_is_err_and}
use Rattle.lists.specs.Outcome.{accepted, ◌>>=◌}
use Rattle.align.specs.Align.{align_up}
use Rattle.symbols.specs.Ranges.{found_meaning}
use Rattle.symbols.proofs.Finds.{in_found}
use Rattle.sections.specs.Image.{image_in}
use Rattle.sections.specs.Alignment.{chosen, alignment_meaning}
use Rattle.sections.proofs.Good.{from_good}
use Rattle.trim.specs.Trim.{end_of}
use Rattle.trim.specs.Steps.{up_by}
use Rattle.trim.proofs.Falls.{aligned_found, aligned_backwards}
use Rattle.sections.specs.Sections.{head_in}
use Rattle.trim.proofs.aligned_end.Goals as goal

pub returns-in_err-found : goal.returns-in_err-found
returns-in_err-found c =
    let a = c.args in
    let g = image_in a.tables.now.obj in
    let head = head_in a.tables.now.obj in
    let y = a.s in
    let p = err_from_is_err_and c.from_residual.result c.from_residual.ensures.1 in
    rw p.1 (sym (aligned_backwards g head y 11 y.section y.start (sym c.last_in.ensures ∙ ap (found_meaning y.section y.start) c.in_err-found.was)))

pub end_of-end-requires : goal.end_of-end-requires
end_of-end-requires c =
    let a = c.args in
    let g = image_in a.tables.now.obj in
    let y = a.s in
    let p = c.requires in
    let found = sym c.last_in.ensures ∙ ap (found_meaning y.section y.start) c.in_ok-found.was in
    (a.tables.now.asks.tables.symbols.whole, a.tables.now.asks.sound, p.0.end, λ i e. (in_found g.symbol g.count y.section y.start y.end i (found ∙ ap accepted e)).there)

pub returns-in_err-a : goal.returns-in_err-a
unfolding ◌>>=◌
returns-in_err-a c =
    let a = c.args in
    let g = image_in a.tables.now.obj in
    let head = head_in a.tables.now.obj in
    let y = a.s in
    let end = end_of g.symbol y.end c.in_ok-found.found in
    let p = err_from_is_err_and c.from_residual-in_err-a.result c.from_residual-in_err-a.ensures.1 in
    rw p.1
    (ap (up_by end) (sym (ap (alignment_meaning y.section y.start) c.in_err-a.was) ∙ c.split_alignment.ensures)
    ∙ sym (aligned_found g head y c.in_ok-found.found (sym c.last_in.ensures ∙ ap (found_meaning y.section y.start) c.in_ok-found.was)))

pub align_up-requires : goal.align_up-requires
align_up-requires c =
    let a = c.args in
    let g = image_in a.tables.now.obj in
    let head = head_in a.tables.now.obj in
    let y = a.s in (
      c.end_of-end.ensures.small,
      rw c.value.ensures
          (from_good g head y.start y a.tables.now.asks.sound c.requires.1 (chosen c.in_ok-a.a) (sym c.split_alignment.ensures ∙ ap (alignment_meaning y.section y.start) c.in_ok-a.was)),
    )

pub returns : goal.returns
unfolding ◌>>=◌
returns c =
    let a = c.args in
    let g = image_in a.tables.now.obj in
    let head = head_in a.tables.now.obj in
    let y = a.s in
    let end = end_of g.symbol y.end c.in_ok-found.found in
    ap accepted c.align_up.ensures.is
    ∙ ap₂ (λ (x v : ℕ). accepted (align_up x v)) c.end_of-end.ensures.is c.value.ensures
    ∙ ap (up_by end) (sym (ap (alignment_meaning y.section y.start) c.in_ok-a.was) ∙ c.split_alignment.ensures)
    ∙ sym (aligned_found g head y c.in_ok-found.found (sym c.last_in.ensures ∙ ap (found_meaning y.section y.start) c.in_ok-found.was))
