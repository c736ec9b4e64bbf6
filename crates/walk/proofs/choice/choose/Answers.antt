-- `walk::choice::choose` meets its contract: each return is one way in which `decide` ends, by the tests passed so far.
use mathlib.Core.Path.{sym, ap, subst, ◌∙◌}
use Prim.Native.Nat.{ℕ}
use native.Mathlib.Omega.{arith}
use borrow.Author.Rules.{rules}
use lib.ListN.{length-map}
use Rattle.lists.specs.Outcome.{accepted, refused}
use Rattle.obj.specs.declared.Refusal.{Refusal}
use Rattle.obj.specs.Records.{unit_at}
use Rattle.units.specs.Units.{unit_names}
use Rattle.units.proofs.Laws.{unit_le}
use Rattle.std.specs.Prelude.{Some, Result}
use Rattle.symbols.specs.declared.Backwards.{Backwards}
use Rattle.walk.proofs.Deciding.{decide-start, decide-between, decide_skip, decide_unlisted, decide_backwards, decide_gives}
use Rattle.obj.proofs.Errors.{is_err}
use Rattle.sections.specs.Image.{image_in}
use Rattle.sections.specs.Sections.{head_of}
use Rattle.walk.specs.Walk.{alignment_in}
use Rattle.walk.proofs.Refused.{Left, left}
use Rattle.walk.specs.Steps.{AlignedAt}
use Rattle.walk.proofs.choice.choose.Goals as goal
use Rattle.walk.proofs.choice.choose.Goals.{After-map_err}

pub returns-then-s-current : goal.returns-then-s-current
returns-then-s-current c = rw c.refuse_at.ensures (decide-start _ _ _ _ _ _ _ c.if-s-current.true, tt)

pub returns-in_err-between : goal.returns-in_err-between
returns-in_err-between c =
    let r = c.in_err-between.field-0.0 in
    rw (is_err _ c.from_residual.ensures.1) (decide-between _ _ _ _ _ _ _ c.if-s-current.false r.number r.section r.address c.in_err-between.ensures, tt)

pub returns-then-is_skipped : goal.returns-then-is_skipped
returns-then-is_skipped c =
    (decide_skip _ _ _ _ _ _ _ c.if-s-current.false c.in_ok-between.ensures (sym c.is_skipped.ensures ∙ c.if-is_skipped.true), tt)

pub returns-then-unit-units : goal.returns-then-unit-units
returns-then-unit-units c =
    let a = c.args in
    let number = c.number-unit.ensures ∙ a.units.now.numbered.each a.s.unit c.requires.3 in
    let count = length-map a.units.now.table.places.now (λ (at : ℕ). (unit_at a.units.now.table.bytes.now at).name) in
    rw c.refuse_at-then-unit-units.ensures
    (decide_unlisted _ _ _ _ _ _ _ c.if-s-current.false c.in_ok-between.ensures (sym c.is_skipped.ensures ∙ c.if-is_skipped.false) (sym number ∙ c.if-unit-units.true ∙ sym count), tt)

-- the alignment that is wanted, or 11
abbrev Aligned : After-map_err → Result ℕ Backwards → Type 0
Aligned c =
    let a = c.args in
    AlignedAt (alignment_in (image_in a.obj.now) (head_of a.obj.now.heads.bytes.now a.obj.now.heads.places.now a.n) a.n a.current a.s) a.n a.current

abbrev backwards : After-map_err → Refusal
backwards c = record { number = 11; section = c.args.n; address = c.args.current }

aligned : (c : After-map_err) → Left (Aligned c) (backwards c) c.map_err.result
aligned c = left (Aligned c) (backwards c) c.alignment_at-asked.result c.map_err.result c.map_err.ensures.cases (λ e d q. search rules) c.alignment_at-asked.ensures

pub returns-in_err-alignment : goal.returns-in_err-alignment
returns-in_err-alignment c =
    let a = c.args in
    let number = c.number-unit.ensures ∙ a.units.now.numbered.each a.s.unit c.requires.3 in
    let count = length-map a.units.now.table.places.now (λ (at : ℕ). (unit_at a.units.now.table.bytes.now at).name) in
    let r = c.in_err-alignment.field-0.0 in
    let h = (goal.at.returns-in_err-alignment c).After-map_err in
    let stopped = subst (Left (Aligned h) (backwards h)) c.in_err-alignment.was (aligned h) in
    rw (is_err _ c.from_residual-in_err-alignment.ensures.1)
    (decide_backwards _ _ _ _ _ _ _ c.if-s-current.false c.in_ok-between.ensures (sym c.is_skipped.ensures ∙ c.if-is_skipped.false) (λ e. c.if-unit-units.false (number ∙ e ∙ count)) r.number r.section r.address (stopped.1 ∙ ap (λ (e : Refusal). refused e.number e.section e.address) (sym stopped.2)), tt)

pub returns : goal.returns
returns c =
    let a = c.args in
    let number = c.number-unit.ensures ∙ a.units.now.numbered.each a.s.unit c.requires.3 in
    let count = length-map a.units.now.table.places.now (λ (at : ℕ). (unit_at a.units.now.table.bytes.now at).name) in
    let h = (goal.at.returns c).After-map_err in
    let valued = subst (Left (Aligned h) (backwards h)) c.in_ok-alignment.was (aligned h) in
    let alignment = c.in_ok-alignment.alignment in (
      ap (λ (u : ℕ). accepted (Some (record { unit = u; alignment = alignment }))) number
          ∙ decide_gives _ _ _ _ _ _ _ c.if-s-current.false c.in_ok-between.ensures (sym c.is_skipped.ensures ∙ c.if-is_skipped.false) (λ e. c.if-unit-units.false (number ∙ e ∙ count)) alignment valued,
      record {
        starts = c.if-s-current.false;
        listed = let h = c.if-unit-units.false in omega (arith, unit_le (unit_names a.units.now.table.bytes.now a.units.now.table.places.now) a.s.unit, number, count);
        least = valued.least;
        most = valued.most;
      },
    )
