-- `split_obj::walk_sections` meets its contract: what is left from this section on, from this split on, gives what the whole gives, and the rest of the halving
-- gives what the whole halving gives; each way out is a law of proofs/Carried.antt. Assumes nothing.
use mathlib.Core.Path.{◌≡◌, refl, sym, ap, subst, ◌∙◌}
use Prim.Native.Nat.{ℕ, ◌+◌, ◌-◌, ◌≤◌, ◌<◌}
use native.Mathlib.Omega.{arith}
use borrow.Author.Tests.{eq-eqb}
use lib.ListN.{length}
use Rattle.std.specs.Prelude.{Ok, Option, Some, unwrap_or}
use Rattle.obj.proofs.Errors.{is_err}
use Rattle.lists.specs.Outcome.{Outcome, accepted}
use Rattle.align.specs.Align.{bad_align}
use Rattle.obj.specs.declared.Split.{Split}
use Rattle.sections.specs.Sections.{head_of}
use Rattle.sections.proofs.Kept.{kept-held, kept_lies}
use Rattle.splits.specs.Columns.{row_at}
use Rattle.splits.specs.Table.{columns_of}
use Rattle.splits.specs.Questions.{within}
use Rattle.splits.proofs.Next.{NextIn, next_in}
use Rattle.splits.proofs.Rows.{good_row}
use Rattle.splits.proofs.Alignment.{alignment_good}
use Rattle.pieces.specs.declared.Counts.{Counts}
use Rattle.pieces.proofs.Same.{lent_still}
use Rattle.walk.specs.declared.Target.{Target}
use Rattle.walk.specs.Walk.{Input, Output, fits, walk_sections}
use Rattle.walk.specs.Steps.{Sane, Gives, decide}
use Rattle.walk.specs.Giving.{output_of}
use Rattle.walk.proofs.Regions.{length-counts}
use Rattle.split_obj.proofs.Turns.{row_low}
use Rattle.split_obj.proofs.Halving.{halving_starts, half_fits, half_stops, half_on}
use Rattle.split_obj.proofs.Carried.{tables_input, Turn, splits_left, refused_at, split_small, split_passes, split_same, no_place, sections_done, ends_short, goes_section, section_done, ends_none, ends_fault, goes_skip, ends_misfit, ends_refused, goes_given}
use Rattle.split_obj.proofs.walk_sections.Goals as goal
use Rattle.split_obj.proofs.walk_sections.Goals.{After-start_of-next, In-Some-target}

pub returns-in_err-end : goal.returns-in_err-end
returns-in_err-end c =
    let a = c.args in
    let p = c.loop-n in
    let n = p.n in
    let below : n < a.last = c.loop-n-test.true in
    let k = columns_of a.splits.now in
    let t = tables_input a.obj.now.symbols.bytes.now a.obj.now.symbols.places.now a.obj.now.names.bytes.now a.obj.now.names.places.now a.obj.now.names.lengths.now a.obj.now.heads.bytes.now a.obj.now.heads.places.now a.image.now.bytes.now a.image.now.places.now a.relocs.now.bytes.now a.relocs.now.places.now k a.splits.now.count a.units.now.table.bytes.now a.units.now.table.places.now p.tables.room in
    refused_at _ _ _ _ _ c.in_err-end.field-0.0 _ (is_err _ c.from_residual.ensures.1)
    (ends_short t n a.last (output_of p.tables) _ p.invariant.0.same below c.section_start-low.result c.section_start-low.ensures _ _ _ c.in_err-end.ensures)
    (p.invariant.1)

pub returns-in_default : goal.returns-in_default
returns-in_default c =
    let a = c.args in
    let p = c.loop-n in
    let n = p.n in
    let below : n < a.last = c.loop-n-test.true in
    let k = columns_of a.splits.now in
    let q = c.loop-current in
    let lent = tables_input a.obj.now.symbols.bytes.now a.obj.now.symbols.places.now a.obj.now.names.bytes.now a.obj.now.names.places.now a.obj.now.names.lengths.now a.obj.now.heads.bytes.now a.obj.now.heads.places.now a.image.now.bytes.now a.image.now.places.now a.relocs.now.bytes.now a.relocs.now.places.now k a.splits.now.count a.units.now.table.bytes.now a.units.now.table.places.now in
    let t = lent q.tables.room in
    let tp = lent p.tables.room in
    let low = c.section_start-low.result in
    let end = c.in_ok-end.end in
    let out = output_of q.tables in
    let carried =
    q.invariant.0.same
    ∙ goes_section tp n a.last (output_of p.tables) _ p.invariant.0.same below low c.section_start-low.ensures end c.in_ok-end.ensures k a.splits.now.count c.next_row-i.result refl c.next_row-i.ensures in
    refused_at _ _ _ _ _ _ _ c.refuse_at.ensures (ends_none t a.last n low end k a.splits.now.count q.current (unwrap_or q.i a.splits.now.count) out _ carried c.loop-current-test.true (no_place c.in_default.is))
    (lent_still p.invariant.1 q.invariant.1)

-- ---- a turn over a split

-- the walk's input, of the lent tables and the room, and what is left of it from the section's start
abbrev lent : After-start_of-next → Counts → Input
lent c =
    let a = c.args in
    let k = columns_of a.splits.now in
    tables_input a.obj.now.symbols.bytes.now a.obj.now.symbols.places.now a.obj.now.names.bytes.now a.obj.now.names.places.now a.obj.now.names.lengths.now a.obj.now.heads.bytes.now a.obj.now.heads.places.now a.image.now.bytes.now a.image.now.places.now a.relocs.now.bytes.now a.relocs.now.places.now k a.splits.now.count a.units.now.table.bytes.now a.units.now.table.places.now

abbrev section_left : After-start_of-next → Outcome Output
section_left c =
    let a = c.args in
    let p = c.loop-n in
    splits_left (lent c p.tables.room) a.last p.n c.section_start-low.result c.in_ok-end.end (columns_of a.splits.now) a.splits.now.count c.section_start-low.result (unwrap_or c.next_row-i.result a.splits.now.count) (output_of p.tables)

section_goes : (c : After-start_of-next) → let a = c.args in section_left c ≡ walk_sections (lent c a.tables.now.room) a.first (a.last - a.first) (output_of a.tables.now)
section_goes c =
    let a = c.args in
    let p = c.loop-n in
    goes_section (lent c p.tables.room) p.n a.last (output_of p.tables) _ p.invariant.0.same c.loop-n-test.true c.section_start-low.result c.section_start-low.ensures c.in_ok-end.end c.in_ok-end.ensures (columns_of a.splits.now) a.splits.now.count c.next_row-i.result refl c.next_row-i.ensures

turn : (c : After-start_of-next) → let a = c.args in let q = c.loop-current in
    Turn (lent c q.tables.room) a.last c.loop-n.n c.section_start-low.result c.in_ok-end.end (columns_of a.splits.now) a.splits.now.count q.current (output_of q.tables) (section_left c) c.next_row-i-in-loop-current.result c.start_of-next.result c.row-s.result
turn c =
    let q = c.loop-current in
    record {
      i = c.in-Some.k;
      same = split_same q.invariant.0 c.in-Some.is;
      before = c.loop-current-test.true;
      small = split_small q.invariant.0 c.in-Some.is;
      first = c.next_row-i-in-loop-current.ensures;
      follows = c.start_of-next.ensures;
      is = c.row-s.ensures;
    }

-- the split after it is one of the section's too, where there is one
next_split : (c : After-start_of-next) → NextIn (within c.loop-n.n c.section_start-low.result c.in_ok-end.end) (columns_of c.args.splits.now) c.args.splits.now.count c.next_row-i-in-loop-current.result
next_split c =
    let a = c.args in
    next_in (within c.loop-n.n c.section_start-low.result c.in_ok-end.end) (columns_of a.splits.now) a.splits.now.count (c.in-Some.k + 1) c.next_row-i-in-loop-current.result c.next_row-i-in-loop-current.ensures

-- the target of a split that gives
gives : (c : In-Some-target) → Gives (length c.args.units.now.table.places.now) c.loop-current.current c.row-s.result c.in-Some-target.field-0.unit c.in-Some-target.field-0.alignment
gives c = subst (λ (x : Option Target). Sane (length c.args.units.now.table.places.now) c.loop-current.current c.row-s.result (Ok x)) c.in-Some-target.is c.in_ok-target.ensures.1

decided : (c : In-Some-target) → let g = lent (goal.at.In-Some-target c).After-start_of-next c.loop-current.tables.room in
    accepted (Some (record { unit = c.in-Some-target.field-0.unit; alignment = c.in-Some-target.field-0.alignment }))
    ≡ decide g.image g.sections g.units c.loop-n.n c.loop-current.current c.start_of-next.result c.row-s.result
decided c = ap (λ (x : Option Target). accepted x) (sym c.in-Some-target.is) ∙ c.in_ok-target.ensures.0

pub choose-requires : goal.choose-requires
choose-requires c =
    let a = c.args in
    let p = c.loop-n in
    let n = p.n in
    let below : n < a.last = c.loop-n-test.true in
    let there : n < length a.obj.now.heads.places.now = omega (arith, below, c.requires.0.within) in
    let few : n < 64 = omega (arith, there, c.requires.0.kept.few) in
    let kept = c.requires.0.kept in
    let q = c.loop-current in
    let ready = c.requires.0 in (
      ready.asked,
      record { held = kept-held _ _ _ _ _ kept n there; below = kept.below n there; lies = kept_lies _ _ _ _ _ kept n there },
      record { held = kept-held _ _ _ _ _ kept n there; named = kept.named n there; few = omega (arith, few) },
      subst (λ (y : Split). y.unit < length a.units.now.numbers.now) (sym c.row-s.ensures) (ready.named c.in-Some.k (split_small q.invariant.0 c.in-Some.is)),
      ap (λ (y : Split). bad_align y.alignment) c.row-s.ensures ∙ alignment_good _ (good_row _ _ _ _),
    )

pub returns-in_err-target : goal.returns-in_err-target
returns-in_err-target c =
    let h = (goal.at.returns-in_err-target c).After-start_of-next in
    let r = c.in_err-target.field-0.0 in
    refused_at _ _ _ _ _ r _ (is_err _ c.from_residual-in_err-target.ensures.1) (ends_fault (turn h) r c.in_err-target.ensures.0 ∙ section_goes h)
    (lent_still c.loop-n.invariant.1 c.loop-current.invariant.1)

pub loop-a-init : goal.loop-a-init
loop-a-init c =
    let sane = gives (goal.at.loop-a-init c).In-Some-target in
    halving_starts _ _ sane.least sane.most

pub loop-a-preserved : goal.loop-a-preserved
loop-a-preserved c =
    half_on _ _ _ c.loop-a.invariant c.if-current-a-eq0.false c.if-a-le4.false

pub give-requires : goal.give-requires
give-requires c =
    let a = c.args in
    let p = c.loop-n in
    let n = p.n in
    let below : n < a.last = c.loop-n-test.true in
    let there : n < length a.obj.now.heads.places.now = omega (arith, below, c.requires.0.within) in
    let few : n < 64 = omega (arith, there, c.requires.0.kept.few) in
    let kept = c.requires.0.kept in
    let q = c.loop-current in
    let low = c.section_start-low.result in
    let end = c.in_ok-end.end in
    let target = gives (goal.at.give-requires c).In-Some-target in
    let k = columns_of a.splits.now in
    let ready = c.requires.0 in
    let tabled = q.invariant.0.tabled in (
      tabled.beside,
      ready.asked.tables,
      record { whole = ready.whole; rising = ready.rising; is = c.for_section-m.ensures.is; few = ready.few_relocs },
      record {
        held = kept-held _ _ _ _ _ kept n there;
        few = omega (arith, few);
        low =
            subst (λ (y : Split). (head_of a.obj.now.heads.bytes.now a.obj.now.heads.places.now n).address ≤ y.start) (sym c.row-s.ensures)
            (subst (λ (m : ℕ). m ≤ (row_at k c.in-Some.k).start) c.section_start-low.ensures (row_low n low end k c.in-Some.k (split_passes q.invariant.0 c.in-Some.is)));
      },
      omega (arith, target.listed, tabled.counts_long, length-counts q.scratch),
      omega (arith, target.listed, ready.few_units),
      ap (λ (m : ℕ). fits c.loop-a.a m) target.starts ∙ eq-eqb _ 0 c.if-current-a-eq0.true,
    )

pub returns-in_err-give : goal.returns-in_err-give
returns-in_err-give c =
    let h = (goal.at.returns-in_err-give c).After-start_of-next in
    let some = (goal.at.returns-in_err-give c).In-Some-target in
    let t = lent h c.loop-current.tables.room in
    let r = c.in_err-give.field-0.0 in
    refused_at _ _ _ _ _ r _ (is_err _ c.from_residual-in_err-give.ensures.1)
    (ends_refused (turn h) _ _ (decided some) c.loop-a.a (half_fits _ _ _ c.loop-a.invariant c.if-current-a-eq0.true) (gives some).starts r
    (c.in_err-give.ensures.is (length c.args.obj.now.heads.places.now) t.sections.bytes t.splits t.units)
    ∙ section_goes h)
    (lent_still c.loop-n.invariant.1 (lent_still c.loop-current.invariant.1 c.in_err-give.ensures.lent))

pub loop-current-preserved-in_ok-give : goal.loop-current-preserved-in_ok-give
loop-current-preserved-in_ok-give c =
    let a = c.args in
    let q = c.loop-current in
    let h = (goal.at.loop-current-preserved-in_ok-give c).After-start_of-next in
    let some = (goal.at.loop-current-preserved-in_ok-give c).In-Some-target in
    let t = lent h q.tables.room in
    let made = c.in_ok-give.ensures in
    let tabled = q.invariant.0.tabled in (
      record {
        next = next_split h;
        same =
            subst (λ (room : Counts). splits_left (lent h room) a.last c.loop-n.n c.section_start-low.result c.in_ok-end.end (columns_of a.splits.now) a.splits.now.count c.start_of-next.result (unwrap_or c.next_row-i-in-loop-current.result a.splits.now.count) (output_of c.give.new.tables) ≡ section_left h) (sym made.lent.room)
            (goes_given (turn h) _ _ (decided some) c.loop-a.a (half_fits _ _ _ c.loop-a.invariant c.if-current-a-eq0.true) (gives some).starts _
            (made.is (length a.obj.now.heads.places.now) t.sections.bytes t.splits t.units));
        tabled = record {
          beside = made.beside;
          counts_long = omega (arith, tabled.counts_long, c.give.auto.scratch);
          part_long = tabled.part_long;
        };
      },
      lent_still q.invariant.1 made.lent,
    )

pub loop-current-preserved : goal.loop-current-preserved
loop-current-preserved c =
    let h = (goal.at.loop-current-preserved c).After-start_of-next in (
      record {
        next = next_split h;
        same = goes_skip (turn h) (ap (λ (x : Option Target). accepted x) (sym c.in_default-target.is) ∙ c.in_ok-target.ensures.0);
        tabled = c.loop-current.invariant.0.tabled;
      },
      c.loop-current.invariant.1,
    )

pub loop-n-preserved : goal.loop-n-preserved
loop-n-preserved c =
    let a = c.args in
    let p = c.loop-n in
    let n = p.n in
    let below : n < a.last = c.loop-n-test.true in
    let k = columns_of a.splits.now in
    let q = c.loop-current in
    let lent = tables_input a.obj.now.symbols.bytes.now a.obj.now.symbols.places.now a.obj.now.names.bytes.now a.obj.now.names.places.now a.obj.now.names.lengths.now a.obj.now.heads.bytes.now a.obj.now.heads.places.now a.image.now.bytes.now a.image.now.places.now a.relocs.now.bytes.now a.relocs.now.places.now k a.splits.now.count a.units.now.table.bytes.now a.units.now.table.places.now in
    let t = lent q.tables.room in
    let tp = lent p.tables.room in
    let low = c.section_start-low.result in
    let end = c.in_ok-end.end in
    let out = output_of q.tables in
    let carried =
    q.invariant.0.same
    ∙ goes_section tp n a.last (output_of p.tables) _ p.invariant.0.same below low c.section_start-low.ensures end c.in_ok-end.ensures k a.splits.now.count c.next_row-i.result refl c.next_row-i.ensures in (
      record {
        up = omega (arith, below);
        same = section_done t a.last n low end k a.splits.now.count q.current (unwrap_or q.i a.splits.now.count) out _ carried below c.loop-current-test.false;
        tabled = q.invariant.0.tabled;
      },
      lent_still p.invariant.1 q.invariant.1,
    )

pub returns-then-a-le4 : goal.returns-then-a-le4
returns-then-a-le4 c =
    let h = (goal.at.returns-then-a-le4 c).After-start_of-next in
    refused_at _ _ _ _ _ _ _ c.refuse_at-then-a-le4.ensures
    (ends_misfit (turn h) _ _ (decided (goal.at.returns-then-a-le4 c).In-Some-target) c.loop-a.a (half_stops _ _ _ c.loop-a.invariant c.if-current-a-eq0.false c.if-a-le4.true) c.if-current-a-eq0.false
    ∙ section_goes h)
    (lent_still c.loop-n.invariant.1 c.loop-current.invariant.1)

pub returns-after-loop-n : goal.returns-after-loop-n
returns-after-loop-n c =
    let a = c.args in
    let p = c.loop-n in
    let k = columns_of a.splits.now in
    let t = tables_input a.obj.now.symbols.bytes.now a.obj.now.symbols.places.now a.obj.now.names.bytes.now a.obj.now.names.places.now a.obj.now.names.lengths.now a.obj.now.heads.bytes.now a.obj.now.heads.places.now a.image.now.bytes.now a.image.now.places.now a.relocs.now.bytes.now a.relocs.now.places.now k a.splits.now.count a.units.now.table.bytes.now a.units.now.table.places.now p.tables.room in
    (sections_done t p.n a.last (output_of p.tables) _ p.invariant.0.same (let h = p.invariant.0.up in let d = c.loop-n-test.false in omega arith), p.invariant.0.tabled.beside, p.invariant.1)
