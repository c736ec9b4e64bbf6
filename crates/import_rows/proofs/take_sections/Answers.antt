-- `import_rows::take_sections` meets its contract: the range without the sections that are left is the list of those taken over. Assumes nothing.
use Rattle.std.proofs.Common.{rules, tests, ◌∙◌, refl, ◌/◌, length, arith}
use Rattle.std.proofs.lemmas.Iterator.{YieldsList-from_range}
use Rattle.std.proofs.lemmas.Iterator.Consumers.{YieldsList-at, YieldsList-from_filter, YieldsList-turn, YieldsList-end}
use Rattle.elf_file.specs.File.{allocated, header_of}
use Rattle.import_rows.proofs.Laws.{taken_is, few_taken, taken_stored, stored_more, stored_full}
use Rattle.import_rows.proofs.take_sections.Goals as goal
use Rattle.import_rows.proofs.take_sections.Goals.{then-j-column, else-j-column}

pub loop-k-init : goal.loop-k-init
loop-k-init c = record { sum = refl; front = λ h. refl }

pub overflow_add-j : goal.overflow_add-j
overflow_add-j c =
    let t = YieldsList-turn (YieldsList-at c.into_iter-k-iterator.ensures.into_iter_gives (YieldsList-from_filter _ (λ k. allocated (header_of c.args.headers.now k)) (YieldsList-at c.filter-k-items.ensures.source (YieldsList-from_range 0 (length c.args.headers.now / 40) (length c.args.headers.now / 40) refl (omega arith))) c.filter-k-items.ensures.closure (λ x b q k. search (rules, tests)))) c.loop-k.yielded _ c.loop-k.yielded_by _ _ c.in-Some.k c.in-Some.is c.next.ensures.steps in
    omega (arith, c.loop-k.invariant.sum, t.0, few_taken c.args.headers.now)

pub loop-k-preserved : goal.loop-k-preserved
loop-k-preserved c = elim c.if-j-column.branch [ then-j-column w ↦ stored_more c.in-Some.k c.loop-k.invariant w.if-j-column.true w.column-is | else-j-column w ↦ stored_full c.in-Some.k c.loop-k.invariant w.if-j-column.false w.column-is ]

pub returns : goal.returns
returns c =
    let all = YieldsList-end (YieldsList-at c.into_iter-k-iterator.ensures.into_iter_gives (YieldsList-from_filter _ (λ k. allocated (header_of c.args.headers.now k)) (YieldsList-at c.filter-k-items.ensures.source (YieldsList-from_range 0 (length c.args.headers.now / 40) (length c.args.headers.now / 40) refl (omega arith))) c.filter-k-items.ensures.closure (λ x b q k. search (rules, tests)))) c.loop-k.yielded _ c.loop-k.yielded_by _ _ c.in-None.is c.next.ensures.steps in
    taken_stored c.loop-k.invariant (all.0 ∙ taken_is c.args.headers.now)
