-- `run_load::prepare` meets its contract: what was loaded is usable, so its sections and symbols can be read, and the columns hold what was asked.
use native.Mathlib.Omega.{arith}
use Rattle.run_load.proofs.Laws.{main_loads, sections_inside, images_room, images_small, symbols_inside, symbols_room, all_ordered, all_prepared}
use Rattle.run_load.proofs.prepare.Goals as goal

pub part-requires : goal.part-requires
part-requires c = sections_inside c.args.file.now c.load_file.result _ _ _ _ _ (main_loads c.args.file.now c.main_ceilings.ensures c.load_file.ensures) c.in_ok-counts.was

pub image_places-requires : goal.image_places-requires
image_places-requires c =
    let f = c.load_file in
    let l = main_loads c.args.file.now c.main_ceilings.ensures f.ensures in
    let told = c.in_ok-counts.was in
    rw c.part.ensures (images_room c.args.file.now f.result _ _ _ _ _ l told c.args.columns.now.images.now c.args.columns.now.long.images_long, images_small c.args.file.now f.result _ _ _ _ _ l told)

pub part-requires-2 : goal.part-requires-2
part-requires-2 c = symbols_inside c.args.file.now c.load_file.result _ _ _ _ _ (main_loads c.args.file.now c.main_ceilings.ensures c.load_file.ensures) c.in_ok-counts.was

pub make_order-ordered-requires : goal.make_order-ordered-requires
make_order-ordered-requires c =
    let f = c.load_file in
    let l = main_loads c.args.file.now c.main_ceilings.ensures f.ensures in
    let told = c.in_ok-counts.was in
    rw c.part-2.ensures (symbols_room c.args.file.now f.result _ _ _ _ _ l told _ _ c.args.columns.now.long.order_long (omega arith))

pub returns-clause-ready : goal.returns-clause-ready
returns-clause-ready c =
    let f = c.load_file in
    let l = main_loads c.args.file.now c.main_ceilings.ensures f.ensures in
    let told = c.in_ok-counts.was in
    all_prepared c.args.file.now f.result (record { counts = c.in_ok-counts.counts; ordered = c.make_order-ordered.result }) _ _ _ _ l told _ _
    (all_ordered c.args.file.now f.result _ _ _ _ _ l told _ _ _ (rw c.part.ensures at c.image_places.ensures) (rw c.part-2.ensures at c.make_order-ordered.ensures)
    (omega (arith, c.make_order-ordered.auto.order, c.args.columns.now.long.order_long)))
