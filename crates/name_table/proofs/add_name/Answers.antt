-- `name_table::add_name` meets its contract. A name without a fault lies within the bytes and is at most 128 long; stored and entered, it is one name
-- more. Assumes nothing.
use native.Mathlib.Omega.{arith}
use Rattle.name_table.proofs.Laws.{name_sound, short_sound, stored_more}
use Rattle.name_table.proofs.add_name.Goals as goal

pub slice_bounds-bucket_of-count : goal.slice_bounds-bucket_of-count
slice_bounds-bucket_of-count c = omega (arith, (name_sound _ _ _ c.requires.3).rising)

pub slice_bounds-bucket_of-start : goal.slice_bounds-bucket_of-start
slice_bounds-bucket_of-start c = omega (arith, (name_sound _ _ _ c.requires.3).rising)

pub slice_bounds-bucket_of-end : goal.slice_bounds-bucket_of-end
slice_bounds-bucket_of-end c = omega (arith, (name_sound _ _ _ c.requires.3).within)

pub overflow_sub-columns : goal.overflow_sub-columns
overflow_sub-columns c = omega (arith, (name_sound _ _ _ c.requires.3).rising)

pub overflow_cast-columns-2 : goal.overflow_cast-columns-2
overflow_cast-columns-2 c =
    omega (arith, short_sound (name_sound _ _ _ c.requires.3))

pub returns-clause-stored : goal.returns-clause-stored
returns-clause-stored c =
    let room = c.args.columns.now.room in
    stored_more _ _ _ _ _ _ _ c.requires.2 (name_sound _ _ _ c.requires.3) (omega (arith, c.requires.1, room.places_long)) (omega (arith, c.requires.1, room.lengths_long))
    (omega (arith, c.requires.1)) c.start_of-start.ensures.is c.end_of-end.ensures.is c.bucket_of-bucket.ensures
    c.enter.ensures.0 c.enter.ensures.1
