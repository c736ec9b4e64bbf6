-- `load::keep_name` meets its contract: nothing for a name that was found, else its place, its length and its entry in the index.
-- Assumes nothing.
use mathlib.Core.Path.{refl, sym, ◌∙◌}
use native.Mathlib.Omega.{arith}
use Rattle.names.proofs.Laws.{part_is}
use Rattle.load.proofs.Keeping.{counted, slot_low, kept_repeated, name_short, name_below, kept_name}
use Rattle.load.proofs.Deciding.{readable, sought_so, same_columns}
use Rattle.load.proofs.keep_name.Goals as goal

pub so_far-before-requires : goal.so_far-before-requires
so_far-before-requires c = readable c.requires.1

pub returns-then-is_some : goal.returns-then-is_some
returns-then-is_some c =
    let a = c.args in
    let v = c.so_far-before.ensures in
    let found = sought_so v.0 v.2 v.3 v.4 a.at a.len _ c.find_name.ensures in
    (same_columns _, kept_repeated a.columns.now.most a.columns.now.file.now a.at a.len a.columns.now.counts a.columns.now.places.now a.columns.now.lengths.now a.columns.now.heads.now a.columns.now.chain.now c.requires.1 c.requires.0 _ found (sym c.is_some.ensures ∙ c.if-is_some.true))

pub overflow_cast-columns : goal.overflow_cast-columns
overflow_cast-columns c =
    let a = c.args in
    let v = c.so_far-before.ensures in
    let found = sought_so v.0 v.2 v.3 v.4 a.at a.len _ c.find_name.ensures in
    omega (arith, name_short a.columns.now.most a.columns.now.file.now a.at a.len a.columns.now.counts a.columns.now.places.now a.columns.now.lengths.now a.columns.now.heads.now a.columns.now.chain.now c.requires.1 c.requires.0 _ found (sym c.is_some.ensures ∙ c.if-is_some.false) c.requires.2)

pub bounds-columns-known : goal.bounds-columns-known
bounds-columns-known c =
    let a = c.args in
    let v = c.so_far-before.ensures in
    let found = sought_so v.0 v.2 v.3 v.4 a.at a.len _ c.find_name.ensures in
    omega (arith, name_below a.columns.now.most a.columns.now.file.now a.at a.len a.columns.now.counts a.columns.now.places.now a.columns.now.lengths.now a.columns.now.heads.now a.columns.now.chain.now c.requires.1 c.requires.0 _ found (sym c.is_some.ensures ∙ c.if-is_some.false) c.requires.2, c.requires.1.tabled.long_lengths)

pub enter-requires : goal.enter-requires
enter-requires c =
    let a = c.args in
    let v = c.so_far-before.ensures in
    let found = sought_so v.0 v.2 v.3 v.4 a.at a.len _ c.find_name.ensures in
    let below = name_below a.columns.now.most a.columns.now.file.now a.at a.len a.columns.now.counts a.columns.now.places.now a.columns.now.lengths.now a.columns.now.heads.now a.columns.now.chain.now c.requires.1 c.requires.0 _ found (sym c.is_some.ensures ∙ c.if-is_some.false) c.requires.2 in
    (omega (arith, c.bucket_of-bucket.ensures.small, c.requires.1.indexed.buckets), omega (arith, c.requires.1.indexed.room), omega arith)

pub keep_place-columns-requires : goal.keep_place-columns-requires
keep_place-columns-requires c =
    let a = c.args in
    let few = counted c.requires.1.tabled.allowed c.requires.1.tabled.few in
    (few, omega (arith, c.requires.0, c.requires.1.tabled.small), omega (arith, slot_low 1 a.columns.now.counts few, c.requires.1.tabled.long_places))

pub returns : goal.returns
returns c =
    let a = c.args in
    let v = c.so_far-before.ensures in
    let found = sought_so v.0 v.2 v.3 v.4 a.at a.len _ c.find_name.ensures in (
      record { file = refl; most = refl; places = refl; lengths = refl; heads = refl; chain = refl },
      kept_name a.columns.now.most a.columns.now.file.now a.at a.len a.columns.now.counts a.columns.now.places.now a.columns.now.lengths.now a.columns.now.heads.now a.columns.now.chain.now c.requires.1 c.requires.0 _ found (sym c.is_some.ensures ∙ c.if-is_some.false) c.requires.2
          (rw (part_is a.columns.now.file.now {a = a.at} {b = a.len} a.at a.len refl refl) at c.bucket_of-bucket.ensures) c.keep_place-columns.ensures.0 c.keep_place-columns.ensures.1 refl
          c.enter.ensures.0 c.enter.ensures.1,
    )
