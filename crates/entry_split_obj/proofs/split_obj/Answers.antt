-- `entry_split_obj::split_obj` meets its contract. The tables are still those that were lent; what was made is whole in them, and the rest of them is zeros.
-- Assumes nothing.
use Rattle.std.proofs.Common.{rules}
use mathlib.Core.Path.{sym, ap, subst, ◌∙◌}
use mathlib.Core.List.{List}
use Prim.Native.Nat.{ℕ}
use lib.ListN.{length}
use Rattle.pieces.specs.declared.Counts.{Counts}
use Rattle.stage_walk.proofs.Room.{fits_none, room_low_all as low, within_same}
use Rattle.stage_walk.specs.Laid.{OutputFits}
use Rattle.entry_split_obj.specs.Entry.{split_obj_of}
use Rattle.entry_split_obj.proofs.Finish.{made_fits, fits_as, leaves_at}
use Rattle.entry_split_obj.proofs.split_obj.Goals as goal

pub invariant_of-tables : goal.invariant_of-tables
invariant_of-tables c = record { fits = fits_none c.args.pieces.now c.args.entries.now c.args.offsets.now _ _ c.room_of.ensures (search (rules, c.default.ensures)) }

pub lay-requires : goal.lay-requires
lay-requires c =
    let w = c.checked-r in
    let t = w.new.tables in
    subst (λ (m : Counts). OutputFits m (length c.pieces-1.given.0) (length c.entries-1.given.0) (length c.offsets-1.given.0)) (sym c.made_of-made.ensures)
    (fits_as _ _ _ _ _ _ _ (ap (λ (l : List ℕ). length l) (c.pieces-1.given.1.1 (sym w.ensures.lent.pieces))) (ap (λ (l : List ℕ). length l) (c.entries-1.given.1.1 (sym w.ensures.lent.symbols))) (ap (λ (l : List ℕ). length l) (c.offsets-1.given.1.1 (sym w.ensures.lent.relocs)))
    (made_fits t w.result (rw w.ensures.lent.room (low c.args.pieces.now c.args.entries.now c.args.offsets.now _ c.room_of.ensures))))

pub returns : goal.returns
returns c =
    let a = c.args in
    let w = c.checked-r in
    leaves_at _ w.new.tables c.made_of-made.result _ _ _ w.result _ _ _ _ _ _ _
    (c.pieces-1.given.1.1 (sym w.ensures.lent.pieces)) (c.entries-1.given.1.1 (sym w.ensures.lent.symbols)) (c.offsets-1.given.1.1 (sym w.ensures.lent.relocs))
    c.made_of-made.ensures
    (λ d. record { pieces = c.pieces-1.given.1.0 d; symbols = c.entries-1.given.1.0 d; relocs = c.offsets-1.given.1.0 d; counts = length a.counts.now })
    (w.ensures.is ∙ ap (split_obj_of a.name_ends.now a.name_bytes.now a.sections.now a.section_places.now a.image.now a.symbols.now a.relocs.now a.splits.now a.unit_table.now) (within_same (low a.pieces.now a.entries.now a.offsets.now _ c.room_of.ensures) ∙ c.room_of.ensures))
    c.word_of.ensures c.lay.ensures
