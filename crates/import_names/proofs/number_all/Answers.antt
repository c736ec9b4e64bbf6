-- An index of zeros has no name; what the table holds after it is what the outputs hold.
use Rattle.std.proofs.Common.{rules, refl, arith, sym, ap, length}
use Rattle.import.specs.Import.{names_of}
use Rattle.names.proofs.Indexes.{indexed_cleared}
use Rattle.number_names.proofs.Laws.{held_standing}
use Rattle.import_names.proofs.Laws.{held_none, names-within, room_as, numbered_all, numbered_short}
use Rattle.import_names.proofs.number_all.Goals as goal

pub invariant_of-names : goal.invariant_of-names
invariant_of-names c = record {
  standing = held_standing (held_none (indexed_cleared _ _ _ refl refl (omega arith)));
  room = names-within c.names_room.ensures c.bytes_room.ensures;
}

pub returns-in-Err : goal.returns-in-Err
returns-in-Err c =
    let a = c.args in
    let s = c.number_in.ensures.0 in
    let e = rw c.in-Err.is at (c.number_in.ensures.1 a.name_ends.now a.name_bytes.now (held_none (indexed_cleared _ _ _ refl refl (omega arith)))) in
    let room = ap (names_of a.file.now.bytes.now) (room_as (length a.name_ends.now) (length a.name_bytes.now) c.names_room.ensures c.bytes_room.ensures) in
    numbered_short room (search (rules, sym s.ends.name)) (search (rules, sym s.bytes.name)) e

pub returns-in-Ok : goal.returns-in-Ok
returns-in-Ok c =
    let a = c.args in
    let s = c.number_in.ensures.0 in
    let e = rw c.in-Ok.is at (c.number_in.ensures.1 a.name_ends.now a.name_bytes.now (held_none (indexed_cleared _ _ _ refl refl (omega arith)))) in
    let room = ap (names_of a.file.now.bytes.now) (room_as (length a.name_ends.now) (length a.name_bytes.now) c.names_room.ensures c.bytes_room.ensures) in
    numbered_all room (search (rules, sym s.ends.name)) (search (rules, sym s.bytes.name)) e
