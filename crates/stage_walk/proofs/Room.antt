-- Room for whole records, and zeros after them. Assumes nothing.
use Prim.Native.Nat.{ℕ, ◌*◌, ◌-◌, ◌/◌, ◌≤◌}
use mathlib.Core.Path.{◌≡◌, refl, sym, ap, ◌∙◌}
use mathlib.Core.List.{List, ◌++◌}
use mathlib.Core.Bool.{Bool, true, false, cond}
use native.Mathlib.Nat.{min-le_right}
use Rattle.std.proofs.Math.Nat.{min-eq_left}
use native.Mathlib.Omega.{arith}
use borrow.Author.Tests.{ltb-true, ltb-false}
use lib.Dec.{ltb}
use lib.ListN.{length, take, replicate}
use lib.Seq.{length-take-le}
use Rattle.lists.specs.Rows.{clear_from}
use Rattle.lists.specs.Tables.{laid}
use Rattle.lists.proofs.Clear.{clear_is}
use Rattle.pieces.specs.declared.Counts.{Counts}
use Rattle.pieces.specs.Room.{Fits, Ceilings}
use Rattle.outputs.specs.Room.{room_for}
use Rattle.outputs.proofs.Room as rooms
use Rattle.stage_walk.specs.Room.{room_in, within_ceilings}
use Rattle.stage_walk.specs.Lines.{none}
use Rattle.pieces.specs.Pieces.{piece_width}

-- the room of each kind of record
module _ (ceiling size : ℕ) where
  pub room_low : (width : ℕ) → room_for ceiling width size ≤ ceiling
  room_low width = rooms.room_low ceiling width size

  pub room_pieces : piece_width * room_for ceiling piece_width size ≤ size
  room_pieces = rooms.room_fits ceiling piece_width size

  pub room_12 : 12 * room_for ceiling 12 size ≤ size
  room_12 = rooms.room_fits ceiling 12 size

  pub room_8 : 8 * room_for ceiling 8 size ≤ size
  room_8 = rooms.room_fits ceiling 8 size

-- lent tables with that room, in which nothing is made
pub fits_none : (pieces symbols relocs : List ℕ) (room made : Counts) → room ≡ room_in (length pieces) (length symbols) (length relocs) → made ≡ none
    → Fits pieces symbols relocs room made
fits_none pieces symbols relocs room made e n =
    let p = ap (λ (m : Counts). m.pieces) e in
    let s = ap (λ (m : Counts). m.symbols) e in
    let r = ap (λ (m : Counts). m.relocs) e in
    record {
      pieces_long = omega (arith, p, room_pieces 1024 (length pieces));
      symbols_long = omega (arith, s, room_12 4096 (length symbols));
      relocs_long = omega (arith, r, room_8 4096 (length relocs));
      few_pieces = omega (arith, ap (λ (m : Counts). m.pieces) n);
      few_symbols = omega (arith, ap (λ (m : Counts). m.symbols) n);
      few_relocs = omega (arith, ap (λ (m : Counts). m.relocs) n);
    }

-- ---- records, and zeros after them
pub cleared : (b records : List ℕ) (k : ℕ) → records ≡ take k b → k ≤ length b → clear_from 0 k b ≡ laid (length b) records
cleared b records k e h =
    clear_is 0 k b ∙ (λ d. sym e d ++ replicate (length b - k) 0)
    ∙ ap (λ (n : ℕ). records ++ replicate (length b - n) 0) (sym (ap length e ∙ length-take-le k b h))

-- that room is within the ceilings
pub room_low_all : (pieces symbols relocs : List ℕ) (room : Counts) → room ≡ room_in (length pieces) (length symbols) (length relocs) → Ceilings room
room_low_all pieces symbols relocs room e = record {
  pieces = omega (arith, ap (λ (m : Counts). m.pieces) e, room_low 1024 (length pieces) piece_width);
  symbols = omega (arith, ap (λ (m : Counts). m.symbols) e, room_low 4096 (length symbols) 12);
  relocs = omega (arith, ap (λ (m : Counts). m.relocs) e, room_low 4096 (length relocs) 8);
}

-- a room within the ceilings is all taken, and what is taken is always within them
pub within_same : {room : Counts} → Ceilings room → within_ceilings room ≡ room
within_same c = λ z. record { pieces = min-eq_left c.pieces z; symbols = min-eq_left c.symbols z; relocs = min-eq_left c.relocs z }

pub within_low : (room : Counts) → Ceilings (within_ceilings room)
within_low room = record { pieces = min-le_right room.pieces 1024; symbols = min-le_right room.symbols 4096; relocs = min-le_right room.relocs 4096 }
