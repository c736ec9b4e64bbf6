-- The lines one after another are the listing: from the first cursor on, whatever is written line by line until the end is `listing`. Assumes nothing.
use mathlib.Core.Path.{◌≡◌, refl, sym, ap, ◌∙◌}
use mathlib.Core.List.{List, [], ◌++◌}
use Prim.Native.Nat.{ℕ}
use native.Mathlib.Omega.{arith}
use lib.ListN.{take}
use Rattle.listing.specs.declared.Cursor.{Cursor}
use Rattle.listing.specs.declared.Cursor.TheVariants.{Units, Done}
use Rattle.listing.specs.declared.Line.{Line}
use Rattle.listing.specs.Listing.{Run, listing}
use Rattle.listing.specs.Cursor.{rest, Valid, Next}
use Rattle.listing.proofs.Rest.{rest-first}

-- the texts of lines that were written from a cursor on, until the end
pub data Lines (t : Run) : Cursor → List ℕ → Type 0 where
  ended : Lines t Done []
  more : {c : Cursor} {before after text : List ℕ} {r : Line} → Next t c before after r → Lines t r.next text → Lines t c (take r.length after ++ text)

pub lines_rest : (t : Run) (c : Cursor) (text : List ℕ) → Lines t c text → text ≡ rest t c
lines_rest t c text ended = refl
lines_rest t c text (more {after = after} {r = r} n later) = ap (λ (l : List ℕ). take r.length after ++ l) (lines_rest t r.next _ later) ∙ sym n.is

-- "the lines one after another are the listing's definition"
pub lines_listing : (t : Run) (text : List ℕ) → Lines t (Units 0 0) text → text ≡ listing t
lines_listing t text l = lines_rest t (Units 0 0) text l ∙ rest-first t

-- the first cursor is one of the run
pub first_valid : (units : ℕ) → Valid units (Units 0 0)
first_valid units = record { inside = omega arith; few = omega arith }
