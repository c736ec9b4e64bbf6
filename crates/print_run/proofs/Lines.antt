-- A line of the listing leaves less of it, and a cursor of the run; and what is written line by line until the end is the listing.
-- Assumes nothing.
use Prim.Native.Nat.{ℕ, ◌≤◌, ◌<◌}
use mathlib.Core.Path.{◌≡◌, refl, sym, ap, subst, ◌∙◌}
use mathlib.Core.Bool.{false, true≢false}
use mathlib.Core.List.{List, [], ◌++◌, append_assoc}
use native.Mathlib.Omega.{arith}
use lib.ListN.{length, take, length-map, length-append}
use lib.Seq.{length-take-le}
use Rattle.std.specs.declared.option.Option.{Option}
use Rattle.std.proofs.KnownBytes.{Appends-nil, Appends-trans}
use Rattle.std.proofs.lemmas.List.{append-nil}
use Rattle.std.specs.Io.KnownBytes.{Appends}
use Rattle.listing.specs.declared.Cursor.{Cursor}
use Rattle.listing.specs.declared.Cursor.TheVariants.{Units, Pieces, Symbols, Relocs, Total, Done}
use Rattle.listing.specs.declared.Line.{Line}
use Rattle.listing.specs.Listing.{Run, listing}
use Rattle.listing.specs.Cursor.{rest, goes_on, Valid, Next}
use Rattle.listing.specs.Tables.{Tables, run_of}
use Rattle.listing.proofs.Rest.{rest-first}
use lib.Dec.{ltb}

-- a line that has bytes leaves less of the listing
pub line_less : (t : Run) (c : Cursor) {before after : List ℕ} (r : Line) → Next t c before after r → 208 ≤ length before → 0 < r.length
    → length (rest t r.next) < length (rest t c)
line_less t c {before} {after} r n h more =
    omega (arith, ap length n.is, length-append (take r.length after) (rest t r.next), length-take-le r.length after (omega (arith, n.few, n.long)))

-- and the next one is a cursor of so many units
pub line_valid : (t : Tables) (c : Cursor) {before after : List ℕ} (r : Line) → Next (run_of t) c before after r → Valid (length t.units.places) r.next
line_valid t c r n = subst (λ (k : ℕ). Valid k r.next) (length-map t.units.places _) n.valid

-- ---- what is written

-- where no line is left, nothing is
rest_ended : (t : Run) (c : Cursor) → goes_on c ≡ false → rest t c ≡ []
rest_ended t (Units unit bytes) e = absurd (true≢false e)
rest_ended t (Pieces unit at bytes) e = absurd (true≢false e)
rest_ended t (Symbols unit at bytes) e = absurd (true≢false e)
rest_ended t (Relocs unit at bytes) e = absurd (true≢false e)
rest_ended t (Total bytes) e = absurd (true≢false e)
rest_ended t Done e = refl

-- what a writer took so far and what is left at the cursor are the listing
pub record Listed (t : Run) (old : Option (List ℕ)) (c : Cursor) (new : Option (List ℕ)) : Type 0 where
  pub done : List ℕ
  pub whole : done ++ rest t c ≡ listing t
  pub written : Appends old new done

pub listed_first : (t : Run) (old : Option (List ℕ)) → Listed t old (Units 0 0) old
listed_first t old = record { done = []; whole = rest-first t; written = Appends-nil old }

-- a line more
pub listed_more : (t : Run) (old mid new : Option (List ℕ)) (c : Cursor) {before after : List ℕ} (r : Line) → Listed t old c mid → Next t c before after r
    → Appends mid new (take r.length after)
    → Listed t old r.next new
listed_more t old mid new c {after = after} r l n w = record {
  done = l.done ++ take r.length after;
  whole = append_assoc l.done (take r.length after) (rest t r.next) ∙ ap (λ (x : List ℕ). l.done ++ x) (sym n.is) ∙ l.whole;
  written = Appends-trans old mid new l.done (take r.length after) l.written w;
}

-- no line more
pub listed_last : (t : Run) (old new : Option (List ℕ)) (c : Cursor) {before after : List ℕ} (r : Line) → Listed t old c new → Next t c before after r → r.length ≡ 0
    → Appends old new (listing t)
listed_last t old new c r l n none =
    let ended : rest t c ≡ [] = rest_ended t c (sym n.goes ∙ ap (λ (k : ℕ). ltb 0 k) none) in
    subst (Appends old new) (sym (append-nil l.done) ∙ ap (λ (x : List ℕ). l.done ++ x) (sym ended) ∙ l.whole) l.written
