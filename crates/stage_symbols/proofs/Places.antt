-- The places of the sections' bytes, one after another into a column: each is that of the lent bytes, as many as both have.
-- Assumes nothing.
use Prim.Native.Nat.{ℕ, ◌+◌, ◌*◌, ◌/◌, ◌<◌, ◌≤◌, min}
use mathlib.Core.Path.{◌≡◌, refl, sym, ap, ◌∙◌}
use mathlib.Core.List.{List, ◌++◌}
use mathlib.Core.Bool.{Bool, true, false}
use native.Mathlib.Omega.{arith}
use borrow.Author.Tests.{leb-true, leb-false}
use lib.Dec.{leb}
use lib.ListN.{length, take, drop, set, length-append, length-drop}
use lib.Seq.{take_all, take-append-le}
use Rattle.lists.proofs.Keep.{take_more}
use Rattle.fields.specs.Fields.{le32}
use Rattle.tables.specs.Records.{image_places_of}
use Rattle.tables.proofs.Faults.{image_place_here, length-image_places}
use Rattle.stage_symbols.specs.StageSymbols.{Placed}

pub place_more : (b column : List ℕ) (i : ℕ) {r : ℕ} → i < length column → i < length b / 4 → r ≡ le32 b (4 * i)
    → take i column ≡ take i (image_places_of b) → take (i + 1) (set column i r) ≡ take (i + 1) (image_places_of b)
place_more b column i {r} h k e q =
    take_more i column (image_places_of b) r 0 h (rw length-image_places k) (image_place_here b i k e) q

-- as many as both have stand at the front of the column
pub places_placed : (b column items : List ℕ) (n : ℕ) → n ≡ min (length column) (length b / 4) → length items ≡ n
    → take n items ≡ take n (image_places_of b) → Placed (image_places_of b) (items ++ drop n column) n
places_placed b column items n e long q =
    record { is = rw size (front ∙ go (leb (length column) (length b / 4)) refl); inside = rw size within }
  where
    within : n ≤ length column
    within = omega (arith, e)

    size : length (items ++ drop n column) ≡ length column
    size = simp (length-append, length-drop) (omega (arith, long, within))

    front : take n (items ++ drop n column) ≡ take n (image_places_of b)
    front = take-append-le n items (drop n column) (omega (arith, long)) ∙ q

    go : (t : Bool) → leb (length column) (length b / 4) ≡ t → take n (image_places_of b) ≡ take (length column) (image_places_of b)
    go true h = ap (λ (m : ℕ). take m (image_places_of b)) (let l = leb-true (length column) (length b / 4) h in omega (arith, e))
    go false h =
        let l = leb-false (length column) (length b / 4) h in
        take_all n (image_places_of b) (rw length-image_places (omega (arith, e))) ∙ sym (take_all (length column) (image_places_of b) (rw length-image_places (omega arith)))
