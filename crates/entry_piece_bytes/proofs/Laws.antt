-- For readers of the contract: an accepted place lies in the image, and the bytes of the image there are those of the piece, as crate restore has them of its
-- record (`bytes_in`) and `pieces::piece_bytes` returns them of the section's bytes. Assumes nothing.
use Prim.Native.Nat.{ℕ, zero, suc, ◌+◌, ◌*◌, ◌-◌, ◌/◌, ◌<◌, ◌≤◌}
use mathlib.Core.Path.{◌≡◌, refl, sym, ap, subst, ◌∙◌}
use mathlib.Core.List.{List, [], ◌∷◌}
use mathlib.Core.Bool.{Bool, true, false}
use mathlib.Core.Logic.{◌≢◌}
use native.Mathlib.Omega.{arith}
use borrow.Author.Tests.{leb-false, ne_eqb, eq-eqb, eqb-true, eqb-false}
use lib.Dec.{eqb}
use lib.ListN.{length, get_or, take, drop}
use lib.Seq.{take-take, take-nil, drop-nil, drop-drop}
use Rattle.lists.specs.Outcome.{accepted}
use Rattle.lists.proofs.Outcomes.{then_inv, then_both, same_accepted}
use Rattle.obj.specs.Records.{section_at, stage_places}
use Rattle.obj.specs.declared.Section.{Section}
use Rattle.obj.proofs.Laws.{stage_place}
use Rattle.tables.specs.Records.{image_places_of, bytes_cut}
use Rattle.sections.specs.Bytes.{bytes_of}
use Rattle.sections.specs.Sections.{Sections, sections_of}
use Rattle.pieces.specs.Pieces.{piece_at, piece_width}
use Rattle.pieces.specs.declared.Piece.{Piece}
use Rattle.restore.specs.Restoring.{returned, bytes_in}
use Rattle.entry_piece_bytes.specs.declared.Place.{Place}
use Rattle.entry_piece_bytes.specs.Entry.{place_of, of_piece, in_section, within, outside, placed, reach}
use Rattle.entry_piece_bytes.proofs.Steps.{bytes_lie, not_below, not_above, placed-none, placed-some}

-- a part of the front of a list is that part of the list
part_of_front : (from size n : ℕ) (l : List ℕ) → from + size ≤ n → take size (drop from (take n l)) ≡ take size (drop from l)
part_of_front zero size n l h = take-take size n l (omega (arith, h))
part_of_front (suc from) size zero l h = absurd (omega (arith, h))
part_of_front (suc from) size (suc n) [] h = refl
part_of_front (suc from) size (suc n) (x ∷ l) h = part_of_front from size n l (omega (arith, h))

-- ---- an accepted place, taken apart

-- the piece's section is there, its bytes lie in the image, and the piece in it
pub record Accepted (sections places image pieces : List ℕ) (which : ℕ) (place : Place) : Type 0 where
  pub piece : Piece
  pub is_piece : piece ≡ piece_at pieces (piece_width * which)
  pub there : which < length pieces / piece_width
  pub listed : piece.section < length sections / 15
  pub whole : bytes_cut (image_places_of places) (reach (length image)) piece.section (section_at sections (15 * piece.section)) ≡ false
  pub inside : outside (section_at sections (15 * piece.section)) piece ≡ false
  pub is : place ≡ placed (get_or (image_places_of places) piece.section 0) (section_at sections (15 * piece.section)) piece

pub place_accepted : (sections places image pieces : List ℕ) (which : ℕ) (place : Place) → place_of sections places image pieces which ≡ accepted place
    → Accepted sections places image pieces which place
unfolding place_of of_piece in_section within
place_accepted sections places image pieces which place e =
    let p = piece_at pieces (piece_width * which) in
    let a = then_both _ _ _ e in
    let b = then_both _ _ _ a.1 in
    let c = then_inv _ _ _ _ _ _ b.1 in
    let d = then_inv _ _ _ _ _ _ c.1 in
    let f = then_inv _ _ _ _ _ _ d.1 in
    let g = then_inv _ _ _ _ _ _ f.1 in
    record {
      piece = p;
      is_piece = refl;
      there = leb-false _ _ c.0;
      listed = leb-false _ _ d.0;
      whole = f.0;
      inside = g.0;
      is = sym (same_accepted g.1);
    }

-- ---- the bytes there

-- a list without elements has no part
no_part : (from to : ℕ) → returned [] from to ≡ []
no_part from to = ap (take (to - from)) (drop-nil from) ∙ take-nil (to - from)

-- the place of a piece in the image, of a section of these bytes
module _ (image places : List ℕ) (head : Section) (p : Piece)
    (whole : bytes_cut places (reach (length image)) p.section head ≡ false) (inside : outside head p ≡ false) where
  abbrev pub start : ℕ
  start = get_or places p.section 0

  abbrev from : ℕ
  from = p.address - head.address

  none_reads : head.kind ≡ 3 → [] ≡ returned (bytes_of image places p.section head) from (from + p.size)
  unfolding bytes_of
  none_reads e = rw (eq-eqb head.kind 3 e) (sym (no_part from (from + p.size)))

  some_reads : head.kind ≢ 3
      → take p.size (drop (start + from) image) ≡ returned (bytes_of image places p.section head) from (from + p.size)
  unfolding bytes_of
  some_reads bytes =
      let n : from + p.size - from ≡ p.size = omega arith in
      let few : from + p.size ≤ head.size = omega (arith, not_below head p inside, not_above head p inside) in
      rw (ne_eqb head.kind 3 bytes)
      (ap (take p.size) (sym (drop-drop from start image))
      ∙ sym (part_of_front from p.size head.size (drop start image) few)
      ∙ ap (λ (k : ℕ). take k (drop from (take head.size (drop start image)))) (sym n))

  -- "A piece's bytes are a returned part of the section's bytes": what stands there is what `piece_bytes` returns
  pub placed_reads : take (placed start head p).length (drop (placed start head p).offset image)
      ≡ returned (bytes_of image places p.section head) from (from + p.size)
  placed_reads = by_kind (eqb head.kind 3) refl
    where
      by_kind : (t : Bool) → eqb head.kind 3 ≡ t
          → take (placed start head p).length (drop (placed start head p).offset image)
          ≡ returned (bytes_of image places p.section head) from (from + p.size)
      by_kind true e =
          ap (λ (x : Place). take x.length (drop x.offset image)) (placed-none start head p (eqb-true _ _ e)) ∙ none_reads (eqb-true _ _ e)
      by_kind false e =
          ap (λ (x : Place). take x.length (drop x.offset image)) (placed-some start head p (eqb-false _ _ e)) ∙ some_reads (eqb-false _ _ e)

  some_inside : head.kind ≢ 3 → start + from + p.size ≤ length image
  some_inside bytes =
      omega (arith, bytes_lie places (reach (length image)) p.section head whole bytes, not_below head p inside, not_above head p inside)

  -- it lies in the image
  pub placed_inside : (placed start head p).offset + (placed start head p).length ≤ length image
  placed_inside = by_kind (eqb head.kind 3) refl
    where
      by_kind : (t : Bool) → eqb head.kind 3 ≡ t → (placed start head p).offset + (placed start head p).length ≤ length image
      by_kind true e =
          subst (λ (x : Place). x.offset + x.length ≤ length image) (sym (placed-none start head p (eqb-true _ _ e))) (omega arith)
      by_kind false e =
          subst (λ (x : Place). x.offset + x.length ≤ length image) (sym (placed-some start head p (eqb-false _ _ e))) (some_inside (eqb-false _ _ e))

-- ---- the entry

-- the sections as `split_obj` sees them
abbrev pub sections_in : (sections places image : List ℕ) → Sections
sections_in sections places image = sections_of sections (stage_places 15 (length sections / 15)) image (image_places_of places)

module _ (sections places image pieces : List ℕ) (which : ℕ) (place : Place) (e : place_of sections places image pieces which ≡ accepted place) where
  -- a caller who reads `length` bytes of the image from `offset` on stays in it
  pub place_inside : place.offset + place.length ≤ length image
  place_inside =
      let a = place_accepted sections places image pieces which place e in
      subst (λ (x : Place). x.offset + x.length ≤ length image) (sym a.is) (placed_inside image (image_places_of places) _ a.piece a.whole a.inside)

  -- and has the bytes of the piece of this number
  pub place_reads : take place.length (drop place.offset image) ≡ bytes_in (sections_in sections places image) (piece_at pieces (piece_width * which))
  place_reads =
      let a = place_accepted sections places image pieces which place e in
      ap (λ (x : Place). take x.length (drop x.offset image)) a.is
      ∙ placed_reads image (image_places_of places) (section_at sections (15 * a.piece.section)) a.piece a.whole a.inside
      ∙ ap
      (λ (at : ℕ). returned (bytes_of image (image_places_of places) a.piece.section (section_at sections at)) (a.piece.address - (section_at sections at).address)
      (a.piece.address - (section_at sections at).address + a.piece.size))
      (sym (stage_place 15 (length sections / 15) a.piece.section a.listed))
      ∙ ap (bytes_in (sections_in sections places image)) a.is_piece
