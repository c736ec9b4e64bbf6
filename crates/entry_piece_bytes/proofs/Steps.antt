-- What the definition answers at each of the code's returns, and what is known of a piece where no rule refuses it. Assumes nothing.
use Prim.Native.Nat.{ℕ, ◌+◌, ◌*◌, ◌-◌, ◌/◌, ◌<◌, ◌≤◌}
use mathlib.Core.Path.{◌≡◌, ap, sym, ◌∙◌}
use mathlib.Core.List.{List}
use mathlib.Core.Bool.{Bool, true, false, not}
use mathlib.Core.Logic.{◌≢◌}
use native.Mathlib.Omega.{arith}
use borrow.Author.Tests.{le-leb, lt-leb, ltb-false, eq-eqb, ne_eqb}
use lib.Dec.{ltb}
use lib.ListN.{length, get_or, take, drop, length-take, length-drop}
use Rattle.std.proofs.lemmas.Bool.{or_parts}
use Rattle.lists.specs.Outcome.{accepted, refused}
use Rattle.lists.proofs.Outcomes.{fails, passes}
use Rattle.lists.proofs.Tests.{and_false, none_of}
use Rattle.obj.specs.Records.{section_at}
use Rattle.obj.specs.declared.Section.{Section}
use Rattle.tables.specs.Records.{bytes_cut}
use Rattle.pieces.specs.Pieces.{piece_at, piece_width}
use Rattle.pieces.specs.declared.Piece.{Piece}
use Rattle.entry_piece_bytes.specs.Entry.{within, in_section, of_piece, outside, placed, reach}

-- ---- a piece whose section has this head
module _ (places : List ℕ) (image : ℕ) (head : Section) (p : Piece) where
  -- the test of the code is that of the definition
  pub cut_is : {reached : ℕ} {r t : Bool} → r ≡ bytes_cut places reached p.section head → reached ≡ reach image → r ≡ t → bytes_cut places (reach image) p.section head ≡ t
  cut_is e q b = sym (e ∙ ap (λ (m : ℕ). bytes_cut places m p.section head) q) ∙ b

  pub cut : bytes_cut places (reach image) p.section head ≡ true → within places image head p ≡ refused 1 0 p.section
  unfolding within
  cut e = fails 1 0 p.section _ _ e

  module _ (whole : bytes_cut places (reach image) p.section head ≡ false) where
    pub beyond : outside head p ≡ true → within places image head p ≡ refused 72 p.section p.address
    unfolding within
    beyond e = passes 1 0 p.section _ _ whole ∙ fails 72 p.section p.address _ _ e

    pub lies : outside head p ≡ false → within places image head p ≡ accepted (placed (get_or places p.section 0) head p)
    unfolding within
    lies e = passes 1 0 p.section _ _ whole ∙ passes 72 p.section p.address _ _ e

pub placed-none : (start : ℕ) (head : Section) (p : Piece) → head.kind ≡ 3 → placed start head p ≡ record { offset = 0; length = 0 }
placed-none start head p e = rw (eq-eqb head.kind 3 e)

pub placed-some : (start : ℕ) (head : Section) (p : Piece) → head.kind ≢ 3
    → placed start head p ≡ record { offset = start + (p.address - head.address); length = p.size }
placed-some start head p e = rw (ne_eqb head.kind 3 e)

-- a section with bytes has them in the image
pub bytes_lie : (places : List ℕ) (image k : ℕ) (s : Section) → bytes_cut places image k s ≡ false → s.kind ≢ 3 → get_or places k 0 + s.size ≤ image
unfolding bytes_cut
bytes_lie places image k s e bytes = ltb-false _ _ (none_of _ 1 (and_false _ _ e (ap not (ne_eqb _ 3 bytes))))

-- a piece that is not outside lies between its section's start and end
module _ (head : Section) (p : Piece) (e : outside head p ≡ false) where
  pub not_below : head.address ≤ p.address
  not_below = ltb-false _ _ (or_parts (ltb p.address head.address) (ltb (head.address + head.size) (p.address + p.size)) e).0

  pub not_above : p.address + p.size ≤ head.address + head.size
  not_above = ltb-false _ _ (or_parts (ltb p.address head.address) (ltb (head.address + head.size) (p.address + p.size)) e).1

-- a part of a part that reaches no farther than both has the length that was asked for
pub part_long : (l : List ℕ) (start size from to : ℕ) → start + size ≤ length l → to ≤ size → from ≤ to
    → length (take (to - from) (drop from (take (start + size - start) (drop start l)))) ≡ to - from
part_long l start size from to h q g =
    let section = take (start + size - start) (drop start l) in
    omega (arith, length-take (to - from) (drop from section), length-drop from section, length-take (start + size - start) (drop start l), length-drop start l)

-- ---- its section, and the piece of a number
module _ (sections places : List ℕ) (image : ℕ) (p : Piece) where
  pub no_section : length sections / 15 ≤ p.section → in_section sections places image p ≡ refused 20 p.section 0
  unfolding in_section
  no_section h = fails 20 p.section 0 _ _ (le-leb _ _ h)

  pub section_there : p.section < length sections / 15 → in_section sections places image p ≡ within places image (section_at sections (15 * p.section)) p
  unfolding in_section
  section_there h = passes 20 p.section 0 _ _ (lt-leb _ _ h)

module _ (sections places : List ℕ) (image : ℕ) (pieces : List ℕ) (which : ℕ) where
  pub no_piece : length pieces / piece_width ≤ which → of_piece sections places image pieces which ≡ refused 20 0 which
  unfolding of_piece
  no_piece h = fails 20 0 which _ _ (le-leb _ _ h)

  pub piece_there : which < length pieces / piece_width → of_piece sections places image pieces which ≡ in_section sections places image (piece_at pieces (piece_width * which))
  unfolding of_piece
  piece_there h = passes 20 0 which _ _ (lt-leb _ _ h)
