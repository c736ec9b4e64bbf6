-- Restoring: document 01, "A section holds bytes unless its kind is 3; its head is its record without them; its splits are all that the walk was given with its
-- number. Laid over zeros means: the section's size in zeros, over which its pieces, in output order, are written from their addresses on." A piece's address and
-- length are those of its output record, and its bytes are what `piece_bytes` (crate pieces) returns for that record. The theorems `restores` and `unique` of
-- proofs/Theorems.antt say that the pieces give back the section's bytes, and that no two images share their pieces.
use Rattle.std.specs.Prelude.{ℕ, ◌+◌, ◌-◌, ◌≤◌, ◌<◌, ◌≡◌, List, [], ◌∷◌, map, false, cond, ◌≢◌, eqb, length, get_or, take, drop, replicate}
use Rattle.std.proofs.lemmas.List.Edits.{sets}
use Rattle.lists.specs.Outcome.{accepted}
use Rattle.lists.specs.Sort.{All}
use Rattle.align.specs.Align.{bad_align}
use Rattle.obj.specs.declared.Section.{Section}
use Rattle.obj.specs.Parts.{Part}
use Rattle.symbols.specs.Sound.{Sound}
use Rattle.sections.specs.Sections.{Sections}
use Rattle.pieces.specs.declared.Piece.{Piece}
use Rattle.walk.specs.Walk.{Input, start_in, end_in, splitting_end_in}
use Rattle.splits.specs.Questions.{is_common, is_skipped}

-- ---- a piece with its bytes

-- "A piece's bytes are a returned part of the section's bytes": what `piece_bytes` returns of a section's bytes, counted from the section's start
abbrev pub returned : (bytes : List ℕ) → (from to : ℕ) → List ℕ
returned bytes from to = take (to - from) (drop from bytes)

-- an output record's bytes: from its address on, as many as its size
abbrev pub bytes_in : Sections → Piece → List ℕ
bytes_in sections p =
    returned (sections.bytes p.section) (p.address - start_in sections p.section) (p.address - start_in sections p.section + p.size)

abbrev pub part_of : Sections → Piece → Part
part_of sections p = record { section = p.section; address = p.address; bytes = bytes_in sections p }

abbrev pub parts : Sections → List Piece → List Part
parts sections pieces = map (part_of sections) pieces

-- ---- laid over zeros

-- "its pieces, in output order, are written from their addresses on": those of section n, which starts at `start`, over what is there
unfoldable pub laid_on : (n start : ℕ) → (under : List ℕ) → List Part → List ℕ
laid_on n start under [] = under
laid_on n start under (p ∷ later) = laid_on n start (cond (eqb p.section n) (sets under (p.address - start) p.bytes) under) later

-- "Laid over zeros means: the section's size in zeros, over which .."
abbrev pub laid : (n : ℕ) → Section → List Part → List ℕ
laid n head ps = laid_on n head.address (replicate head.size 0) ps

-- the section's own byte at an address
abbrev pub byte_at : Sections → (n address : ℕ) → ℕ
byte_at sections n address = get_or (sections.bytes n) (address - start_in sections n) 0

-- ---- the sections that are restored

-- a section that holds bytes, and none of whose splits is skipped or common; "its splits are all that the walk was given with its number", so also those
-- that the walk doesn't reach
pub record Plain (t : Input) (n : ℕ) : Type 0 where
  pub listed : n < t.sections.count
  pub holds : (t.sections.head n).kind ≢ 3
  pub splits : All (λ s. s.section ≡ n → (is_skipped s ≡ false) × (is_common s ≡ false)) t.splits

-- ---- what the table checks give

pub record Checked (t : Input) : Type 0 where
  -- 1 of a section whose bytes don't lie in the image (`image_fault` of crate tables): "Section bytes equal size, none for bss"
  pub sized : (n : ℕ) → n < t.sections.count → (t.sections.head n).kind ≢ 3 → length (t.sections.bytes n) ≡ (t.sections.head n).size
  pub nobits : (n : ℕ) → n < t.sections.count → (t.sections.head n).kind ≡ 3 → t.sections.bytes n ≡ []
  -- 5 of a symbol: "bad alignment"
  pub sound : Sound t.image.symbol t.image.count
  -- 7 of a split: "alignment bad", and "in stage tables also .. end above section end"
  pub aligned : All (λ s. bad_align s.alignment ≡ false) t.splits
  pub ended : All (λ s. s.end ≤ end_in t.sections s.section) t.splits

-- ---- the first theorem

-- a piece of section n is written inside the section's zeros, with all its bytes
pub record Inside (sections : Sections) (n : ℕ) (p : Piece) : Type 0 where
  pub low : start_in sections n ≤ p.address
  pub high : p.address + p.size ≤ end_in sections n
  pub whole : length (bytes_in sections p) ≡ p.size

-- "its pieces, laid over zeros at their addresses, give the section's own byte at every address from its start on and below its splitting end"
pub record Restored (t : Input) (pieces : List Piece) (n : ℕ) : Type 0 where
  pub inside : All (λ p. p.section ≡ n → Inside t.sections n p) pieces
  pub end : ℕ
  pub ends : splitting_end_in t.image t.sections n ≡ accepted end
  pub below : end ≤ end_in t.sections n
  -- both have a byte at each of these addresses
  pub laid_long : length (laid n (t.sections.head n) (parts t.sections pieces)) ≡ (t.sections.head n).size
  pub own_long : length (t.sections.bytes n) ≡ (t.sections.head n).size
  pub own : (x : ℕ) → start_in t.sections n ≤ x → x < end
      → get_or (laid n (t.sections.head n) (parts t.sections pieces)) (x - start_in t.sections n) 0 ≡ byte_at t.sections n x

-- ---- the second theorem

-- two walks with the same splits and section heads; the same symbols and units aren't needed, and names, relocations, images and output room are arbitrary
pub record Alike (t u : Input) : Type 0 where
  pub splits : t.splits ≡ u.splits
  pub count : t.sections.count ≡ u.sections.count
  pub heads : (n : ℕ) → n < t.sections.count → t.sections.head n ≡ u.sections.head n
