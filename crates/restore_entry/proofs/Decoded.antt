-- Pieces read back from the output table: where each lies is in its record, whatever follows the records. Assumes nothing.
use Prim.Native.Nat.{ℕ, zero, suc, ◌+◌, ◌*◌, ◌-◌, ◌<◌}
use mathlib.Core.Path.{◌≡◌, refl, sym, ap, ◌∙◌, subst}
use mathlib.Core.List.{List, [], ◌∷◌, ◌++◌, map, append_assoc}
use native.Mathlib.Omega.{arith}
use lib.ListN.{length, get_or}
use lib.Seq.{get_or-append-add}
use Rattle.lists.specs.Sort.{All, none, each}
use Rattle.lists.proofs.All.{all_map}
use Rattle.lists.proofs.Parts.{tabulate_list, tabulate-map}
use Rattle.fields.specs.Fields.{le16, le32}
use Rattle.fields.proofs.Laws.{round16, round32}
use Rattle.sections.specs.Sections.{Sections}
use Rattle.pieces.specs.declared.Piece.{Piece}
use Rattle.pieces.specs.Pieces.{piece_at, piece_head, piece_bytes, pieces_in, packed, piece_width}
use Rattle.pieces.specs.Laws.{length-piece_bytes}
use Rattle.walk.specs.Walk.{Input, start_in}
use Rattle.obj.specs.Parts.{Part}
use Rattle.restore.specs.Restoring.{part_of, parts, returned, laid, Inside, Restored}
use Rattle.restore_entry.specs.Tables.{Spot, spot}

-- ---- a record after others

-- a number after these bytes
module _ (vs b : List ℕ) where
  pub after16 : (at off : ℕ) → le16 (vs ++ b) (length vs + at + off) ≡ le16 b (at + off)
  after16 at off =
      ap (le16 (vs ++ b)) (let e : length vs + at + off ≡ length vs + (at + off) = omega arith in e)
      ∙ (λ z. get_or-append-add vs b (at + off) 0 z + 256 * next z)
    where
      next : get_or (vs ++ b) (length vs + (at + off) + 1) 0 ≡ get_or b (at + off + 1) 0
      next = ap (λ (i : ℕ). get_or (vs ++ b) i 0) (let e : length vs + (at + off) + 1 ≡ length vs + (at + off + 1) = omega arith in e) ∙ get_or-append-add vs b (at + off + 1) 0

  after32 : (at off : ℕ) → le32 (vs ++ b) (length vs + at + off) ≡ le32 b (at + off)
  after32 at off =
      ap (le32 (vs ++ b)) (let e : length vs + at + off ≡ length vs + (at + off) = omega arith in e)
      ∙ (λ z. get_or-append-add vs b (at + off) 0 z + 256 * next 1 z + 65536 * next 2 z + 16777216 * next 3 z)
    where
      next : (k : ℕ) → get_or (vs ++ b) (length vs + (at + off) + k) 0 ≡ get_or b (at + off + k) 0
      next k = ap (λ (i : ℕ). get_or (vs ++ b) i 0) (let e : length vs + (at + off) + k ≡ length vs + (at + off + k) = omega arith in e) ∙ get_or-append-add vs b (at + off + k) 0

  after : (at : ℕ) → spot (piece_at (vs ++ b) (length vs + at)) ≡ spot (piece_at b at)
  unfolding piece_at
  after at = λ z. record { section = after16 at 4 z; address = after32 at 8 z; size = after32 at 12 z; alignment = after32 at 16 z }

-- ---- the records of a table

-- a piece of which its record can hold this
pub record Small (p : Piece) : Type 0 where
  pub section : p.section < 65536
  pub address : p.address < 4294967296
  pub size : p.size < 4294967296
  pub alignment : p.alignment < 4294967296

abbrev no_piece : Piece
no_piece = record { unit = 0; number = 0; section = 0; name = 0; address = 0; size = 0; alignment = 0; offset = 0; origin = 0 }

first : (p : Piece) (rest : List ℕ) → Small p → spot (piece_at (piece_bytes p ++ rest) 0) ≡ spot p
unfolding piece_at piece_bytes piece_head
first p rest f = λ z. record {
  section = round16 p.section f.section z;
  address = round32 p.address f.address z;
  size = round32 p.size f.size z;
  alignment = round32 p.alignment f.alignment z;
}

read : (ps : List Piece) (rest : List ℕ) → All Small ps → (k : ℕ) → k < length ps
    → spot (piece_at (packed piece_bytes ps ++ rest) (piece_width * k)) ≡ spot (get_or ps k no_piece)
unfolding packed
read [] rest all k h = absurd (omega arith)
read (p ∷ ps) rest (each f all) zero h =
    ap (λ (b : List ℕ). spot (piece_at b 0)) (append_assoc (piece_bytes p) (packed piece_bytes ps) rest) ∙ first p (packed piece_bytes ps ++ rest) f
read (p ∷ ps) rest (each f all) (suc k) h =
    ap (λ (b : List ℕ). spot (piece_at b (piece_width * suc k))) (append_assoc (piece_bytes p) (packed piece_bytes ps) rest)
    ∙ ap (λ (at : ℕ). spot (piece_at (piece_bytes p ++ (packed piece_bytes ps ++ rest)) at)) (let e : piece_width * suc k ≡ length (piece_bytes p) + piece_width * k = omega (arith, length-piece_bytes p) in e)
    ∙ after (piece_bytes p) (packed piece_bytes ps ++ rest) (piece_width * k)
    ∙ read ps rest all k (omega arith)

-- THEOREM: the pieces that are read from a table of packed records are as the pieces
pub read_back : (ps : List Piece) (rest : List ℕ) → All Small ps → map spot (pieces_in (packed piece_bytes ps ++ rest) (length ps)) ≡ map spot ps
unfolding pieces_in
read_back ps rest all =
    sym (tabulate-map spot (λ i. piece_at (packed piece_bytes ps ++ rest) (piece_width * i)) (λ i. spot (piece_at (packed piece_bytes ps ++ rest) (piece_width * i))) 0 (length ps) (λ j a b. refl))
    ∙ tabulate_list spot (λ i. spot (piece_at (packed piece_bytes ps ++ rest) (piece_width * i))) ps no_piece (λ k h. read ps rest all k h)

-- ---- what restoring asks of pieces is where they lie

abbrev part_of_lem : Sections → Spot → Part
part_of_lem sections s = record {
  section = s.section;
  address = s.address;
  bytes = returned (sections.bytes s.section) (s.address - start_in sections s.section) (s.address - start_in sections s.section + s.size);
}

parts_are : (sections : Sections) (ps : List Piece) → parts sections ps ≡ map (part_of_lem sections) (map spot ps)
parts_are sections [] = refl
parts_are sections (p ∷ ps) = ap (λ (l : List Part). part_of sections p ∷ l) (parts_are sections ps)

pub parts_same : (sections : Sections) (ps qs : List Piece) → map spot ps ≡ map spot qs → parts sections ps ≡ parts sections qs
parts_same sections ps qs e = parts_are sections ps ∙ ap (map (part_of_lem sections)) e ∙ sym (parts_are sections qs)

all_spots : (Q : Spot → Type 0) (ps : List Piece) → All (λ p. Q (spot p)) ps → All Q (map spot ps)
all_spots Q [] none = none
all_spots Q (p ∷ ps) (each h a) = each h (all_spots Q ps a)

spots_all : (Q : Spot → Type 0) (ps : List Piece) → All Q (map spot ps) → All (λ p. Q (spot p)) ps
spots_all Q [] none = none
spots_all Q (p ∷ ps) (each h a) = each h (spots_all Q ps a)

-- a piece of which this is so
abbrev pub piece_there : Spot → Piece
piece_there s = record { unit = 0; number = 0; section = s.section; name = 0; address = s.address; size = s.size; alignment = s.alignment; offset = 0; origin = 0 }

-- what rests on this alone holds of pieces that are alike in it
pub all_same : (P : Piece → Type 0) → ((p : Piece) → P p → P (piece_there (spot p))) → ((p : Piece) → P (piece_there (spot p)) → P p)
    → (ps qs : List Piece) → map spot ps ≡ map spot qs → All P ps → All P qs
all_same P there back ps qs e a =
    all_map back (spots_all (λ s. P (piece_there s)) qs (subst (All (λ s. P (piece_there s))) e (all_spots (λ s. P (piece_there s)) ps (all_map there a))))

-- THEOREM: pieces that lie alike restore alike
pub restored_same : (t : Input) (n : ℕ) (ps qs : List Piece) → map spot ps ≡ map spot qs → Restored t ps n → Restored t qs n
restored_same t n ps qs e r =
    record {
      inside = all_same (λ p. p.section ≡ n → Inside t.sections n p) there back ps qs e r.inside;
      end = r.end;
      ends = r.ends;
      below = r.below;
      laid_long = ap (λ (l : List Part). length (laid n (t.sections.head n) l)) (sym (parts_same t.sections ps qs e)) ∙ r.laid_long;
      own_long = r.own_long;
      own = λ x low high.
          ap (λ (l : List Part). get_or (laid n (t.sections.head n) l) (x - start_in t.sections n) 0) (sym (parts_same t.sections ps qs e)) ∙ r.own x low high;
    }
  where
    there : (p : Piece) → (p.section ≡ n → Inside t.sections n p) → p.section ≡ n → Inside t.sections n (piece_there (spot p))
    there p f q = let i = f q in record { low = i.low; high = i.high; whole = i.whole }

    back : (p : Piece) → (p.section ≡ n → Inside t.sections n (piece_there (spot p))) → p.section ≡ n → Inside t.sections n p
    back p f q = let i = f q in record { low = i.low; high = i.high; whole = i.whole }
