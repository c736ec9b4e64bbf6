-- What a split with a fitting alignment gives: 11, 76, or the output with its symbols, and with its piece and relocations unless it is common. Assumes nothing.
use mathlib.Core.Path.{◌≡◌, refl, sym, ap, subst, ◌∙◌}
use mathlib.Core.List.{List, [], ◌∷◌, ◌++◌, append-nil}
use mathlib.Core.Bool.{Bool, true, false, cond, not, ◌&&◌, ◌||◌}
use Prim.Native.Nat.{ℕ, ◌+◌, ◌≤◌, ◌<◌}
use native.Mathlib.Omega.{arith}
use lib.Dec.{eqb, leb, ltb}
use lib.ListN.{length}
use borrow.Author.Tests.{lt-ltb, le-ltb, leb-true, leb-false, ltb-false}
use Rattle.std.proofs.lemmas.Bool.{or_parts, and_parts}
use Rattle.lists.specs.Rows.{keep_if}
use Rattle.lists.specs.Sort.{All}
use Rattle.lists.proofs.All.{all_map}
use Rattle.lists.proofs.Filter.{keep_passes}
use Rattle.lists.specs.Outcome.{Outcome, accepted, refused, refuse, ◌>>◌}
use Rattle.lists.proofs.Outcomes.{fails, passes}
use Rattle.obj.specs.declared.Section.{Section}
use Rattle.obj.specs.declared.Reloc.{Reloc}
use Rattle.obj.specs.declared.Split.{Split}
use Rattle.symbols.specs.Ranges.{has_symbols}
use Rattle.sections.specs.Image.{Image}
use Rattle.pieces.specs.declared.Piece.{Piece}
use Rattle.pieces.specs.declared.PieceSymbol.{PieceSymbol}
use Rattle.pieces.specs.declared.PieceReloc.{PieceReloc}
use Rattle.pieces.specs.Questions.{count_of}
use Rattle.relocs.specs.Relocs.{relocs_of, has_relocs}
use Rattle.relocs.proofs.Laws.{relocs_some}
use Rattle.splits.specs.Questions.{is_common}
use Rattle.pieces.specs.declared.Counts.{Counts}
use Rattle.walk.specs.Walk.{Input, Output, fits, add_symbols, split_symbols, piece_of, given, over, on_aligned}
use Rattle.walk.specs.Giving.{input_of, pieces_with, relocs_with}

-- ---- tests

-- three refusals of one number at one place
three_tests : {A : Type 0} (n current : ℕ) (e a b c : Bool) (m : Outcome A)
    → (refuse 11 n current (e && a) >> (refuse 11 n current (e && b) >> (refuse 11 n current (e && c) >> m))) ≡ (refuse 11 n current (e && ((a || b) || c)) >> m)
unfolding refuse ◌>>◌
three_tests n current false a b c m = refl
three_tests n current true true b c m = refl
three_tests n current true false true c m = refl
three_tests n current true false false true m = refl
three_tests n current true false false false m = refl

later_two : (a b c : Bool) → (b || c) ≡ true → ((a || b) || c) ≡ true
later_two true b c e = refl
later_two false b c e = e

module _ (room : Counts) (out : Output) where
  over_symbols : room.symbols < length out.symbols → over room out ≡ true
  over_symbols h = rw (lt-ltb room.symbols (length out.symbols) h)

  over_later : (ltb room.relocs (length out.relocs) || ltb room.pieces (length out.pieces)) ≡ true → over room out ≡ true
  over_later e = later_two (ltb room.symbols (length out.symbols)) (ltb room.relocs (length out.relocs)) (ltb room.pieces (length out.pieces)) e

  over_none : length out.symbols ≤ room.symbols → length out.relocs ≤ room.relocs → length out.pieces ≤ room.pieces → over room out ≡ false
  over_none h q k =
      rw (le-ltb room.symbols (length out.symbols) h, le-ltb room.relocs (length out.relocs) q, le-ltb room.pieces (length out.pieces) k)

-- ---- a split with a fitting alignment
module _ (t : Input) (n current unit alignment : ℕ) (s : Split) (out : Output) (fit : fits alignment current ≡ true) where
  abbrev pub backwards : Bool
  backwards = ltb s.end current && ((has_relocs t.reloc t.relocs n || has_symbols t.image.symbol t.image.count n) || not (is_common s))

  fitted : on_aligned t n current unit alignment s out
      ≡ (refuse 11 n current backwards >> (refuse 76 n current (over t.room (given t n unit alignment s out)) >> accepted (given t n unit alignment s out)))
  unfolding on_aligned
  fitted =
      passes 75 n current _ _ (ap not fit)
      ∙ three_tests n current (ltb s.end current) (has_relocs t.reloc t.relocs n) (has_symbols t.image.symbol t.image.count n) (not (is_common s)) _

  pub aligned_backwards : backwards ≡ true → on_aligned t n current unit alignment s out ≡ refused 11 n current
  aligned_backwards e = fitted ∙ fails 11 n current _ _ e

  module _ (forwards : backwards ≡ false) (o : Output) (is : given t n unit alignment s out ≡ o) where
    forward : on_aligned t n current unit alignment s out ≡ (refuse 76 n current (over t.room o) >> accepted o)
    forward = fitted ∙ passes 11 n current _ _ forwards ∙ ap (λ (x : Output). refuse 76 n current (over t.room x) >> accepted x) is

    pub aligned_full : over t.room o ≡ true → on_aligned t n current unit alignment s out ≡ refused 76 n current
    aligned_full e = forward ∙ fails 76 n current _ _ e

    pub aligned_made : over t.room o ≡ false → on_aligned t n current unit alignment s out ≡ accepted o
    aligned_made e = forward ∙ passes 76 n current _ _ e

-- ---- what is given, of what is there
module _ (image : Image) (head : ℕ → Section) (reloc : ℕ → Reloc) (relocs n unit alignment : ℕ) (s : Split) (room : Counts) (o : Output) where
  -- the entries with the split's symbols
  abbrev pub symbols_with : List PieceSymbol
  symbols_with = add_symbols image unit (length o.pieces) s o.symbols (split_symbols image n s)

  abbrev pub common_out : Output
  common_out = record { pieces = o.pieces; symbols = symbols_with; relocs = o.relocs }

  abbrev pub piece_out : Output
  piece_out = record {
    pieces = pieces_with (head n) n unit alignment s o.pieces;
    symbols = symbols_with;
    relocs = relocs_with reloc relocs n s (length o.pieces) o.relocs;
  }

  -- whether it is common or not
  abbrev either_out : Output
  either_out = record {
    pieces = o.pieces ++ cond (is_common s) [] (piece_of (head n) n unit (count_of unit o.pieces) alignment s ∷ []);
    symbols = symbols_with;
    relocs = cond (is_common s) o.relocs (relocs_with reloc relocs n s (length o.pieces) o.relocs);
  }

  module _ (count : ℕ) (bytes : ℕ → List ℕ) (splits : List Split) (units : List ℕ) where
    abbrev t : Input
    t = input_of image (record { count = count; head = head; bytes = bytes }) reloc relocs splits units room

    pub given_either : given t n unit alignment s o ≡ either_out
    unfolding given
    given_either = refl

    pub given_common : is_common s ≡ true → given t n unit alignment s o ≡ common_out
    given_common e =
        given_either
        ∙ (λ d. record {
          pieces = o.pieces ++ cond (e d) [] (piece_of (head n) n unit (count_of unit o.pieces) alignment s ∷ []);
          symbols = symbols_with;
          relocs = cond (e d) o.relocs (relocs_with reloc relocs n s (length o.pieces) o.relocs);
        })
        ∙ (λ d. record { pieces = append-nil o.pieces d; symbols = symbols_with; relocs = o.relocs })

    pub given_piece : is_common s ≡ false → given t n unit alignment s o ≡ piece_out
    given_piece e =
        given_either
        ∙ (λ d. record {
          pieces = o.pieces ++ cond (e d) [] (piece_of (head n) n unit (count_of unit o.pieces) alignment s ∷ []);
          symbols = symbols_with;
          relocs = cond (e d) o.relocs (relocs_with reloc relocs n s (length o.pieces) o.relocs);
        })

    module _ (fit : fits alignment s.start ≡ true) where
      abbrev whole : Outcome Output
      whole = on_aligned t n s.start unit alignment s o

      abbrev asked : Bool
      asked = backwards t n s.start unit alignment s o fit

      module _ (forwards : asked ≡ false) where
        -- no room for the symbols
        pub symbols_full : room.symbols < length symbols_with → whole ≡ refused 76 n s.start
        symbols_full h = aligned_full t n s.start unit alignment s o fit forwards either_out given_either (over_symbols room either_out h)

        -- there is room for the symbols
        module _ (few : length symbols_with ≤ room.symbols) where
          pub common_made : is_common s ≡ true → length o.pieces ≤ room.pieces → length o.relocs ≤ room.relocs → whole ≡ accepted common_out
          common_made e p r =
              aligned_made t n s.start unit alignment s o fit forwards common_out (given_common e) (over_none room common_out few r p)

          pub piece_made : is_common s ≡ false → length piece_out.pieces ≤ room.pieces → length piece_out.relocs ≤ room.relocs → whole ≡ accepted piece_out
          piece_made e p r =
              aligned_made t n s.start unit alignment s o fit forwards piece_out (given_piece e) (over_none room piece_out few r p)

        pub piece_full : is_common s ≡ false → (ltb room.relocs (length piece_out.relocs) || ltb room.pieces (length piece_out.pieces)) ≡ true
            → whole ≡ refused 76 n s.start
        piece_full e g = aligned_full t n s.start unit alignment s o fit forwards piece_out (given_piece e) (over_later room piece_out g)

-- ---- no room for the piece or its relocations
le_below : (a b : ℕ) → leb a b ≡ ltb a (b + 1)
le_below a b = go (leb a b) refl
  where
    go : (t : Bool) → leb a b ≡ t → t ≡ ltb a (b + 1)
    go true e = sym (lt-ltb a (b + 1) (omega (arith, leb-true a b e)))
    go false e = sym (le-ltb a (b + 1) (omega (arith, leb-false a b e)))

pub full_test : (room made : Counts) (wanted : List Piece) (wanted-relocs : List PieceReloc) (most : ℕ) (t : Bool)
    → length wanted ≡ made.pieces + 1 → length wanted-relocs ≡ most → (ltb room.relocs most || leb room.pieces made.pieces) ≡ t
    → (ltb room.relocs (length wanted-relocs) || ltb room.pieces (length wanted)) ≡ t
full_test room made wanted wanted-relocs most t e f q =
    (λ d. ltb room.relocs (f d) || ltb room.pieces (e d))
    ∙ ap (λ (b : Bool). ltb room.relocs most || b) (sym (le_below room.pieces made.pieces))
    ∙ q

-- there is room for both
pub room_left : (room made : Counts) (most : ℕ) → (ltb room.relocs most || leb room.pieces made.pieces) ≡ false → (most ≤ room.relocs) × (made.pieces < room.pieces)
room_left room made most e =
    let p = or_parts (ltb room.relocs most) (leb room.pieces made.pieces) e in
    (ltb-false room.relocs most p.0, leb-false room.pieces made.pieces p.1)

-- a piece has its unit
pub piece_unit : (head : Section) (n unit number alignment : ℕ) (s : Split) → (piece_of head n unit number alignment s).unit ≡ unit
unfolding piece_of
piece_unit head n unit number alignment s = refl

-- ---- the parts of a section's symbols and relocations that a split has, none below its start
pub kept_above : (f : ℕ → ℕ) (start : ℕ) (p : ℕ → Bool) (l : List ℕ) {part : List ℕ} → part ≡ keep_if (λ i. leb start (f i) && p i) l → All (λ i. start ≤ f i) part
kept_above f start p l e =
    subst (λ (m : List ℕ). All (λ i. start ≤ f i) m) (sym e)
    (all_map (λ i q. leb-true start (f i) (and_parts (leb start (f i)) (p i) q).0) (keep_passes (λ i. leb start (f i) && p i) l))

-- what is asked backwards, by the numbers that were counted
pub backwards_is : (t : Input) (n current unit alignment : ℕ) (s : Split) (out : Output) (fit : fits alignment current ≡ true) (part : List ℕ)
    → part ≡ relocs_of t.reloc t.relocs n
    → (ltb s.end current && ((not (eqb (length part) 0) || has_symbols t.image.symbol t.image.count n) || not (is_common s))) ≡ backwards t n current unit alignment s out fit
backwards_is t n current unit alignment s out fit part e =
    ap (λ (b : Bool). ltb s.end current && ((b || has_symbols t.image.symbol t.image.count n) || not (is_common s)))
    (ap (λ (l : List ℕ). not (eqb (length l) 0)) e ∙ relocs_some t.reloc t.relocs n)

-- a split that is not common is not backwards: it does not end below its start
pub forwards_ends : (a : Bool) (s : Split) → (ltb s.end s.start && (a || not (is_common s))) ≡ false → is_common s ≡ false → s.start ≤ s.end
forwards_ends a s e f =
    ltb-false s.end s.start
    (go (ltb s.end s.start) a (ap (λ (b : Bool). ltb s.end s.start && (a || not b)) (sym f) ∙ e))
  where
    go : (x y : Bool) → (x && (y || not false)) ≡ false → x ≡ false
    go true true q = q
    go true false q = q
    go false y q = refl
