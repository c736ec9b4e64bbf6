-- What an accepted split tells: the rules that it passed, and the piece that it gave. Each chain of refusals is undone line by line. Assumes nothing.
use Prim.Native.Nat.{ℕ, ◌+◌, ◌-◌, ◌≤◌, ◌<◌}
use mathlib.Core.Path.{◌≡◌, refl, sym, ap, subst, ◌∙◌}
use mathlib.Core.List.{List, [], ◌∷◌, ◌++◌, Memᴰ, append-nil}
use mathlib.Core.Bool.{Bool, true, false, cond, not, ◌&&◌, ◌||◌}
use native.Mathlib.Omega.{arith}
use lib.Dec.{ltb}
use lib.ListN.{length}
use borrow.Author.Tests.{eqb-true, ltb-false, lt-ltb, not-false}
use Rattle.std.proofs.lemmas.Bool.{or_parts, cond-false}
use Rattle.lists.specs.Outcome.{accepted}
use Rattle.lists.specs.Sort.{All, none, each}
use Rattle.lists.proofs.Outcomes.{then_inv, bind_inv, same_accepted}
use Rattle.lists.proofs.Tests.{and_false}
use Rattle.obj.specs.declared.Split.{Split}
use Rattle.sections.specs.Alignment.{Chosen}
use Rattle.sections.specs.Bytes.{zero_between}
use Rattle.pieces.specs.declared.Piece.{Piece}
use Rattle.pieces.specs.Questions.{count_of}
use Rattle.units.specs.Units.{unit_of}
use Rattle.pieces.specs.declared.Counts.{Counts}
use Rattle.walk.specs.Walk.{Input, Output, start_in, alignment_in, fits, halved, piece_of, given, over, on_aligned, on_kept, on_split}
use Rattle.splits.specs.Questions.{is_common, is_skipped}
use Rattle.restore.proofs.Parts.{and_false_left}

-- a split of section n, from its start on
pub record Reached (t : Input) (n : ℕ) (s : Split) : Type 0 where
  pub listed : Memᴰ s t.splits
  pub section : s.section ≡ n
  pub low : start_in t.sections n ≤ s.start

-- a piece and the split that it is of
pub record From (t : Input) (p : Piece) : Type 0 where
  pub split : Split
  pub reached : Reached t p.section split
  pub common : is_common split ≡ false
  pub address : split.start ≡ p.address
  pub end : split.end ≡ p.address + p.size
  pub chosen : Chosen
  pub asked : alignment_in t.image (t.sections.head p.section) p.section p.address split ≡ accepted chosen
  pub alignment : p.alignment ≡ halved 16 chosen.value p.address
  pub fitted : fits p.alignment p.address ≡ true

-- an output that isn't too much for its tables
within_room : (room : Counts) (o : Output) → over room o ≡ false → length o.pieces ≤ room.pieces
within_room room o e = ltb-false _ _ (or_parts (ltb room.symbols (length o.symbols) || ltb room.relocs (length o.relocs)) (ltb room.pieces (length o.pieces)) e).1

module _ (t : Input) (n current : ℕ) (s : Split) (out out' : Output) where
  -- a split that passed 75, 11 and 76
  pub record Passed (unit alignment : ℕ) : Type 0 where
    pub fitted : fits alignment current ≡ true
    pub forward : (ltb s.end current && not (is_common s)) ≡ false
    pub room : over t.room (given t n unit alignment s out) ≡ false
    pub is : given t n unit alignment s out ≡ out'

  pub aligned_inv : (unit alignment : ℕ) → on_aligned t n current unit alignment s out ≡ accepted out' → Passed unit alignment
  unfolding on_aligned
  aligned_inv unit alignment e =
      let a = then_inv _ _ _ _ _ _ e in
      let b = then_inv _ _ _ _ _ _ (then_inv _ _ _ _ _ _ (then_inv _ _ _ _ _ _ a.1).1).1 in
      let c = then_inv _ _ _ _ _ _ b.1 in
      record {
        fitted = not-false _ a.0;
        forward = b.0;
        room = c.0;
        is = same_accepted c.1;
      }

  -- .. and 74
  pub record Kept : Type 0 where
    pub chosen : Chosen
    pub asked : alignment_in t.image (t.sections.head n) n current s ≡ accepted chosen
    pub passed : Passed (unit_of t.units s.unit) (halved 16 chosen.value current)

  pub kept_inv : on_kept t n current s out ≡ accepted out' → Kept
  unfolding on_kept
  kept_inv e =
      let r = bind_inv _ _ _ (then_inv _ _ _ _ _ _ e).1 in
      record { chosen = r.0; asked = r.1; passed = aligned_inv _ _ r.2 }

  kept_room : Kept → length out'.pieces ≤ t.room.pieces
  kept_room k = subst (λ (o : Output). length o.pieces ≤ t.room.pieces) k.passed.is
      (within_room t.room (given t n (unit_of t.units s.unit) (halved 16 k.chosen.value current) s out) k.passed.room)

  module _ (next : ℕ) where
    -- it starts at `current`, and what lies between it and the next is zero
    pub record Placed : Type 0 where
      pub here : s.start ≡ current
      pub between : s.end < next
          → zero_between (t.sections.bytes n) (s.end - start_in t.sections n) (next - start_in t.sections n) ≡ true
      pub rest : cond (is_skipped s) (accepted out) (on_kept t n current s out) ≡ accepted out'

    pub split_inv : on_split t n current next s out ≡ accepted out' → Placed
    unfolding on_split
    split_inv e =
        let a = then_inv _ _ _ _ _ _ e in
        let b = then_inv _ _ _ _ _ _ (then_inv _ _ _ _ _ _ a.1).1 in
        record {
          here = eqb-true _ _ (not-false _ a.0);
          between = λ l. not-false _ (and_false _ _ b.0 (lt-ltb _ _ l));
          rest = b.1;
        }

    -- "76 output table full" has not come
    pub split_room : on_split t n current next s out ≡ accepted out' → length out.pieces ≤ t.room.pieces → length out'.pieces ≤ t.room.pieces
    split_room e few = go (is_skipped s) (split_inv e).rest
      where
        go : (b : Bool) → cond b (accepted out) (on_kept t n current s out) ≡ accepted out' → length out'.pieces ≤ t.room.pieces
        go true f = subst (λ (o : Output). length o.pieces ≤ t.room.pieces) (same_accepted f) few
        go false f = kept_room (kept_inv f)

    -- what it adds: pieces of its section
    abbrev pub Adds : Type 0
    Adds = (l : List Piece) × All (λ p. (p.section ≡ n) × From t p) l × (out'.pieces ≡ out.pieces ++ l)

    pub split_adds : Reached t n s → on_split t n current next s out ≡ accepted out' → Adds
    unfolding given piece_of
    split_adds reached e = skipped (is_skipped s) placed.rest
      where
        placed : Placed
        placed = split_inv e

        piece : (k : Kept) → Piece
        piece k = piece_of (t.sections.head n) n (unit_of t.units s.unit) (count_of (unit_of t.units s.unit) out.pieces) (halved 16 k.chosen.value current) s

        from : (k : Kept) → is_common s ≡ false → From t (piece k)
        from k c =
            let here = placed.here in
            let forward : current ≤ s.end = ltb-false _ _ (and_false_left _ _ k.passed.forward (ap not c)) in
            let whole : s.end ≡ s.start + (s.end - s.start) = omega arith in
            record {
              split = s;
              reached = reached;
              common = c;
              address = refl;
              end = whole;
              chosen = k.chosen;
              asked = ap (λ (x : ℕ). alignment_in t.image (t.sections.head n) n x s) here ∙ k.asked;
              alignment = ap (halved 16 k.chosen.value) (sym here);
              fitted = ap (fits (halved 16 k.chosen.value current)) here ∙ k.passed.fitted;
            }

        kept : (k : Kept) → (c : Bool) → is_common s ≡ c → out'.pieces ≡ out.pieces ++ cond c [] (piece k ∷ []) → Adds
        kept k true q f = ([], none, f)
        kept k false q f = (piece k ∷ [], each (refl, from k q) none, f)

        skipped : (b : Bool) → cond b (accepted out) (on_kept t n current s out) ≡ accepted out' → Adds
        skipped true f = ([], none, ap (λ (o : Output). o.pieces) (sym (same_accepted f)) ∙ sym (append-nil out.pieces))
        skipped false f = let k = kept_inv f in kept k (is_common s) refl (ap (λ (o : Output). o.pieces) (sym k.passed.is))

    -- a split that is neither skipped nor common gives its piece
    pub record Gave : Type 0 where
      pub unit : ℕ
      pub number : ℕ
      pub alignment : ℕ
      pub here : s.start ≡ current
      pub forward : current ≤ s.end
      pub between : s.end < next
          → zero_between (t.sections.bytes n) (s.end - start_in t.sections n) (next - start_in t.sections n) ≡ true
      pub pieces : out'.pieces ≡ out.pieces ++ (piece_of (t.sections.head n) n unit number alignment s ∷ [])

    pub split_gave : on_split t n current next s out ≡ accepted out' → is_skipped s ≡ false → is_common s ≡ false → Gave
    unfolding given
    split_gave e b c =
        let q = split_inv e in
        let k = kept_inv (sym (cond-false (is_skipped s) _ _ b) ∙ q.rest) in
        record {
          unit = unit_of t.units s.unit;
          number = count_of (unit_of t.units s.unit) out.pieces;
          alignment = halved 16 k.chosen.value current;
          here = q.here;
          forward = ltb-false _ _ (and_false_left _ _ k.passed.forward (ap not c));
          between = q.between;
          pieces = ap (λ (o : Output). o.pieces) (sym k.passed.is) ∙ ap (λ (l : List Piece). out.pieces ++ l) (cond-false (is_common s) _ _ c);
        }
