-- The pieces and symbols of an accepted walk: each is of a unit that is listed, since 74 did not come of its split; no unit lists a symbol twice; and no piece is
-- longer than the ceiling of addresses.
-- Assumes nothing.
use Prim.Native.Nat.{ℕ, ◌≤◌, ◌<◌, zero-le}
use mathlib.Core.Path.{◌≡◌, refl, sym, subst, ◌∙◌}
use mathlib.Core.List.{List, [], ◌∷◌, ◌++◌}
use mathlib.Core.Bool.{Bool, true, false, cond, ◌&&◌, ◌||◌}
use native.Mathlib.Omega.{arith}
use borrow.Author.Tests.{eqb-false, eq-eqb, ltb-false}
use lib.Dec.{eqb}
use lib.ListN.{length}
use Rattle.std.proofs.lemmas.Bool.{or_parts}
use Rattle.lists.specs.Outcome.{accepted}
use Rattle.lists.specs.Sort.{All, none, each}
use Rattle.lists.proofs.All.{all_append, all_map}
use Rattle.lists.proofs.Outcomes.{then_inv, same_accepted}
use Rattle.lists.proofs.Tests.{and_false}
use Rattle.obj.specs.declared.Split.{Split}
use Rattle.obj.specs.declared.Symbol.{Symbol}
use Rattle.sections.specs.Image.{Image}
use Rattle.units.specs.Units.{unit_of}
use Rattle.units.proofs.Laws.{unit_le}
use Rattle.pieces.specs.declared.Piece.{Piece}
use Rattle.pieces.specs.declared.PieceSymbol.{PieceSymbol}
use Rattle.pieces.specs.Questions.{count_of, has}
use Rattle.walk.specs.Walk.{Input, Output, passed_over, entry_of, add_symbol, add_symbols, split_symbols, piece_of, given, over, on_kept, on_split, walk, nothing}
use Rattle.walk.proofs.Adding.{entry_symbol}
use Rattle.pieces.specs.declared.Counts.{Counts}
use Rattle.restore.proofs.Steps.{From, split_inv, kept_inv}
use Rattle.restore.proofs.Walked.{sections_keep, pieces_from}
use Rattle.splits.specs.Questions.{is_common, is_skipped}
use Rattle.lists.proofs.Among.{all_find}
use Rattle.run_totals.specs.Totals.{Once}

-- ---- symbols

-- an entry is of its unit
entry_unit : (unit place : ℕ) (s : Split) (i : ℕ) (y : Symbol) → (entry_of unit place s i y).unit ≡ unit
unfolding entry_of
entry_unit unit place s i y = either (is_common s) _ _ refl refl
  where
    either : (b : Bool) (a c : PieceSymbol) → a.unit ≡ unit → c.unit ≡ unit → (cond b a c).unit ≡ unit
    either true a c p q = p
    either false a c p q = q

-- the unit has no such symbol
has-none : (unit i : ℕ) (out : List PieceSymbol) → has unit i out ≡ false → All (λ y. y.unit ≡ unit → y.symbol ≡ i → ⊥) out
unfolding has
has-none unit i [] e = none
has-none unit i (y ∷ out) e =
    let q = or_parts (eqb y.unit unit && eqb y.symbol i) (has unit i out) e in
    each (λ a b. eqb-false _ _ (and_false (eqb y.unit unit) (eqb y.symbol i) q.0 (eq-eqb _ _ a)) b) (has-none unit i out q.1)

-- one more that is not there
once_behind : (out : List PieceSymbol) (e : PieceSymbol) → Once out → All (λ y. y.unit ≡ e.unit → y.symbol ≡ e.symbol → ⊥) out → Once (out ++ (e ∷ []))
unfolding Once
once_behind [] e o n = (none, tt)
once_behind (y ∷ out) e o (each h n) = (all_append o.0 (each (λ a b. h (sym a) (sym b)) none), once_behind out e o.1 n)

module _ (image : Image) (units unit place : ℕ) (s : Split) (listed : unit < units) where
  abbrev Named : List PieceSymbol → Type 0
  Named out = All (λ y. y.unit < units) out × Once out

  symbol_named : (i : ℕ) (out : List PieceSymbol) → Named out → Named (add_symbol image unit place s out i)
  unfolding add_symbol
  symbol_named i out f = go (passed_over (image.name (image.symbol i).name) s (image.symbol i)) (has unit i out) refl
    where
      e : PieceSymbol
      e = entry_of unit place s i (image.symbol i)

      fresh : has unit i out ≡ false → All (λ y. y.unit ≡ e.unit → y.symbol ≡ e.symbol → ⊥) out
      fresh h =
          all_map (λ y q a b. q (a ∙ entry_unit unit place s i (image.symbol i)) (b ∙ entry_symbol unit place s i (image.symbol i))) (has-none unit i out h)

      go : (p h : Bool) → has unit i out ≡ h → Named (cond (p || h) out (out ++ (e ∷ [])))
      go true h q = f
      go false true q = f
      go false false q = (all_append f.0 (each (omega (arith, entry_unit unit place s i (image.symbol i), listed)) none), once_behind out e f.1 (fresh q))

  symbols_named : (l : List ℕ) (out : List PieceSymbol) → Named out → Named (add_symbols image unit place s out l)
  unfolding add_symbols
  symbols_named [] out f = f
  symbols_named (i ∷ l) out f = symbols_named l (add_symbol image unit place s out i) (symbol_named i out f)

-- what each split keeps, of an output in the listing of so many units
pub record OfUnits (units : ℕ) (room : Counts) (o : Output) : Type 0 where
  pub pieces : All (λ p. p.unit < units) o.pieces
  pub symbols : All (λ y. y.unit < units) o.symbols
  pub once : Once o.symbols
  pub few : length o.symbols ≤ room.symbols

module _ (t : Input) where
  abbrev OfUnitsIn : Output → Type 0
  OfUnitsIn o = OfUnits (length t.units) t.room o

  given_fine : (n unit alignment : ℕ) (s : Split) → unit < length t.units → (o : Output) → OfUnitsIn o → over t.room (given t n unit alignment s o) ≡ false
      → OfUnitsIn (given t n unit alignment s o)
  unfolding given piece_of
  given_fine n unit alignment s h o f room = record { pieces = go (is_common s); symbols = named.0; once = named.1; few = ltb-false _ _ (or_parts _ _ (or_parts _ _ room).0).0 }
    where
      go : (b : Bool) → All (λ p. p.unit < length t.units) (o.pieces ++ cond b [] (piece_of (t.sections.head n) n unit (count_of unit o.pieces) alignment s ∷ []))
      go true = all_append f.pieces none
      go false = all_append f.pieces (each h none)

      named : Named t.image (length t.units) unit (length o.pieces) s h (add_symbols t.image unit (length o.pieces) s o.symbols (split_symbols t.image n s))
      named = symbols_named t.image (length t.units) unit (length o.pieces) s h (split_symbols t.image n s) o.symbols (f.symbols, f.once)

  -- "74 unit not listed" has not come
  kept-listed : (n current : ℕ) (s : Split) (o o' : Output) → on_kept t n current s o ≡ accepted o' → unit_of t.units s.unit < length t.units
  unfolding on_kept
  kept-listed n current s o o' e =
      let d = eqb-false (unit_of t.units s.unit) (length t.units) (then_inv _ _ _ _ _ _ e).0 in
      omega (arith, d, unit_le t.units s.unit)

  split_fine : (n current next : ℕ) (s : Split) (o o' : Output) → on_split t n current next s o ≡ accepted o' → OfUnitsIn o → OfUnitsIn o'
  split_fine n current next s o o' e f = go (is_skipped s) (split_inv t n current s o o' next e).rest
    where
      go : (b : Bool) → cond b (accepted o) (on_kept t n current s o) ≡ accepted o' → OfUnitsIn o'
      go true q = subst OfUnitsIn (same_accepted q) f
      go false q =
          let k = (kept_inv t n current s o o' q).passed in
          subst OfUnitsIn k.is (given_fine n _ _ s (kept-listed n current s o o' q) o f k.room)

  -- THEOREM: each piece and each symbol of an accepted walk is of a unit that is listed, none lists a symbol twice, and there are no more than the table holds
  pub walk_of_units : (out : Output) → walk t ≡ accepted out → OfUnitsIn out
  unfolding walk Once
  walk_of_units out e =
      sections_keep t OfUnitsIn 0 t.sections.count (λ m a b s r current next o o' q f. split_fine m current next s o o' q f) nothing out e
      (record { pieces = none; symbols = none; once = tt; few = zero-le })

  -- THEOREM: none is longer than the highest end of a split
  pub pieces_small : (most : ℕ) → All (λ s. s.end ≤ most) t.splits → (out : Output) → walk t ≡ accepted out → All (λ p. p.size ≤ most) out.pieces
  pieces_small most ends out e = all_map (λ p q. small p q.1) (pieces_from t out e)
    where
      small : (p : Piece) → From t p → p.size ≤ most
      small p f = omega (arith, f.end, all_find f.split ends f.reached.listed)
