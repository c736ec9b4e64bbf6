-- The figures: what the loops over the pieces and over the piece symbols add up is the unit's figure, and the figures together are the sizes of all pieces and of all
-- common symbols, where each is a unit's of the listing. Of every accepted run it is (T8, crate run_totals, which uses `total_is_all`). All laws on sums are over
-- any records that have a unit and add something. Assumes nothing.
use mathlib.Core.Path.{◌≡◌, refl, sym, ap, ap₂, subst, ◌∙◌}
use mathlib.Core.List.{List, [], ◌∷◌}
use mathlib.Core.Bool.{Bool, true, false, cond}
use Prim.Native.Nat.{ℕ, zero, suc, ◌+◌, ◌*◌, ◌≤◌, ◌<◌}
use native.Mathlib.Nat.{zero-add, add-zero}
use native.Mathlib.Numerals.{add-one}
use native.Mathlib.Omega.{arith}
use borrow.Author.Tests.{eqb-true, eqb-false, eq-eqb, ne_eqb}
use lib.Dec.{eqb}
use lib.ListN.{length, get_or, drop}
use Rattle.lists.specs.Rows.{tabulate, keep_if}
use Rattle.lists.specs.Sort.{All, none, each}
use Rattle.lists.proofs.Rows.{length-tabulate, get_d_tabulate}
use Rattle.obj.specs.declared.Symbol.{Symbol}
use Rattle.pieces.specs.declared.Piece.{Piece}
use Rattle.pieces.specs.declared.PieceSymbol.{PieceSymbol}
use Rattle.listing.specs.Listing.{Run, sum_by, sizes, pieces_of, symbols_of, common_size, commons, figures}
use Rattle.listing.specs.Tables.{Adds, Summed, Figure}
use Rattle.listing.proofs.First.{keep_first, keep_later, keep_none}

-- records of type A, the unit of each, and what each adds
module _ {A : Type 0} (of adds : A → ℕ) where
  -- those of the unit
  abbrev of_unit : (unit : ℕ) → List A → List A
  of_unit unit l = keep_if (λ (x : A). eqb (of x) unit) l

  -- ---- the loop

  -- a record of the unit adds what it adds, another nothing
  sum_step : (unit : ℕ) (l : List A) (k : ℕ) (d : A) → k < length l
      → sum_by adds (of_unit unit (drop k l)) ≡ cond (eqb (of (get_or l k d)) unit) (adds (get_or l k d)) 0 + sum_by adds (of_unit unit (drop (suc k) l))
  unfolding sum_by
  sum_step unit l k d h = go (eqb (of (get_or l k d)) unit) refl
    where
      go : (t : Bool) → eqb (of (get_or l k d)) unit ≡ t → sum_by adds (of_unit unit (drop k l)) ≡ cond t (adds (get_or l k d)) 0 + sum_by adds (of_unit unit (drop (suc k) l))
      go true e = ap (sum_by adds) (keep_first (λ (x : A). eqb (of x) unit) l k d h e)
      go false e = ap (sum_by adds) (keep_later (λ (x : A). eqb (of x) unit) l k d h e) ∙ sym (zero-add (sum_by adds (of_unit unit (drop (suc k) l))))

  -- what is summed so far and what is left are the sum
  pub record Sum (l : List A) (unit k sum : ℕ) : Type 0 where
    pub is : sum + sum_by adds (of_unit unit (drop k l)) ≡ sum_by adds (of_unit unit l)
    pub few : sum ≤ k * 4294967295

  pub sum_first : (l : List A) (unit : ℕ) → Sum l unit 0 0
  sum_first l unit = record { is = zero-add (sum_by adds (of_unit unit l)); few = omega arith }

  module _ (f : ℕ → A) (count unit : ℕ) where
    pub sum_turn : {k sum r : ℕ} → Sum (tabulate f 0 count) unit k sum → k < count → Adds unit (of (f k)) (adds (f k)) r → Sum (tabulate f 0 count) unit (k + 1) (sum + r)
    sum_turn {k} {sum} {r} s h z = record {
      is = rw (add-one) (let e = turn in let u = s.is in let v = z.is in omega arith);
      few = let u = s.few in let v = z.small in omega arith;
    }
      where
        there' : get_or (tabulate f 0 count) k (f k) ≡ f k
        there' = get_d_tabulate f 0 count k (f k) h ∙ ap f (zero-add k)

        turn : sum_by adds (of_unit unit (drop k (tabulate f 0 count))) ≡ cond (eqb (of (f k)) unit) (adds (f k)) 0 + sum_by adds (of_unit unit (drop (suc k) (tabulate f 0 count)))
        turn =
            sum_step unit (tabulate f 0 count) k (f k) (rw (length-tabulate f 0 count) h)
            ∙ ap (λ (x : A). cond (eqb (of x) unit) (adds x) 0 + sum_by adds (of_unit unit (drop (suc k) (tabulate f 0 count)))) there'

    pub sum_end : {k sum : ℕ} → Sum (tabulate f 0 count) unit k sum → count ≤ k → k ≤ count → Summed count (sum_by adds (of_unit unit (tabulate f 0 count))) sum
    unfolding sum_by
    sum_end {k} {sum} s h low = record {
      is =
          sym (add-zero sum)
          ∙ ap (λ (l : List A). sum + sum_by adds l) (sym (keep_none (λ (x : A). eqb (of x) unit) (tabulate f 0 count) k (rw (length-tabulate f 0 count) h)))
          ∙ s.is;
      few = let u = s.few in omega arith;
    }

  -- ---- the sums of all units together

  -- the sums of so many units from this one on
  unfoldable spread : List A → (unit count : ℕ) → ℕ
  spread l unit zero = 0
  spread l unit (suc count) = sum_by adds (of_unit unit l) + spread l (suc unit) count

  spread_none : (unit count : ℕ) → spread [] unit count ≡ 0
  unfolding spread sum_by keep_if
  spread_none unit zero = refl
  spread_none unit (suc count) = ap (λ (k : ℕ). 0 + k) (spread_none (suc unit) count)

  above : (a b : ℕ) → b ≤ a → (a ≡ b → ⊥) → suc b ≤ a
  above a b h q = omega (arith, q)

  module _ (x : A) (l : List A) where
    mine : (unit : ℕ) → of x ≡ unit → sum_by adds (of_unit unit (x ∷ l)) ≡ adds x + sum_by adds (of_unit unit l)
    unfolding sum_by keep_if
    mine unit e = rw (eq-eqb (of x) unit e)

    other : (unit : ℕ) → (of x ≡ unit → ⊥) → sum_by adds (of_unit unit (x ∷ l)) ≡ sum_by adds (of_unit unit l)
    unfolding sum_by keep_if
    other unit e = rw (ne_eqb (of x) unit e)

    -- a record of an earlier unit adds nothing
    spread_later : (unit count : ℕ) → of x < unit → spread (x ∷ l) unit count ≡ spread l unit count
    unfolding spread
    spread_later unit zero h = refl
    spread_later unit (suc count) h =
        ap₂ (λ (a b : ℕ). a + b) (other unit (λ e. omega arith)) (spread_later (suc unit) count (omega arith))

    -- a record of one of the units adds what it adds once
    spread_once : (unit count : ℕ) → unit ≤ of x → of x < unit + count → spread (x ∷ l) unit count ≡ adds x + spread l unit count
    unfolding spread
    spread_once unit zero low high = absurd (omega arith)
    spread_once unit (suc count) low high = go (eqb (of x) unit) refl (λ h. spread_once (suc unit) count h (omega arith))
      where
        go : (t : Bool) → eqb (of x) unit ≡ t → (suc unit ≤ of x → spread (x ∷ l) (suc unit) count ≡ adds x + spread l (suc unit) count)
            → spread (x ∷ l) unit (suc count) ≡ adds x + spread l unit (suc count)
        go true e ih =
            let a = mine unit (eqb-true (of x) unit e) in
            let b = spread_later (suc unit) count (let q = eqb-true (of x) unit e in omega arith) in
            omega arith
        go false e ih =
            let a = other unit (eqb-false (of x) unit e) in
            let b = ih (above (of x) unit low (eqb-false (of x) unit e)) in
            omega arith

  spread_all : (count : ℕ) (l : List A) → All (λ (x : A). of x < count) l → spread l 0 count ≡ sum_by adds l
  unfolding sum_by
  spread_all count [] none = spread_none 0 count
  spread_all count (x ∷ l) (each h a) = spread_once x l 0 count (omega arith) (omega arith) ∙ ap (λ (k : ℕ). adds x + k) (spread_all count l a)

-- ---- what a piece symbol adds, read of the tables

module _ (symbol : ℕ → Symbol) (unit : ℕ) {y : PieceSymbol} (read : PieceSymbol) (e : y ≡ read) where
  -- another unit's
  pub adds_none : (y.unit ≡ unit → ⊥) → Adds unit read.unit (common_size symbol read) 0
  adds_none h = subst (λ (r : PieceSymbol). Adds unit r.unit (common_size symbol r) 0) e (record { is = rw (ne_eqb y.unit unit h); small = omega arith })

  module _ (same : y.unit ≡ unit) where
    mine_adds : {r : ℕ} → r ≡ common_size symbol y → r ≤ 4294967295 → Adds unit read.unit (common_size symbol read) r
    mine_adds {r} q h = subst (λ (x : PieceSymbol). Adds unit x.unit (common_size symbol x) r) e (record { is = rw (eq-eqb y.unit unit same) q; small = h })

    -- in a piece
    pub adds_placed : (y.piece ≡ 65535 → ⊥) → Adds unit read.unit (common_size symbol read) 0
    adds_placed h = mine_adds (rw (ne_eqb y.piece 65535 h)) (omega arith)

    module _ {s : Symbol} (common : y.piece ≡ 65535) (i : s ≡ symbol y.symbol) where
      common_adds : {r : ℕ} → r ≡ cond (eqb s.size_known 1) s.size 0 → r ≤ 4294967295 → Adds unit read.unit (common_size symbol read) r
      common_adds {r} q h = mine_adds (rw (eq-eqb y.piece 65535 common) (subst (λ (x : Symbol). r ≡ cond (eqb x.size_known 1) x.size 0) i q)) h

      -- of known size
      pub adds_known : s.size_known ≡ 1 → s.size ≤ 4294967295 → Adds unit read.unit (common_size symbol read) s.size
      adds_known h f = common_adds (rw (eq-eqb s.size_known 1 h)) f

      -- of unknown size
      pub adds_unknown : (s.size_known ≡ 1 → ⊥) → Adds unit read.unit (common_size symbol read) 0
      adds_unknown h = common_adds (rw (ne_eqb s.size_known 1 h)) (omega arith)

-- ---- the figure

pub figure_is : {symbol : ℕ → Symbol} {pieces : List Piece} {symbols : List PieceSymbol} {unit many more a b : ℕ}
    → Summed many (sizes (pieces_of unit pieces)) a → Summed more (commons symbol (symbols_of unit symbols)) b → many ≤ 1024 → more ≤ 4096
    → Figure symbol pieces symbols unit (a + b)
figure_is p q h k = record {
  is = ap₂ (λ (x y : ℕ). x + y) p.is q.is;
  few = let u = p.few in let v = q.few in omega arith;
}

-- ---- all figures together

module _ (t : Run) where
  figures_spread : (unit : ℕ) (names : List ℕ)
      → figures t unit names
      ≡ spread (λ (p : Piece). p.unit) (λ (p : Piece). p.size) t.pieces unit (length names)
      + spread (λ (y : PieceSymbol). y.unit) (common_size t.symbol) t.symbols unit (length names)
  unfolding figures spread
  figures_spread unit [] = refl
  figures_spread unit (name ∷ names) = let e = figures_spread (suc unit) names in omega arith

  -- where the unit of each piece and of each symbol is one of the listing's, the total is the sum of all pieces' sizes and of all common symbols of known size
  pub total_is_all : All (λ (p : Piece). p.unit < length t.units) t.pieces → All (λ (y : PieceSymbol). y.unit < length t.units) t.symbols
      → figures t 0 t.units ≡ sizes t.pieces + commons t.symbol t.symbols
  total_is_all a b =
      figures_spread 0 t.units
      ∙ ap₂ (λ (x y : ℕ). x + y) (spread_all (λ (p : Piece). p.unit) (λ (p : Piece). p.size) (length t.units) t.pieces a)
      (spread_all (λ (y : PieceSymbol). y.unit) (common_size t.symbol) (length t.units) t.symbols b)
