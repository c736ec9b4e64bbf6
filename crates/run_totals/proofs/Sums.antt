-- Sums over a table, place by place, are the listing's own: of all rows, of those that pass a test, and of the figures of all units. Assumes nothing.
use Prim.Native.Nat.{ℕ, zero, suc, ◌+◌, ◌*◌, ◌≤◌, ◌<◌}
use mathlib.Core.Path.{◌≡◌, refl, sym, ap, ap₂, ◌∙◌}
use mathlib.Core.List.{List, [], ◌∷◌, ◌++◌}
use mathlib.Core.Bool.{Bool, true, false, cond}
use native.Mathlib.Nat.{zero-add}
use native.Mathlib.Omega.{arith}
use lib.Dec.{eqb}
use lib.ListN.{length, length-map}
use Rattle.lists.specs.Rows.{tabulate, keep_if}
use Rattle.lists.specs.Sort.{All, none, each}
use Rattle.obj.specs.Records as records
use Rattle.obj.specs.Records.{unit_at}
use Rattle.pieces.specs.declared.Piece.{Piece}
use Rattle.pieces.specs.declared.PieceSymbol.{PieceSymbol}
use Rattle.pieces.specs.Pieces.{piece_at, symbol_at, pieces_in, symbols_in, piece_width}
use Rattle.pieces.proofs.Laws.{length-pieces_in}
use Rattle.lines.specs.Lines.{total_line}
use Rattle.listing.specs.Listing.{Run, sum_by, common_size, figure, figures, units_lines, listing}
use Rattle.listing.specs.Tables.{Tables, run_of}
use Rattle.listing.proofs.Sums.{total_is_all}
use Rattle.run_totals.specs.Totals.{sum, Once, total_of, Totals, figure_in, total_in, Read}

-- ---- the sum of a table's rows

sum_same : (f g : ℕ → ℕ) → ((k : ℕ) → f k ≡ g k) → (from count : ℕ) → sum f from count ≡ sum g from count
unfolding sum
sum_same f g e from zero = refl
sum_same f g e from (suc count) = ap₂ (λ (a b : ℕ). a + b) (e from) (sum_same f g e (suc from) count)

module _ {A : Type 0} (adds : A → ℕ) where
  -- all rows
  all_sum : (f : ℕ → A) (from count : ℕ) → sum_by adds (tabulate f from count) ≡ sum (λ k. adds (f k)) from count
  unfolding sum_by tabulate sum
  all_sum f from zero = refl
  all_sum f from (suc count) = ap (λ (m : ℕ). adds (f from) + m) (all_sum f (suc from) count)

  -- those that pass
  kept-sum : (test : A → Bool) (f : ℕ → A) (from count : ℕ)
      → sum_by adds (keep_if test (tabulate f from count)) ≡ sum (λ k. cond (test (f k)) (adds (f k)) 0) from count
  unfolding sum_by tabulate keep_if sum
  kept-sum test f from zero = refl
  kept-sum test f from (suc count) = go (test (f from)) (kept-sum test f (suc from) count)
    where
      rest : List A
      rest = keep_if test (tabulate f (suc from) count)

      go : (b : Bool) → sum_by adds rest ≡ sum (λ k. cond (test (f k)) (adds (f k)) 0) (suc from) count
          → sum_by adds (cond b (f from ∷ rest) rest) ≡ cond b (adds (f from)) 0 + sum (λ k. cond (test (f k)) (adds (f k)) 0) (suc from) count
      go true e = ap (λ (m : ℕ). adds (f from) + m) e
      go false e = e ∙ sym (zero-add (sum (λ k. cond (test (f k)) (adds (f k)) 0) (suc from) count))

  sum-most : {l : List A} → All (λ x. adds x ≤ 4026531840) l → sum_by adds l ≤ length l * 4026531840
  unfolding sum_by
  sum-most none = omega arith
  sum-most (each h q) = omega (arith, sum-most q)

-- ---- figures

figures-sum : (t : Run) (unit : ℕ) (names : List ℕ) → figures t unit names ≡ sum (figure t) unit (length names)
unfolding figures sum
figures-sum t unit [] = refl
figures-sum t unit (name ∷ names) = ap (λ (m : ℕ). figure t unit + m) (figures-sum t (suc unit) names)

-- what the totals rest on
pub record Summable (t : Run) : Type 0 where
  pub units : All (λ p. p.unit < length t.units) t.pieces
  pub symbol_units : All (λ y. y.unit < length t.units) t.symbols
  pub once : Once t.symbols
  pub small : All (λ p. p.size ≤ 4026531840) t.pieces
  pub symbols_small : All (λ y. common_size t.symbol y ≤ 4026531840) t.symbols
  pub few : length t.pieces ≤ 1024
  pub symbols_few : length t.symbols ≤ 4096

-- THEOREM: where each piece and each symbol is of a listed unit and has 32 bits, and there are at most 1,024 and 4,096, the totals are right
pub totals_of : (t : Run) → Summable t → Totals t
unfolding listing
totals_of t q = record {
  units = q.units;
  symbol_units = q.symbol_units;
  once = q.once;
  line = ap (λ (m : ℕ). units_lines t 0 t.units ++ total_line (length t.units) (length t.pieces) m) (total_is_all t q.units q.symbol_units);
  figures = sym (total_is_all t q.units q.symbol_units) ∙ figures-sum t 0 t.units;
  fits = omega (arith, sum-most (λ (p : Piece). p.size) q.small, sum-most (common_size t.symbol) q.symbols_small, q.few, q.symbols_few);
}

-- THEOREM: the totals of tables, told from their bytes
pub read_of : (t : Tables) → Totals (run_of t) → Read t
unfolding pieces_in piece_at symbols_in symbol_at records.symbol_at
read_of t q = record {
  figure = figure_is;
  line =
      q.line
      ∙ ap (λ (m : ℕ). units_lines (run_of t) 0 (run_of t).units ++ total_line m (length (run_of t).pieces) (total_of (run_of t))) units_are
      ∙ ap₂ (λ (m k : ℕ). units_lines (run_of t) 0 (run_of t).units ++ total_line (length t.units.places) m k) (length-pieces_in t.pieces.bytes t.pieces.count) total_is;
  figures =
      sym total_is ∙ q.figures ∙ ap (sum (figure (run_of t)) 0) units_are ∙ sum_same (figure (run_of t)) (figure_in t) figure_is 0 (length t.units.places);
  fits = let f = q.fits in let e = total_is in omega arith;
}
  where
    row : ℕ → Piece
    row k = piece_at t.pieces.bytes (piece_width * k)

    entry : ℕ → PieceSymbol
    entry k = symbol_at t.piece_symbols.bytes (12 * k)

    units_are : length (run_of t).units ≡ length t.units.places
    units_are = length-map t.units.places (λ (at : ℕ). (unit_at t.units.bytes at).name)

    total_is : total_of (run_of t) ≡ total_in t
    total_is =
        ap₂ (λ (a b : ℕ). a + b) (all_sum (λ (p : Piece). p.size) row 0 t.pieces.count) (all_sum (common_size (run_of t).symbol) entry 0 t.piece_symbols.count)

    figure_is : (unit : ℕ) → figure (run_of t) unit ≡ figure_in t unit
    figure_is unit =
        ap₂ (λ (a b : ℕ). a + b) (kept-sum (λ (p : Piece). p.size) (λ p. eqb p.unit unit) row 0 t.pieces.count)
        (kept-sum (common_size (run_of t).symbol) (λ y. eqb y.unit unit) entry 0 t.piece_symbols.count)
