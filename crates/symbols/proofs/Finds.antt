-- What a question finds: a symbol of the table that lies in the range and is sized, or an alignment that some symbol of the table has, so that it is
-- good where theirs are. Assumes nothing.
use mathlib.Core.Path.{◌≡◌, refl, sym, ap, subst, ◌∙◌}
use mathlib.Core.List.{List}
use mathlib.Core.Bool.{Bool, true, false, not, ◌&&◌}
use mathlib.Core.Logic.{◌⊎◌, inl, inr}
use Prim.Native.Nat.{ℕ, ◌<◌, max}
use native.Mathlib.Omega.{arith}
use lib.Dec.{eqb, leb, ltb}
use borrow.Author.Tests.{leb-true, ltb-true, eqb-false, not-true}
use Rattle.lists.specs.Rows.{keep_if}
use Rattle.lists.specs.Outcome.{accepted}
use Rattle.lists.specs.Sort.{All, none, each}
use Rattle.lists.proofs.All.{all_keep, all_sort, all_map, all_both}
use Rattle.lists.proofs.Filter.{keep_passes}
use Rattle.lists.proofs.Outcomes.{same_accepted, then_inv}
use Rattle.lists.proofs.Rising.{numbers-below}
use Rattle.lists.proofs.Compare.{one_of_two}
use Rattle.align.specs.Align.{bad_align}
use Rattle.obj.specs.declared.Symbol.{Symbol}
use Rattle.symbol_order.specs.Order.{in_section, symbols_of}
use Rattle.std.specs.Prelude.{Option, Some, None}
use Rattle.std.proofs.lemmas.Option.{none-some}
use Rattle.std.proofs.lemmas.Bool.{and_parts}
use Rattle.symbols.specs.Ranges.{sized, stripped, sized_unstripped, last_or, highest_of, symbols_between, backwards, last_below, last_in, highest_in}
use Rattle.symbols.specs.Sound.{Sound, Inside}

-- ---- the last of a list

-- it is one of the list, if it is not the one to fall back on
last_is : {P : ℕ → Type 0} {l : List ℕ} (best : Option ℕ) (i : ℕ) → All P l → (best ≡ Some i → P i) → last_or best l ≡ Some i → P i
unfolding last_or
last_is best i none h e = h e
last_is {P} best i (each {x = j} p q) h e = last_is (Some j) i q (λ f. subst P (let z : j ≡ i = cc in z) p) e

no_last : {P : ℕ → Type 0} {l : List ℕ} (i : ℕ) → All P l → last_or None l ≡ Some i → P i
no_last i p e = last_is None i p (λ f. absurd (none-some i f)) e

-- ---- symbols of a section
module _ (symbol : ℕ → Symbol) (count n : ℕ) where
  -- they are symbols of the table
  pub symbols_there : All (λ i. i < count) (symbols_of symbol count n)
  unfolding symbols_of
  symbols_there = all_sort (λ i. (symbol i).address) (all_keep (λ i. in_section n (symbol i)) (numbers-below count))

  -- the last that is found below an address
  pub below-found : (objects : Bool) (address i : ℕ) → last_below symbol count n objects address ≡ Some i → i < count
  below-found objects address i e =
      no_last i (all_keep (λ k. sized_unstripped objects (symbol k)) (all_keep (λ k. ltb (symbol k).address address) symbols_there)) e

  module _ (start end : ℕ) where
    abbrev between : ℕ → Bool
    between i = leb start (symbol i).address && ltb (symbol i).address end

    -- the symbols in start..end that pass a test
    kept-between : (p : ℕ → Bool) → All (λ i. (p i ≡ true) × ((i < count) × (between i ≡ true))) (keep_if p (symbols_between symbol count n start end))
    kept-between p = all_both (keep_passes p _) (all_keep p (all_both (all_keep between symbols_there) (keep_passes between _)))

    -- the last that is found in start..end
    pub in_found : (i : ℕ) → last_in symbol count n start end ≡ accepted (Some i) → Inside symbol count start end i
    unfolding last_in
    in_found i e =
        let q = (then_inv 11 n start (backwards symbol count n start end) _ _ e).1 in
        let p = no_last i (kept-between (λ k. sized_unstripped false (symbol k))) (same_accepted q) in
        let range = and_parts _ _ p.1.1 in
        let size = and_parts (eqb (symbol i).size_known 1) (not (eqb (symbol i).size 0)) (and_parts (sized (symbol i)) (not (stripped (symbol i))) p.0).0 in
        record {
          there = p.1.0;
          low = leb-true _ _ range.0;
          high = ltb-true _ _ range.1;
          sized = let z = eqb-false (symbol i).size 0 (not-true _ size.1) in omega arith;
        }

    highest_good : {l : List ℕ} → All (λ i. bad_align (symbol i).alignment ≡ false) l → bad_align (highest_of symbol l) ≡ false
    unfolding highest_of bad_align
    highest_good none = refl
    highest_good (each {x = i} {l} p q) = go (one_of_two (symbol i).alignment (highest_of symbol l)) (highest_good q)
      where
        go : (max (symbol i).alignment (highest_of symbol l) ≡ (symbol i).alignment) ⊎ (max (symbol i).alignment (highest_of symbol l) ≡ highest_of symbol l)
            → bad_align (highest_of symbol l) ≡ false → bad_align (max (symbol i).alignment (highest_of symbol l)) ≡ false
        go (inl e) h = ap bad_align e ∙ p
        go (inr e) h = ap bad_align e ∙ h

    -- the highest alignment in start..end is none, or a symbol's
    pub in_highest : Sound symbol count → (h : ℕ) → highest_in symbol count n start end ≡ accepted h → bad_align h ≡ false
    unfolding highest_in
    in_highest sound h e =
        let q = same_accepted (then_inv 11 n start (backwards symbol count n start end) _ _ e).1 in
        ap bad_align (sym q) ∙ highest_good (all_map (λ i p. sound.aligned i p.1.0) (kept-between (λ k. sized (symbol k))))
