-- Two symbol tables that agree on each symbol that is there: the symbol order, a section's symbols and every question asked of a range of them agree, since
-- each such list has only numbers below the count. Assumes nothing.
use mathlib.Core.Path.{◌≡◌, refl, ap, ap₂, ◌∙◌}
use mathlib.Core.List.{List}
use mathlib.Core.Bool.{Bool, false, ◌&&◌}
use Prim.Native.Nat.{ℕ, ◌<◌, max}
use lib.Dec.{leb, ltb}
use Rattle.lists.specs.Outcome.{accepted, refuse, ◌>>◌}
use Rattle.lists.specs.Rows.{keep_if}
use Rattle.lists.specs.Sort.{All, none, each}
use Rattle.lists.proofs.All.{all_keep}
use Rattle.lists.proofs.Rising.{numbers-below}
use Rattle.obj.specs.declared.Symbol.{Symbol}
use Rattle.symbol_order.specs.Order.{has_section, in_section, key_of, symbols_of, order_of}
use Rattle.symbols.specs.Ranges.{sized, sized_unstripped, last_or, highest_of, symbols_between, symbols_through, has_symbols, last_below, last_in, highest_in}
use Rattle.symbols.proofs.Finds.{symbols_there}
use Rattle.std.specs.Prelude.{None}
use Rattle.stages_alike.proofs.Lists.{kept_alike, some_alike, sorted_alike, kept-twice}

module _ (y z : ℕ → Symbol) (count : ℕ) (same : (i : ℕ) → i < count → y i ≡ z i) where
  -- ---- the order

  -- a section's symbols, by address
  pub symbols_alike : (n : ℕ) → symbols_of y count n ≡ symbols_of z count n
  unfolding symbols_of
  symbols_alike n = sorted_alike y z count same (λ s. s.address) (in_section n) (numbers-below count)

  -- THEOREM: one symbol order
  pub order_alike : order_of y count ≡ order_of z count
  unfolding order_of
  order_alike = sorted_alike y z count same key_of has_section (numbers-below count)

  -- ---- the questions, of the symbols of section n
  module _ (n : ℕ) where
    -- its symbols that pass a test
    passing_alike : (p : Symbol → Bool) → keep_if (λ i. p (y i)) (symbols_of y count n) ≡ keep_if (λ i. p (z i)) (symbols_of z count n)
    passing_alike p = kept_alike y z count same p (symbols_there y count n) ∙ ap (keep_if (λ i. p (z i))) (symbols_alike n)

    -- .. and a second one
    twice_alike : (p q : Symbol → Bool)
        → keep_if (λ i. p (y i)) (keep_if (λ i. q (y i)) (symbols_of y count n)) ≡ keep_if (λ i. p (z i)) (keep_if (λ i. q (z i)) (symbols_of z count n))
    twice_alike p q = kept-twice y z count same p q (symbols_there y count n) (symbols_alike n)

    -- "a section that has such records"
    pub has_alike : has_symbols y count n ≡ has_symbols z count n
    unfolding has_symbols
    has_alike = some_alike y z count same (in_section n) (numbers-below count)

    -- "the last sized unstripped symbol below"
    pub last_below_alike : (objects : Bool) (address : ℕ) → last_below y count n objects address ≡ last_below z count n objects address
    last_below_alike objects address = ap (last_or None) (twice_alike (sized_unstripped objects) (λ s. ltb s.address address))

    module _ (start end : ℕ) where
      -- in start..end
      abbrev between : Symbol → Bool
      between s = leb start s.address && ltb s.address end

      -- in start..=end
      abbrev through : Symbol → Bool
      through s = leb start s.address && leb s.address end

      pub between_alike : symbols_between y count n start end ≡ symbols_between z count n start end
      between_alike = passing_alike between

      pub through_alike : symbols_through y count n start end ≡ symbols_through z count n start end
      through_alike = passing_alike through

      -- a range asked backwards, and what it gives else
      range_alike : {A : Type 0} {a b : A} → a ≡ b
          → (refuse 11 n start (ltb end start && has_symbols y count n) >> accepted a) ≡ (refuse 11 n start (ltb end start && has_symbols z count n) >> accepted b)
      range_alike e = λ i. refuse 11 n start (ltb end start && has_alike i) >> accepted (e i)

      -- the questions: the last such symbol, the highest alignment
      pub last_alike : last_in y count n start end ≡ last_in z count n start end
      unfolding last_in
      last_alike = range_alike (ap (last_or None) (twice_alike (sized_unstripped false) between))

      highest_of_lem : {l : List ℕ} → All (λ i. i < count) l → highest_of y l ≡ highest_of z l
      unfolding highest_of
      highest_of_lem none = refl
      highest_of_lem (each {x = i} h all) = ap₂ (λ (s : Symbol) (most : ℕ). max s.alignment most) (same i h) (highest_of_lem all)

      pub highest_alike : highest_in y count n start end ≡ highest_in z count n start end
      unfolding highest_in
      highest_alike =
          range_alike
          (highest_of_lem (all_keep (λ i. sized (y i)) (all_keep (λ i. between (y i)) (symbols_there y count n))) ∙ ap (highest_of z) (twice_alike sized between))
