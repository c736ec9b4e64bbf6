-- The parts of the symbol order, told by section and address: between two keys of one section lie those of the section's symbols whose
-- addresses pass the range's test. Assumes nothing.
use mathlib.Core.Path.{◌≡◌, refl, sym, ap, subst, ◌∙◌}
use mathlib.Core.List.{List}
use mathlib.Core.Bool.{Bool, true, not, ◌&&◌}
use Prim.Native.Nat.{ℕ, suc, ◌+◌, ◌≤◌, ◌<◌, zero-le}
use native.Mathlib.Omega.{arith}
use lib.Dec.{leb, ltb, eqb}
use lib.ListN.{length, get_or}
use borrow.Author.Tests.{le-leb, lt-ltb}
use Rattle.lists.specs.Rows.{keep_if, first_in}
use Rattle.lists.specs.Sort.{All, between, at_least}
use Rattle.lists.proofs.Compare.{same_leb}
use Rattle.lists.proofs.All.{all_any, all_keep, all_sort}
use Rattle.lists.proofs.Filter.{keep_all, keep_some}
use Rattle.lists.proofs.Sort.{length_sort}
use Rattle.lists.proofs.Rising.{numbers-below}
use Rattle.lists.proofs.Between.{place_above, place-below}
use Rattle.obj.specs.declared.Symbol.{Symbol}
use Rattle.symbol_order.specs.Order.{symbol_of, key, key_at, numbers, in_section, symbols_of, Readable, Order}
use Rattle.symbol_order.proofs.Parts.{order_sorted, readable_keep}
use Rattle.symbol_order.proofs.Sections.{section_part, small_address}
use Rattle.symbols.specs.Ranges.{symbols_between, symbols_through, symbols_below, has_symbols}

module _ (b places order : List ℕ) (o : Order b places order) where
  module _ (bytes : (j : ℕ) → get_or b j 0 < 256) (n : ℕ) where
    abbrev symbol : ℕ → Symbol
    symbol = symbol_of b places

    abbrev part : ℕ → ℕ → List ℕ
    part low high = keep_if (between (key_at b places) low high) order

    pub whole_section : (low : ℕ) → low ≡ key n 0 → part low (low + 4294967296) ≡ symbols_of symbol (length places) n
    whole_section low e =
        rw e (ap (part (key n 0)) (let z : key n 0 + 4294967296 ≡ key n 4294967296 = omega arith in z)
        ∙ section_part b places order o bytes n 0 4294967296 (omega arith) (omega arith) (λ y. true)
        (λ i h. let z : 0 ≤ (symbol i).address = zero-le in rw (le-leb _ _ z, lt-ltb _ _ h))
        ∙ keep_all (λ i. true) (symbols_of symbol (length places) n) (all_any (λ i. refl) (symbols_of symbol (length places) n)))

    -- a place whose symbol has an earlier section stands before the section's first, any other not
    module _ (j : ℕ) (y : Symbol) (h : j < length order) (e : y ≡ symbol (get_or order j 0)) where
      pub section_later : y.section < n → j < first_in (at_least (key_at b places) (key n 0)) order
      section_later q =
          let i = get_or order j 0 in
          let r : (symbol i).section < n = rw (sym e) q in
          place_above (key_at b places) (key n 0) order j 0 (order_sorted b places order o) h (omega (arith, r, small_address b places bytes i))

      pub section_begun : n ≤ y.section → first_in (at_least (key_at b places) (key n 0)) order ≤ j
      section_begun q =
          let i = get_or order j 0 in
          let r : n ≤ (symbol i).section = rw (sym e) q in
          place-below (key_at b places) (key n 0) order j 0 h (omega (arith, r))

    module _ (low high end : ℕ) (small : end < 4294967296) (eh : high ≡ key n end) where
      pub below-part : low ≡ key n 0 → part low high ≡ symbols_below symbol (length places) n end
      below-part el =
          rw (el, eh) (section_part b places order o bytes n 0 end (omega arith) (omega arith) (λ y. ltb y.address end)
          (λ i h. let z : 0 ≤ (symbol i).address = zero-le in rw (le-leb _ _ z)))

      module _ (start : ℕ) (fits : start < 4294967296) (el : low ≡ key n start) where
        pub between-part : part low high ≡ symbols_between symbol (length places) n start end
        between-part =
            rw (el, eh) (section_part b places order o bytes n start end (omega arith) (omega arith)
            (λ y. leb start y.address && ltb y.address end) (λ i h. refl))

        pub through_part : part low (high + 1) ≡ symbols_through symbol (length places) n start end
        through_part =
            rw (el, eh) (ap (part (key n start)) (let z : key n end + 1 ≡ key n (end + 1) = omega arith in z)
            ∙ section_part b places order o bytes n start (end + 1) (omega arith) (omega arith)
            (λ y. leb start y.address && leb y.address end)
            (λ i h. ap (λ (t : Bool). leb start (symbol i).address && t) (same_leb (suc (symbol i).address) (end + 1) (symbol i).address end (λ q. omega arith) (λ q. omega arith))))

-- a section's symbols can be read, and so can what is kept of them
module _ (b places order : List ℕ) (o : Order b places order) (n : ℕ) {part : List ℕ} where
  pub section_readable : part ≡ symbols_of (symbol_of b places) (length places) n → Readable b places part
  unfolding symbols_of
  section_readable e = record {
    whole = o.whole;
    inside =
        subst (λ (l : List ℕ). All (λ i. i < length places) l) (sym e)
        (all_sort (λ i. (symbol_of b places i).address) (all_keep (λ i. in_section n (symbol_of b places i)) (numbers-below (length places))));
  }

pub part_readable : (b places order : List ℕ) → Order b places order → (n : ℕ) {part : List ℕ} (p : ℕ → Bool)
    → part ≡ keep_if p (symbols_of (symbol_of b places) (length places) n) → Readable b places part
part_readable b places order o n {part} p e = readable_keep b places _ part (section_readable b places order o n refl) p e

-- a section has a symbol exactly if its list of symbols has one
pub has_some : (symbol : ℕ → Symbol) (count n : ℕ) → not (eqb (length (symbols_of symbol count n)) 0) ≡ has_symbols symbol count n
unfolding has_symbols symbols_of
has_some symbol count n =
    ap (λ (m : ℕ). not (eqb m 0)) (length_sort (λ i. (symbol i).address) (keep_if (λ i. in_section n (symbol i)) (numbers count)))
    ∙ keep_some (λ i. in_section n (symbol i)) (numbers count)
