-- The questions asked of a section's symbols: `for_section_range` of obj/symbols.rs, and what document 01 asks of such a range, the last
-- symbol, the first, the highest alignment. Each speaks of the symbols themselves, `symbols_of`, which stand by address, then number.
-- A range with two ends may be asked backwards: "11 start above end, asked of a section that has such records". A range without a start
-- has no such fault, and a range whose start is its end is empty and none either. "Such records" are symbols of any kind (DECISIONS.md, 23).
-- An answer that may be 11 has the error `Backwards`; `highest_meaning` and `found_meaning` give document 01's number, section and address for it.
use Rattle.std.specs.Prelude.{ℕ, ◌/◌, ◌%◌, ◌≤◌, max, ◌≡◌, List, [], ◌∷◌, Bool, false, cond, not, ◌&&◌, ◌||◌, eqb, leb, ltb, Option, Some, None, Result, Ok, Err}
use Rattle.lists.specs.Rows.{keep_if, some}
use Rattle.lists.specs.Outcome.{Outcome, accepted, refused, refuse, ◌>>◌}
use Rattle.obj.specs.declared.Symbol.{Symbol}
use Rattle.symbol_order.specs.Order.{in_section, numbers, symbols_of}
use Rattle.symbols.specs.declared.Backwards.{Backwards}

-- ---- tests of a symbol

-- "of known nonzero size ("sized")"
abbrev pub sized : Symbol → Bool
sized y = eqb y.size_known 1 && not (eqb y.size 0)

-- "flags 2 (bit 0 Local, 1 Common, 2 Stripped"
abbrev pub stripped : Symbol → Bool
stripped y = eqb (y.flags / 4 % 2) 1

-- "sized unstripped"; an Object ("kind 1 (0 unknown, 1 function, 2 object") too, where only these are asked for
abbrev pub sized_unstripped : (objects : Bool) → Symbol → Bool
sized_unstripped objects y = (not objects || eqb y.kind 2) && (sized y && not (stripped y))

-- ---- lists of symbol numbers

-- the last, or `best` if there is none
unfoldable pub last_or : Option ℕ → List ℕ → Option ℕ
last_or best [] = best
last_or best (i ∷ l) = last_or (Some i) l

-- the highest alignment; 0, "none", if there is no symbol
unfoldable pub highest_of : (ℕ → Symbol) → List ℕ → ℕ
highest_of symbol [] = 0
highest_of symbol (i ∷ l) = max (symbol i).alignment (highest_of symbol l)

-- ---- the questions, of the symbols of section n
module _ (symbol : ℕ → Symbol) (count n : ℕ) where
  -- start..end
  abbrev pub symbols_between : (start end : ℕ) → List ℕ
  symbols_between start end = keep_if (λ i. leb start (symbol i).address && ltb (symbol i).address end) (symbols_of symbol count n)

  -- start..=end
  abbrev pub symbols_through : (start end : ℕ) → List ℕ
  symbols_through start end = keep_if (λ i. leb start (symbol i).address && leb (symbol i).address end) (symbols_of symbol count n)

  -- ..end
  abbrev pub symbols_below : (end : ℕ) → List ℕ
  symbols_below end = keep_if (λ i. ltb (symbol i).address end) (symbols_of symbol count n)

  -- "a section that has such records"
  unfoldable pub has_symbols : Bool
  has_symbols = some (λ i. in_section n (symbol i)) (numbers count)

  -- "start above end, asked of a section that has such records"
  abbrev pub backwards : (start end : ℕ) → Bool
  backwards start end = ltb end start && has_symbols

  -- .. its number and its place, "(section, range's start)"
  abbrev pub range_refusal : (start end : ℕ) → Outcome (Unit {0})
  range_refusal start end = refuse 11 n start (backwards start end)

  -- "the last sized unstripped symbol below" an address; its Objects only, for the splitting end
  abbrev pub last_below : (objects : Bool) → (address : ℕ) → Option ℕ
  last_below objects address = last_or None (keep_if (λ i. sized_unstripped objects (symbol i)) (symbols_below address))

  -- "the last such symbol in start..end"
  unfoldable pub last_in : (start end : ℕ) → Outcome (Option ℕ)
  last_in start end = do
    range_refusal start end
    accepted (last_or None (keep_if (λ i. sized_unstripped false (symbol i)) (symbols_between start end)))

  -- "the highest alignment of sized symbols in start..end, stripped ones included"
  unfoldable pub highest_in : (start end : ℕ) → Outcome ℕ
  highest_in start end = do
    range_refusal start end
    accepted (highest_of symbol (keep_if (λ i. sized (symbol i)) (symbols_between start end)))

-- ---- what the answers mean, to a range asked of section n from `start` on

abbrev pub found_meaning : (n start : ℕ) → Result (Option ℕ) Backwards → Outcome (Option ℕ)
found_meaning n start (Ok found) = accepted found
found_meaning n start (Err e) = refused 11 n start

abbrev pub highest_meaning : (n start : ℕ) → Result ℕ Backwards → Outcome ℕ
highest_meaning n start (Ok alignment) = accepted alignment
highest_meaning n start (Err e) = refused 11 n start

-- ---- steps of the code

-- r is x, and at most n
pub record Within (x n r : ℕ) : Type 0 where
  pub is : r ≡ x
  pub small : r ≤ n

-- the alignment of a sized symbol, if it is more
abbrev pub raise : (most : ℕ) → Symbol → ℕ
raise most y = cond (sized y) (max most y.alignment) most
