-- The case P6 as a table, and the inputs that tell the readings of the check apart (DECISIONS.md, 53 and 54): symbols, splits, and the expected outcome.
use Prim.Native.Nat.{ℕ}
use mathlib.Core.Path.{◌≡◌, refl}
use mathlib.Core.List.{List, [], ◌∷◌, map}
use lib.ListN.{length, get_or}
use Rattle.lists.specs.Outcome.{Outcome, accepted, refused, refuse, ◌>>◌}
use Rattle.lists.specs.Rows.{tabulate, keep_if}
use Rattle.lists.specs.Sort.{insert_key, sort_by}
use Rattle.obj.specs.declared.Symbol.{Symbol}
use Rattle.obj.specs.declared.Split.{Split}
use Rattle.symbol_order.specs.Order.{symbols_of}
use Rattle.symbols.specs.Ranges.{last_or, highest_of}
use Rattle.validate.specs.Check.{end_of, validate_one, validate_from, validate}

pub record Case : Type 0 where
  pub symbols : List Symbol
  pub splits : List Split
  pub outcome : Outcome (Unit {0})

-- a function of section 3, of known size
abbrev pub sym : (address size : ℕ) → Symbol
sym address size = record { name = 0; section = 3; address = address; size = size; size_known = 1; kind = 1; flags = 0; alignment = 0 }

-- a split of section 3
abbrev pub piece : (start end : ℕ) → Split
piece start end = record { section = 3; start = start; end = end; unit = 0; alignment = 0; flags = 0; rename = 65535; origin = 65535 }

abbrev pub cases : List Case
cases =
    -- P6: no symbols, split 0x100..0x100
    record { symbols = []; splits = piece 256 256 ∷ []; outcome = accepted tt }
    -- P6: split 0x100..0
    ∷ record { symbols = []; splits = piece 256 0 ∷ []; outcome = refused 51 3 256 }
    -- 53: splits that touch; the second starts below the end of the first; 51 of the first comes before 50 of the second
    ∷ record { symbols = []; splits = piece 256 260 ∷ piece 260 264 ∷ []; outcome = accepted tt }
    ∷ record { symbols = []; splits = piece 256 261 ∷ piece 260 264 ∷ []; outcome = refused 50 3 260 }
    ∷ record { symbols = []; splits = piece 256 255 ∷ piece 254 264 ∷ []; outcome = refused 51 3 256 }
    -- 54: only the last symbol below is looked at
    ∷ record { symbols = sym 4100 8 ∷ sym 4101 1 ∷ []; splits = piece 4104 4112 ∷ []; outcome = accepted tt }
    ∷ record { symbols = sym 4100 16 ∷ sym 4101 1 ∷ []; splits = piece 4104 4112 ∷ []; outcome = accepted tt }
    -- a start, or an end, inside it
    ∷ record { symbols = sym 4101 1 ∷ sym 4102 4 ∷ []; splits = piece 4104 4112 ∷ []; outcome = refused 52 3 4104 }
    ∷ record { symbols = sym 4108 8 ∷ []; splits = piece 4104 4112 ∷ []; outcome = refused 53 3 4104 }
    -- a symbol that ends there
    ∷ record { symbols = sym 4100 4 ∷ sym 4108 4 ∷ []; splits = piece 4104 4112 ∷ []; outcome = accepted tt }
    ∷ []

abbrev pub outcome_of : Case → Outcome (Unit {0})
outcome_of c = validate (λ i. get_or c.symbols i (sym 0 0)) (length c.symbols) c.splits

-- THEOREM: each case has its expected outcome
pub cases_hold : map outcome_of cases ≡ map (λ (c : Case). c.outcome) cases
unfolding validate validate_from validate_one end_of refuse ◌>>◌ last_or highest_of symbols_of insert_key sort_by keep_if tabulate
cases_hold = refl
