-- The case P5 as a table: the bytes of a `.ctors` at 0x80100000, and the expected outcome of each.
use Prim.Native.Nat.{ℕ}
use mathlib.Core.Path.{◌≡◌, refl}
use mathlib.Core.List.{List, [], ◌∷◌, map}
use lib.ListN.{length}
use Rattle.lists.specs.Outcome.{Outcome, accepted, refused, refuse, ◌>>◌}
use Rattle.lists.specs.Rows.{tabulate, keep_if}
use Rattle.lists.specs.Sort.{sort_by}
use Rattle.obj.specs.declared.Section.{Section}
use Rattle.obj.specs.Records.{symbol_at}
use Rattle.names.specs.Fixed.{codes, spells, spells_one, is_pointer_list}
use Rattle.symbol_order.specs.Order.{symbols_of}
use Rattle.sections.specs.Image.{Image}
use Rattle.sections.specs.Bytes.{all_zero}
use Rattle.sections.specs.Ends.{lowered, splitting_end}

pub record Case : Type 0 where
  pub bytes : List ℕ
  pub outcome : Outcome ℕ

abbrev pub cases : List Case
cases =
    -- P5: 8 bytes, the last four zero
    record { bytes = 1 ∷ 2 ∷ 3 ∷ 4 ∷ 0 ∷ 0 ∷ 0 ∷ 0 ∷ []; outcome = accepted 2148532228 }
    -- 3 bytes
    ∷ record { bytes = 0 ∷ 0 ∷ 0 ∷ []; outcome = refused 10 7 2148532224 }
    ∷ []

-- no symbols, and one name
abbrev pub image : Image
unfolding codes
image = record { symbol = symbol_at []; count = 0; name = λ (k : ℕ). codes ".ctors" }

-- section 7
abbrev pub head_of : Case → Section
head_of c = record { name = 0; kind = 1; address = 2148532224; size = length c.bytes; offset = 0 }

-- THEOREM: each case has its expected outcome
pub cases_hold : map (λ (c : Case). splitting_end image 7 (head_of c) c.bytes) cases ≡ map (λ (c : Case). c.outcome) cases
unfolding splitting_end refuse ◌>>◌ codes spells spells_one is_pointer_list all_zero lowered symbols_of sort_by keep_if tabulate
cases_hold = refl
