-- The inputs that tell the readings of the trim apart (DECISIONS.md, 55 to 58): symbols and splits of a data section at 0x1000 of 0x100 bytes, named as
-- given, and the expected ends or refusal.
use Prim.Native.Nat.{ℕ}
use mathlib.Core.Path.{◌≡◌, refl}
use mathlib.Core.List.{List, [], ◌∷◌, map}
use lib.ListN.{length, get_or}
use Rattle.lists.specs.Outcome.{Outcome, accepted, refused, refuse, ◌>>◌, ◌>>=◌}
use Rattle.lists.specs.Rows.{tabulate, keep_if, some}
use Rattle.lists.specs.Sort.{insert_key, sort_by}
use Rattle.align.specs.Align.{align_up}
use Rattle.obj.specs.declared.Symbol.{Symbol}
use Rattle.obj.specs.declared.Split.{Split}
use Rattle.names.specs.Fixed.{codes, spells, spells_one, is_pointer_list, is_four_aligned, is_linker_object}
use Rattle.symbol_order.specs.Order.{symbols_of}
use Rattle.symbols.specs.Ranges.{last_or, highest_of, has_symbols, last_in, highest_in}
use Rattle.sections.specs.Bytes.{all_zero}
use Rattle.sections.specs.Image.{Image}
use Rattle.sections.specs.Sections.{Sections}
use Rattle.sections.specs.Alignment.{default_alignment, larger, alignment_of, alignment_from}
use Rattle.sections.specs.Ends.{lowered, splitting_end}
use Rattle.trim.specs.Trim.{end_of, ask_next, aligned_end, fall_of, falls_of, alongside, last_at, carry_one, carry_from, cut_to, cut_last, cut_section, cut_from, trimmed}

pub record Case : Type 0 where
  pub symbols : List Symbol
  pub splits : List Split
  pub outcome : Outcome (List ℕ)

-- an object of section 0, of known size; name 1 is a linker object's
abbrev pub object : (name address size : ℕ) → Symbol
object name address size = record { name = name; section = 0; address = address; size = size; size_known = 1; kind = 2; flags = 0; alignment = 0 }

-- a split of section 0
abbrev pub piece : (start end alignment : ℕ) → Split
piece start end alignment = record { section = 0; start = start; end = end; unit = 0; alignment = alignment; flags = 0; rename = 65535; origin = 65535 }

abbrev pub cases : List Case
cases =
    -- a symbol 0x1000 size 4: the end falls to 0x1008, the default alignment being 8; no symbol: the end stays
    record { symbols = object 0 4096 4 ∷ []; splits = piece 4096 4128 0 ∷ piece 4128 4160 0 ∷ []; outcome = accepted (4104 ∷ 4160 ∷ []) }
    -- 56: two splits at one start, both falls go to the last one, and the later wins
    ∷ record { symbols = object 0 4096 4 ∷ []; splits = piece 4096 4128 0 ∷ piece 4096 4144 32 ∷ []; outcome = accepted (4128 ∷ 4128 ∷ []) }
    -- 57: the last split at that start ends there
    ∷ record { symbols = object 0 4096 4 ∷ []; splits = piece 4096 4128 0 ∷ piece 4096 4096 0 ∷ []; outcome = refused 54 0 4096 }
    -- 58: the next split is open: its alignment is asked from 0x1000 on; where it has one given, the next split's own range is 11
    ∷ record { symbols = object 0 4096 4 ∷ []; splits = piece 4096 4128 0 ∷ piece 4128 0 0 ∷ []; outcome = refused 11 0 4096 }
    ∷ record { symbols = object 0 4096 4 ∷ []; splits = piece 4096 4128 0 ∷ piece 4128 0 8 ∷ []; outcome = refused 11 0 4128 }
    -- 55: a linker object at 0x1010: the last split is cut to it, also one that starts above it
    ∷ record { symbols = object 1 4112 240 ∷ []; splits = piece 4096 4352 0 ∷ []; outcome = accepted (4112 ∷ []) }
    ∷ record { symbols = object 1 4112 240 ∷ []; splits = piece 4096 4120 0 ∷ piece 4120 4352 0 ∷ []; outcome = accepted (4120 ∷ 4112 ∷ []) }
    ∷ []

-- name 0 is empty, name 1 `_ctors$99`, name 2 `.data`
abbrev pub name_of : ℕ → List ℕ
unfolding codes
name_of k = get_or ([] ∷ codes "_ctors$99" ∷ codes ".data" ∷ []) k []

abbrev pub image_of : Case → Image
image_of c = record { symbol = λ i. get_or c.symbols i (object 0 0 0); count = length c.symbols; name = name_of }

abbrev pub sections : Sections
sections = record {
  count = 1;
  head = λ k. record { name = 2; kind = 1; address = 4096; size = 256; offset = 0 };
  bytes = λ k. [];
}

abbrev pub ends_of : Outcome (List Split) → Outcome (List ℕ)
ends_of o = o >>= λ l. accepted (map (λ (s : Split). s.end) l)

-- THEOREM: each case has its expected outcome
pub cases_hold : map (λ (c : Case). ends_of (trimmed (image_of c) sections c.splits)) cases ≡ map (λ (c : Case). c.outcome) cases
unfolding trimmed cut_from cut_section cut_last cut_to carry_from carry_one last_at alongside falls_of fall_of aligned_end ask_next end_of splitting_end lowered alignment_from alignment_of larger default_alignment highest_in last_in has_symbols highest_of last_or symbols_of spells spells_one codes is_pointer_list is_four_aligned is_linker_object align_up all_zero insert_key sort_by tabulate keep_if some refuse ◌>>◌ ◌>>=◌
cases_hold = refl
