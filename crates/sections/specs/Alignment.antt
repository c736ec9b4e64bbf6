-- The alignment of a split: document 01, "**Alignment of a split.** The given one, else the larger of the default (code, `.ctors`, `.dtors`,
-- `extab`, `extabindex`: 4; else 8) and the highest alignment of sized symbols in start..end, stripped ones included." It comes with its
-- reason: given, from a symbol, or the default; a range asked backwards is 11, and where one is given no range is asked.
use Rattle.std.specs.Prelude.{ℕ, max, List, cond, not, ◌||◌, eqb, ltb, Result, Ok, Err}
use Rattle.lists.specs.Outcome.{Outcome, accepted, refused, ◌>>=◌}
use Rattle.obj.specs.declared.Section.{Section}
use Rattle.obj.specs.declared.Symbol.{Symbol}
use Rattle.obj.specs.declared.Split.{Split}
use Rattle.names.specs.Fixed.{is_four_aligned}
use Rattle.symbols.specs.Ranges.{highest_in}
use Rattle.symbols.specs.declared.Backwards.{Backwards}
use Rattle.sections.specs.Image.{Image}
use Rattle.sections.specs.declared.Alignment.{Alignment}
use Rattle.sections.specs.declared.Alignment.TheVariants.{Given, FromSymbol, Default}

pub data Reason : Type 0 where
  given : Reason
  symbol : Reason
  default : Reason

pub record Chosen : Type 0 where
  pub value : ℕ
  pub reason : Reason

-- "the default (code, `.ctors`, `.dtors`, `extab`, `extabindex`: 4; else 8)", "kind 1 (0 code, .."
unfoldable pub default_alignment : Section → (name : List ℕ) → ℕ
default_alignment head name = cond (eqb head.kind 0 || is_four_aligned name) 4 8

-- "the larger of the default .. and the highest alignment of sized symbols"; "from a symbol exactly if none is given and the highest
-- symbol alignment exceeds the default"
unfoldable pub larger : (least highest : ℕ) → Chosen
larger least highest = record { value = max least highest; reason = cond (ltb least highest) symbol default }

-- the split's own alignment is `own`, "alignment 4 (0 none)"; the range that is asked is start..end of section n
unfoldable pub alignment_of : (ℕ → Symbol) → (count n least own start end : ℕ) → Outcome Chosen
alignment_of y count n least own start end =
    -- "The given one"
    cond (not (eqb own 0)) (accepted (record { value = own; reason = given }))
    -- "else the larger of the default .. and the highest alignment of sized symbols in start..end, stripped ones included"
    (highest_in y count n start end >>= λ highest. accepted (larger least highest))

-- the alignment of split s, asked from `start` on; `head` gives the sections' heads
unfoldable pub alignment_from : Image → (head : ℕ → Section) → (start : ℕ) → Split → Outcome Chosen
alignment_from g head start s =
    alignment_of g.symbol g.count s.section
    (default_alignment (head s.section) (g.name (head s.section).name))
    s.alignment start s.end

-- the alignment and its reason
abbrev pub chosen : Alignment → Chosen
chosen (Given a) = record { value = a; reason = given }
chosen (FromSymbol a) = record { value = a; reason = symbol }
chosen (Default a) = record { value = a; reason = default }

-- what an answer means, to a range asked of section n from `start` on
abbrev pub alignment_meaning : (n start : ℕ) → Result Alignment Backwards → Outcome Chosen
alignment_meaning n start (Ok a) = accepted (chosen a)
alignment_meaning n start (Err e) = refused 11 n start
