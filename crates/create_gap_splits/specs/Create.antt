-- The filling of gaps (`create_gap_splits`): document 01, "after all sections gaps enter by section and address", so the refusals 10, 11, 40, 41 and 42 of all sections
-- come before those of any gap that enters (DECISIONS.md, 52). The search is `found_gaps` (gaps), the entering `filled` (gap_splits).
use Rattle.std.specs.Prelude.{ℕ, ◌≤◌, ◌<◌, List, length}
use Rattle.lists.specs.Outcome.{Outcome, ◌>>=◌}
use Rattle.sections.specs.Image.{Image}
use Rattle.sections.specs.Sections.{Sections}
use Rattle.merge.specs.Merge.{Given}
use Rattle.gaps.specs.Gaps.{found_gaps}
use Rattle.gap_splits.specs.Entering.{Filled, Ceilings, filled}
use Rattle.gap_splits.specs.Answers.{section_names}

-- the name of section n
abbrev pub name_in : Image → Sections → ℕ → List ℕ
name_in g sections n = g.name (sections.head n).name

unfoldable pub gaps_filled : Image → Sections → Given → Ceilings → Filled → Outcome Filled
gaps_filled g sections limits room t = do
  gaps ← found_gaps g sections t.rows
  filled (name_in g sections) limits room t gaps

-- ---- what is asked

-- no section's name is above 64 bytes
abbrev pub Short : (heads head_places name_bytes name_places name_lengths : List ℕ) → Type 0
Short heads head_places name_bytes name_places name_lengths =
    (n : ℕ) → n < length head_places → length (section_names heads head_places name_bytes name_places name_lengths n) ≤ 64
