-- "75 alignment misfits", at its place "(section, current)": the walk comes to a split that is not skipped, 71 to 74 and 11 do not come of it, and of the alignments
-- reached by halving from the split's own none fits. A common split gives no piece, but its alignment is asked as any other's. The theorem `misfit_exactly` of
-- proofs/Alignments.antt: 75 comes at a place exactly if there is such a split.
use Rattle.std.specs.Prelude.{ℕ, suc, ◌<◌, ◌≡◌, List, ◌∷◌, false, ◌&&◌, ◌≢◌, ltb, length}
use Rattle.lists.specs.Outcome.{accepted}
use Rattle.lists.specs.Rows.{keep_if}
use Rattle.obj.specs.declared.Split.{Split}
use Rattle.splits.specs.Questions.{within, is_skipped, next_start}
use Rattle.sections.specs.Alignment.{Chosen}
use Rattle.units.specs.Units.{unit_of}
use Rattle.walk.specs.Walk.{Input, Output, start_in, splitting_end_in, outside, nonzero, alignment_in, on_split, walk_section, nothing}
use Rattle.restore.specs.Alignments.{None}

-- ---- where a walk comes to

-- to section n with this output: all sections before it were accepted
pub data ToSection (t : Input) : (n : ℕ) → Output → Type 0 where
  at_first : ToSection t 0 nothing
  section_past : {n : ℕ} {out more : Output} → ToSection t n out → walk_section t n out ≡ accepted more → ToSection t (suc n) more

-- to `current` in section n, whose splitting end is `end`, with this output and these splits left: all splits before were accepted
pub data ToSplit (t : Input) (n end : ℕ) : (current : ℕ) → Output → List Split → Type 0 where
  at_start : {out : Output} → ToSection t n out → ToSplit t n end (start_in t.sections n) out (keep_if (within n (start_in t.sections n) end) t.splits)
  split_past : {current : ℕ} {out more : Output} {s : Split} {later : List Split}
      → ToSplit t n end current out (s ∷ later)
      → current < end
      → on_split t n current (next_start end later) s out ≡ accepted more
      → ToSplit t n end (next_start end later) more later

-- to this split of section n: the walk goes on there, since the splitting end lies above
pub record Comes (t : Input) (n current : ℕ) (s : Split) (out : Output) : Type 0 where
  pub end : ℕ
  pub ends : splitting_end_in t.image t.sections n ≡ accepted end
  pub later : List Split
  pub left : ToSplit t n end current out (s ∷ later)
  pub below : current < end

-- ---- what is asked of a split before its alignment

-- none of 71 to 74 comes, it is not skipped, and its alignment is asked without 11; `next` is where the next split starts, or the splitting end
pub record Asked (t : Input) (n current next : ℕ) (s : Split) : Type 0 where
  -- "71 start isn't current"
  pub here : s.start ≡ current
  -- "72 between-range outside section"
  pub inside : (ltb s.end next && outside t.sections n s.end next) ≡ false
  -- "73 nonzero byte there"
  pub zeros : (ltb s.end next && nonzero t.sections n s.end next) ≡ false
  pub kept : is_skipped s ≡ false
  -- "74 unit not listed"
  pub listed : unit_of t.units s.unit ≢ length t.units
  -- "Alignment of a split. The given one, else .."
  pub chosen : Chosen
  pub asked : alignment_in t.image (t.sections.head n) n current s ≡ accepted chosen

-- ---- "75 alignment misfits"

-- there is such a split at this place, and none fits
pub record Misfit (t : Input) (n address : ℕ) : Type 0 where
  pub there : n < t.sections.count
  pub split : Split
  pub out : Output
  pub comes : Comes t n address split out
  pub passed : Asked t n address (next_start comes.end comes.later) split
  pub none : None passed.chosen.value address
