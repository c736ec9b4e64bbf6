-- Where a walk comes to: what is left to do there is what is left of the whole walk, and the splits that are left are of the section. Assumes nothing.
use Prim.Native.Nat.{ℕ, suc, ◌-◌, ◌≤◌, ◌<◌}
use mathlib.Core.Path.{◌≡◌, ap, ◌∙◌}
use mathlib.Core.List.{List, ◌∷◌}
use mathlib.Core.Bool.{Bool, cond}
use native.Mathlib.Omega.{arith}
use borrow.Author.Tests.{lt-ltb}
use Rattle.lists.specs.Outcome.{Outcome, accepted, ◌>>=◌}
use Rattle.lists.specs.Sort.{All}
use Rattle.lists.proofs.Binds.{bind_goes}
use Rattle.lists.proofs.All.{all_first, all_rest}
use Rattle.obj.specs.declared.Split.{Split}
use Rattle.walk.specs.Walk.{Input, Output, splitting_end_in, on_split, walk_splits, walk_section, walk_sections, walk, nothing}
use Rattle.splits.specs.Questions.{next_start}
use Rattle.restore.specs.Misfits.{ToSection, at_first, section_past, ToSplit, at_start, split_past, Comes}
use Rattle.restore.proofs.Steps.{Reached}
use Rattle.restore.proofs.Walked.{reached_all}

module _ (t : Input) where
  -- the splits that are left are of the section
  left_reached : {n end current : ℕ} {out : Output} {l : List Split} → ToSplit t n end current out l → All (Reached t n) l
  left_reached {n} {end} (at_start q) = reached_all t n end
  left_reached (split_past q b e) = all_rest (left_reached q)

  pub comes_reached : {n current : ℕ} {s : Split} {out : Output} → Comes t n current s out → Reached t n s
  comes_reached r = all_first (left_reached r.left)

  -- ---- what is left to do

  section_left : {n : ℕ} {out : Output} → ToSection t n out → n ≤ t.sections.count → walk t ≡ walk_sections t n (t.sections.count - n) out
  unfolding walk walk_sections
  section_left at_first h = ap (λ (m : ℕ). walk_sections t 0 m nothing) (let e : t.sections.count ≡ t.sections.count - 0 = omega arith in e)
  section_left (section_past {n = n} {out = out} {more = more} q e) h =
      section_left q (omega arith)
      ∙ ap (λ (m : ℕ). walk_sections t n m out) (let z : t.sections.count - n ≡ suc (t.sections.count - suc n) = omega arith in z)
      ∙ bind_goes (walk_section t n out) _ more e

  -- the sections behind section n
  abbrev pub behind : (n : ℕ) → Output → Outcome Output
  behind n out = walk_sections t (suc n) (t.sections.count - suc n) out

  -- the turn of a split
  pub split_turn : (n end current : ℕ) (out : Output) (s : Split) (later : List Split) → current < end
      → walk_splits t n end current out (s ∷ later) ≡ (on_split t n current (next_start end later) s out >>= λ o. walk_splits t n end (next_start end later) o later)
  unfolding walk_splits
  split_turn n end current out s later h =
      ap (λ (b : Bool). cond b (on_split t n current (next_start end later) s out >>= λ o. walk_splits t n end (next_start end later) o later) (accepted out)) (lt-ltb current end h)

  -- THEOREM: the whole walk is what is left of it where it has come to
  pub split_left : {n end current : ℕ} {out : Output} {l : List Split} → ToSplit t n end current out l → n < t.sections.count
      → splitting_end_in t.image t.sections n ≡ accepted end → walk t ≡ (walk_splits t n end current out l >>= behind n)
  unfolding walk_sections walk_section
  split_left {n} {end} (at_start {out = out} q) h ends =
      section_left q (omega arith)
      ∙ ap (λ (m : ℕ). walk_sections t n m out) (let z : t.sections.count - n ≡ suc (t.sections.count - suc n) = omega arith in z)
      ∙ ap (λ (o : Outcome Output). o >>= behind n) (bind_goes (splitting_end_in t.image t.sections n) _ end ends)
  split_left {n} {end} (split_past {current = current} {out = out} {more = more} {s = s} {later = later} q b e) h ends =
      split_left q h ends
      ∙ ap (λ (o : Outcome Output). o >>= behind n) (split_turn n end current out s later b ∙ bind_goes (on_split t n current (next_start end later) s out) _ more e)
