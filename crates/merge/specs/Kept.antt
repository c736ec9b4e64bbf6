-- What is said of a merge besides its definition: the splits that pass 20 and 21, the properties of splits that a merge keeps, and a round that goes on.
-- The theorems: proofs/Keeping.antt, proofs/Tables.antt, proofs/Refusals.antt.
use Rattle.std.specs.Prelude.{◌≤◌, ◌<◌, ◌≡◌, false, ◌&&◌, List, [], ◌∷◌, length, get_or}
use Rattle.lists.specs.Rows.{keep_if, some}
use Rattle.obj.specs.declared.Split.{Split}
use Rattle.splits.specs.Updates.{with_unit}
use Rattle.splits.specs.Questions.{is_auto, of_unit, is_by_hand, is_of_other}
use Rattle.merge.specs.Merge.{Given, joint_of, two_alignments, common_differs, inside_old, in_range}

-- neither 20 nor 21: its section is there, and it does not end above its end (an open one ends at 0)
pub record Inside (g : Given) (s : Split) : Type 0 where
  pub section : s.section < length g.ends
  pub end : s.end ≤ get_or g.ends s.section 0

-- a property of splits that a merge keeps: the joint split of two that have it has it, and a split that has it has it under the name of another one
pub record Keeps (P : Split → Type 0) : Type 0 where
  pub joint : (new old : Split) → new.section ≡ old.section → P new → P old → P (joint_of new old)
  pub renamed : (s named : Split) → P s → P named → P (with_unit named.unit s)

-- a round goes on to remove what its joint range holds: none of the rules before 26 ends it
pub record GoesOn (g : Given) (rows : List Split) (new old : Split) : Type 0 where
  pub inside : Inside g new
  pub own : keep_if (of_unit new.section new.unit) rows ≡ old ∷ []
  pub aligned : two_alignments new old ≡ false
  pub common : common_differs new old ≡ false
  pub outside : inside_old new old ≡ false
  pub forward : (joint_of new old).start ≤ (joint_of new old).end
  pub hand : (is_auto new && some (is_by_hand (in_range (joint_of new old))) rows) ≡ false
  pub other : some (is_of_other (in_range (joint_of new old)) new.unit) rows ≡ false
