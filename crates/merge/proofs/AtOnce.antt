-- The round after a join, where the joint split passes 20 and 21 and its unit has no split left in the section: it is a push, and the merge ends with it. So a join
-- and a push that are made at once are the rest of the merge. Assumes nothing.
use mathlib.Core.Path.{◌≡◌, sym, ap, ◌∙◌}
use mathlib.Core.List.{List, []}
use mathlib.Core.Bool.{false, false≢true}
use Prim.Native.Nat.{ℕ, ◌≤◌, ◌<◌}
use native.Mathlib.Omega.{arith}
use lib.ListN.{length}
use Rattle.std.specs.Prelude.{Ok, Err, is_err}
use Rattle.lists.specs.Rows.{keep_if}
use Rattle.lists.specs.Outcome.{accepted}
use Rattle.obj.specs.Answers.{Answer}
use Rattle.obj.specs.declared.Split.{Split}
use Rattle.obj.specs.declared.Section.{Section}
use Rattle.splits.specs.Columns.{Columns, rows}
use Rattle.splits.specs.Questions.{of_unit}
use Rattle.split_edits.specs.Edits.{pushed}
use Rattle.split_joins.specs.Joins.{joined_by, AtOnce}
use Rattle.merge.specs.Merge.{given, merge_one}
use Rattle.merge.specs.Answers.{Begins}
use Rattle.merge.proofs.Rounds.{round_push}
use Rattle.merge.proofs.Decisions.{none-pushed}

pub neither : (sections : List Section) (s : Split) (r : Answer) → is_err r ≡ false → Begins sections s r → Begins sections s (Ok tt)
neither sections s (Ok _) e begins = begins
neither sections s (Err r) e begins = absurd (false≢true (sym e))

-- neither 20 nor 21 comes of s
module _ (sections : List Section) (s : Split) (inside : Begins sections s (Ok tt)) where
  -- no row is of its unit in the section, and a place is free: all that is left to do is a push
  only_push : (cap : ℕ) (l : List Split) → keep_if (of_unit s.section s.unit) l ≡ [] → length l < cap
      → merge_one (given sections cap) l s ≡ accepted (pushed s l)
  only_push cap l none free =
      round_push (given sections cap) l s
      (inside cap l ∙ none-pushed cap l s _ none free)

  -- so the merge of the joint split into the joined rows is what was made at once: a join removed a row, so that a place is free
  pub at_once : (c₀ c : Columns) (n r : ℕ) → AtOnce s c₀ c n r → (cap : ℕ) → n ≤ cap
      → accepted (rows c r) ≡ merge_one (given sections cap) (joined_by s (rows c₀ n)) s
  at_once c₀ c n r made cap h =
      ap accepted made.is ∙ sym (only_push cap (joined_by s (rows c₀ n)) made.no_own (omega (arith, made.fewer)))
