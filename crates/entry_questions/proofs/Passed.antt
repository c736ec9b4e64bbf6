-- What tables that passed are to the questions: each split's section is there.
-- Assumes nothing.
use Prim.Native.Nat.{ℕ, ◌/◌, ◌%◌, ◌<◌, ◌≤◌}
use mathlib.Core.Path.{◌≡◌, sym}
use mathlib.Core.List.{List}
use native.Mathlib.Omega.{arith}
use lib.ListN.{length, get_or}
use Rattle.std.proofs.lemmas.List.{get_or-map}
use Rattle.lists.specs.Outcome.{accepted}
use Rattle.obj.specs.Records.{split_at, stage_places, split_width}
use Rattle.obj.specs.declared.Section.{Section}
use Rattle.obj.proofs.Laws.{length-stage_places}
use Rattle.obj.specs.Nothing.{no_split}
use Rattle.tables.specs.Tables.{records_check}
use Rattle.tables.specs.Records.{split_fault}
use Rattle.tables.proofs.Laws.{splits_section}
use Rattle.tables.proofs.Lookups.{held, stage_held}
use Rattle.stage_tables.specs.StageTables.{stage_splits, splits_check}
use Rattle.stage_tables.proofs.Laws.{table_passed}
use Rattle.entry_questions.specs.Entry.{split_of}
use Rattle.entry_questions.specs.Lines.{Homes}

-- each split of a table that passed can be read, and its section is there
pub homes_taken : (ceiling : ℕ) (lengths : List ℕ) (sections : List Section) (b : List ℕ) → splits_check ceiling lengths sections b ≡ accepted tt
    → ceiling ≤ 4096 → {places head_places : List ℕ} → places ≡ stage_places split_width (length b / split_width) → length sections ≡ length head_places
    → Homes b places head_places
homes_taken ceiling lengths sections b passed low {places} {head_places} there count =
    rw there
    (record {
      held = λ k h. held (stage_held split_width (length b / split_width) b (omega (arith, table.1, low)) (omega arith)) k h;
      home = λ k h. rw (split_is k (within k h), sym count) (splits_section lengths sections (stage_splits b) (length b / split_width) table.2 k (within k h));
    })
  where
    table : (length b % split_width ≡ 0) × (length b / split_width ≤ ceiling) × (records_check (split_fault lengths sections (stage_splits b)) (length b / split_width) ≡ accepted tt)
    table = table_passed split_width ceiling b _ passed

    within : (k : ℕ) → k < length (stage_places split_width (length b / split_width)) → k < length b / split_width
    within k h = rw length-stage_places at h

    split_is : (k : ℕ) → k < length b / split_width → split_of b (stage_places split_width (length b / split_width)) k ≡ get_or (stage_splits b) k no_split
    split_is k h = sym (get_or-map (split_at b) (stage_places split_width (length b / split_width)) k 0 no_split (rw length-stage_places h))
