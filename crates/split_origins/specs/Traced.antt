-- Where a split came from: document 02, (b), "Each split carries the number of its hand-made partial split record, counted from 0 among all partial split records. A merge
-- that changes nothing changes no number. A joint split has the smaller of the two numbers. A split with no hand-made record in it has 65535."
-- The merge told once more, with each row the list of the numbers of the hand-made records that went into it: a pushed split brings its own, a joint split has those of
-- both, and the rows that a join removes leave nothing behind. It decides by the splits alone, so without the lists it is the merge (proofs/Forgets.antt); and a split's
-- origin is the least of its row's list (proofs/Least.antt).
use Rattle.std.specs.Prelude.{ℕ, zero, suc, List, [], ◌∷◌, ◌++◌, map, cond, not, length}
use Rattle.lists.specs.Rows.{keep_if}
use Rattle.lists.specs.InsertBy.{insert_by}
use Rattle.lists.specs.Outcome.{Outcome, accepted, refused, ◌>>=◌}
use Rattle.obj.specs.declared.Split.{Split}
use Rattle.splits.specs.Questions.{within, of_unit}
use Rattle.split_edits.specs.Edits.{together, after, stops, renamed}
use Rattle.merge.specs.Merge.{Given, Step, keep, push, join, decide}

-- a row, and the numbers of the hand-made records that went into it
pub record Traced : Type 0 where
  pub split : Split
  pub numbers : List ℕ

abbrev pub plain : Traced → Split
plain r = r.split

abbrev pub splits_of : List Traced → List Split
splits_of rows = map plain rows

-- the row has become this split
abbrev pub become : Split → Traced → Traced
become s r = record { split = s; numbers = r.numbers }

-- ---- what is done to the table: `grouped`, `pushed` and `joined` of split_edits, with the lists carried along

unfoldable pub traced_grouped : (section start : ℕ) → List Traced → List Traced
traced_grouped section start [] = []
traced_grouped section start (y ∷ l) =
    cond (together section start y.split) (insert_by (λ z. stops section start y.split.end z.split) y (traced_grouped section start l))
    (y ∷ traced_grouped section start l)

unfoldable pub traced_pushed : Traced → List Traced → List Traced
traced_pushed s l = insert_by (λ z. after s.split z.split) s (traced_grouped s.split.section s.split.start l)

-- the rows in the range go, with their lists
unfoldable pub traced_joined : (section from to unit : ℕ) → List Traced → List Traced
traced_joined section from to unit l =
    map (λ r. become (renamed unit (within section from to) (splits_of l) r.split) r) (keep_if (λ r. not (within section from to r.split)) l)

-- ---- rounds

-- the rows of the new split's unit in its section
abbrev pub own_of : List Traced → Split → List Traced
own_of rows new = keep_if (λ r. of_unit new.section new.unit r.split) rows

-- the list of a joint split: that of the new one and that of the unit's own
unfoldable pub both_of : (new : List ℕ) → (own : List Traced) → List ℕ
both_of new [] = new
both_of new (old ∷ more) = new ++ old.numbers

pub data TracedNext : Type 0 where
  done : List Traced → TracedNext
  again : List Traced → Traced → TracedNext

abbrev pub traced_carried : List Traced → Traced → Step → TracedNext
traced_carried rows new keep = done rows
traced_carried rows new push = done (traced_pushed new rows)
traced_carried rows new (join joint) =
    again (traced_joined joint.section joint.start joint.end joint.unit rows)
    (record { split = joint; numbers = both_of new.numbers (own_of rows new.split) })

unfoldable pub traced_rounds : ℕ → Given → TracedNext → Outcome (List Traced)
traced_rounds zero g (done rows) = accepted rows
traced_rounds zero g (again rows new) = accepted rows
traced_rounds (suc k) g (done rows) = accepted rows
traced_rounds (suc k) g (again rows new) = decide g (splits_of rows) new.split >>= λ step. traced_rounds k g (traced_carried rows new step)

unfoldable pub traced_one : Given → List Traced → Traced → Outcome (List Traced)
traced_one g rows new = traced_rounds (suc (length rows)) g (again rows new)

unfoldable pub traced_all : Given → List Traced → List Traced → Outcome (List Traced)
traced_all g rows [] = accepted rows
traced_all g rows (new ∷ later) = do
  rows' ← traced_one g rows new
  traced_all g rows' later

-- ---- forgetting the lists

unfoldable pub mapped : {A B : Type 0} → (A → B) → Outcome A → Outcome B
mapped f (accepted a) = accepted (f a)
mapped f (refused number section address) = refused number section address
