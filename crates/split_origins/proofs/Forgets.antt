-- The merge with lists is the merge: its decisions are made on the splits, and each edit of the table, without the lists, is that of split_edits. So it is refused where
-- the merge is, and else leaves the same rows. Assumes nothing.
use Prim.Native.Nat.{ℕ, zero, suc}
use mathlib.Core.Path.{◌≡◌, refl, sym, ap, ◌∙◌}
use mathlib.Core.List.{List, [], ◌∷◌, map, map-map}
use mathlib.Core.Bool.{Bool, true, false, cond, not}
use lib.ListN.{length, length-map}
use Rattle.lists.specs.Rows.{keep_if}
use Rattle.lists.specs.InsertBy.{insert_by}
use Rattle.lists.specs.Outcome.{Outcome, accepted, refused, ◌>>=◌}
use Rattle.lists.proofs.Filter.{map_keep}
use Rattle.lists.proofs.Outcomes.{same_accepted, not_both}
use Rattle.obj.specs.declared.Split.{Split}
use Rattle.splits.specs.Questions.{within}
use Rattle.split_edits.specs.Edits.{together, after, stops, grouped, pushed, renamed, joined}
use Rattle.merge.specs.Merge.{Given, Step, keep, push, join, decide, Next, carried, rounds, merge_one, merge_all}
use Rattle.merge.specs.Merge as merging
use Rattle.split_origins.specs.Traced.{Traced, plain, splits_of, become, traced_grouped, traced_pushed, traced_joined, TracedNext, done, again, traced_carried, traced_rounds, traced_one, traced_all, mapped}

-- ---- edits of the table
splits-insert : (p : Split → Bool) (x : Traced) (l : List Traced) → splits_of (insert_by (λ z. p z.split) x l) ≡ insert_by p x.split (splits_of l)
unfolding insert_by
splits-insert p x [] = refl
splits-insert p x (y ∷ l) = go (p y.split) (splits-insert p x l)
  where
    go : (t : Bool) → splits_of (insert_by (λ z. p z.split) x l) ≡ insert_by p x.split (splits_of l)
        → splits_of (cond t (x ∷ y ∷ l) (y ∷ insert_by (λ z. p z.split) x l)) ≡ cond t (x.split ∷ y.split ∷ splits_of l) (y.split ∷ insert_by p x.split (splits_of l))
    go true q = refl
    go false q = ap (λ (t : List Split). y.split ∷ t) q

splits-grouped : (section start : ℕ) (l : List Traced) → splits_of (traced_grouped section start l) ≡ grouped section start (splits_of l)
unfolding traced_grouped grouped
splits-grouped section start [] = refl
splits-grouped section start (y ∷ l) = go (together section start y.split) (splits-grouped section start l)
  where
    go : (t : Bool) → splits_of (traced_grouped section start l) ≡ grouped section start (splits_of l)
        → splits_of (cond t (insert_by (λ z. stops section start y.split.end z.split) y (traced_grouped section start l)) (y ∷ traced_grouped section start l))
        ≡ cond t (insert_by (stops section start y.split.end) y.split (grouped section start (splits_of l))) (y.split ∷ grouped section start (splits_of l))
    go true q = splits-insert (stops section start y.split.end) y (traced_grouped section start l) ∙ ap (insert_by (stops section start y.split.end) y.split) q
    go false q = ap (λ (t : List Split). y.split ∷ t) q

splits-pushed : (s : Traced) (l : List Traced) → splits_of (traced_pushed s l) ≡ pushed s.split (splits_of l)
unfolding traced_pushed pushed
splits-pushed s l =
    splits-insert (after s.split) s (traced_grouped s.split.section s.split.start l)
    ∙ ap (insert_by (after s.split) s.split) (splits-grouped s.split.section s.split.start l)

splits-joined : (section from to unit : ℕ) (l : List Traced) → splits_of (traced_joined section from to unit l) ≡ joined section from to unit (splits_of l)
unfolding traced_joined joined
splits-joined section from to unit l =
    let name : Split → Split = renamed unit (within section from to) (splits_of l) in
    let left = keep_if (λ r. not (within section from to r.split)) l in
    map-map plain (λ r. become (name r.split) r) left
    ∙ sym (map-map name plain left)
    ∙ ap (map name) (map_keep plain (λ y. not (within section from to y)) l)

-- ---- an outcome after another
pub bind_mapped : {A A' B B' : Type 0} (h : A → A') (k : B → B') (o : Outcome A) (o' : Outcome A') (f : A → Outcome B) (f' : A' → Outcome B')
    → mapped h o ≡ o' → ((a : A) → o ≡ accepted a → mapped k (f a) ≡ f' (h a)) → mapped k (o >>= f) ≡ (o' >>= f')
unfolding mapped ◌>>=◌
bind_mapped {A} {A'} h k (accepted a) o' f f' e each = each a refl ∙ ap (λ (o : Outcome A'). o >>= f') e
bind_mapped {A} {A'} h k (refused number section address) o' f f' e each = ap (λ (o : Outcome A'). o >>= f') e

pub mapped_itself : {A : Type 0} (o : Outcome A) → mapped (λ (a : A). a) o ≡ o
unfolding mapped
mapped_itself (accepted a) = refl
mapped_itself (refused number section address) = refl

pub mapped_inv : {A B : Type 0} (f : A → B) (o : Outcome A) (b : B) → mapped f o ≡ accepted b → (a : A) × (o ≡ accepted a) × (f a ≡ b)
unfolding mapped
mapped_inv f (accepted a) b e = (a, refl, same_accepted e)
mapped_inv f (refused number section address) b e = absurd (not_both e)

-- ---- rounds
abbrev plain_next : TracedNext → Next
plain_next (done rows) = merging.done (splits_of rows)
plain_next (again rows new) = merging.again (splits_of rows) new.split

plain_carried : (rows : List Traced) (new : Traced) (step : Step) → plain_next (traced_carried rows new step) ≡ carried (splits_of rows) new.split step
plain_carried rows new keep = refl
plain_carried rows new push = ap merging.done (splits-pushed new rows)
plain_carried rows new (join joint) =
    ap (λ (l : List Split). merging.again l joint) (splits-joined joint.section joint.start joint.end joint.unit rows)

module _ (g : Given) where
  -- a decision, with and without the lists
  step_forget : (k : ℕ) (rows : List Traced) (new : Traced) (d : Outcome Step) → ((n : TracedNext) → mapped splits_of (traced_rounds k g n) ≡ rounds k g (plain_next n))
      → mapped splits_of (d >>= λ step. traced_rounds k g (traced_carried rows new step)) ≡ (d >>= λ step. rounds k g (carried (splits_of rows) new.split step))
  unfolding mapped ◌>>=◌
  step_forget k rows new (accepted step) ih = ih (traced_carried rows new step) ∙ ap (rounds k g) (plain_carried rows new step)
  step_forget k rows new (refused number section address) ih = refl

  rounds_forget : (k : ℕ) (n : TracedNext) → mapped splits_of (traced_rounds k g n) ≡ rounds k g (plain_next n)
  unfolding traced_rounds rounds mapped
  rounds_forget zero (done rows) = refl
  rounds_forget zero (again rows new) = refl
  rounds_forget (suc k) (done rows) = refl
  rounds_forget (suc k) (again rows new) = step_forget k rows new (decide g (splits_of rows) new.split) (rounds_forget k)

  -- THEOREM: without the lists, the merge of one split with lists is the merge
  pub one_forgets : (rows : List Traced) (new : Traced) → mapped splits_of (traced_one g rows new) ≡ merge_one g (splits_of rows) new.split
  unfolding traced_one merge_one
  one_forgets rows new =
      rounds_forget (suc (length rows)) (again rows new)
      ∙ ap (λ (k : ℕ). rounds (suc k) g (merging.again (splits_of rows) new.split)) (sym (length-map rows plain))

  -- THEOREM: and so of a list of splits: the same outcome, number and place of a refusal too
  pub all_forgets : (rows partials : List Traced) → mapped splits_of (traced_all g rows partials) ≡ merge_all g (splits_of rows) (splits_of partials)
  unfolding traced_all merge_all mapped
  all_forgets rows [] = refl
  all_forgets rows (new ∷ later) =
      bind_mapped splits_of splits_of (traced_one g rows new) (merge_one g (splits_of rows) new.split) (λ r. traced_all g r later) (λ r. merge_all g r (splits_of later))
      (one_forgets rows new) (λ r e. all_forgets r later)
