-- The rounds of a merge. Each round that goes on removes a split, so the fuel suffices: `merge_one` is a round and then the rest (`merge_round`), and each
-- decision has its equation. Assumes nothing.
use mathlib.Core.Path.{◌≡◌, refl, sym, ap, ◌∙◌}
use mathlib.Core.List.{List, [], ◌∷◌}
use mathlib.Core.Bool.{Bool, true, false, not, ◌&&◌}
use Prim.Native.Nat.{ℕ, zero, suc, ◌+◌, ◌-◌, ◌≤◌, ◌<◌}
use native.Mathlib.Nat.{not-suc-le-zero}
use native.Mathlib.Omega.{arith}
use lib.ListN.{length, get_or, length-map}
use lib.Dec.{eqb, ltb}
use borrow.Author.Tests.{not-false, leb-false, ltb-false, eqb-true}
use Rattle.lists.specs.Rows.{tabulate, keep_if, some}
use Rattle.lists.specs.Outcome.{Outcome, accepted, refused, ◌>>=◌}
use Rattle.lists.proofs.Outcomes.{not_both, then_inv}
use Rattle.lists.proofs.Rows.{rest-cons, rest-none}
use Rattle.lists.proofs.FilterRows.{fewer_without}
use Rattle.obj.specs.declared.Split.{Split}
use Rattle.obj.specs.Records.{partial_numbered}
use Rattle.splits.specs.Questions.{within, of_unit}
use Rattle.split_edits.specs.Edits.{pushed, renamed, joined}
use Rattle.merge.specs.Merge.{Given, Step, keep, push, join, unchanged_if, joint_of, in_range, on_joint, on_old, on_own, decide, Next, done, again, carried, rounds, merge_one, merge_all}
use Rattle.merge.specs.Kept.{Inside}

-- ---- a rule that ends a round
module _ (t : Bool) (rest : Outcome Step) where
  -- its test holds: nothing changes
  pub stays : t ≡ true → unchanged_if t rest ≡ accepted keep
  unfolding unchanged_if
  stays e = rw e

  -- it fails: the rest decides
  pub goes_on : t ≡ false → unchanged_if t rest ≡ rest
  unfolding unchanged_if
  goes_on e = rw e

-- a round that pushes or joins was not ended by it
pub join_passed : (t : Bool) (rest : Outcome Step) (j : Split) → unchanged_if t rest ≡ accepted (join j) → (t ≡ false) × (rest ≡ accepted (join j))
unfolding unchanged_if
join_passed true rest j e = absurd (let z : ◌≡◌ {A = ℕ} 0 1 = cc in omega arith)
join_passed false rest j e = (refl, e)

push_passed : (t : Bool) (rest : Outcome Step) → unchanged_if t rest ≡ accepted push → rest ≡ accepted push
unfolding unchanged_if
push_passed true rest e = absurd (let z : ◌≡◌ {A = ℕ} 0 1 = cc in omega arith)
push_passed false rest e = e

-- ---- a round that joins

-- the decision to join: the rules of the joint range passed, and the split is the joint one
pub joint_decided : (rows : List Split) (new joint j : Split) → on_joint rows new joint ≡ accepted (join j) → (j ≡ joint) × (some (in_range j) rows ≡ true)
unfolding on_joint
joint_decided rows new joint j e =
    let from-11 = (then_inv _ _ _ _ _ _ e).1 in
    let from-hand = (join_passed _ _ j from-11).1 in
    let from-25 = (then_inv _ _ _ _ _ _ from-hand).1 in
    let at-26 = then_inv _ _ _ _ _ _ from-25 in
    let same : j ≡ joint = cc at-26.1 in
    (same, ap (λ (x : Split). some (in_range x) rows) same ∙ not-false _ at-26.0)

pub old_decided : (rows : List Split) (new old j : Split) → on_old rows new old ≡ accepted (join j) → (j ≡ joint_of new old) × (some (in_range j) rows ≡ true)
unfolding on_old
old_decided rows new old j e =
    let from-23 = (then_inv _ _ _ _ _ _ e).1 in
    let from-24 = (then_inv _ _ _ _ _ _ from-23).1 in
    joint_decided rows new (joint_of new old) j (join_passed _ _ j from-24).1

push_no_join : (j : Split) → ◌≡◌ {A = Outcome Step} (accepted push) (accepted (join j)) → ⊥
push_no_join j e = let z : ◌≡◌ {A = ℕ} 0 1 = cc in omega arith

own_joins : (room : ℕ) (rows : List Split) (new : Split) (own : List Split) (j : Split) → on_own room rows new own ≡ accepted (join j)
    → (old : Split) × (own ≡ old ∷ []) × (j ≡ joint_of new old) × (some (in_range j) rows ≡ true)
unfolding on_own
own_joins room rows new [] j e = absurd (push_no_join j (then_inv _ _ _ _ _ _ e).1)
own_joins room rows new (old ∷ []) j e = let d = old_decided rows new old j e in (old, refl, d.0, d.1)
own_joins room rows new (old ∷ second ∷ more) j e = absurd (not_both e)

-- ---- a round that pushes
joint_no_push : (rows : List Split) (new joint : Split) → on_joint rows new joint ≡ accepted push → ⊥
unfolding on_joint
joint_no_push rows new joint e =
    let from-hand = push_passed _ _ (then_inv _ _ _ _ _ _ e).1 in
    let from-25 = (then_inv _ _ _ _ _ _ from-hand).1 in
    push_no_join joint (sym (then_inv _ _ _ _ _ _ from-25).1)

old_no_push : (rows : List Split) (new old : Split) → on_old rows new old ≡ accepted push → ⊥
unfolding on_old
old_no_push rows new old e =
    let from-23 = (then_inv _ _ _ _ _ _ e).1 in
    joint_no_push rows new (joint_of new old) (push_passed _ _ (then_inv _ _ _ _ _ _ from-23).1)

own_pushes : (room : ℕ) (rows : List Split) (new : Split) (own : List Split) → on_own room rows new own ≡ accepted push → (own ≡ []) × (length rows < room)
unfolding on_own
own_pushes room rows new [] e = (refl, leb-false _ _ (then_inv _ _ _ _ _ _ e).0)
own_pushes room rows new (old ∷ []) e = absurd (old_no_push rows new old e)
own_pushes room rows new (old ∷ second ∷ more) e = absurd (not_both e)

-- ---- what a decision tells

-- an end that 21 lets pass: open, or not above the section's end
pub end_inside : (end limit : ℕ) → (not (eqb end 0) && ltb limit end) ≡ false → end ≤ limit
end_inside end limit e = go (eqb end 0) refl e
  where
    go : (t : Bool) → eqb end 0 ≡ t → (not t && ltb limit end) ≡ false → end ≤ limit
    go true z q = omega (arith, eqb-true end 0 z)
    go false z q = ltb-false limit end q

-- the rules up to the splits of its unit passed
decide_past : (g : Given) (rows : List Split) (new : Split) (step : Step) → decide g rows new ≡ accepted step
    → Inside g new × (on_own g.room rows new (keep_if (of_unit new.section new.unit) rows) ≡ accepted step)
unfolding decide
decide_past g rows new step e =
    let at-20 = then_inv _ _ _ _ _ _ e in
    let at-21 = then_inv _ _ _ _ _ _ at-20.1 in
    (record { section = leb-false _ _ at-20.0; end = end_inside _ _ at-21.0 }, at-21.1)

pub record Joins (g : Given) (rows : List Split) (new j : Split) : Type 0 where
  pub inside : Inside g new
  pub old : Split
  pub own : keep_if (of_unit new.section new.unit) rows ≡ old ∷ []
  pub is : j ≡ joint_of new old
  pub range : some (in_range j) rows ≡ true

pub decide_joins : (g : Given) (rows : List Split) (new j : Split) → decide g rows new ≡ accepted (join j) → Joins g rows new j
decide_joins g rows new j e =
    let p = decide_past g rows new (join j) e in
    let o = own_joins g.room rows new _ j p.1 in
    record { inside = p.0; old = o.0; own = o.1; is = o.2; range = o.3 }

pub record Pushes (g : Given) (rows : List Split) (new : Split) : Type 0 where
  pub inside : Inside g new
  pub own : keep_if (of_unit new.section new.unit) rows ≡ []
  pub room : length rows < g.room

pub decide_pushes : (g : Given) (rows : List Split) (new : Split) → decide g rows new ≡ accepted push → Pushes g rows new
decide_pushes g rows new e =
    let p = decide_past g rows new push e in
    let o = own_pushes g.room rows new _ p.1 in
    record { inside = p.0; own = o.0; room = o.1 }

-- ---- the fuel suffices

-- a join leaves fewer splits
pub joined_shorter : (section from to unit : ℕ) (rows : List Split) → some (within section from to) rows ≡ true
    → length (joined section from to unit rows) < length rows
unfolding joined
joined_shorter section from to unit rows h =
    rw (length-map (keep_if (λ y. not (within section from to y)) rows) (renamed unit (within section from to) rows))
    (fewer_without (within section from to) rows h)

pub rounds_done : (k : ℕ) (g : Given) (rows : List Split) → rounds k g (done rows) ≡ accepted rows
unfolding rounds
rounds_done zero g rows = refl
rounds_done (suc k) g rows = refl

-- more fuel than splits: as good as any other
enough : (k m : ℕ) (g : Given) (rows : List Split) (new : Split) → length rows < k → length rows < m → rounds k g (again rows new) ≡ rounds m g (again rows new)
unfolding rounds ◌>>=◌
enough zero m g rows new h l = absurd (not-suc-le-zero h)
enough (suc k) zero g rows new h l = absurd (not-suc-le-zero l)
enough (suc k) (suc m) g rows new h l = go (decide g rows new) refl (λ r s a b. enough k m g r s a b)
  where
    go : (o : Outcome Step) → decide g rows new ≡ o
        → ((r : List Split) (s : Split) → length r < k → length r < m → rounds k g (again r s) ≡ rounds m g (again r s))
        → (o >>= λ step. rounds k g (carried rows new step)) ≡ (o >>= λ step. rounds m g (carried rows new step))
    go (refused number section address) e ih = refl
    go (accepted keep) e ih = rounds_done k g rows ∙ sym (rounds_done m g rows)
    go (accepted push) e ih = rounds_done k g (pushed new rows) ∙ sym (rounds_done m g (pushed new rows))
    go (accepted (join j)) e ih =
        let q = joined_shorter j.section j.start j.end j.unit rows (decide_joins g rows new j e).range in
        ih (joined j.section j.start j.end j.unit rows) j (omega arith) (omega arith)

-- what follows a round
unfoldable pub onward : Given → Next → Outcome (List Split)
onward g (done rows) = accepted rows
onward g (again rows new) = merge_one g rows new

-- THEOREM: the merge of a split is a round and, where it goes on, the merge of the joint split into what is left
pub merge_round : (g : Given) (rows : List Split) (new : Split)
    → merge_one g rows new ≡ (decide g rows new >>= λ step. onward g (carried rows new step))
unfolding merge_one rounds ◌>>=◌ onward
merge_round g rows new = go (decide g rows new) refl
  where
    go : (o : Outcome Step) → decide g rows new ≡ o
        → (o >>= λ step. rounds (length rows) g (carried rows new step)) ≡ (o >>= λ step. onward g (carried rows new step))
    go (refused number section address) e = refl
    go (accepted keep) e = rounds_done (length rows) g rows
    go (accepted push) e = rounds_done (length rows) g (pushed new rows)
    go (accepted (join j)) e =
        let r = joined j.section j.start j.end j.unit rows in
        let q : length r < length rows = joined_shorter j.section j.start j.end j.unit rows (decide_joins g rows new j e).range in
        enough (length rows) (suc (length r)) g r j q (omega arith)

-- ---- a round, by what it decides
module _ (g : Given) (rows : List Split) (new : Split) where
  pub round_refused : (number section address : ℕ) → decide g rows new ≡ refused number section address → merge_one g rows new ≡ refused number section address
  unfolding ◌>>=◌
  round_refused number section address e = merge_round g rows new ∙ ap (λ (o : Outcome Step). o >>= λ step. onward g (carried rows new step)) e

  pub round_keep : decide g rows new ≡ accepted keep → merge_one g rows new ≡ accepted rows
  unfolding ◌>>=◌ onward
  round_keep e = merge_round g rows new ∙ ap (λ (o : Outcome Step). o >>= λ step. onward g (carried rows new step)) e

  pub round_push : decide g rows new ≡ accepted push → merge_one g rows new ≡ accepted (pushed new rows)
  unfolding ◌>>=◌ onward
  round_push e = merge_round g rows new ∙ ap (λ (o : Outcome Step). o >>= λ step. onward g (carried rows new step)) e

  pub round_join : (j : Split) → decide g rows new ≡ accepted (join j)
      → merge_one g rows new ≡ merge_one g (joined j.section j.start j.end j.unit rows) j
  unfolding ◌>>=◌ onward
  round_join j e = merge_round g rows new ∙ ap (λ (o : Outcome Step). o >>= λ step. onward g (carried rows new step)) e

-- ---- the partial splits
pub all_refused : (g : Given) (rows : List Split) (new : Split) (later : List Split) (number section address : ℕ)
    → merge_one g rows new ≡ refused number section address → merge_all g rows (new ∷ later) ≡ refused number section address
unfolding merge_all ◌>>=◌
all_refused g rows new later number section address e = ap (λ (o : Outcome (List Split)). o >>= λ r. merge_all g r later) e

pub all_on : (g : Given) (rows rows' : List Split) (new : Split) (later : List Split) → merge_one g rows new ≡ accepted rows'
    → merge_all g rows (new ∷ later) ≡ merge_all g rows' later
unfolding merge_all ◌>>=◌
all_on g rows rows' new later e = ap (λ (o : Outcome (List Split)). o >>= λ r. merge_all g r later) e

pub all_done : (g : Given) (rows : List Split) → merge_all g rows [] ≡ accepted rows
unfolding merge_all
all_done g rows = refl

-- .. the partial splits of a list, from number i on
module _ (b places : List ℕ) where
  abbrev pub partials_from : ℕ → List Split
  partials_from i = tabulate (λ k. partial_numbered b k (get_or places k 0)) i (length places - i)

  module _ (g : Given) (rows : List Split) (i : ℕ) (h : i < length places) (new : Split) (e : new ≡ partial_numbered b i (get_or places i 0)) where
    from_here : merge_all g rows (partials_from i) ≡ merge_all g rows (new ∷ partials_from (i + 1))
    from_here =
        ap (merge_all g rows) (rest-cons (λ k. partial_numbered b k (get_or places k 0)) i (length places) h)
        ∙ ap (λ (s : Split). merge_all g rows (s ∷ partials_from (i + 1))) (sym e)

    pub places_refused : {number section address : ℕ} → merge_one g rows new ≡ refused number section address
        → merge_all g rows (partials_from i) ≡ refused number section address
    places_refused q = from_here ∙ all_refused g rows new _ _ _ _ q

    pub places_on : {rows' : List Split} → merge_one g rows new ≡ accepted rows' → merge_all g rows (partials_from i) ≡ merge_all g rows' (partials_from (i + 1))
    places_on q = from_here ∙ all_on g rows _ new _ q

  pub places_done : (g : Given) (rows : List Split) (i : ℕ) → length places ≤ i → merge_all g rows (partials_from i) ≡ accepted rows
  places_done g rows i h =
      ap (merge_all g rows) (rest-none (λ k. partial_numbered b k (get_or places k 0)) i (length places) h) ∙ all_done g rows
