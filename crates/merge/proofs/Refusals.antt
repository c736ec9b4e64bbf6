-- When the merge refuses by 26 and 27. 26 comes exactly where a round goes on but its joint range holds no split; 27 never with a place free. Assumes nothing.
use mathlib.Core.Path.{◌≡◌, refl, sym, ap, ◌∙◌}
use mathlib.Core.List.{List, [], ◌∷◌}
use mathlib.Core.Logic.{◌≢◌}
use mathlib.Core.Bool.{Bool, true, false, not, ◌&&◌}
use Prim.Native.Nat.{ℕ, zero, suc, ◌≤◌, ◌<◌}
use native.Mathlib.Omega.{arith}
use borrow.Author.Tests.{not-true, leb-true, leb-false, ltb-false, le-ltb, lt-leb}
use lib.Dec.{eqb, leb, ltb}
use lib.ListN.{length, get_or}
use Rattle.lists.specs.Rows.{keep_if, some}
use Rattle.lists.specs.Outcome.{Outcome, accepted, refused, refuse, ◌>>=◌, ◌>>◌}
use Rattle.lists.proofs.Outcomes.{not_both, fails, passes}
use Rattle.obj.specs.declared.Split.{Split}
use Rattle.splits.specs.Questions.{is_auto, of_unit, is_by_hand, is_of_other}
use Rattle.split_edits.specs.Edits.{joined}
use Rattle.merge.specs.Merge.{Given, Step, keep, push, join, unchanged_if, joint_of, in_range, on_joint, on_old, on_own, decide, again, carried, rounds, merge_one}
use Rattle.merge.specs.Kept.{Inside, GoesOn}
use Rattle.merge.proofs.Rounds.{goes_on, end_inside, decide_joins, joined_shorter, rounds_done}

-- ---- a chain that is refused

-- a refusal of another number is not it
not_this : {A : Type 0} {n m s t a b : ℕ} → n ≢ m → ◌≡◌ {A = Outcome A} (refused n s a) (refused m t b) → ⊥
not_this h e = h (cc e)

-- the refusal is not this rule's: its test failed, and it is that of the rest
later : {B : Type 0} (number section address : ℕ) (t : Bool) (m : Outcome B) {n s a : ℕ} → number ≢ n → (refuse number section address t >> m) ≡ refused n s a
    → (t ≡ false) × (m ≡ refused n s a)
unfolding ◌>>◌ refuse
later number section address true m h e = absurd (not_this h e)
later number section address false m h e = (refl, e)

-- a rule that ends a round refuses nothing
later_on : (t : Bool) (m : Outcome Step) {n s a : ℕ} → unchanged_if t m ≡ refused n s a → (t ≡ false) × (m ≡ refused n s a)
unfolding unchanged_if
later_on true m e = absurd (not_both (sym e))
later_on false m e = (refl, e)

accepted_not : {A : Type 0} {x : A} {n s a : ℕ} → ◌≡◌ {A = Outcome A} (accepted x) (refused n s a) → ⊥
accepted_not e = not_both (sym e)

-- the last rule of a chain: the refusal is its own
this_one : {B : Type 0} (number section address : ℕ) (t : Bool) (b : B) {n s a : ℕ} → (refuse number section address t >> accepted b) ≡ refused n s a → t ≡ true
unfolding ◌>>◌ refuse
this_one number section address true b e = refl
this_one number section address false b e = absurd (accepted_not e)

-- ---- 26
module _ (rows : List Split) (new joint : Split) where
  joint_26 : {s a : ℕ} → on_joint rows new joint ≡ refused 26 s a
      → (joint.start ≤ joint.end) × ((is_auto new && some (is_by_hand (in_range joint)) rows) ≡ false) × (some (is_of_other (in_range joint) new.unit) rows ≡ false)
      × (some (in_range joint) rows ≡ false)
  unfolding on_joint
  joint_26 e =
      let at-11 = later 11 _ _ _ _ (λ z. omega arith) e in
      let at-hand = later_on _ _ at-11.1 in
      let at-25 = later 25 _ _ _ _ (λ z. omega arith) at-hand.1 in
      (ltb-false _ _ at-11.0, at-hand.0, at-25.0, not-true _ (this_one 26 _ _ _ _ at-25.1))

module _ (g : Given) (rows : List Split) (new : Split) where
  old_26 : (old : Split) → keep_if (of_unit new.section new.unit) rows ≡ old ∷ [] → Inside g new → {s a : ℕ} → on_old rows new old ≡ refused 26 s a
      → GoesOn g rows new old × (some (in_range (joint_of new old)) rows ≡ false)
  unfolding on_old
  old_26 old q i e =
      let at-23 = later 23 _ _ _ _ (λ z. omega arith) e in
      let at-24 = later 24 _ _ _ _ (λ z. omega arith) at-23.1 in
      let at-inside = later_on _ _ at-24.1 in
      let j = joint_26 rows new (joint_of new old) at-inside.1 in (
        record { inside = i; own = q; aligned = at-23.0; common = at-24.0; outside = at-inside.0; forward = j.0; hand = j.1; other = j.2 },
        j.3,
      )

  own_26 : (own : List Split) → keep_if (of_unit new.section new.unit) rows ≡ own → Inside g new → {s a : ℕ} → on_own g.room rows new own ≡ refused 26 s a
      → (old : Split) × GoesOn g rows new old × (some (in_range (joint_of new old)) rows ≡ false)
  unfolding on_own
  own_26 [] q i e = absurd (accepted_not (later 27 _ _ _ _ (λ z. omega arith) e).1)
  own_26 (old ∷ []) q i e = let o = old_26 old q i e in (old, o.0, o.1)
  own_26 (old ∷ second ∷ more) q i e = absurd (not_this (λ z. omega arith) e)

  -- THEOREM: where 26 is given, the round went on, but its joint range holds no split
  pub only_26 : {s a : ℕ} → decide g rows new ≡ refused 26 s a → (old : Split) × GoesOn g rows new old × (some (in_range (joint_of new old)) rows ≡ false)
  unfolding decide
  only_26 e =
      let at-20 = later 20 _ _ _ _ (λ z. omega arith) e in
      let at-21 = later 21 _ _ _ _ (λ z. omega arith) at-20.1 in
      own_26 _ refl (record { section = leb-false _ _ at-20.0; end = end_inside _ _ at-21.0 }) at-21.1

  -- 20 and 21 let it pass
  past_21 : Inside g new → decide g rows new ≡ on_own g.room rows new (keep_if (of_unit new.section new.unit) rows)
  unfolding decide
  past_21 i = passes 20 _ _ _ _ (lt-leb _ _ i.section) ∙ passes 21 _ _ _ _ (end_passes (not (eqb new.end 0)))
    where
      end_passes : (t : Bool) → (t && ltb (get_or g.ends new.section 0) new.end) ≡ false
      end_passes true = le-ltb _ _ i.end
      end_passes false = refl

  -- THEOREM: and there 26 is given
  pub gives_26 : (old : Split) → GoesOn g rows new old → some (in_range (joint_of new old)) rows ≡ false → decide g rows new ≡ refused 26 new.section new.start
  unfolding on_own on_old on_joint
  gives_26 old w e =
      past_21 w.inside
      ∙ ap (on_own g.room rows new) w.own
      ∙ passes 23 _ _ _ _ w.aligned
      ∙ passes 24 _ _ _ _ w.common
      ∙ goes_on _ _ w.outside
      ∙ passes 11 _ _ _ _ (le-ltb _ _ w.forward)
      ∙ goes_on _ _ w.hand
      ∙ passes 25 _ _ _ _ w.other
      ∙ fails 26 _ _ _ _ (ap not e)

-- ---- 27
joint_not_27 : (rows : List Split) (new joint : Split) {s a : ℕ} → on_joint rows new joint ≡ refused 27 s a → ⊥
unfolding on_joint
joint_not_27 rows new joint e =
    let at-11 = later 11 _ _ _ _ (λ z. omega arith) e in
    let at-hand = later_on _ _ at-11.1 in
    let at-25 = later 25 _ _ _ _ (λ z. omega arith) at-hand.1 in
    accepted_not (later 26 _ _ _ _ (λ z. omega arith) at-25.1).1

old_not_27 : (rows : List Split) (new old : Split) {s a : ℕ} → on_old rows new old ≡ refused 27 s a → ⊥
unfolding on_old
old_not_27 rows new old e =
    let at-23 = later 23 _ _ _ _ (λ z. omega arith) e in
    let at-24 = later 24 _ _ _ _ (λ z. omega arith) at-23.1 in
    joint_not_27 rows new (joint_of new old) (later_on _ _ at-24.1).1

own_27 : (room : ℕ) (rows : List Split) (new : Split) (own : List Split) {s a : ℕ} → on_own room rows new own ≡ refused 27 s a → (own ≡ []) × (room ≤ length rows)
unfolding on_own
own_27 room rows new [] e = (refl, leb-true _ _ (this_one 27 _ _ _ _ e))
own_27 room rows new (old ∷ []) e = absurd (old_not_27 rows new old e)
own_27 room rows new (old ∷ second ∷ more) e = absurd (not_this (λ z. omega arith) e)

-- THEOREM: a round gives 27 only where the unit has no split in the section, and no place is free
pub only_27 : (g : Given) (rows : List Split) (new : Split) {s a : ℕ} → decide g rows new ≡ refused 27 s a
    → (keep_if (of_unit new.section new.unit) rows ≡ []) × (g.room ≤ length rows)
unfolding decide
only_27 g rows new e =
    let at-20 = later 20 _ _ _ _ (λ z. omega arith) e in
    let at-21 = later 21 _ _ _ _ (λ z. omega arith) at-20.1 in
    own_27 g.room rows new _ at-21.1

module _ (g : Given) where
  -- with a place free no round gives it, and after a join a place is free
  rounds_free : (k : ℕ) (rows : List Split) (new : Split) {s a : ℕ} → length rows < g.room → rounds k g (again rows new) ≡ refused 27 s a → ⊥
  unfolding rounds ◌>>=◌
  rounds_free zero rows new h e = accepted_not e
  rounds_free (suc k) rows new h e = go (decide g rows new) refl (λ r x l q. rounds_free k r x l q) e
    where
      go : (o : Outcome Step) → decide g rows new ≡ o → {s a : ℕ}
          → ((r : List Split) (x : Split) → length r < g.room → rounds k g (again r x) ≡ refused 27 s a → ⊥)
          → (o >>= λ step. rounds k g (carried rows new step)) ≡ refused 27 s a → ⊥
      go (refused n t b) d ih q =
          let it : n ≡ 27 = cc q in
          let full = (only_27 g rows new (d ∙ ap (λ (m : ℕ). refused m t b) it)).1 in
          omega arith
      go (accepted keep) d ih q = accepted_not (sym (rounds_done k g rows) ∙ q)
      go (accepted push) d ih q = accepted_not (sym (rounds_done k g _) ∙ q)
      go (accepted (join j)) d ih q =
          let less = joined_shorter j.section j.start j.end j.unit rows (decide_joins g rows new j d).range in
          ih (joined j.section j.start j.end j.unit rows) j (omega arith) q

  -- THEOREM: the merge of a split gives 27 never with a place free
  pub full_27 : (rows : List Split) (new : Split) {s a : ℕ} → merge_one g rows new ≡ refused 27 s a → g.room ≤ length rows
  unfolding merge_one
  full_27 rows new e = go (leb g.room (length rows)) refl
    where
      go : (t : Bool) → leb g.room (length rows) ≡ t → g.room ≤ length rows
      go true q = leb-true _ _ q
      go false q = absurd (rounds_free (suc (length rows)) rows new (leb-false _ _ q) e)
