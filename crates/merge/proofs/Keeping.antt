-- What a merge keeps: a property of tables that every push and every join keeps holds of the merged table. So for tables in which starts rise, for properties of
-- single splits (`Keeps`), and for the room. Assumes nothing.
use mathlib.Core.Path.{◌≡◌, sym, subst, ◌∙◌}
use mathlib.Core.List.{List, [], ◌∷◌}
use mathlib.Core.Bool.{Bool, true, false, cond}
use Prim.Native.Nat.{ℕ, zero, suc, ◌≤◌, ◌<◌}
use native.Mathlib.Omega.{arith}
use borrow.Author.Tests.{eqb-true}
use lib.Dec.{ltb}
use lib.ListN.{length}
use Rattle.std.proofs.lemmas.Bool.{and_parts}
use Rattle.lists.specs.Sort.{All, none, each}
use Rattle.lists.specs.Bounds.{lower}
use Rattle.lists.specs.Outcome.{accepted}
use Rattle.lists.proofs.All.{all_keep, all_any}
use Rattle.lists.proofs.Filter.{keep_passes}
use Rattle.lists.proofs.Outcomes.{bind_inv, same_accepted}
use Rattle.obj.specs.declared.Split.{Split}
use Rattle.splits.specs.Questions.{of_unit}
use Rattle.splits.specs.Rising.{Rising}
use Rattle.split_edits.specs.Edits.{pushed, joined}
use Rattle.split_edits.proofs.Order.{rising_pushed, rising_joined}
use Rattle.split_edits.proofs.Each.{all_pushed, all_joined, length-pushed}
use Rattle.merge.specs.Merge.{Given, Step, keep, push, join, joint_of, decide, again, carried, rounds, merge_one, merge_all}
use Rattle.merge.specs.Kept.{Inside, Keeps}
use Rattle.merge.proofs.Rounds.{Joins, Pushes, decide_joins, decide_pushes, joined_shorter, rounds_done}

-- ---- rounds, one after another

-- T holds of tables, N of the splits that are to be merged into them
module _ (g : Given) (T : List Split → Type 0) (N : Split → Type 0)
    (on-push : (rows : List Split) (new : Split) → T rows → N new → Pushes g rows new → T (pushed new rows))
    (on-join : (rows : List Split) (new j : Split) → T rows → N new → Joins g rows new j
    → T (joined j.section j.start j.end j.unit rows) × N j) where
  rounds_keep : (k : ℕ) (rows : List Split) (new : Split) (result : List Split) → T rows → N new → rounds k g (again rows new) ≡ accepted result → T result
  unfolding rounds
  rounds_keep zero rows new result t n e = subst T (same_accepted e) t
  rounds_keep (suc k) rows new result t n e =
      let b = bind_inv _ _ _ e in by_step b.0 b.1 (λ r s p q z. rounds_keep k r s result p q z) b.2
    where
      by_step : (s : Step) → decide g rows new ≡ accepted s
          → ((r : List Split) (x : Split) → T r → N x → rounds k g (again r x) ≡ accepted result → T result)
          → rounds k g (carried rows new s) ≡ accepted result → T result
      by_step keep d ih q = subst T (same_accepted (sym (rounds_done k g rows) ∙ q)) t
      by_step push d ih q = subst T (same_accepted (sym (rounds_done k g (pushed new rows)) ∙ q)) (on-push rows new t n (decide_pushes g rows new d))
      by_step (join j) d ih q = let h = on-join rows new j t n (decide_joins g rows new j d) in ih _ j h.0 h.1 q

  one_keeps : (rows : List Split) (new : Split) (result : List Split) → T rows → N new → merge_one g rows new ≡ accepted result → T result
  unfolding merge_one
  one_keeps rows new result t n e = rounds_keep (suc (length rows)) rows new result t n e

  all_keeps : (rows partials result : List Split) → T rows → All N partials → merge_all g rows partials ≡ accepted result → T result
  unfolding merge_all
  all_keeps rows [] result t none e = subst T (same_accepted e) t
  all_keeps rows (new ∷ later) result t (each n q) e =
      let b = bind_inv _ _ _ e in all_keeps b.0 later result (one_keeps rows new b.0 t n b.1) q b.2

-- ---- (a) tables in which starts rise
module _ (g : Given) where
  rising_on_push : (rows : List Split) (new : Split) → Rising rows → Unit {0} → Pushes g rows new → Rising (pushed new rows)
  rising_on_push rows new r n p = rising_pushed new rows r

  rising_on_join : (rows : List Split) (new j : Split) → Rising rows → Unit {0} → Joins g rows new j
      → Rising (joined j.section j.start j.end j.unit rows) × Unit {0}
  rising_on_join rows new j r n p = (rising_joined j.section j.start j.end j.unit rows r, tt)

  -- THEOREM: the merge of a split keeps a table rising
  pub one_rising : (rows : List Split) (new : Split) (result : List Split) → Rising rows → merge_one g rows new ≡ accepted result → Rising result
  one_rising rows new result r e = one_keeps g Rising (λ s. Unit {0}) rising_on_push rising_on_join rows new result r tt e

  -- THEOREM: and so does that of a partial list
  pub all_rising : (rows partials result : List Split) → Rising rows → merge_all g rows partials ≡ accepted result → Rising result
  all_rising rows partials result r e = all_keeps g Rising (λ s. Unit {0}) rising_on_push rising_on_join rows partials result r (all_any (λ s. tt) partials) e

-- ---- (b) properties of single splits
module _ (P : Split → Type 0) (keeps : Keeps P) where
  -- the one split of a list of one
  only : {Q : Split → Type 0} {old : Split} → All Q (old ∷ []) → Q old
  only (each q none) = q

  -- it is of the new split's section
  same_section : (new old : Split) → of_unit new.section new.unit old ≡ true → new.section ≡ old.section
  same_section new old e = sym (eqb-true _ _ (and_parts _ _ e).0)

  module _ (g : Given) where
    kept_on_push : (rows : List Split) (new : Split) → All P rows → (Inside g new → P new) → Pushes g rows new → All P (pushed new rows)
    kept_on_push rows new q n p = all_pushed new (n p.inside) q

    joint_kept : (rows : List Split) (new j : Split) → All P rows → (Inside g new → P new) → Joins g rows new j → P j
    joint_kept rows new j q n p =
        let own = of_unit new.section new.unit in
        let old = only (subst (All P) p.own (all_keep own q)) in
        let there = only (subst (All (λ y. own y ≡ true)) p.own (keep_passes own rows)) in
        subst P (sym p.is) (keeps.joint new p.old (same_section new p.old there) (n p.inside) old)

    kept_on_join : (rows : List Split) (new j : Split) → All P rows → (Inside g new → P new) → Joins g rows new j
        → All P (joined j.section j.start j.end j.unit rows) × (Inside g j → P j)
    kept_on_join rows new j q n r = let h = joint_kept rows new j q n r in (all_joined j.unit (λ s p. keeps.renamed s j p h) j.section j.start j.end rows q, λ _. h)

    -- THEOREM: what holds of the rows, and of the new split if it passes 20 and 21, holds of the merged rows
    pub one_kept : (rows : List Split) (new : Split) (result : List Split) → All P rows → (Inside g new → P new) → merge_one g rows new ≡ accepted result
        → All P result
    one_kept rows new result q n e = one_keeps g (All P) (λ s. Inside g s → P s) kept_on_push kept_on_join rows new result q n e

    -- THEOREM: and so for a partial list
    pub all_kept : (rows partials result : List Split) → All P rows → All (λ s. Inside g s → P s) partials → merge_all g rows partials ≡ accepted result
        → All P result
    all_kept rows partials result q n e = all_keeps g (All P) (λ s. Inside g s → P s) kept_on_push kept_on_join rows partials result q n e

-- ---- (c) the room
module _ (g : Given) where
  few_on_push : (rows : List Split) (new : Split) → length rows ≤ g.room → Unit {0} → Pushes g rows new → length (pushed new rows) ≤ g.room
  few_on_push rows new h n p = omega (arith, length-pushed new rows, p.room)

  few_on_join : (rows : List Split) (new j : Split) → length rows ≤ g.room → Unit {0} → Joins g rows new j
      → (length (joined j.section j.start j.end j.unit rows) ≤ g.room) × Unit {0}
  few_on_join rows new j h n p = (omega (arith, joined_shorter j.section j.start j.end j.unit rows p.range), tt)

  -- THEOREM: the rows never pass the room
  pub one_few : (rows : List Split) (new : Split) (result : List Split) → length rows ≤ g.room → merge_one g rows new ≡ accepted result → length result ≤ g.room
  one_few rows new result h e = one_keeps g (λ l. length l ≤ g.room) (λ s. Unit {0}) few_on_push few_on_join rows new result h tt e

  pub all_few : (rows partials result : List Split) → length rows ≤ g.room → merge_all g rows partials ≡ accepted result → length result ≤ g.room
  all_few rows partials result h e = all_keeps g (λ l. length l ≤ g.room) (λ s. Unit {0}) few_on_push few_on_join rows partials result h (all_any (λ s. tt) partials) e

-- ---- (d) origins below a bound
lower-below : (a b m : ℕ) → a < m → b < m → lower a b < m
lower-below a b m h q = go (ltb a b)
  where
    go : (t : Bool) → cond t a b < m
    go true = h
    go false = q

joint_below : (m : ℕ) (new old : Split) → new.origin < m → old.origin < m → (joint_of new old).origin < m
unfolding joint_of
joint_below m new old h q = lower-below new.origin old.origin m h q

pub origins_keep : (m : ℕ) → Keeps (λ s. s.origin < m)
origins_keep m = record { joint = λ new old e p q. joint_below m new old p q; renamed = λ s named p q. p }
