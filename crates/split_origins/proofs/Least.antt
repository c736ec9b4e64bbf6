-- A split's origin is the least of its row's list: a push brings a row of which it holds, the joint split has the smaller of two origins and both lists, and nothing else
-- changes an origin or a list. Assumes nothing.
use Prim.Native.Nat.{ℕ, zero, suc, ◌≤◌, ◌<◌, min}
use mathlib.Core.Path.{◌≡◌, refl, sym, ap, ap₂, subst, ◌∙◌}
use mathlib.Core.List.{List, [], ◌∷◌, ◌++◌, map, Memᴰ}
use mathlib.Core.Bool.{Bool, true, false, cond, not, ◌&&◌}
use native.Mathlib.Omega.{arith}
use borrow.Author.Tests.{ltb-true, ltb-false, le-ltb}
use lib.Dec.{eqb, ltb}
use lib.ListN.{length, get_or}
use Rattle.lists.specs.Bounds.{lower}
use Rattle.lists.specs.Rows.{keep_if, some}
use Rattle.lists.specs.InsertBy.{insert_by}
use Rattle.lists.specs.Outcome.{Outcome, accepted, ◌>>=◌}
use Rattle.lists.specs.Sort.{All, none, each}
use Rattle.lists.proofs.All.{all_append, all_keep, all_map}
use Rattle.lists.proofs.Each.{all_insert_by}
use Rattle.lists.proofs.Filter.{map_keep}
use Rattle.lists.proofs.Outcomes.{bind_inv, same_accepted}
use Rattle.obj.specs.declared.Split.{Split}
use Rattle.obj.specs.Nothing.{no_split}
use Rattle.splits.specs.Updates.{with_unit}
use Rattle.splits.specs.Questions.{within, of_unit}
use Rattle.split_edits.specs.Edits.{together, after, stops, renamed}
use Rattle.merge.specs.Merge.{Given, Step, keep, push, join, joint_of, decide}
use Rattle.merge.proofs.Rounds.{decide_joins}
use Rattle.split_origins.specs.Traced.{Traced, plain, splits_of, become, traced_grouped, traced_pushed, traced_joined, own_of, both_of, done, again, traced_carried, traced_rounds, traced_one, traced_all}
use Rattle.split_origins.specs.Origins.{least, Right, LeastOf, Told}
use Rattle.split_origins.proofs.Originated.{joint_origin}

-- ---- the least of several numbers
lower-min : (a b : ℕ) → lower a b ≡ min a b
lower-min a b = go (ltb a b) refl
  where
    go : (t : Bool) → ltb a b ≡ t → cond t a b ≡ min a b
    go true e = let h = ltb-true a b e in omega arith
    go false e = let h = ltb-false a b e in omega arith

lower_both : (a b c : ℕ) → lower a (lower b c) ≡ lower (lower a b) c
lower_both a b c =
    lower-min a (lower b c)
    ∙ ap (min a) (lower-min b c)
    ∙ (let e : min a (min b c) ≡ min (min a b) c = omega arith in e)
    ∙ ap (λ (n : ℕ). min n c) (sym (lower-min a b))
    ∙ sym (lower-min (lower a b) c)

least-most : (l : List ℕ) → least l ≤ 65535
unfolding least
least-most [] = omega arith
least-most (k ∷ l) = let e = lower-min k (least l) in let h = least-most l in omega arith

least-append : (a b : List ℕ) → least (a ++ b) ≡ lower (least a) (least b)
unfolding least
least-append [] b = let e = lower-min 65535 (least b) in let h = least-most b in let z : least b ≡ lower 65535 (least b) = omega arith in z
least-append (k ∷ a) b = ap (lower k) (least-append a b) ∙ lower_both k (least a) (least b)

least-below : (l : List ℕ) → All (λ k. least l ≤ k) l
unfolding least
least-below [] = none
least-below (k ∷ l) =
    let e = lower-min k (least l) in
    each (let z : lower k (least l) ≤ k = omega arith in z) (all_map (λ n h. let z : lower k (least l) ≤ n = omega (arith, h) in z) (least-below l))

-- of numbers below 65535 the least is one of them
least_one : (k : ℕ) (l : List ℕ) → All (λ n. n < 65535) (k ∷ l) → Memᴰ (least (k ∷ l)) (k ∷ l)
unfolding least
least_one k [] (each h none) =
    let e = lower-min k 65535 in Memᴰ.head (let z : lower k 65535 ≡ k = omega arith in z)
least_one k (j ∷ l) (each h q) = go (ltb k (least (j ∷ l))) (least_one j l q)
  where
    go : (t : Bool) → Memᴰ (least (j ∷ l)) (j ∷ l) → Memᴰ (cond t k (least (j ∷ l))) (k ∷ j ∷ l)
    go true m = Memᴰ.head refl
    go false m = Memᴰ.tail m

pub least-none : least [] ≡ 65535
unfolding least
least-none = refl

-- THEOREM: so the origin is 65535, or the least of the numbers
pub right_told : (r : Traced) → Right r → Told r
right_told r q = record {
  empty = λ e. q.is ∙ ap least e ∙ least-none;
  some = λ k l e.
      subst (λ (n : ℕ). LeastOf n r.numbers) (sym q.is)
      (record {
        one = subst (λ (m : List ℕ). Memᴰ (least m) m) (sym e) (least_one k l (subst (All (λ n. n < 65535)) e q.low));
        lowest = least-below r.numbers;
      });
}

-- ---- a push
all_grouped : (section start : ℕ) {l : List Traced} → All Right l → All Right (traced_grouped section start l)
unfolding traced_grouped
all_grouped section start none = none
all_grouped section start (each {x = y} {l} q r) = go (together section start y.split) (all_grouped section start r)
  where
    go : (t : Bool) → All Right (traced_grouped section start l)
        → All Right (cond t (insert_by (λ z. stops section start y.split.end z.split) y (traced_grouped section start l)) (y ∷ traced_grouped section start l))
    go true ih = all_insert_by (λ z. stops section start y.split.end z.split) y q ih
    go false ih = each q ih

all_pushed : (s : Traced) {l : List Traced} → Right s → All Right l → All Right (traced_pushed s l)
unfolding traced_pushed
all_pushed s h q = all_insert_by (λ z. after s.split z.split) s h (all_grouped s.split.section s.split.start q)

-- ---- a join
renamed_origin : (unit : ℕ) (p : Split → Bool) (l : List Split) (s : Split) → (renamed unit p l s).origin ≡ s.origin
unfolding renamed
renamed_origin unit p l s = go (some (λ y. p y && eqb y.unit s.unit) l)
  where
    go : (t : Bool) → (cond t (with_unit unit s) s).origin ≡ s.origin
    go true = refl
    go false = refl

all_renamed : (unit : ℕ) (p : Split → Bool) (l : List Split) {m : List Traced} → All Right m → All Right (map (λ r. become (renamed unit p l r.split) r) m)
all_renamed unit p l none = none
all_renamed unit p l (each {x = r} q rest) = each (record { is = renamed_origin unit p l r.split ∙ q.is; low = q.low }) (all_renamed unit p l rest)

all_joined : (section from to unit : ℕ) (l : List Traced) → All Right l → All Right (traced_joined section from to unit l)
unfolding traced_joined
all_joined section from to unit l q = all_renamed unit (within section from to) (splits_of l) (all_keep (λ r. not (within section from to r.split)) q)

both_right : (new : Traced) (j old : Split) → Right new → j ≡ joint_of new.split old → (own : List Traced) → All Right own → splits_of own ≡ old ∷ []
    → Right (record { split = j; numbers = both_of new.numbers own })
unfolding both_of
both_right new j old n is [] none e = absurd (let z : 0 ≡ 1 = ap length e in omega arith)
both_right new j old n is (o ∷ more) (each r rest) e =
    let same : o.split ≡ old = ap (λ (l : List Split). get_or l 0 no_split) e in
    record {
      is =
          ap (λ (s : Split). s.origin) is
          ∙ joint_origin new.split old
          ∙ ap (λ (s : Split). lower new.split.origin s.origin) (sym same)
          ∙ ap₂ lower n.is r.is
          ∙ sym (least-append new.numbers o.numbers);
      low = all_append n.low r.low;
    }

rounds_done : (k : ℕ) (g : Given) (l : List Traced) → traced_rounds k g (done l) ≡ accepted l
unfolding traced_rounds
rounds_done zero g l = refl
rounds_done (suc k) g l = refl

module _ (g : Given) where
  joint_right : (rows : List Traced) (new : Traced) (j : Split) → All Right rows → Right new → decide g (splits_of rows) new.split ≡ accepted (join j)
      → Right (record { split = j; numbers = both_of new.numbers (own_of rows new.split) })
  joint_right rows new j q n d =
      let p = decide_joins g (splits_of rows) new.split j d in
      both_right new j p.old n p.is (own_of rows new.split) (all_keep (λ r. of_unit new.split.section new.split.unit r.split) q)
      (map_keep plain (of_unit new.split.section new.split.unit) rows ∙ p.own)

  -- ---- rounds, one after another
  rounds_right : (k : ℕ) (rows : List Traced) (new : Traced) (result : List Traced) → All Right rows → Right new → traced_rounds k g (again rows new) ≡ accepted result
      → All Right result
  unfolding traced_rounds
  rounds_right zero rows new result q n e = subst (All Right) (same_accepted e) q
  rounds_right (suc k) rows new result q n e =
      let b = bind_inv _ _ _ e in by_step b.0 b.1 (λ r s p m z. rounds_right k r s result p m z) b.2
    where
      by_step : (s : Step) → decide g (splits_of rows) new.split ≡ accepted s
          → ((r : List Traced) (x : Traced) → All Right r → Right x → traced_rounds k g (again r x) ≡ accepted result → All Right result)
          → traced_rounds k g (traced_carried rows new s) ≡ accepted result → All Right result
      by_step keep d ih z = subst (All Right) (same_accepted (sym (rounds_done k g rows) ∙ z)) q
      by_step push d ih z = subst (All Right) (same_accepted (sym (rounds_done k g (traced_pushed new rows)) ∙ z)) (all_pushed new n q)
      by_step (join j) d ih z = ih _ _ (all_joined j.section j.start j.end j.unit rows q) (joint_right rows new j q n d) z

  -- THEOREM: in every accepted merge of a split with its list, each row's origin is the least of its list, if that held of the rows and the split
  pub one_right : (rows : List Traced) (new : Traced) (result : List Traced) → All Right rows → Right new → traced_one g rows new ≡ accepted result → All Right result
  unfolding traced_one
  one_right rows new result q n e = rounds_right (suc (length rows)) rows new result q n e

  -- THEOREM: and so of a list of splits
  pub all_right : (rows partials result : List Traced) → All Right rows → All Right partials → traced_all g rows partials ≡ accepted result → All Right result
  unfolding traced_all
  all_right rows [] result q none e = subst (All Right) (same_accepted e) q
  all_right rows (new ∷ later) result q (each n p) e =
      let b = bind_inv _ _ _ e in all_right b.0 later result (one_right rows new b.0 q n b.1) p b.2
