-- What holds of each row after a push and after a join, and how many rows a push leaves. Assumes nothing.
use mathlib.Core.Path.{◌≡◌, refl, ap, ◌∙◌}
use mathlib.Core.List.{List, [], ◌∷◌, map}
use mathlib.Core.Bool.{Bool, true, false, cond, not, ◌&&◌}
use Prim.Native.Nat.{ℕ, suc}
use lib.Dec.{eqb}
use lib.ListN.{length}
use Rattle.lists.specs.Rows.{some}
use Rattle.lists.specs.InsertBy.{insert_by}
use Rattle.lists.specs.Sort.{All, none, each}
use Rattle.lists.proofs.All.{all_keep}
use Rattle.lists.proofs.Each.{all_insert_by, length-insert_by}
use Rattle.obj.specs.declared.Split.{Split}
use Rattle.splits.specs.Updates.{with_unit}
use Rattle.splits.specs.Questions.{within}
use Rattle.split_edits.specs.Edits.{together, after, stops, grouped, pushed, renamed, joined}

module _ {P : Split → Type 0} where
  all_grouped : (section start : ℕ) {l : List Split} → All P l → All P (grouped section start l)
  unfolding grouped
  all_grouped section start none = none
  all_grouped section start (each {x = y} {l} q r) = go (together section start y) (all_grouped section start r)
    where
      go : (t : Bool) → All P (grouped section start l)
          → All P (cond t (insert_by (stops section start y.end) y (grouped section start l)) (y ∷ grouped section start l))
      go true ih = all_insert_by (stops section start y.end) y q ih
      go false ih = each q ih

  pub all_pushed : (s : Split) {l : List Split} → P s → All P l → All P (pushed s l)
  unfolding pushed
  all_pushed s h q = all_insert_by (after s) s h (all_grouped s.section s.start q)

  -- what a row keeps under the new name
  module _ (unit : ℕ) (named : (s : Split) → P s → P (with_unit unit s)) where
    renamed_keeps : (p : Split → Bool) (l : List Split) (s : Split) → P s → P (renamed unit p l s)
    unfolding renamed
    renamed_keeps p l s q = go (some (λ y. p y && eqb y.unit s.unit) l)
      where
        go : (t : Bool) → P (cond t (with_unit unit s) s)
        go true = named s q
        go false = q

    all_renamed : (p : Split → Bool) (l : List Split) {m : List Split} → All P m → All P (map (renamed unit p l) m)
    all_renamed p l none = none
    all_renamed p l (each {x = s} q r) = each (renamed_keeps p l s q) (all_renamed p l r)

    pub all_joined : (section from to : ℕ) (l : List Split) → All P l → All P (joined section from to unit l)
    unfolding joined
    all_joined section from to l q = all_renamed (within section from to) l (all_keep (λ y. not (within section from to y)) q)

length-grouped : (section start : ℕ) (l : List Split) → length (grouped section start l) ≡ length l
unfolding grouped
length-grouped section start [] = refl
length-grouped section start (y ∷ l) = go (together section start y) (length-grouped section start l)
  where
    go : (t : Bool) → length (grouped section start l) ≡ length l
        → length (cond t (insert_by (stops section start y.end) y (grouped section start l)) (y ∷ grouped section start l)) ≡ suc (length l)
    go true ih = length-insert_by (stops section start y.end) y (grouped section start l) ∙ ap suc ih
    go false ih = ap suc ih

-- a push is one row more
pub length-pushed : (s : Split) (l : List Split) → length (pushed s l) ≡ suc (length l)
unfolding pushed
length-pushed s l = length-insert_by (after s) s (grouped s.section s.start l) ∙ ap suc (length-grouped s.section s.start l)
