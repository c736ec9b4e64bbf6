-- What holds of each element, `All`, by the elements' places, and of a list into which one was inserted before the first that passes a test, `insert_by`; and how
-- long that list is. Assumes nothing.
use mathlib.Core.Path.{◌≡◌, refl, ap}
use mathlib.Core.List.{List, [], ◌∷◌}
use mathlib.Core.Bool.{Bool, true, false, cond}
use Prim.Native.Nat.{ℕ, suc, ◌<◌, suc-le-suc}
use native.Mathlib.Nat.{zero-lt-suc}
use lib.ListN.{length, get_or}
use Rattle.lists.specs.InsertBy.{insert_by}
use Rattle.lists.specs.Sort.{All, none, each}

module _ {A : Type 0} {P : A → Type 0} where
  pub all_placed : (l : List A) (d : A) → ((k : ℕ) → k < length l → P (get_or l k d)) → All P l
  all_placed [] d h = none
  all_placed (x ∷ l) d h = each (h 0 (zero-lt-suc (length l))) (all_placed l d (λ k q. h (suc k) (suc-le-suc q)))

  pub all_insert_by : (p : A → Bool) (x : A) {l : List A} → P x → All P l → All P (insert_by p x l)
  unfolding insert_by
  all_insert_by p x h none = each h none
  all_insert_by p x h (each {x = y} {l} q r) = go (p y) (all_insert_by p x h r)
    where
      go : (t : Bool) → All P (insert_by p x l) → All P (cond t (x ∷ y ∷ l) (y ∷ insert_by p x l))
      go true ih = each h (each q r)
      go false ih = each q ih

pub length-insert_by : {A : Type 0} (p : A → Bool) (x : A) (l : List A) → length (insert_by p x l) ≡ suc (length l)
unfolding insert_by
length-insert_by p x [] = refl
length-insert_by {A} p x (y ∷ l) = go (p y) (length-insert_by p x l)
  where
    go : (t : Bool) → length (insert_by p x l) ≡ suc (length l) → length (cond t (x ∷ y ∷ l) (y ∷ insert_by p x l)) ≡ suc (suc (length l))
    go true ih = refl
    go false ih = ap suc ih
