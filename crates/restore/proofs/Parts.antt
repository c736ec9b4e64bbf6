-- Lists: what a part of a list written over another gives, zeros, the members of a list, and tests beside each other. Assumes nothing.
use Prim.Native.Nat.{ℕ, zero, suc, ◌+◌, ◌≤◌, ◌<◌}
use mathlib.Core.Path.{◌≡◌, refl, sym, ap, ◌∙◌}
use mathlib.Core.List.{List, [], ◌∷◌, Memᴰ}
use mathlib.Core.Logic.{◌⊎◌, inl, inr}
use mathlib.Core.Bool.{Bool, true, false, ◌&&◌, false≢true}
use native.Mathlib.Omega.{arith}
use native.Mathlib.Decide.{ℕ_discrete}
use lib.Dec.{eqb}
use lib.ListN.{length, get_or, set, length-set}
use lib.Seq.{sets, get_or-set_same, get_or-set_other}
use borrow.Author.Tests.{eqb-true}
use Rattle.std.proofs.lemmas.Bool.{and_parts, cond-false}
use Rattle.lists.specs.Sort.{All, none, each}
use Rattle.lists.proofs.All.{all_map}
use Rattle.sections.specs.Bytes.{all_zero}

-- values that are those of `own` from i on, written from i on: what was right stays right, and what they cover is right
pub sets_right : (own vs under : List ℕ) (i k : ℕ) → ((j : ℕ) → j < length vs → get_or vs j 0 ≡ get_or own (i + j) 0)
    → k < length under → (get_or under k 0 ≡ get_or own k 0) ⊎ ((i ≤ k) × (k < i + length vs))
    → get_or (sets under i vs) k 0 ≡ get_or own k 0
sets_right own [] under i k r h (inl e) = e
sets_right own [] under i k r h (inr c) = absurd (omega arith)
sets_right own (v ∷ vs) under i k r h c =
    sets_right own vs (set under i v) (suc i) k
    (λ j l. r (suc j) (omega arith) ∙ ap (λ (x : ℕ). get_or own x 0) (omega arith))
    (rw (length-set under i v) h)
    (go (ℕ_discrete k i) c)
  where
    go : Dec (k ≡ i) → (get_or under k 0 ≡ get_or own k 0) ⊎ ((i ≤ k) × (k < i + suc (length vs)))
        → (get_or (set under i v) k 0 ≡ get_or own k 0) ⊎ ((suc i ≤ k) × (k < suc i + length vs))
    go (yes e) d =
        inl (rw e (get_or-set_same under i v 0 (rw e at h) ∙ r 0 (omega arith) ∙ ap (λ (x : ℕ). get_or own x 0) (omega arith)))
    go (no n) (inl e) = inl (get_or-set_other under i k v 0 n ∙ e)
    go (no n) (inr d) = inr (omega arith, omega arith)

-- a list of zeros has a zero everywhere
pub zero_at : (l : List ℕ) (k : ℕ) → all_zero l ≡ true → get_or l k 0 ≡ 0
unfolding all_zero
zero_at [] k e = refl
zero_at (b ∷ l) zero e = eqb-true b 0 (and_parts (eqb b 0) (all_zero l) e).0
zero_at (b ∷ l) (suc k) e = zero_at l k (and_parts (eqb b 0) (all_zero l) e).1

-- each element of a list is in it
pub all_members : {A : Type 0} (l : List A) → All (λ x. Memᴰ x l) l
all_members [] = none
all_members (x ∷ l) = each (Memᴰ.head refl) (all_map (λ y m. Memᴰ.tail m) (all_members l))

-- not both tests hold, and the second does
pub and_false_left : (a b : Bool) → (a && b) ≡ false → b ≡ true → a ≡ false
and_false_left true b e h = sym h ∙ e
and_false_left false b e h = refl
