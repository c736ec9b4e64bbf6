-- Units that no row around has, or that are the one name that may stay: what two searches for a unit tell. Assumes nothing.
use mathlib.Core.Path.{◌≡◌, ap, ◌∙◌}
use mathlib.Core.List.{List}
use mathlib.Core.Bool.{false}
use Prim.Native.Nat.{ℕ, ◌+◌, ◌-◌, ◌≤◌, ◌<◌}
use native.Mathlib.Omega.{arith}
use borrow.Author.Tests.{eqb-false}
use lib.Dec.{eqb}
use lib.ListN.{length, get_or, take, drop}
use Rattle.lists.specs.Rows.{some}
use Rattle.lists.proofs.Parts.{get_or-part}
use Rattle.lists.proofs.Some.{some_false}
use Rattle.splits.proofs.Blocks.{length_part}
use Rattle.split_joins.specs.Joins.{Alone}

-- no unit of a part is v: place k has another
other_there : (l : List ℕ) (at n v k : ℕ) → at + n ≤ length l → some (λ (x : ℕ). eqb x v) (take n (drop at l)) ≡ false → at ≤ k → k < at + n → get_or l k 0 ≡ v → ⊥
other_there l at n v k h p low high e =
    let place : at + (k - at) ≡ k = omega arith in
    eqb-false _ v (some_false (λ (x : ℕ). eqb x v) (take n (drop at l)) (k - at) 0 p (omega (arith, length_part l at n h)))
    (get_or-part l at n (k - at) 0 (omega arith) ∙ ap (λ (j : ℕ). get_or l j 0) place ∙ e)

module _ (l : List ℕ) (n first stop unit v : ℕ) where
  -- it is the name that may stay
  pub alone_same : v ≡ unit → Alone (λ (k : ℕ). get_or l k 0) n first stop unit v
  alone_same q = record { before = λ k h e. q; behind = λ k h m e. q }

  -- no row around has it
  pub alone_none : first ≤ length l → stop ≤ n → n ≤ length l → some (λ (x : ℕ). eqb x v) (take first l) ≡ false → some (λ (x : ℕ). eqb x v) (take (n - stop) (drop stop l)) ≡ false
      → Alone (λ (k : ℕ). get_or l k 0) n first stop unit v
  alone_none f m q front back = record {
    before = λ k h e. absurd (other_there l 0 first v k (omega arith) front (omega arith) (omega arith) e);
    behind = λ k h j e. absurd (other_there l stop (n - stop) v k (omega arith) back h (omega arith) e);
  }
