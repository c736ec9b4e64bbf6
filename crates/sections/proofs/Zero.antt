-- Whether bytes are zero, byte by byte from the front; a range past the end holds none. Assumes nothing.
use mathlib.Core.Path.{◌≡◌, refl}
use mathlib.Core.List.{List, [], ◌∷◌}
use mathlib.Core.Bool.{Bool, true, false, ◌&&◌, false≢true}
use native.Mathlib.Nat.{le_of_suc-le-suc, zero-lt-suc}
use Rattle.std.proofs.Common.{suc-le-suc}
use borrow.Author.Tests.{eqb-true, eqb-false}
use Rattle.std.specs.List.{All}
use Rattle.std.specs.Bool.{Decides}
use Rattle.std.proofs.lemmas.List.Elements.{All-nil}
use Prim.Native.Nat.{ℕ, zero, suc, ◌-◌, ◌≤◌}
use lib.Dec.{eqb}
use lib.ListN.{length, take, drop_of_length-le}
use Rattle.sections.specs.Bytes.{all_zero, zero_between}

none_zero : (m : ℕ) → all_zero (take m []) ≡ true
unfolding all_zero
none_zero zero = refl
none_zero (suc m) = refl

-- what the definition tests
pub all_zero_decides : (l : List ℕ) → Decides (all_zero l) (All (λ (x : ℕ). x ≡ 0) l)
unfolding all_zero
all_zero_decides [] = (λ e. All-nil (λ (x : ℕ). x ≡ 0), λ p. refl)
all_zero_decides (x ∷ l) = go (eqb x 0) refl (all_zero_decides l)
  where
    go : (t : Bool) → eqb x 0 ≡ t → Decides (all_zero l) (All (λ (x : ℕ). x ≡ 0) l) → Decides (t && all_zero l) (All (λ (x : ℕ). x ≡ 0) (x ∷ l))
    go true e p = (λ q. at (eqb-true x 0 e) (p.0 q), λ q. p.1 (λ k d h. q (suc k) d (suc-le-suc h)))
      where
        at : x ≡ 0 → All (λ (x : ℕ). x ≡ 0) l → All (λ (x : ℕ). x ≡ 0) (x ∷ l)
        at z q zero d h = z
        at z q (suc k) d h = q k d (le_of_suc-le-suc h)
    go false e p = (λ q. absurd (false≢true q), λ q. absurd (eqb-false x 0 e (q zero 0 (zero-lt-suc _))))

module _ (l : List ℕ) (i : ℕ) where
  pub zero_past : (to : ℕ) → length l ≤ i → zero_between l i to ≡ true
  unfolding all_zero
  zero_past to h = rw (drop_of_length-le l h) (none_zero (to - i))
