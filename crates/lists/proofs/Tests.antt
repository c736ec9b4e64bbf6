-- Where the two arms of a test meet, what is known where none of several tests holds, and a test of two numbers the other way round. Assumes nothing.
use mathlib.Core.Path.{◌≡◌, refl, sym}
use mathlib.Core.List.{List, [], ◌∷◌}
use mathlib.Core.Bool.{Bool, true, false, cond, ◌&&◌, ◌||◌}
use Prim.Native.Nat.{ℕ, zero, suc}
use native.Mathlib.Omega.{arith}
use lib.Dec.{eqb}
use lib.ListN.{get_or}
use borrow.Author.Tests.{eqb-true, eqb-false, eq-eqb, ne_eqb}
use Rattle.std.proofs.lemmas.Bool.{or_parts}
use Rattle.lists.specs.Rows.{any_of, any_from}

-- where a test's arms meet: x is what the arm that was taken gives
module _ {A : Type 0} {b : Bool} {x : A} (t e : A) where
  pub by_true : b ≡ true → x ≡ t → x ≡ cond b t e
  by_true h p = rw h p

  pub by_false : b ≡ false → x ≡ e → x ≡ cond b t e
  by_false h p = rw h p

-- none of the tests holds
none_from_here : (t : Bool) (l : List Bool) (i : ℕ) → any_from t l ≡ false → get_or (t ∷ l) i false ≡ false
unfolding any_from
none_from_here t [] zero e = e
none_from_here t [] (suc i) e = refl
none_from_here t (u ∷ l) zero e = (or_parts t u (none_from_here (t || u) l 0 e)).0
none_from_here t (u ∷ l) (suc zero) e = (or_parts t u (none_from_here (t || u) l 0 e)).1
none_from_here t (u ∷ l) (suc (suc i)) e = none_from_here (t || u) l (suc i) e

pub none_of : (l : List Bool) (i : ℕ) → any_of l ≡ false → get_or l i false ≡ false
unfolding any_of
none_of [] i e = refl
none_of (t ∷ l) i e = none_from_here t l i e

-- none of four tests holds, or of six
pub none_of_four : (a b c d : Bool) → a ≡ false → b ≡ false → c ≡ false → d ≡ false → any_of (a ∷ b ∷ c ∷ d ∷ []) ≡ false
unfolding any_of any_from
none_of_four a b c d p q r s = rw (p, q, r, s)

pub none_of_six : (a b c d e f : Bool) → a ≡ false → b ≡ false → c ≡ false → d ≡ false → e ≡ false → f ≡ false → any_of (a ∷ b ∷ c ∷ d ∷ e ∷ f ∷ []) ≡ false
unfolding any_of any_from
none_of_six a b c d e f p q r s t u = rw (p, q, r, s, t, u)

-- not both tests hold, and the first does
pub and_false : (a b : Bool) → (a && b) ≡ false → a ≡ true → b ≡ false
and_false true b e h = e
and_false false b e h = absurd (let z : ◌≡◌ {A = ℕ} 0 1 = cc in omega arith)

-- two numbers are the same either way round
pub eqb_sym : (a b : ℕ) → eqb a b ≡ eqb b a
eqb_sym a b = go (eqb b a) refl
  where
    go : (t : Bool) → eqb b a ≡ t → eqb a b ≡ t
    go true e = eq-eqb a b (sym (eqb-true b a e))
    go false e = ne_eqb a b (λ q. eqb-false b a e (sym q))
