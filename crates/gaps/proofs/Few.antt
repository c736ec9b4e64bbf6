-- A list whose keys rise and stand all in a list of numbers is no longer than that list: each key is taken out of it in turn. Assumes nothing.
use mathlib.Core.Path.{◌≡◌, refl, sym, ap, ◌∙◌}
use mathlib.Core.List.{List, [], ◌∷◌}
use mathlib.Core.Bool.{Bool, true, false, cond}
use mathlib.Core.Logic.{inl, inr, ◌≢◌}
use Prim.Native.Nat.{ℕ, suc, ◌≤◌, zero-le}
use native.Mathlib.Omega.{arith}
use lib.Dec.{eqb}
use lib.ListN.{length}
use borrow.Author.Tests.{eqb-true, eqb-false}
use Rattle.lists.specs.Sort.{All, each, Rising}
use Rattle.lists.specs.Members.{In}
use Rattle.lists.proofs.All.{all_map, all_both}

-- the list without the first x
unfoldable taken : ℕ → List ℕ → List ℕ
taken x [] = []
taken x (y ∷ m) = cond (eqb x y) m (y ∷ taken x m)

length_taken : (x : ℕ) (m : List ℕ) → In x m → suc (length (taken x m)) ≡ length m
unfolding taken
length_taken x [] i = absurd i
length_taken x (y ∷ m) i = go (eqb x y) refl i (length_taken x m)
  where
    go : (t : Bool) → eqb x y ≡ t → In x (y ∷ m) → (In x m → suc (length (taken x m)) ≡ length m) → suc (length (cond t m (y ∷ taken x m))) ≡ suc (length m)
    go true e j later = refl
    go false e (inl q) later = absurd (eqb-false x y e q)
    go false e (inr j) later = ap suc (later j)

in_taken : (v x : ℕ) (m : List ℕ) → In v m → v ≢ x → In v (taken x m)
unfolding taken
in_taken v x [] i h = absurd i
in_taken v x (y ∷ m) i h = go (eqb x y) refl i (in_taken v x m)
  where
    go : (t : Bool) → eqb x y ≡ t → In v (y ∷ m) → (In v m → v ≢ x → In v (taken x m)) → In v (cond t m (y ∷ taken x m))
    go true e (inl q) later = absurd (h (q ∙ sym (eqb-true x y e)))
    go true e (inr j) later = j
    go false e (inl q) later = inl q
    go false e (inr j) later = inr (later j h)

pub rising_few : {A : Type 0} (k : A → ℕ) (l : List A) (m : List ℕ) → Rising k l → All (λ x. In (k x) m) l → length l ≤ length m
unfolding Rising
rising_few k [] m r p = zero-le
rising_few k (x ∷ l) m r (each i p) =
    omega (
      arith,
      length_taken (k x) m i,
      rising_few k l (taken (k x) m) r.1 (all_map (λ y q. in_taken (k y) (k x) m q.0 (λ e. let h = q.1 in omega arith)) (all_both p r.0)),
    )
