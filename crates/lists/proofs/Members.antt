-- Members of a list of numbers. Assumes nothing.
use Prim.Native.Nat.{ℕ}
use mathlib.Core.Path.{refl, ap}
use mathlib.Core.List.{List, [], ◌∷◌, map}
use mathlib.Core.Logic.{inl, inr, ◌≢◌}
use Rattle.lists.specs.Members.{In, Fresh}

-- what stands nowhere in a list is no member
pub fresh_in : (u : ℕ) (l : List ℕ) → Fresh u l → In u l → ⊥
fresh_in u [] f i = i
fresh_in u (x ∷ l) f (inl e) = f.0 e
fresh_in u (x ∷ l) f (inr i) = fresh_in u l f.1 i

-- what differs from each member stands nowhere in the list
pub fresh_of : (u : ℕ) (l : List ℕ) → ((v : ℕ) → In v l → u ≢ v) → Fresh u l
fresh_of u [] h = tt
fresh_of u (x ∷ l) h = (h x (inl refl), fresh_of u l (λ v i. h v (inr i)))

-- a member of a list gives one of the list that is made of it
pub in_map : (f : ℕ → ℕ) (v : ℕ) (l : List ℕ) → In v l → In (f v) (map f l)
in_map f v [] i = absurd i
in_map f v (x ∷ l) (inl e) = inl (ap f e)
in_map f v (x ∷ l) (inr i) = inr (in_map f v l i)
