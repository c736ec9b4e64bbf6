-- Members of a list of numbers: what stands in it, what does not, and lists that hold nothing twice.
use Rattle.std.specs.Prelude.{ℕ, ◌≡◌, List, [], ◌∷◌, ◌⊎◌, ◌≢◌}

-- v stands in the list
abbrev pub In : ℕ → List ℕ → Type 0
In v [] = ⊥
In v (x ∷ l) = (v ≡ x) ⊎ In v l

-- u stands nowhere in the list
abbrev pub Fresh : ℕ → List ℕ → Type 0
Fresh u [] = Unit {0}
Fresh u (x ∷ l) = (u ≢ x) × Fresh u l

-- nothing stands twice in the list
abbrev pub Distinct : List ℕ → Type 0
Distinct [] = Unit {0}
Distinct (x ∷ l) = Fresh x l × Distinct l
