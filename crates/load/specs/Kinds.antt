-- The kinds of a file's records, by number: document 01, "Records and ceilings". The definitions have the numbers; the code has the kind that `code_of` takes to them.
use Rattle.std.specs.Prelude.{ℕ, ◌≡◌, ◌<◌, ◌⊎◌, Result}
use Rattle.std.specs.Result.{MatchResult}
use Rattle.load.specs.declared.kind.Kind.{Kind}
use Rattle.load.specs.declared.kind.Kind.TheVariants.{Name, Section, Symbol, Relocation, Split, Unit}

abbrev pub code_of : Kind → ℕ
code_of Name = 1
code_of Section = 2
code_of Symbol = 3
code_of Relocation = 4
code_of Split = 5
code_of Unit = 6

-- the kind with this number, or the number of the refusal of an unknown one
abbrev pub Decodes : ℕ → Result Kind ℕ → Type 0
Decodes number r = MatchResult r (λ k. code_of k ≡ number) (λ e. (e ≡ 1) × ((number ≡ 0) ⊎ (6 < number)))

-- what the decision on a record gives: its kind where it has no fault, else the number of its first one
abbrev pub Decided : (number kind : ℕ) → Result Kind ℕ → Type 0
Decided number kind r = MatchResult r (λ k. (number ≡ 0) × (code_of k ≡ kind)) (λ e. (e ≡ number) × (0 < number))
