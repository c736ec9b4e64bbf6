-- A kind and its number. Assumes nothing.
use Rattle.std.proofs.Common.{ℕ, ◌≡◌, ◌<◌, ◌≤◌, List, refl, arith}
use Rattle.std.specs.Prelude.{◌⊎◌}
use mathlib.Core.Logic.{inl, inr}
use borrow.Author.Tests.{ne_eqb}
use Rattle.tables.specs.declared.Counts.{Counts as Ceilings}
use Rattle.load.specs.Load.{Loaded, kind_number}
use Rattle.load.specs.declared.kind.Kind.{Kind}
use Rattle.load.specs.declared.kind.Kind.TheVariants.{Name, Section, Symbol, Relocation, Split, Unit}
use Rattle.load.specs.Kinds.{code_of}

-- the kinds with the numbers 1 and 4
pub name_code : (k : Kind) → code_of k ≡ 1 → k ≡ Name
name_code Name e = refl
name_code Section e = absurd (omega arith)
name_code Symbol e = absurd (omega arith)
name_code Relocation e = absurd (omega arith)
name_code Split e = absurd (omega arith)
name_code Unit e = absurd (omega arith)

pub reloc_code : (k : Kind) → code_of k ≡ 4 → k ≡ Relocation
reloc_code Name e = absurd (omega arith)
reloc_code Section e = absurd (omega arith)
reloc_code Symbol e = absurd (omega arith)
reloc_code Relocation e = refl
reloc_code Split e = absurd (omega arith)
reloc_code Unit e = absurd (omega arith)

-- "1 .. unknown kind"
pub kind_unknown : (c : Ceilings) (file : List ℕ) (at len : ℕ) (t : Loaded) (number : ℕ) → (number ≡ 0) ⊎ (6 < number) → 1 ≡ kind_number c file at len t number
unfolding kind_number
kind_unknown c file at len t number h =
    rw (
      ne_eqb number 1 (other 1 (omega arith) (omega arith)),
      ne_eqb number 2 (other 2 (omega arith) (omega arith)),
      ne_eqb number 3 (other 3 (omega arith) (omega arith)),
      ne_eqb number 4 (other 4 (omega arith) (omega arith)),
      ne_eqb number 5 (other 5 (omega arith) (omega arith)),
      ne_eqb number 6 (other 6 (omega arith) (omega arith)),
    )
  where
    other : (k : ℕ) → 0 < k → k ≤ 6 → number ≡ k → ⊥
    other k p q e = go h
      where
        go : (number ≡ 0) ⊎ (6 < number) → ⊥
        go (inl z) = omega (arith, z, e, p)
        go (inr z) = omega (arith, z, e, q)
