-- The alignment of a piece: document 01, "A misfitting alignment is halved until it fits or is 4 or less", against the System V ABI, sh_addralign: "the value of
-- sh_addr must be congruent to 0, modulo the value of sh_addralign". The theorems of proofs/Alignments.antt: an accepted piece has the largest alignment that
-- fits, and 75 comes exactly if none fits. (That a good alignment is a power of two up to 2 ^ 16, and that aligning up gives the least multiple: crate align.)
use Rattle.std.specs.Prelude.{ℕ, zero, suc, ◌/◌, ◌%◌, ◌≤◌, ◌≡◌, ◌⊎◌}

-- a, halved so often
unfoldable pub halves : (times a : ℕ) → ℕ
halves zero a = a
halves (suc times) a = halves times (a / 2)

-- q is reached from a by halving, divides the address, and is a itself or at least 4
pub record Fitting (a address q : ℕ) : Type 0 where
  pub times : ℕ
  pub reached : q ≡ halves times a
  pub divides : address % q ≡ 0
  pub least : (q ≡ a) ⊎ (4 ≤ q)

-- .. and the largest such
pub record Largest (a address q : ℕ) : Type 0 where
  pub fitting : Fitting a address q
  pub largest : (r : ℕ) → Fitting a address r → r ≤ q

-- there is none
abbrev pub None : (a address : ℕ) → Type 0
None a address = (q : ℕ) → Fitting a address q → ⊥
