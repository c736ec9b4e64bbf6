-- Two sets of tables that say the same of everything that is there: of each symbol below the count, of each section below the count, of each relocation. What a reader
-- gives past the end of a table may differ, and so may names that nothing refers to. No stage tells two such sets apart (proofs/).
use Rattle.std.specs.Prelude.{ℕ, ◌<◌, ◌≡◌}
use Rattle.obj.specs.declared.Reloc.{Reloc}
use Rattle.sections.specs.Image.{Image}
use Rattle.sections.specs.Sections.{Sections}

-- the symbols, and their names
pub record SameImages (g h : Image) : Type 0 where
  pub counts : g.count ≡ h.count
  pub symbols : (i : ℕ) → i < g.count → g.symbol i ≡ h.symbol i
  pub names : (i : ℕ) → i < g.count → g.name (g.symbol i).name ≡ h.name (g.symbol i).name

-- the sections, and their names
pub record SameSections (g h : Image) (s t : Sections) : Type 0 where
  pub counts : s.count ≡ t.count
  pub heads : (n : ℕ) → n < s.count → s.head n ≡ t.head n
  pub bytes : (n : ℕ) → n < s.count → s.bytes n ≡ t.bytes n
  pub names : (n : ℕ) → n < s.count → g.name (s.head n).name ≡ h.name (s.head n).name

-- the relocations
pub record SameRelocs (r s : ℕ → Reloc) (n : ℕ) : Type 0 where
  pub each : (i : ℕ) → i < n → r i ≡ s i
