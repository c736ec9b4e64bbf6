-- The sections named `.bss`, over the tables in which the stages keep heads and names: section k's head lies at its place, and its name is a number of the
-- name columns.
use Rattle.std.specs.Prelude.{ℕ, ◌<◌, ◌≤◌, List, [], ◌∷◌, Bool, length, get_or}
use Rattle.lists.specs.Rows.{keep_if}
use Rattle.obj.specs.Records.{section_at, Held}
use Rattle.obj.specs.declared.Split.{Split}
use Rattle.obj.specs.declared.Table.{Table}
use Rattle.names.specs.declared.Names.{Names}
use Rattle.names.specs.Names.{name_at, Named}
use Rattle.names.specs.Fixed.{is_bss}
use Rattle.common.specs.declared.Bss.{Bss}
use Rattle.common.specs.declared.Start.{Start}
use Rattle.common.specs.declared.Bss.TheVariants.{None, One, Many}
use Rattle.std.specs.Prelude.{Option, Some, Result, Ok, Err}
use Rattle.obj.specs.declared.Refusal.{Refusal}
use Rattle.common.specs.Common.{From, nowhere, bss_sections, start_of, common_in}

-- section k is named `.bss`
unfoldable pub bss_at : (name_bytes name_places name_lengths heads places : List ℕ) → ℕ → Bool
bss_at name_bytes name_places name_lengths heads places k = is_bss (name_at name_bytes name_places name_lengths (section_at heads (get_or places k 0)).name)

abbrev pub bss_in : (name_bytes name_places name_lengths heads places : List ℕ) → List ℕ
bss_in name_bytes name_places name_lengths heads places = bss_sections (bss_at name_bytes name_places name_lengths heads places) (length places)

-- heads and names belong together: each head lies in the lent bytes, and its name is there
pub record Sections (name_bytes name_places name_lengths heads places : List ℕ) : Type 0 where
  pub few : length places ≤ 64
  pub held : (k : ℕ) → k < length places → Held 15 heads places k
  pub names : Named name_bytes name_places name_lengths (length name_places)
  pub named : (k : ℕ) → k < length places → (section_at heads (get_or places k 0)).name < length name_places

-- ---- of the names and heads that are lent

abbrev pub has_bss_name : Names → (heads : Table) → ℕ → Bool
has_bss_name names heads = bss_at names.bytes.now names.places.now names.lengths.now heads.bytes.now heads.places.now

-- the sections named `.bss`
abbrev pub bss_numbers : Names → (heads : Table) → List ℕ
bss_numbers names heads = bss_in names.bytes.now names.places.now names.lengths.now heads.bytes.now heads.places.now

-- they belong together
abbrev pub SectionsIn : Names → (heads : Table) → Type 0
SectionsIn names heads = Sections names.bytes.now names.places.now names.lengths.now heads.bytes.now heads.places.now

-- ---- what the code has of them

-- which of them: none, one, or several
abbrev pub bss_of : List ℕ → Bss
bss_of [] = None
bss_of (k ∷ []) = One k
bss_of (k ∷ j ∷ l) = Many

-- where the common splits begin without a start, and with one
abbrev pub first_of : Bss → List Split → From
first_of None rows = nowhere
first_of (One section) rows = start_of section (keep_if (common_in section) rows)
first_of Many rows = nowhere

-- "30 several `.bss`; 31 none"
abbrev pub given_of : (start : ℕ) → Bss → Result (Option Start) Refusal
given_of start None = Err (record { number = 31; section = 0; address = 0 })
given_of start (One section) = Ok (Some (record { section = section; address = start }))
given_of start Many = Err (record { number = 30; section = 0; address = 0 })
