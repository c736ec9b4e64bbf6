-- The relocations of a section, and those of them in a range: `relocations.range` of util/split.rs. Relocations are numbers here: relocation i is the record
-- at place i of a table. A section's relocations stand in table order, which is by address: "6 relocation: .. not above the section's last".
-- A range may be asked backwards: "11 start above end, asked of a section that has such records" (DECISIONS.md, 23).
use Rattle.std.specs.Prelude.{ℕ, ◌+◌, ◌≤◌, ◌<◌, ◌≡◌, List, Bool, ◌&&◌, eqb, leb, ltb, length, get_or}
use Rattle.lists.specs.Rows.{keep_if, some}
use Rattle.lists.specs.Sort.{Sorted, All}
use Rattle.obj.specs.declared.Reloc.{Reloc}
use Rattle.obj.specs.Records.{reloc_at}
use Rattle.symbol_order.specs.Order.{numbers}

-- relocation i of a table
abbrev pub reloc_of : (b places : List ℕ) → ℕ → Reloc
reloc_of b places i = reloc_at b (get_or places i 0)

-- ---- the relocations of section n
module _ (reloc : ℕ → Reloc) (count n : ℕ) where
  unfoldable pub relocs_of : List ℕ
  relocs_of = keep_if (λ i. eqb (reloc i).section n) (numbers count)

  -- start..end
  abbrev pub relocs_between : (start end : ℕ) → List ℕ
  relocs_between start end = keep_if (λ i. leb start (reloc i).address && ltb (reloc i).address end) relocs_of

  -- "a section that has such records"
  unfoldable pub has_relocs : Bool
  has_relocs = some (λ i. eqb (reloc i).section n) (numbers count)

-- ---- what is asked of the tables

-- the relocations' records lie within the bytes
pub record Whole (b places : List ℕ) : Type 0 where
  pub each : (k : ℕ) → k < length places → get_or places k 0 + 23 ≤ length b

-- "not above the section's last" is not so: within a section the addresses do not fall
pub record Rising (reloc : ℕ → Reloc) (count : ℕ) : Type 0 where
  pub each : (i j : ℕ) → i < j → j < count → (reloc i).section ≡ (reloc j).section → (reloc i).address ≤ (reloc j).address

-- room for the numbers of a section's relocations, which have 16 bits
pub record Room (places part : List ℕ) : Type 0 where
  pub few : length places ≤ 65535
  pub long : length places ≤ length part

-- numbers of relocations that can be read
pub record Readable (b places part : List ℕ) : Type 0 where
  pub whole : Whole b places
  pub inside : All (λ i. i < length places) part

abbrev pub address_of : (b places : List ℕ) → ℕ → ℕ
address_of b places i = (reloc_of b places i).address

-- .. and that stand by address
pub record Ordered (b places part : List ℕ) : Type 0 where
  pub readable : Readable b places part
  pub sorted : Sorted (address_of b places) part
