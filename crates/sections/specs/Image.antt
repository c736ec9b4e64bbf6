-- What the questions on sections are asked of: the symbols, how many they are, and the names. One function makes it of the lent tables.
use Rattle.std.specs.Prelude.{ℕ, ◌+◌, ◌≤◌, ◌<◌, ◌≡◌, List, length, get_or}
use Rattle.obj.specs.declared.Section.{Section}
use Rattle.obj.specs.declared.Symbol.{Symbol}
use Rattle.names.specs.Names.{name_at, Named}
use Rattle.sections.specs.declared.Obj.{Obj}
use Rattle.symbol_order.specs.Order.{symbol_of, Readable, Order}

pub record Image : Type 0 where
  pub symbol : ℕ → Symbol
  pub count : ℕ
  pub name : ℕ → List ℕ

abbrev pub image_of : (b places name_bytes name_places name_lengths : List ℕ) → Image
image_of b places name_bytes name_places name_lengths = record {
  symbol = symbol_of b places;
  count = length places;
  name = name_at name_bytes name_places name_lengths;
}

-- that of the tables that are lent together
abbrev pub image_in : Obj → Image
image_in o = image_of o.symbols.bytes.now o.symbols.places.now o.names.bytes.now o.names.places.now o.names.lengths.now

-- ---- what is asked of the tables

-- every symbol's name is there
pub record SymbolNames (b places name_bytes name_places name_lengths : List ℕ) : Type 0 where
  pub names : Named name_bytes name_places name_lengths (length name_places)
  pub named : (i : ℕ) → i < length places → (symbol_of b places i).name < length name_places

-- symbols, their order, and names belong together
pub record Tables (b places order name_bytes name_places name_lengths : List ℕ) : Type 0 where
  pub symbols : Order b places order
  pub names : SymbolNames b places name_bytes name_places name_lengths

-- those that are lent together do
abbrev pub TablesIn : Obj → Type 0
TablesIn o = Tables o.symbols.bytes.now o.symbols.places.now o.order.now o.names.bytes.now o.names.places.now o.names.lengths.now

-- a part of the order, and the names of its symbols
pub record Part (b places part name_bytes name_places name_lengths : List ℕ) : Type 0 where
  pub readable : Readable b places part
  pub names : SymbolNames b places name_bytes name_places name_lengths

-- a section's head and bytes belong together: its name is there, "end above 0xF0000000" is not so, "Section bytes equal size, none for bss"
pub record Whole (head : Section) (bytes name_places : List ℕ) : Type 0 where
  pub named : head.name < length name_places
  pub below : head.address + head.size ≤ 4026531840
  pub sized : (head.kind ≡ 3 → ⊥) → length bytes ≡ head.size

-- the section's bytes lie in the image, from its place on; one of kind 3 has none, and no place
pub record Lies (image places : List ℕ) (n : ℕ) (head : Section) : Type 0 where
  pub there : (head.kind ≡ 3 → ⊥) → n < length places
  pub inside : (head.kind ≡ 3 → ⊥) → get_or places n 0 + head.size ≤ length image
