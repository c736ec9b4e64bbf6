-- Adding entries to the output: what is asked of the tables, and what the answers mean.
use Rattle.std.specs.Prelude.{ℕ, ◌+◌, ◌≤◌, ◌<◌, ◌≡◌, List, length, Result, Ok, Err}
use Rattle.lists.specs.Sort.{All}
use Rattle.symbol_order.specs.Order.{symbol_of}
use Rattle.symbol_order.specs.Order as symbol_order
use Rattle.relocs.specs.Relocs as reloc_tables
use Rattle.pieces.specs.declared.PieceSymbol.{PieceSymbol}
use Rattle.pieces.specs.declared.PieceReloc.{PieceReloc}
use Rattle.pieces.specs.declared.lent.PieceTables.{PieceTables}
use Rattle.pieces.specs.Tables.{symbols_of, relocs_of, SamePieces, SameSymbols, SameRelocs, SameLent}
use Rattle.piece_columns.specs.Columns.{ChainedIn}
use Rattle.walk.specs.declared.Full.{Full}

-- the chains of the entries of so many symbols
pub record Entries (symbols : ℕ) (chains : List ℕ) (t : PieceTables) : Type 0 where
  pub chained : ChainedIn chains t
  pub most : t.room.symbols ≤ 4096
  pub placed : t.made.pieces < 65536
  pub long : 4096 + t.room.symbols ≤ length chains
  pub most_symbols : symbols ≤ 4096

-- numbers of symbols that can be read, none below `start`
pub record Lying (symbols symbol_places part : List ℕ) (start : ℕ) : Type 0 where
  pub readable : symbol_order.Readable symbols symbol_places part
  pub above : All (λ i. start ≤ (symbol_of symbols symbol_places i).address) part

-- the entries that are wanted are there, and nothing else has changed
pub record AddsNow (wanted : List PieceSymbol) (chains : List ℕ) (before after : PieceTables) : Type 0 where
  pub is : symbols_of after ≡ wanted
  pub chained : ChainedIn chains after
  pub pieces : SamePieces before after
  pub relocs : SameRelocs before after
  pub lent : SameLent before after

-- they are there, or they are more than there is room for
abbrev pub Adds : (wanted : List PieceSymbol) → (chains : List ℕ) → (before after : PieceTables) → Result (Unit {0}) Full → Type 0
Adds wanted chains before after (Ok u) = AddsNow wanted chains before after
Adds wanted chains before after (Err e) = (before.room.symbols < length wanted) × SameLent before after

-- numbers of relocations that can be read, none below `start`; their numbers have 16 bits
pub record Above (relocs reloc_places part : List ℕ) (start : ℕ) : Type 0 where
  pub readable : reloc_tables.Readable relocs reloc_places part
  pub above : All (λ i. start ≤ reloc_tables.address_of relocs reloc_places i) part
  pub few : length reloc_places ≤ 65535

-- the relocations that are wanted are there, so many more, and nothing else has changed
pub record AddsRelocs (wanted : List PieceReloc) (more : ℕ) (before after : PieceTables) : Type 0 where
  pub is : relocs_of after ≡ wanted
  pub made : after.made.relocs ≡ before.made.relocs + more
  pub pieces : SamePieces before after
  pub symbols : SameSymbols before after
  pub lent : SameLent before after
