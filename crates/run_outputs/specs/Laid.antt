-- The outputs of a run, every byte: its names, splits, units, pieces, piece symbols and piece relocations, each as records and then zeros, and their counts.
use Rattle.std.specs.Prelude.{ℕ, ◌≡◌, List, [], ◌∷◌, length}
use Rattle.lists.specs.Tables.{laid}
use Rattle.outputs.specs.Outputs.{halves, counts_of}
use Rattle.stage_names.specs.StageNames.{ends_from, flat}
use Rattle.splits.specs.Bytes.{table_bytes}
use Rattle.order.specs.Bytes.{units_bytes}
use Rattle.pieces.specs.Pieces.{piece_bytes, symbol_bytes, reloc_bytes, packed}
use Rattle.run.specs.Run.{Result}

-- how many bytes are lent for each output
pub record Sizes : Type 0 where
  pub ends : ℕ
  pub bytes : ℕ
  pub splits : ℕ
  pub units : ℕ
  pub pieces : ℕ
  pub symbols : ℕ
  pub relocs : ℕ
  pub counts : ℕ

-- these are in the outputs, records and then zeros, and their numbers in the counts
pub record Laid (r : Result) (sizes : Sizes) (ends bytes splits units pieces symbols relocs counts : List ℕ) : Type 0 where
  pub ends_are : ends ≡ laid sizes.ends (halves (ends_from 0 r.added))
  pub bytes_are : bytes ≡ laid sizes.bytes (flat r.added)
  pub splits_are : splits ≡ laid sizes.splits (table_bytes r.splits)
  pub units_are : units ≡ laid sizes.units (units_bytes r.units)
  pub pieces_are : pieces ≡ laid sizes.pieces (packed piece_bytes r.output.pieces)
  pub symbols_are : symbols ≡ laid sizes.symbols (packed symbol_bytes r.output.symbols)
  pub relocs_are : relocs ≡ laid sizes.relocs (packed reloc_bytes r.output.relocs)
  pub counted :
      counts
      ≡ counts_of sizes.counts
      (length r.added ∷ length (flat r.added) ∷ length r.splits ∷ length r.units ∷ length r.output.pieces ∷ length r.output.symbols ∷ length r.output.relocs ∷ [])
