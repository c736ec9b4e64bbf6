-- What the entry's ends rest on: names put at the front of their tables, and what an answer of the run keeps is what its outcome leaves.
-- Assumes nothing.
use Prim.Native.Nat.{ℕ, ◌*◌, ◌≤◌}
use mathlib.Core.Path.{◌≡◌, sym, ap, ◌∙◌}
use mathlib.Core.List.{List, [], ◌∷◌}
use native.Mathlib.Omega.{arith}
use lib.ListN.{length, replicate, length-map}
use Rattle.lists.specs.Rows.{clear_from}
use Rattle.lists.specs.Tables.{laid}
use Rattle.lists.proofs.Clear.{clear_all}
use Rattle.outputs.specs.Outputs.{halves, counts_of, store_count, store_counts}
use Rattle.outputs.proofs.Laws.{laid-after, counts_stored}
use Rattle.gap_splits.specs.Entering.{bytes_of}
use Rattle.stage_names.specs.StageNames.{ends_from, flat, Put}
use Rattle.stage_names.proofs.Fits.{long_halves}
use Rattle.lists.proofs.Rows.{length-tabulate}
use Rattle.obj.specs.Records.{unit_at, stage_places}
use Rattle.obj.proofs.Laws.{length-stage_places}
use Rattle.names.specs.Append.{Columns as Beside}
use Rattle.names.proofs.Laws.{length-names}
use Rattle.splits.specs.Columns.{Columns, row_at, rows}
use Rattle.gap_splits.specs.Added.{added}
use Rattle.stage_gaps.proofs.Laws.{flat_bytes}
use Rattle.pieces.specs.Pieces.{pieces_in, symbols_in, relocs_in}
use Rattle.pieces.proofs.Laws.{length-pieces_in, length-symbols_in, length-relocs_in}
use Rattle.run.specs.Answers.{units_at}
use Rattle.run.specs.declared.Ran.{Ran}
use Rattle.run_outputs.specs.Kept.{listed}

-- ---- names

-- names put at the front, and zeros after them
module _ (names : List (List ℕ)) (e₀ b₀ e₁ b₁ : List ℕ) {r : ℕ} (p : Put names 0 0 e₀ b₀ e₁ b₁ r) where
  pub ends_laid : {e₂ : List ℕ} {n : ℕ} → n ≡ length names → 2 * n ≤ length e₀ → e₂ ≡ clear_from 0 (2 * n) e₁ → e₂ ≡ laid (length e₀) (halves (ends_from 0 names))
  ends_laid {e₂} {n} q h e =
      let long = long_halves 0 names in
      e ∙ ap (clear_from 0 (2 * n)) p.ended ∙ laid-after e₀ (halves (ends_from 0 names)) (2 * n) (omega (arith, long, q)) (omega (arith, long, q, h))

  pub bytes_laid : {b₂ : List ℕ} {n : ℕ} → n ≡ bytes_of names → n ≤ length b₀ → b₂ ≡ clear_from 0 n b₁ → b₂ ≡ laid (length b₀) (flat names)
  bytes_laid {b₂} {n} q h e =
      let long = flat_bytes names in
      e ∙ ap (clear_from 0 n) p.filled ∙ laid-after b₀ (flat names) n (omega (arith, long, q)) (omega (arith, long, q, h))

-- ---- what is kept

-- the counts of the tables' records are what is kept
pub kept-listed : (c : Beside) (table : Columns) (units pieces entries offsets : List ℕ) (k : Ran) → k.used ≡ bytes_of (added c k.names)
    → listed k
    ≡ length (added c k.names) ∷ length (flat (added c k.names)) ∷ length (rows table k.splits) ∷ length (units_at units k.units) ∷ length (pieces_in pieces k.made.pieces)
    ∷ length (symbols_in entries k.made.symbols) ∷ length (relocs_in offsets k.made.relocs) ∷ []
kept-listed c table units pieces entries offsets k e =
    λ d.
    sym (length-names c.bytes c.places c.lengths k.names) d
    ∷ (e ∙ sym (flat_bytes (added c k.names))) d
    ∷ sym (length-tabulate (row_at table) 0 k.splits) d
    ∷ sym (length-map (stage_places 8 k.units) (unit_at units) ∙ length-stage_places 8 k.units) d
    ∷ sym (length-pieces_in pieces k.made.pieces) d
    ∷ sym (length-symbols_in entries k.made.symbols) d
    ∷ sym (length-relocs_in offsets k.made.relocs) d
    ∷ []
