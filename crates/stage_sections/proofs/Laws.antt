-- What sections and symbols that passed are to the questions of `symbols` and `sections`. Assumes nothing.
use Prim.Native.Nat.{ℕ, ◌/◌, ◌<◌, ◌≤◌}
use mathlib.Core.Path.{◌≡◌}
use mathlib.Core.List.{List}
use native.Mathlib.Omega.{arith}
use lib.ListN.{length, get_or, take}
use lib.Seq.{get_or-take}
use Rattle.lists.specs.Outcome.{accepted}
use Rattle.obj.specs.Records.{stage_places}
use Rattle.obj.specs.declared.Section.{Section}
use Rattle.names.specs.Names.{Named}
use Rattle.tables.specs.Tables.{AllHeld}
use Rattle.tables.specs.Records.{image_places_of}
use Rattle.stage_tables.specs.StageTables.{symbols_check, image_check}
use Rattle.symbol_order.specs.Order.{symbol_of, order_of, Order}
use Rattle.sections.specs.Image.{Tables}
use Rattle.sections.specs.Sections.{Kept}
use Rattle.stage_sections.proofs.Taken.{few, all_held, kept_there, order_there, tables_there}

-- ---- sections with bytes in an image
module _ (lengths places image b : List ℕ) (passed : image_check 64 lengths places (length image) b ≡ accepted tt) where
  pub sections_few : length b / 15 ≤ 64
  sections_few = few 64 lengths places image b passed

  -- their records can be read
  pub heads_held : AllHeld 15 b (stage_places 15 (length b / 15))
  heads_held = all_held 64 lengths places image b passed (omega arith)

  -- a place that an entry's array has is that of the lent places
  pub place_same : (n : ℕ) → n < length b / 15 → get_or (take 64 (image_places_of places)) n 0 ≡ get_or (image_places_of places) n 0
  place_same n h = get_or-take 64 (image_places_of places) n 0 (omega (arith, h, sections_few))

  -- each section's record can be read, its name is there, and its bytes lie in the image
  pub sections_kept : (name_places : List ℕ) → length lengths ≡ length name_places
      → Kept b (stage_places 15 (length b / 15)) image (take 64 (image_places_of places)) name_places
  sections_kept = kept_there 64 lengths places image b passed (omega arith) 64 sections_few

-- ---- symbols and their order
pub symbols_ordered : (names : ℕ) (sections : List Section) (b : List ℕ) → symbols_check 4096 names sections b ≡ accepted tt
    → Order b (stage_places 20 (length b / 20)) (order_of (symbol_of b (stage_places 20 (length b / 20))) (length b / 20))
symbols_ordered names sections b passed = order_there 4096 names sections b passed (omega arith)

-- .. and names belong together
pub symbols_asked : (names : ℕ) (sections : List Section) (b : List ℕ) → symbols_check 4096 names sections b ≡ accepted tt
    → (name_bytes name_places name_lengths : List ℕ) → length name_places ≡ names → Named name_bytes name_places name_lengths (length name_places)
    → Tables b (stage_places 20 (length b / 20)) (order_of (symbol_of b (stage_places 20 (length b / 20))) (length b / 20)) name_bytes name_places name_lengths
symbols_asked names sections b passed = tables_there 4096 names sections b passed (omega arith)
