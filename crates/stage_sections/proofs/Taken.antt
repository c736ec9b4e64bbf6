-- What a stage's sections and symbols that passed are to the questions, whatever ceiling was asked and whatever columns were filled. Each record's check gives its facts.
-- Assumes nothing.
use Prim.Native.Nat.{ℕ, ◌/◌, ◌<◌, ◌≤◌}
use mathlib.Core.Path.{◌≡◌, sym, ap}
use mathlib.Core.List.{List}
use native.Mathlib.Nat.{mul-div-le}
use native.Mathlib.Omega.{arith}
use lib.ListN.{length, get_or, take, length-take}
use lib.Seq.{get_or-take}
use Rattle.std.proofs.lemmas.List.{get_or-map}
use Rattle.lists.specs.Outcome.{accepted}
use Rattle.lists.proofs.Rows.{has_place}
use Rattle.obj.specs.Records.{section_at, stage_places}
use Rattle.obj.specs.declared.Section.{Section}
use Rattle.obj.proofs.Laws.{length-stage_places}
use Rattle.obj.specs.Nothing.{no_section}
use Rattle.names.specs.Names.{Named}
use Rattle.tables.specs.Tables.{records_check, AllHeld}
use Rattle.tables.specs.Records.{section_fault, image_fault, image_places_of}
use Rattle.tables.proofs.Laws as tables
use Rattle.tables.proofs.Lookups.{held, stage_held}
use Rattle.stage_tables.specs.StageTables.{stage_sections, symbols_check, image_check}
use Rattle.stage_tables.proofs.Laws.{table_passed}
use Rattle.symbol_order.specs.Order.{symbol_of, order_of, Order}
use Rattle.sections.specs.Image.{Tables, Lies}
use Rattle.sections.specs.Sections.{head_of, Kept}
use Rattle.stage_symbols.proofs.Laws.{symbol_named, symbol_whole}

-- ---- symbols
module _ (ceiling names : ℕ) (sections : List Section) (b : List ℕ) (passed : symbols_check ceiling names sections b ≡ accepted tt) where
  -- their order
  pub order_there : ceiling ≤ 4096 → Order b (stage_places 20 (length b / 20)) (order_of (symbol_of b (stage_places 20 (length b / 20))) (length b / 20))
  order_there low =
      record {
        whole = symbol_whole ceiling names sections b passed low;
        is = sym (ap (order_of (symbol_of b (stage_places 20 (length b / 20)))) (length-stage_places 20 (length b / 20)));
      }

  -- symbols, their order and names belong together
  pub tables_there : ceiling ≤ 4096 → (name_bytes name_places name_lengths : List ℕ) → length name_places ≡ names → Named name_bytes name_places name_lengths (length name_places)
      → Tables b (stage_places 20 (length b / 20)) (order_of (symbol_of b (stage_places 20 (length b / 20))) (length b / 20)) name_bytes name_places name_lengths
  tables_there low name_bytes name_places name_lengths count named =
      record {
        symbols = order_there low;
        names = record {
          names = named;
          named = λ i h. rw count (symbol_named ceiling names sections b passed i (rw length-stage_places at h));
        };
      }

-- ---- sections with bytes in an image
module _ (ceiling : ℕ) (lengths places image b : List ℕ) (passed : image_check ceiling lengths places (length image) b ≡ accepted tt) where
  image_passed : records_check (image_fault lengths (image_places_of places) (length image) (stage_sections b)) (length b / 15) ≡ accepted tt
  image_passed = (table_passed 15 ceiling b _ passed).2

  sections_passed : records_check (section_fault lengths (stage_sections b)) (length b / 15) ≡ accepted tt
  sections_passed = tables.image_sections lengths (image_places_of places) (length image) (stage_sections b) (length b / 15) image_passed

  head_is : (n : ℕ) → n < length b / 15 → head_of b (stage_places 15 (length b / 15)) n ≡ get_or (stage_sections b) n no_section
  head_is n h = sym (get_or-map (section_at b) (stage_places 15 (length b / 15)) n 0 no_section (rw length-stage_places h))

  pub few : length b / 15 ≤ ceiling
  few = (table_passed 15 ceiling b _ passed).1

  -- their records can be read
  pub all_held : ceiling ≤ 64 → AllHeld 15 b (stage_places 15 (length b / 15))
  all_held low = stage_held 15 (length b / 15) b (omega (arith, few, low)) (mul-div-le (length b) 15)

  -- each section's record can be read, its name is there, and its bytes lie in the image at the first m of the lent places
  pub kept_there : ceiling ≤ 64 → (m : ℕ) → length b / 15 ≤ m → (name_places : List ℕ) → length lengths ≡ length name_places
      → Kept b (stage_places 15 (length b / 15)) image (take m (image_places_of places)) name_places
  kept_there low m long name_places count =
      record {
        few = rw length-stage_places (omega (arith, few, low));
        held = λ n h. held (all_held low) n h;
        named = λ n h. rw (head_is n (below n h), sym count) (named n (below n h));
        below = λ n h. rw (head_is n (below n h)) (tables.sections_end lengths (stage_sections b) (length b / 15) sections_passed n (below n h));
        lies = λ n h. lies n (below n h);
      }
    where
      below : (n : ℕ) → n < length (stage_places 15 (length b / 15)) → n < length b / 15
      below n h = rw length-stage_places at h

      named : (n : ℕ) → n < length b / 15 → (get_or (stage_sections b) n no_section).name < length lengths
      named n h = has_place lengths _ (tables.sections_named lengths (stage_sections b) (length b / 15) sections_passed n h).0

      lies : (n : ℕ) → n < length b / 15 → Lies image (take m (image_places_of places)) n (head_of b (stage_places 15 (length b / 15)) n)
      lies n h =
          let bytes = tables.image_bytes lengths (image_places_of places) (length image) (stage_sections b) (length b / 15) image_passed n h in
          rw (head_is n h) (record {
            there = λ q. rw (length-take m (image_places_of places)) (omega (arith, h, long, (bytes q).0));
            inside = λ q. rw (get_or-take m (image_places_of places) n 0 (omega (arith, h, long))) (bytes q).1;
          })
