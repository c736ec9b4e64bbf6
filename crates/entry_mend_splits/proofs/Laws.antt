-- What the tables before leave is what the definition asks: the lengths of the names, the sections with their ends, and the columns that were mended.
-- Assumes nothing.
use Prim.Native.Nat.{ℕ, ◌+◌, ◌*◌, ◌/◌, ◌≤◌, ◌<◌}
use mathlib.Core.Path.{◌≡◌, refl, sym, ap, ap₂, ◌∙◌}
use mathlib.Core.List.{List}
use native.Mathlib.Omega.{arith}
use lib.ListN.{length, get_or}
use Rattle.lists.specs.Outcome.{Outcome, accepted}
use Rattle.lists.proofs.Outcomes.{then_goes}
use Rattle.lists.proofs.Rows.{length-tabulate}
use Rattle.obj.specs.Records.{section_at, stage_places, split_width}
use Rattle.obj.specs.Answers.{Answer}
use Rattle.obj.specs.declared.Section.{Section}
use Rattle.obj.specs.declared.Split.{Split}
use Rattle.obj.specs.declared.Table.{Table}
use Rattle.obj.proofs.Laws.{length-stage_places}
use Rattle.tables.specs.Tables.{main_ceilings, records_check, AllHeld}
use Rattle.tables.specs.Records.{sections_in, section_fault}
use Rattle.tables.proofs.Lookups.{held}
use Rattle.tables.proofs.Laws.{sections_end}
use Rattle.name_table.specs.NameTable.{names_check}
use Rattle.name_table.specs.Stored as names
use Rattle.stage_tables.specs.StageTables.{stage_sections, stage_splits, sections_check, splits_check, Taken}
use Rattle.stage_tables.proofs.Laws.{table_passed, taken_few, taken-count}
use Rattle.splits.specs.Columns.{Columns, row_at, rows}
use Rattle.mend.specs.Mend.{section_ends_of, mend}
use Rattle.mend.specs.Steps.{LowHeads, Mends, line_bytes}
use Rattle.std.specs.Prelude.{Result, Ok}
use Rattle.std.proofs.lemmas.List.{get_or-map}
use Rattle.obj.specs.declared.Refusal.{Refusal}
use Rattle.obj.specs.Nothing.{no_section}
use Rattle.mend_outputs.specs.Outputs.{Laid, Gives, Stores}
use Rattle.mend_outputs.proofs.Laws.{stored_gives}
use Rattle.entry_mend_splits.specs.Entry.{from_splits, NamesTaken}

-- ---- names
pub names-taken : {answer : Outcome (Unit {0})} (ends bytes lengths : List ℕ) {places heads chain : List ℕ}
    → names.Stores answer (names_check main_ceilings.names ends bytes) ends bytes places lengths heads chain (length ends / 2) → NamesTaken answer ends bytes lengths
names-taken ends bytes lengths s = record {
  said = s.said;
  few = λ e. (s.stored (sym s.said ∙ e)).named.measured;
  sizes = λ e. (s.stored (sym s.said ∙ e)).sizes;
}

-- ---- sections

-- no section that passed its check ends above 32 bits
low_heads : (lengths b : List ℕ) {places : List ℕ} → records_check (section_fault lengths (stage_sections b)) (length b / 15) ≡ accepted tt
    → places ≡ stage_places 15 (length b / 15) → AllHeld 15 b places → LowHeads b places
low_heads lengths b {places} passed e all = record { held = held all; low = low }
  where
    low : (k : ℕ) → k < length places → (section_at b (get_or places k 0)).address + (section_at b (get_or places k 0)).size < 4294967296
    low k h =
        let n = ap length e ∙ length-stage_places 15 (length b / 15) in
        let top = sections_end lengths (stage_sections b) (length b / 15) passed k (omega (arith, n, h)) in
        let same : get_or (stage_sections b) k no_section ≡ section_at b (get_or places k 0) =
        ap (λ (p : List ℕ). get_or (sections_in b p) k no_section) (sym e) ∙ get_or-map (section_at b) places k 0 no_section h in
        let end = ap (λ (s : Section). s.address + s.size) same in
        omega (arith, top, end)

module _ (lengths b : List ℕ) {t : Table} (k : Taken (sections_check main_ceilings.sections lengths b) 15 b (Ok t)) where
  -- what the column of their ends asks
  pub heads_low : LowHeads t.bytes.now t.places.now
  heads_low =
      rw (k.table.bytes, k.table.places)
      (low_heads lengths b (table_passed 15 main_ceilings.sections b (section_fault lengths (stage_sections b)) (sym k.said)).2 refl (rw (k.table.bytes, k.table.places) at k.table.held))

  pub heads_few : length t.places.now ≤ 64
  heads_few = omega (arith, taken-count 15 b k.table, taken_few 15 _ b _ k)

-- ---- the split table

-- it passed, the table held its splits before they were mended, and what was mended is stored
pub mended_gives : (lengths : List ℕ) (heads : List Section) (splits : List ℕ) (room : ℕ) {answer : Outcome (Unit {0})} {section_ends : List ℕ} {old : List Split} (c : Columns) (n : ℕ)
    (r : Result ℕ Refusal) {a : Answer} {out lines counts out' lines' counts' : List ℕ} → answer ≡ splits_check room lengths heads splits → answer ≡ accepted tt
    → split_width * n ≤ length out → section_ends ≡ section_ends_of heads → old ≡ stage_splits splits → Mends section_ends old (rows c n) lines lines' r
    → Stores r (rows c n) n a out counts out' counts' → Gives (from_splits lengths heads splits room (length lines)) a (Laid out lines counts out' lines' counts')
unfolding from_splits
mended_gives lengths heads splits room c n r {lines = lines} said told h s l w t =
    stored_gives r c (w.is ∙ ap₂ (λ (x : List ℕ) (y : List Split). mend x (length lines) y) s l ∙ then_goes said _ told) w.stays h t

-- the lines of at most 1,024 rows have at most 49,152 bytes
pub lines_low : {section_ends : List ℕ} (old : Columns) (n : ℕ) {new : List Split} {before after : List ℕ} {r : Result ℕ Refusal} → n ≤ 1024 → Mends section_ends (rows old n) new before after r
    → line_bytes r ≤ 49152
lines_low old n h w = omega (arith, h, w.few, length-tabulate (row_at old) 0 n)
