-- What tables that passed leave to the trim: symbols, sections and rows as its core requires them, and lines of the definition over the columns that are those
-- over the lent tables. Assumes nothing.
use Prim.Native.Nat.{ℕ, ◌/◌, ◌<◌}
use mathlib.Core.Path.{◌≡◌, sym, ap, ◌∙◌}
use mathlib.Core.List.{List}
use native.Mathlib.Nat.{zero-add}
use native.Mathlib.Omega.{arith}
use lib.ListN.{length, get_or, length-map}
use Rattle.lists.specs.Outcome.{Outcome, accepted, ◌>>◌}
use Rattle.lists.proofs.Rows.{get_d_tabulate, length-tabulate}
use Rattle.obj.specs.Records.{split_at, stage_places, split_width}
use Rattle.obj.specs.Answers.{Answer}
use Rattle.std.specs.Prelude.{Ok, Err}
use Rattle.obj.specs.declared.Section.{Section}
use Rattle.obj.specs.declared.Split.{Split}
use Rattle.obj.proofs.Laws.{length-stage_places}
use Rattle.tables.specs.Tables.{records_check}
use Rattle.tables.specs.Records.{sections_in, image_places_of, split_fault}
use Rattle.tables.proofs.Laws.{splits_section, splits_partials, partials_end}
use Rattle.name_table.specs.NameTable.{stage_names}
use Rattle.name_table.specs.Stored.{stage_lengths, name_lengths, name_starts}
use Rattle.name_table.proofs.Laws.{length-stage_names}
use Rattle.stage_tables.specs.StageTables.{stage_sections, stage_splits, image_check, symbols_check, splits_check}
use Rattle.stage_tables.proofs.Laws.{table_passed}
use Rattle.sections.specs.Image.{Image, image_of}
use Rattle.sections.specs.Sections.{Sections, sections_of}
use Rattle.splits.specs.Columns.{Columns, row_at, rows}
use Rattle.obj.specs.declared.Refusal.{Refusal}
use Rattle.obj.specs.Nothing.{no_split}
use Rattle.stage_splits.specs.StageSplits.{room_of, Laid, Gives}
use Rattle.stage_splits.proofs.Laws.{gives_refused, gives_laid, gives_said, gives_as, gives_goes}
use Rattle.trim.specs.Trim.{trimmed}
use Rattle.trim.specs.Steps.{seen, AllPlaced}
use Rattle.trim.proofs.Alike.{trim_alike}
use Rattle.entry_trim_splits.specs.Entry.{from_splits, from_symbols, from_sections}

-- ---- the stage's answer: `gives_refused` and `gives_laid` of stage_splits speak of an outcome, and what the trim answers is one only with its rows (`seen`)
module _ {size counts_size : ℕ} {out counts : List ℕ} (a : Answer) (o : Outcome (List Split)) (l : List Split) (q : seen a l ≡ o) where
  pub seen_refused : {d : Refusal} → a ≡ Err d → Gives o a size counts_size out counts
  seen_refused e = gives_said o (sym e) (gives_refused (sym (ap (λ (x : Answer). seen x l) e) ∙ q))

  pub seen-laid : a ≡ Ok tt → Laid l size counts_size out counts → Gives o a size counts_size out counts
  seen-laid e w = gives_said o (sym e) (gives_laid (sym (ap (λ (x : Answer). seen x l) e) ∙ q) w)

-- ---- splits that passed are trimmed
pub trim_goes : (lengths : List ℕ) (heads : List Section) (g : Image) (sections : Sections) (splits : List ℕ) (size : ℕ) {room : ℕ} {rows : List Split} {answer : Answer}
    {out_size counts_size : ℕ} {out counts : List ℕ} → room ≡ room_of size → splits_check room lengths heads splits ≡ accepted tt → rows ≡ stage_splits splits
    → Gives (trimmed g sections rows) answer out_size counts_size out counts → Gives (from_splits lengths heads g sections splits size) answer out_size counts_size out counts
unfolding from_splits
trim_goes lengths heads g sections splits size fits passed taken w =
    gives_goes (sym (ap (λ (k : ℕ). splits_check k lengths heads splits) fits) ∙ passed) (gives_as (ap (trimmed g sections) taken) w)

-- ---- splits that passed: each has a section, and ends at or below 0xF0000000
pub rows-placed : (ceiling : ℕ) (lengths : List ℕ) (heads : List Section) (b : List ℕ) (c : Columns) (held : ℕ) → splits_check ceiling lengths heads b ≡ accepted tt
    → rows c held ≡ stage_splits b → (count : ℕ) → length heads ≡ count → AllPlaced count c held
rows-placed ceiling lengths heads b c held passed taken count e =
    record {
      each = λ k h.
          let q : k < n = omega (arith, same) in
          record {
            section = omega (arith, ap (λ (s : Split). s.section) (row_is k h), splits_section lengths heads (stage_splits b) n records k q, e);
            end = omega (arith, ap (λ (s : Split). s.end) (row_is k h), partials_end lengths (stage_splits b) n (splits_partials lengths heads (stage_splits b) n records) k q);
          };
    }
  where
    n : ℕ
    n = length b / split_width

    same : held ≡ n
    same =
        sym (length-tabulate (row_at c) 0 held) ∙ ap length taken ∙ length-map (stage_places split_width n) (split_at b)
        ∙ length-stage_places split_width n

    records : records_check (split_fault lengths heads (stage_splits b)) n ≡ accepted tt
    records = (table_passed split_width ceiling b _ passed).2

    row_is : (k : ℕ) → k < held → row_at c k ≡ get_or (stage_splits b) k no_split
    row_is k h = sym (get_d_tabulate (row_at c) 0 held k no_split h ∙ ap (row_at c) (zero-add k)) ∙ ap (λ (l : List Split). get_or l k no_split) taken

-- ---- sections that passed: the symbols are asked with their columns
pub sections_as : (name_bytes name_places name_lengths b image head_places I places symbols splits : List ℕ) (size : ℕ)
    → head_places ≡ stage_places 15 (length b / 15) → ((n : ℕ) → n < length b / 15 → get_or I n 0 ≡ get_or (image_places_of places) n 0)
    → from_symbols name_bytes name_places name_lengths (sections_in b head_places) (sections_of b head_places image I) symbols splits size
    ≡ from_symbols name_bytes name_places name_lengths (stage_sections b) (sections_of b (stage_places 15 (length b / 15)) image (image_places_of places)) symbols splits size
unfolding from_symbols from_splits
sections_as name_bytes name_places name_lengths b image head_places I places symbols splits size there same =
    ap (λ (l : List ℕ). from_symbols name_bytes name_places name_lengths (sections_in b l) (sections_of b l image I) symbols splits size) there
    ∙ ap (λ (m : Outcome (List Split)). symbols_check 4096 (length name_lengths) (stage_sections b) symbols >> (splits_check (room_of size) name_lengths (stage_sections b) splits >> m))
    (trim_alike (image_of symbols (stage_places 20 (length symbols / 20)) name_bytes name_places name_lengths) b (stage_places 15 (length b / 15)) image I (image_places_of places)
    (λ n h. same n (rw length-stage_places at h)) (stage_splits splits))

-- ---- names that passed: the sections are asked with them
pub names_as : (ends bytes sections section_places image symbols splits : List ℕ) (size : ℕ)
    → from_sections bytes (name_starts ends (length ends / 2)) (stage_lengths ends bytes) sections section_places image symbols splits size
    ≡ (image_check 64 (stage_lengths ends bytes) section_places (length image) sections
    >> (symbols_check 4096 (length ends / 2) (stage_sections sections) symbols
    >> (splits_check (room_of size) (stage_lengths ends bytes) (stage_sections sections) splits
    >> trimmed (image_of symbols (stage_places 20 (length symbols / 20)) bytes (name_starts ends (length ends / 2)) (stage_lengths ends bytes))
    (sections_of sections (stage_places 15 (length sections / 15)) image (image_places_of section_places)) (stage_splits splits))))
unfolding from_sections from_symbols from_splits name_lengths
names_as ends bytes sections section_places image symbols splits size =
    ap (λ (n : ℕ).
    image_check 64 (stage_lengths ends bytes) section_places (length image) sections
    >> (symbols_check 4096 n (stage_sections sections) symbols
    >> (splits_check (room_of size) (stage_lengths ends bytes) (stage_sections sections) splits
    >> trimmed (image_of symbols (stage_places 20 (length symbols / 20)) bytes (name_starts ends (length ends / 2)) (stage_lengths ends bytes))
    (sections_of sections (stage_places 15 (length sections / 15)) image (image_places_of section_places)) (stage_splits splits))))
    (length-map (stage_names ends bytes (length ends / 2)) length ∙ length-stage_names ends bytes (length ends / 2))
