-- A stage table in two steps: its size with the places of its records, then the records at those places. What both say together is the table's
-- outcome; a table that passed has its size, its count and records without a fault. Callers use `table_passed`, `taken_few` and `taken-count`.
-- Assumes nothing.
use borrow.Author.Tests.{le-ltb}
use Prim.Native.Nat.{ℕ, ◌*◌, ◌/◌, ◌%◌, ◌≤◌}
use mathlib.Core.Path.{◌≡◌, sym, ap, ◌∙◌, refl}
use mathlib.Core.List.{List, [], ◌++◌}
use native.Mathlib.Nat.{mul-le-mul, mul-div-le}
use native.Mathlib.Omega.{arith}
use lib.ListN.{length, length-map, take}
use lib.Seq.{take_all, take-append-le}
use Rattle.std.specs.Prelude.{Ok, Err}
use Rattle.lists.specs.Outcome.{Outcome, accepted}
use Rattle.lists.proofs.Outcomes.{not_both, then_stops, then_goes, then_both, passes}
use Rattle.lists.specs.Rows.{tabulate}
use Rattle.obj.specs.Records.{stage_places, section_at, split_at, split_width}
use Rattle.obj.proofs.Laws.{length-stage_places}
use Rattle.obj.specs.Answers.{meaning}
use Rattle.obj.specs.declared.Refusal.{Refusal}
use Rattle.obj.specs.declared.Section.{Section}
use Rattle.obj.specs.declared.Table.{Table}
use Rattle.tables.specs.Tables.{size_check, records_check, AllHeld}
use Rattle.tables.proofs.Lookups.{stage_held}
use Rattle.tables.proofs.Laws.{size_passed, records_pass}
use Rattle.tables.specs.Records.{split_fault}
use Rattle.stage_tables.specs.StageTables.{stage_sections, stage_splits, table_check, Filled, Taken, Whole, splits_check}

-- ---- a table that passed
pub table_passed : (width ceiling : ℕ) (b : List ℕ) (fault : ℕ → ℕ) → table_check width ceiling b fault ≡ accepted tt
    → (length b % width ≡ 0) × (length b / width ≤ ceiling) × (records_check fault (length b / width) ≡ accepted tt)
unfolding table_check
table_passed width ceiling b fault e =
    let p = then_both _ _ _ e in
    let s = size_passed width ceiling (length b) p.0 in
    (s.0, s.1, p.1)

-- what a function of this crate gives that took a table
pub taken_few : (width ceiling : ℕ) (b : List ℕ) (fault : ℕ → ℕ) {t : Table} → Taken (table_check width ceiling b fault) width b (Ok t) → length b / width ≤ ceiling
taken_few width ceiling b fault k = (table_passed width ceiling b fault (sym k.said)).1

pub taken-count : (width : ℕ) (b : List ℕ) {t : Table} → Whole width b t → length t.places.now ≡ length b / width
taken-count width b w = ap length w.places ∙ length-stage_places width (length b / width)

-- ---- its size, with the places of its records

-- the places take no more than 32 bits
pub places_fit : (width n : ℕ) → width ≤ 64 → n ≤ 4096 → width * n ≤ 4294967295
places_fit width n w h = omega (arith, mul-le-mul w h)

-- what was said of the records at a table's places is said of the table
records_asked : (width ceiling : ℕ) (b : List ℕ) → accepted tt ≡ size_check width ceiling (length b) → (fault : List ℕ → ℕ → ℕ) {places : List ℕ} {answer : Outcome (Unit {0})}
    → places ≡ stage_places width (length b / width) → answer ≡ records_check (fault places) (length places)
    → answer ≡ table_check width ceiling b (fault (stage_places width (length b / width)))
unfolding table_check
records_asked width ceiling b said fault there a =
    a
    ∙ ap (λ (l : List ℕ). records_check (fault l) (length l)) there
    ∙ ap (records_check (fault (stage_places width (length b / width)))) (length-stage_places width (length b / width))
    ∙ then_goes said _ refl

-- ---- .. of a table that is answered

-- places that were filled are those of the table
pub size_taken : (width ceiling : ℕ) (b : List ℕ) (t : Table) → accepted tt ≡ size_check width ceiling (length b) → ceiling ≤ 4096 → t.bytes.now ≡ b
    → t.places.now ≡ stage_places width (length b / width) → Taken (size_check width ceiling (length b)) width b (Ok t)
size_taken width ceiling b t said few bytes places =
    let s = size_passed width ceiling (length b) (sym said) in
    record {
      said = said;
      table = record { bytes = bytes; places = places; held = rw (bytes, places) (stage_held width (length b / width) b (omega (arith, s.1, few)) (mul-div-le (length b) width)) };
    }

-- a refused size is the table's refusal
pub size_refused : (width ceiling : ℕ) (b : List ℕ) (fault : ℕ → ℕ) {r : Refusal} → Taken (size_check width ceiling (length b)) width b (Err r)
    → Taken (table_check width ceiling b fault) width b (Err r)
unfolding table_check
size_refused width ceiling b fault k = record { said = then_stops k.said (records_check fault (length b / width)) refl; table = k.table }

module _ (width ceiling : ℕ) (b : List ℕ) {t : Table} (k : Taken (size_check width ceiling (length b)) width b (Ok t)) (fault : List ℕ → ℕ → ℕ) where
  pub records_refused : {r : Refusal} → meaning {A = Unit {0}} (Err r) ≡ records_check (fault t.places.now) (length t.places.now)
      → Taken (table_check width ceiling b (fault (stage_places width (length b / width)))) width b (Err r)
  records_refused a = record { said = records_asked width ceiling b k.said fault k.table.places a; table = tt }

  pub records_taken : accepted tt ≡ records_check (fault t.places.now) (length t.places.now)
      → Taken (table_check width ceiling b (fault (stage_places width (length b / width)))) width b (Ok t)
  records_taken a = record { said = records_asked width ceiling b k.said fault k.table.places a; table = k.table }

-- ---- .. of a column

-- a column whose front was filled
pub front_filled : (width n : ℕ) (front rest : List ℕ) {m : ℕ} → front ≡ stage_places width m → m ≡ n → take n (front ++ rest) ≡ stage_places width n
front_filled width n front rest {m} is few =
    let long = ap length is ∙ length-stage_places width m in
    take-append-le n front rest (omega (arith, long, few)) ∙ take_all n front (omega (arith, long, few)) ∙ is ∙ ap (stage_places width) few

-- the places of an accepted table are those of its records, which lie in it
pub table-held : (width : ℕ) (b places : List ℕ) {answer want : Outcome (Unit {0})} → Filled answer want width (length b) places → want ≡ accepted tt
    → length b / width ≤ 4096 → AllHeld width b (take (length b / width) places)
table-held width b places f e few = rw (f.filled e) (stage_held width (length b / width) b (omega arith) (mul-div-le (length b) width))

module _ (width ceiling : ℕ) (b places : List ℕ) where
  -- a refused size is the table's refusal
  pub filled_refused : (fault : ℕ → ℕ) {r : Refusal} → Filled (meaning {A = Unit {0}} (Err r)) (size_check width ceiling (length b)) width (length b) places
      → Filled (meaning {A = Unit {0}} (Err r)) (table_check width ceiling b fault) width (length b) places
  unfolding table_check
  filled_refused fault f =
      let said = then_stops f.said (records_check fault (length b / width)) refl in
      record { said = said; filled = λ q. absurd (not_both (said ∙ q)) }

  module _ (f : Filled (accepted tt) (size_check width ceiling (length b)) width (length b) places) where
    pub size_few : length b / width ≤ ceiling
    size_few = (size_passed width ceiling (length b) (sym f.said)).1

    pub size_held : ceiling ≤ 4096 → AllHeld width b (take (length b / width) places)
    size_held few = table-held width b places f (sym f.said) (omega (arith, size_few))

    -- what was said of the records at the places is said of the table's
    pub records_said : (fault : List ℕ → ℕ → ℕ) {answer : Outcome (Unit {0})}
        → answer ≡ records_check (fault (take (length b / width) places)) (length (take (length b / width) places))
        → Filled answer (table_check width ceiling b (fault (stage_places width (length b / width)))) width (length b) places
    records_said fault a =
        let p = f.filled (sym f.said) in record { said = records_asked width ceiling b f.said fault p a; filled = λ _. p }

-- ---- a column that was filled, and the table at its places
module _ (width ceiling : ℕ) (b places : List ℕ) (fault : ℕ → ℕ) (f : Filled (accepted tt) (table_check width ceiling b fault) width (length b) places) where
  pub filled_few : length b / width ≤ ceiling
  filled_few = (table_passed width ceiling b fault (sym f.said)).1

  pub filled-count : length (take (length b / width) places) ≡ length b / width
  filled-count = ap length (f.filled (sym f.said)) ∙ length-stage_places width (length b / width)

  pub filled-held : ceiling ≤ 4096 → AllHeld width b (take (length b / width) places)
  filled-held low = table-held width b places f (sym f.said) (omega (arith, filled_few))

  pub table_taken : ceiling ≤ 4096 → (t : Table) → t.bytes.now ≡ b → t.places.now ≡ take (length b / width) places → Taken (table_check width ceiling b fault) width b (Ok t)
  table_taken low t bytes there =
      record {
        said = f.said;
        table = record {
          bytes = bytes;
          places = there ∙ f.filled (sym f.said);
          held = rw (bytes, there) (filled-held low);
        };
      }

-- there are as many sections, and splits, as their table has records
pub length_sections : (sections : List ℕ) → length (stage_sections sections) ≡ length sections / 15
length_sections sections = length-map (stage_places 15 (length sections / 15)) (section_at sections) ∙ length-stage_places 15 (length sections / 15)

pub length_splits : (splits : List ℕ) → length (stage_splits splits) ≡ length splits / split_width
length_splits splits = length-map (stage_places split_width (length splits / split_width)) (split_at splits) ∙ length-stage_places split_width (length splits / split_width)

-- a table without splits has none, and passes every check
pub no_splits : stage_splits [] ≡ []
unfolding stage_places tabulate
no_splits = refl

pub no_splits_pass : (ceiling : ℕ) (lengths : List ℕ) (sections : List Section) → splits_check ceiling lengths sections [] ≡ accepted tt
unfolding table_check size_check
no_splits_pass ceiling lengths sections =
    sym (then_goes (refl {a = size_check split_width ceiling 0}) _ (passes 1 0 _ _ _ refl ∙ passes 2 0 ceiling _ _ (le-ltb ceiling 0 (omega arith))))
    ∙ records_pass (split_fault lengths sections (stage_splits [])) 0 (λ k h. absurd (omega (arith, h)))
