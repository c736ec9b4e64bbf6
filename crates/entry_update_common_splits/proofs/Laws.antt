-- The stage's answer on its way into the outputs, and what the tables leave in the columns: the sections with their names, and which of them are named `.bss`.
-- Assumes nothing.
use Prim.Native.Nat.{ℕ, ◌/◌, ◌≤◌, ◌<◌}
use mathlib.Core.Path.{◌≡◌, refl, sym, ap, ap₂, subst, ◌∙◌}
use mathlib.Core.List.{List, []}
use mathlib.Core.Bool.{Bool, true, false, not}
use lib.Dec.{eqb}
use mathlib.Core.Logic.{◌⊎◌, inl, inr}
use native.Mathlib.Omega.{arith}
use lib.ListN.{length, get_or, take, drop, get_or-eq_default}
use lib.Seq.{get_or-take, length-take-le}
use Rattle.lists.specs.Outcome.{Outcome, accepted, ◌>>◌}
use Rattle.lists.specs.Rows.{tabulate, keep_if}
use Rattle.lists.proofs.Filter.{keep_same}
use Rattle.lists.proofs.Mapping.{numbers_all}
use Rattle.lists.proofs.Outcomes.{not_both, same_accepted}
use Rattle.lists.proofs.Rows.{has_place}
use Rattle.obj.specs.Answers.{meaning}
use Rattle.obj.specs.Records.{section_at, stage_places}
use Rattle.obj.specs.Answers.{Answer}
use Rattle.std.specs.Prelude.{Option, None, Some, Ok, Err, is_some, unwrap_or}
use Rattle.std.specs.Bool.{then_some}
use Rattle.std.proofs.lemmas.Bool.{cases_lt}
use Rattle.std.proofs.lemmas.List.{get_or-map}
use Rattle.obj.specs.declared.Refusal.{Refusal}
use Rattle.obj.specs.declared.Section.{Section}
use Rattle.obj.specs.declared.Split.{Split}
use Rattle.obj.specs.declared.Table.{Table}
use Rattle.obj.proofs.Laws.{length-stage_places}
use Rattle.obj.specs.Nothing.{no_section}
use Rattle.names.specs.Names.{name_at}
use Rattle.names.specs.Fixed.{is_bss}
use Rattle.names.proofs.Laws.{name_there}
use Rattle.tables.proofs.Lookups.{held}
use Rattle.tables.proofs.Laws.{sections_named}
use Rattle.tables.specs.Tables.{main_ceilings}
use Rattle.name_table.specs.NameTable.{stage_names, names_check}
use Rattle.name_table.specs.Stored.{stage_lengths, name_lengths, name_starts, Stored, Readable}
use Rattle.name_table.proofs.Laws.{length-stage_names}
use Rattle.stage_tables.specs.StageTables.{stage_sections, stage_splits, sections_check, splits_check, Taken}
use Rattle.stage_tables.proofs.Laws.{table_passed, taken_few, taken-count}
use Rattle.stage_splits.specs.StageSplits.{room_of, Laid, Gives}
use Rattle.stage_splits.proofs.Laws.{gives_as, gives_goes}
use Rattle.common.specs.Common.{bss_sections, common_start, common_of, answered}
use Rattle.common.specs.Sections.{bss_at, Sections}
use Rattle.entry_update_common_splits.specs.Entry.{stage_bss, update_of, from_splits, from_sections}
use Rattle.entry_update_common_splits.specs.Lent.{update_with}

-- ---- the stage's answer. Not those of stage_splits and no `seen_refused` of the trim's entry: what this stage answers is an outcome with its rows by `answered`.
module _ {size counts_size : ℕ} {out counts : List ℕ} {a : Answer} (o : Outcome (List Split)) (l : List Split) (q : answered a l ≡ o) where
  pub gives_refused : {d : Refusal} → a ≡ Err d → Gives o a size counts_size out counts
  gives_refused e = gives_as (sym (ap (λ (x : Answer). answered x l) e) ∙ q) (record { answered = ap meaning e; given = λ r z. absurd (not_both z) })

  pub gives_laid : a ≡ Ok tt → Laid l size counts_size out counts → Gives o a size counts_size out counts
  gives_laid e w =
      gives_as (sym (ap (λ (x : Answer). answered x l) e) ∙ q)
      (record { answered = ap meaning e; given = λ r z. subst (λ (x : List Split). Laid x size counts_size out counts) (same_accepted z) w })

-- splits that passed are given to the stage
pub update_goes : (lengths : List ℕ) (heads : List Section) (bss splits : List ℕ) (given : Bool) (start size : ℕ) {room : ℕ} {rows : List Split} {answer : Answer}
    {out_size counts_size : ℕ} {out counts : List ℕ} → room ≡ room_of size → splits_check room lengths heads splits ≡ accepted tt → rows ≡ stage_splits splits
    → Gives (common_of given start bss rows) answer out_size counts_size out counts
    → Gives (from_splits lengths heads bss splits given start size) answer out_size counts_size out counts
unfolding from_splits
update_goes lengths heads bss splits given start size fits passed taken w =
    gives_goes (sym (ap (λ (k : ℕ). splits_check k lengths heads splits) fits) ∙ passed) (gives_as (ap (common_of given start bss) taken) w)

-- ---- the sections

-- sections that were accepted, with the names that they have
pub sections_of_lem : {name_bytes name_places name_lengths : List ℕ} (b : List ℕ) {t : Table} → Readable name_bytes name_places name_lengths
    → Taken (sections_check 64 name_lengths b) 15 b (Ok t) → Sections name_bytes name_places name_lengths t.bytes.now t.places.now
sections_of_lem {name_bytes} {name_places} {name_lengths} b {t} names k = record {
  few = omega (arith, taken-count 15 b k.table, taken_few 15 64 b _ k);
  held = held k.table.held;
  names = names.named;
  named = λ i h. named_at i (omega (arith, h, taken-count 15 b k.table));
}
  where
    n : ℕ
    n = length b / 15

    named_at : (i : ℕ) → i < n → (section_at t.bytes.now (get_or t.places.now i 0)).name < length name_places
    named_at i h =
        let at : (section_at t.bytes.now (get_or t.places.now i 0)).name ≡ (section_at b (get_or (stage_places 15 n) i 0)).name = λ z. (section_at (k.table.bytes z) (get_or (k.table.places z) i 0)).name in
        let there = ap (λ (s : Section). s.name) (get_or-map (section_at b) (stage_places 15 n) i 0 no_section (omega (arith, h, length-stage_places 15 n))) in
        let named = (sections_named name_lengths (stage_sections b) n (table_passed 15 64 b _ (sym k.said)).2 i h).0 in
        omega (arith, at, there, has_place name_lengths (get_or (stage_sections b) i no_section).name named, names.paired)

-- ---- the sections named `.bss`

-- a name of the columns is that of the table, and empty where the table has none
name_as : {ends bytes places lengths heads chain : List ℕ} {n : ℕ} → Stored ends bytes places lengths heads chain n → (j : ℕ)
    → name_at bytes (name_starts ends n) (name_lengths ends bytes n) j ≡ get_or (stage_names ends bytes n) j []
unfolding name_at
name_as {ends} {bytes} {places} {lengths} {heads} {chain} {n} s j = rw (sym s.starts, sym s.sizes) (go (cases_lt j n))
  where
    go : (j < n) ⊎ (n ≤ j) → take (get_or (take n lengths) j 0) (drop (get_or (take n places) j 0) bytes) ≡ get_or (stage_names ends bytes n) j []
    go (inl h) =
        ap₂ (λ (x y : ℕ). take x (drop y bytes)) (get_or-take n lengths j 0 h) (get_or-take n places j 0 h)
        ∙ sym (name_there bytes places lengths n j h)
        ∙ ap (λ (l : List (List ℕ)). get_or l j []) s.names
    go (inr h) =
        ap (λ (x : ℕ). take x (drop (get_or (take n places) j 0) bytes)) (get_or-eq_default (take n lengths) 0 (omega (arith, h, length-take-le n lengths s.named.measured)))
        ∙ sym (get_or-eq_default (stage_names ends bytes n) [] (omega (arith, h, length-stage_names ends bytes n)))

-- the sections are asked with the names of the table
pub names_as : {ends bytes places lengths heads chain : List ℕ} (sections splits : List ℕ) (given : Bool) (start size : ℕ)
    → Stored ends bytes places lengths heads chain (length ends / 2)
    → from_sections bytes (name_starts ends (length ends / 2)) (stage_lengths ends bytes) sections splits given start size
    ≡ (sections_check 64 (stage_lengths ends bytes) sections
    >> (splits_check (room_of size) (stage_lengths ends bytes) (stage_sections sections) splits
    >> common_of given start (bss_sections (stage_bss ends bytes sections) (length sections / 15)) (stage_splits splits)))
unfolding from_sections from_splits bss_sections bss_at
names_as {ends} {bytes} sections splits given start size s =
    ap (λ (bss : List ℕ). sections_check 64 (stage_lengths ends bytes) sections
    >> (splits_check (room_of size) (stage_lengths ends bytes) (stage_sections sections) splits >> common_of given start bss (stage_splits splits)))
    (ap (λ (m : ℕ). keep_if (bss_at bytes (name_starts ends (length ends / 2)) (stage_lengths ends bytes) sections at) (tabulate (λ k. k) 0 m)) (length-stage_places 15 count)
    ∙ keep_same _ _ (tabulate (λ k. k) 0 count) (numbers_all _ 0 count (λ k _ h. one k (omega arith))))
  where
    count : ℕ
    count = length sections / 15

    at : List ℕ
    at = stage_places 15 count

    one : (k : ℕ) → k < count → bss_at bytes (name_starts ends (length ends / 2)) (stage_lengths ends bytes) sections at k ≡ stage_bss ends bytes sections k
    one k h =
        ap is_bss (name_as s (section_at sections (get_or at k 0)).name
        ∙ ap (λ (x : Section). get_or (stage_names ends bytes (length ends / 2)) x.name []) (sym (get_or-map (section_at sections) at k 0 no_section (omega (arith, h, length-stage_places 15 count)))))

-- ---- the start

module _ (ends bytes sections splits : List ℕ) where
  -- the tables, with the start that is given
  pub update_is : (given : Option ℕ) (size : ℕ) → update_with ends bytes sections splits given size
      ≡ (names_check main_ceilings.names ends bytes
      >> (sections_check 64 (stage_lengths ends bytes) sections
      >> (splits_check (room_of size) (stage_lengths ends bytes) (stage_sections sections) splits
      >> common_of (is_some given) (unwrap_or given 0) (bss_sections (stage_bss ends bytes sections) (length sections / 15)) (stage_splits splits))))
  unfolding update_of
  update_is None size = refl
  update_is (Some start) size = refl

  -- a start that is not given is not asked
  pub start_as : (has_start start size : ℕ) → update_with ends bytes sections splits (then_some (not (eqb has_start 0)) start) size ≡ update_of ends bytes sections splits has_start start size
  unfolding update_of common_of common_start
  start_as has_start start size = go (eqb has_start 0) refl
    where
      go : (t : Bool) → eqb has_start 0 ≡ t → update_with ends bytes sections splits (then_some (not t) start) size ≡ update_of ends bytes sections splits has_start start size
      go true e = rw e refl
      go false e = rw e refl
