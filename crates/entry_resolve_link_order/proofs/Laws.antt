-- What each table leaves for the next, and what the entry's outputs are after the clearing. Assumes nothing.
use Prim.Native.Nat.{ℕ, ◌*◌, ◌/◌, ◌≤◌, ◌<◌}
use mathlib.Core.Path.{◌≡◌, refl, sym, ap, ap₂, subst, ◌∙◌}
use mathlib.Core.List.{List, [], ◌∷◌}
use mathlib.Core.Bool.{Bool}
use native.Mathlib.Nat.{zero-add}
use native.Mathlib.Omega.{arith}
use lib.ListN.{length, get_or, length-map}
use lib.Seq.{get_or-take}
use Rattle.lists.specs.Rows.{clear_from}
use Rattle.lists.specs.Outcome.{Outcome, accepted, refused, ◌>>◌}
use Rattle.lists.proofs.Rows.{get_d_tabulate, length-tabulate, has_place}
use Rattle.lists.proofs.Outcomes.{then_goes}
use Rattle.lists.proofs.Clear.{clear_all}
use Rattle.obj.specs.Answers.{word, outcome_word, meaning}
use Rattle.obj.specs.Records.{section_at, split_at, unit_at, stage_places, split_width}
use Rattle.obj.specs.Answers.{Answer}
use Rattle.std.specs.Prelude.{Result, Ok, Err}
use Rattle.std.specs.Result.{IsErrAnd}
use Rattle.std.proofs.lemmas.List.{get_or-map}
use Rattle.obj.specs.declared.Refusal.{Refusal}
use Rattle.obj.specs.declared.Split.{Split}
use Rattle.obj.specs.declared.Section.{Section}
use Rattle.obj.specs.declared.Table.{Table}
use Rattle.obj.specs.declared.Unit as units
use Rattle.obj.proofs.Laws.{length-stage_places}
use Rattle.obj.specs.Nothing.{no_section, no_split, no_unit}
use Rattle.outputs.specs.Outputs.{store_count, store_counts}
use Rattle.outputs.proofs.Laws.{laid-after, counts_stored}
use Rattle.names.specs.Names.{name_at, names_of}
use Rattle.names.specs.Fixed.{is_pointer_list}
use Rattle.tables.specs.Tables.{records_check}
use Rattle.tables.specs.Records.{sections_in, units_in, section_fault, split_fault, unit_fault}
use Rattle.tables.proofs.Laws as tables
use Rattle.name_table.specs.NameTable.{name_in, stage_names, names_check}
use Rattle.name_table.specs.Stored.{Stored, Readable, name_starts, name_lengths, stage_lengths}
use Rattle.name_table.proofs.Laws.{length-stage_lengths}
use Rattle.stage_tables.specs.StageTables.{stage_sections, stage_splits, stage_units, sections_check, splits_check, units_check, Taken as TakenTable}
use Rattle.stage_tables.proofs.Laws.{table_passed, taken-count, length_sections}
use Rattle.stage_splits.specs.StageSplits.{Taken}
use Rattle.splits.specs.Columns.{Columns, rows, row_at}
use Rattle.toposort.specs.Search.{End}
use Rattle.toposort.specs.Sorting.{nodes_left}
use Rattle.link_graph.specs.Columns.{pointers_in}
use Rattle.link_graph.proofs.Rows.{row_at_lem}
use Rattle.order.specs.declared.Unlinked.{Unlinked}
use Rattle.order.specs.declared.Unlinked.TheVariants.{Refused}
use Rattle.order.specs.LinkOrder.{link_order, records_of}
use Rattle.order.specs.Bytes.{units_bytes}
use Rattle.order.specs.Columns.{kept, answer_of, Resolves, SplitsTaken, UnitsTaken}
use Rattle.order.proofs.Errors.{refused_as}
use Rattle.order.proofs.Bytes.{length-units_bytes}
use Rattle.order.proofs.Stage.{same_pointers, resolves_as, length_records}
use Rattle.entry_resolve_link_order.proofs.Refusals.{Low}
use Rattle.entry_resolve_link_order.specs.Entry.{given_in, resolve_of, Leaves}
use Rattle.entry_resolve_link_order.specs.Lines.{from_splits, SectionsTaken}

-- ---- one table after another

-- a refused table is the answer
pub refused_table : {check : Outcome (Unit {0})} {e : Refusal} (splits : List Split) (us : List units.Unit) (rest : Outcome End) (before : List ℕ) (a : Answer)
    (r : Result ℕ Unlinked) → meaning a ≡ check → a ≡ Err e → IsErrAnd r (λ d. d ≡ Refused e) → Low check → Resolves splits us (check >> rest) r before before
unfolding ◌>>◌ units_bytes records_of
refused_table {check} {e} splits us rest before a r said told given low =
    let q = refused_as r a given told told in
    let stop = sym said ∙ ap meaning told in
    let small : Low {A = Unit {0}} (refused e.number e.section e.address) = subst (λ (x : Outcome (Unit {0})). Low x) stop low in
    rw (q, stop) record { said = refl; counted = refl; front = refl; room = omega arith; few = omega arith; other = λ z. omega (arith, small.1, z) }

-- ---- names
-- the names that are read in the columns are those of the table
name_is : (ends bytes places lengths heads chain : List ℕ) (n : ℕ) → Stored ends bytes places lengths heads chain n → (k : ℕ) → k < n
    → name_at bytes (name_starts ends n) (name_lengths ends bytes n) k ≡ name_in ends bytes k
unfolding name_at names_of stage_names
name_is ends bytes places lengths heads chain n s k h =
    let there : get_or (names_of bytes places lengths n) k [] ≡ get_or (stage_names ends bytes n) k [] = ap (λ (l : List (List ℕ)). get_or l k []) s.names in
    ap₂ (λ (p l : List ℕ). name_at bytes p l k) (sym s.starts) (sym s.sizes)
    ∙ ap₂ (λ (i j : ℕ). name_at bytes (i ∷ []) (j ∷ []) 0) (get_or-take n places k 0 h) (get_or-take n lengths k 0 h)
    ∙ sym (get_d_tabulate (name_at bytes places lengths) 0 n k [] h ∙ ap (name_at bytes places lengths) (zero-add k))
    ∙ there
    ∙ get_d_tabulate (name_in ends bytes) 0 n k [] h ∙ ap (name_in ends bytes) (zero-add k)

-- ---- sections
module _ (lengths b : List ℕ) (e : sections_check 64 lengths b ≡ accepted tt) where
  passed_sections : records_check (section_fault lengths (stage_sections b)) (length b / 15) ≡ accepted tt
  passed_sections = (table_passed 15 64 b (section_fault lengths (stage_sections b)) e).2

  -- section k of the table is the head at its place
  head_at : (k : ℕ) → k < length b / 15 → get_or (stage_sections b) k no_section ≡ section_at b (get_or (stage_places 15 (length b / 15)) k 0)
  head_at k h = get_or-map (section_at b) (stage_places 15 (length b / 15)) k 0 no_section (omega (arith, length-stage_places 15 (length b / 15)))

  head_named : (k : ℕ) → k < length b / 15 → (section_at b (get_or (stage_places 15 (length b / 15)) k 0)).name < length lengths
  head_named k h =
      let named = (tables.sections_named lengths (stage_sections b) (length b / 15) passed_sections k h).0 in
      rw (sym (ap (λ (s : Section). s.name) (head_at k h))) (has_place lengths (get_or (stage_sections b) k no_section).name named)

pub sections_taken : (lengths b name_bytes name_places : List ℕ) {t : Table} → TakenTable (sections_check 64 lengths b) 15 b (Ok t)
    → Readable name_bytes name_places lengths → length lengths ≤ 4096 → SectionsTaken t.bytes.now t.places.now name_bytes name_places lengths
sections_taken lengths b name_bytes name_places {t} k names few =
    let w = k.table in
    let n : length t.places.now ≡ length b / 15 = taken-count 15 b w in
    record {
      held = w.held;
      sections = record {
        held = λ i h. record { there = h; inside = w.held.each i h };
        names = names.named;
        named = λ i h.
            let q : i < length b / 15 = omega (arith, n, h) in
            let at : (section_at t.bytes.now (get_or t.places.now i 0)).name ≡ (section_at b (get_or (stage_places 15 (length b / 15)) i 0)).name = λ z. (section_at (w.bytes z) (get_or (w.places z) i 0)).name in
            omega (arith, names.paired, at, head_named lengths b (sym k.said) i q);
      };
      few = few;
    }

-- ---- splits
module _ (lengths heads head_places name_bytes name_places b : List ℕ) (c : Columns) (n : ℕ) {answer : Outcome (Unit {0})}
    (t : Taken answer (splits_check 1024 lengths (sections_in heads head_places) b) b (rows c n)) (e : answer ≡ accepted tt) where
  passed_table : (length b / split_width ≤ 1024) × (records_check (split_fault lengths (sections_in heads head_places) (stage_splits b)) (length b / split_width) ≡ accepted tt)
  passed_table = let p = table_passed split_width 1024 b (split_fault lengths (sections_in heads head_places) (stage_splits b)) (sym t.said ∙ e) in (p.1, p.2)

  pub rows_taken : rows c n ≡ stage_splits b
  rows_taken = t.taken (sym t.said ∙ e)

  count_taken : n ≡ length b / split_width
  count_taken =
      sym (length-tabulate (row_at c) 0 n) ∙ ap length rows_taken ∙ length-map (stage_places split_width (length b / split_width)) (split_at b)
      ∙ length-stage_places split_width (length b / split_width)

  row_taken : (i : ℕ) → i < n → row_at c i ≡ get_or (stage_splits b) i no_split
  row_taken i h = sym (row_at_lem c n i h) ∙ ap (λ (l : List Split). get_or l i no_split) rows_taken

  pub splits-taken : SectionsTaken heads head_places name_bytes name_places lengths → SplitsTaken c n heads head_places name_bytes name_places lengths
  splits-taken s = record {
    given = record {
      few = omega (arith, passed_table.0, count_taken);
      sections = s.sections;
      sectioned = λ i h.
          let q = tables.splits_section lengths (sections_in heads head_places) (stage_splits b) (length b / split_width) passed_table.1 i (omega (arith, count_taken, h)) in
          omega (arith, ap (λ (r : Split). r.section) (row_taken i h), length-map head_places (section_at heads));
    };
    named = λ i h.
        let partials = tables.splits_partials lengths (sections_in heads head_places) (stage_splits b) (length b / split_width) passed_table.1 in
        let there = tables.partials_named lengths (stage_splits b) (length b / split_width) partials i (omega (arith, count_taken, h)) in
        let q = has_place lengths (get_or (stage_splits b) i no_split).unit there in
        omega (arith, ap (λ (r : Split). r.unit) (row_taken i h), s.few);
    few = s.few;
  }

-- ---- units
pub units_taken : (lengths b : List ℕ) {t : Table} → TakenTable (units_check 1024 lengths b) 8 b (Ok t) → length lengths ≤ 4096 → UnitsTaken t.bytes.now t.places.now
units_taken lengths b {t} k few =
    let w = k.table in
    let passed = table_passed 8 1024 b (unit_fault lengths (stage_units b)) (sym k.said) in
    let count : length t.places.now ≡ length b / 8 = taken-count 8 b w in
    record {
      whole = record { each = λ i h. w.held.each i h };
      few = omega (arith, passed.1, count);
      named = λ i h.
          let q : i < length b / 8 = omega (arith, count, h) in
          let at : get_or (stage_units b) i no_unit ≡ unit_at b (get_or (stage_places 8 (length b / 8)) i 0) = get_or-map (unit_at b) (stage_places 8 (length b / 8)) i 0 no_unit (omega (arith, q, length-stage_places 8 (length b / 8))) in
          let n = has_place lengths (get_or (stage_units b) i no_unit).name (tables.units_named lengths (stage_units b) (length b / 8) passed.2 i q) in
          let same : (unit_at t.bytes.now (get_or t.places.now i 0)).name ≡ (unit_at b (get_or (stage_places 8 (length b / 8)) i 0)).name = λ z. (unit_at (w.bytes z) (get_or (w.places z) i 0)).name in
          omega (arith, n, few, same, ap (λ (u : units.Unit). u.name) at);
    }

-- after a refusal nothing is asked
stops : (number section address : ℕ) (m n : Outcome End) → (refused number section address >> m) ≡ (refused number section address >> n)
unfolding ◌>>◌
stops number section address m n = refl

-- ---- each table that passed, and then the rest of the entry

-- the rows in the columns and the units at their places are those of the tables
pub from_splits_as : {r : Result ℕ Unlinked} {before after : List ℕ} (S : List Split) (P : ℕ → Bool) (lengths : List ℕ) (heads : List Section) (sb ub : List ℕ) (size : ℕ) (places : List ℕ)
    → S ≡ stage_splits sb → splits_check 1024 lengths heads sb ≡ accepted tt → places ≡ stage_places 8 (length ub / 8) → units_check 1024 lengths ub ≡ accepted tt
    → Resolves S (units_in ub places) (link_order (record { splits = S; units = units_in ub places; pointers = P }) (size / 8)) r before after
    → Resolves (stage_splits sb) (stage_units ub) (from_splits lengths heads P sb ub size) r before after
unfolding from_splits
from_splits_as {r} {before} {after} S P lengths heads sb ub size places rows sp there up w =
    resolves_as (then_goes refl _ up ∙ then_goes refl _ sp)
    (subst (λ (l : List Split). Resolves l (stage_units ub) (link_order (record { splits = l; units = stage_units ub; pointers = P }) (size / 8)) r before after) rows
    (subst (λ (l : List ℕ). Resolves S (units_in ub l) (link_order (record { splits = S; units = units_in ub l; pointers = P }) (size / 8)) r before after) there w))

-- ---- which sections are named `.ctors` or `.dtors`
pointers_splits : (lengths : List ℕ) (heads : List Section) (p q : ℕ → Bool) (splits us : List ℕ) (size : ℕ) → ((k : ℕ) → k < length heads → p k ≡ q k)
    → from_splits lengths heads p splits us size ≡ from_splits lengths heads q splits us size
unfolding from_splits
pointers_splits lengths heads p q splits us size agree = by_check (splits_check 1024 lengths heads splits) refl
  where
    same : splits_check 1024 lengths heads splits ≡ accepted tt
        → link_order (record { splits = stage_splits splits; units = stage_units us; pointers = p }) (size / 8)
        ≡ link_order (record { splits = stage_splits splits; units = stage_units us; pointers = q }) (size / 8)
    same e =
        let passed = (table_passed split_width 1024 splits (split_fault lengths heads (stage_splits splits)) e).2 in
        same_pointers (stage_splits splits) (stage_units us) p q (size / 8)
        (λ i h.
        let k : i < length splits / split_width = omega (arith, length-map (stage_places split_width (length splits / split_width)) (split_at splits), length-stage_places split_width (length splits / split_width)) in
        agree _ (tables.splits_section lengths heads (stage_splits splits) (length splits / split_width) passed i k))

    by_check : (o : Outcome (Unit {0})) → splits_check 1024 lengths heads splits ≡ o
        → (o >> (units_check 1024 lengths us >> link_order (record { splits = stage_splits splits; units = stage_units us; pointers = p }) (size / 8)))
        ≡ (o >> (units_check 1024 lengths us >> link_order (record { splits = stage_splits splits; units = stage_units us; pointers = q }) (size / 8)))
    by_check (accepted u) e = ap (λ (x : Outcome End). accepted u >> (units_check 1024 lengths us >> x)) (same e)
    by_check (refused number section address) e = stops number section address _ _

-- the names in the columns are those of the table, so both say the same of a section that is there
pointers_named : (ends bytes places lengths heads chain sections splits us : List ℕ) → Stored ends bytes places lengths heads chain (length ends / 2)
    → sections_check 64 (stage_lengths ends bytes) sections ≡ accepted tt → (k : ℕ) → k < length sections / 15
    → pointers_in sections (stage_places 15 (length sections / 15)) bytes (name_starts ends (length ends / 2)) (stage_lengths ends bytes) k ≡ (given_in ends bytes sections splits us).pointers k
pointers_named ends bytes places lengths heads chain sections splits us s check k h =
    let n = length ends / 2 in
    let named : (section_at sections (get_or (stage_places 15 (length sections / 15)) k 0)).name < n =
    omega (arith, head_named (stage_lengths ends bytes) sections check k h, length-stage_lengths ends bytes) in
    ap is_pointer_list (name_is ends bytes places lengths heads chain n s (section_at sections (get_or (stage_places 15 (length sections / 15)) k 0)).name named)
    ∙ ap (λ (x : Section). is_pointer_list (name_in ends bytes x.name)) (sym (head_at (stage_lengths ends bytes) sections check k h))

-- the names in the columns and the heads at their places are those of the tables, and so the rest is that of the entry
pub from_names_as : {S : List Split} {us : List units.Unit} {r : Result ℕ Unlinked} {before after : List ℕ} (ends bytes places lengths heads chain sections sb ub : List ℕ) (size : ℕ)
    (name_bytes name_places name_lengths head_places : List ℕ)
    → Stored ends bytes places lengths heads chain (length ends / 2) → names_check 4096 ends bytes ≡ accepted tt → sections_check 64 (stage_lengths ends bytes) sections ≡ accepted tt
    → name_bytes ≡ bytes → name_places ≡ name_starts ends (length ends / 2) → name_lengths ≡ stage_lengths ends bytes → head_places ≡ stage_places 15 (length sections / 15)
    → Resolves S us (from_splits name_lengths (sections_in sections head_places) (pointers_in sections head_places name_bytes name_places name_lengths) sb ub size) r before after
    → Resolves S us (resolve_of ends bytes sections sb ub size) r before after
unfolding resolve_of from_splits
from_names_as {S} {us} {r} {before} {after} ends bytes places lengths heads chain sections sb ub size name_bytes name_places name_lengths head_places s np sp eb ep el eh w =
    let L = stage_lengths ends bytes in
    let Q = (given_in ends bytes sections sb ub).pointers in
    resolves_as
    ((λ d. from_splits (el d) (sections_in sections (eh d)) (pointers_in sections (eh d) (eb d) (ep d) (el d)) sb ub size)
    ∙ pointers_splits L (stage_sections sections) (pointers_in sections (stage_places 15 (length sections / 15)) bytes (name_starts ends (length ends / 2)) L) Q sb ub size
    (λ k h.
    pointers_named ends bytes places lengths heads chain sections sb ub s sp k
    (omega (arith, h, length_sections sections)))
    ∙ then_goes refl (from_splits L (stage_sections sections) Q sb ub size) sp
    ∙ then_goes refl _ np)
    w

-- ---- the outputs after the clearing

-- the word of an answer is that of its meaning
word_means : (a : Answer) → word a ≡ outcome_word (meaning a)
word_means (Ok u) = refl
word_means (Err r) = refl

pub leaves : (splits : List Split) (us : List units.Unit) (o : Outcome End) (r : Result ℕ Unlinked) (before after counts : List ℕ) (k answer : ℕ) (a : Answer) (out counted : List ℕ)
    → Resolves splits us o r before after → k ≡ kept r → a ≡ answer_of r → answer ≡ word a → out ≡ clear_from 0 (8 * k) after
    → counted ≡ store_count 0 k (clear_from 0 0 counts) → Leaves splits us o (length before) (length counts) answer out counted
unfolding store_counts
leaves splits us o r before after counts k answer a out counted w kept-is answer-is said cleared stored =
    let bytes = units_bytes (records_of splits us (nodes_left o)) in
    let number : k ≡ length (nodes_left o) = kept-is ∙ w.counted in
    let long : 8 * k ≡ length bytes = omega (arith, length-units_bytes (records_of splits us (nodes_left o)), length_records splits us (nodes_left o), number) in
    record {
      said = said ∙ word_means a ∙ ap outcome_word (ap meaning answer-is ∙ w.said);
      units = cleared ∙ ap (clear_from 0 (8 * k)) w.front ∙ laid-after before bytes (8 * k) long (omega (arith, w.room, kept-is));
      counted =
          stored ∙ ap₂ (λ (i : ℕ) (l : List ℕ). store_count 0 i l) number (clear_all 0 counts)
          ∙ counts_stored (length counts) (length (nodes_left o) ∷ []);
    }
