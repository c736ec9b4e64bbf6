-- What the tables' checks refuse with: a number from 1 to 8, section 0, and an address of 32 bits; so no refusal of a table is 61, and none is taken for
-- accepted. Assumes nothing.
use Prim.Native.Nat.{ℕ, ◌/◌, ◌%◌, ◌≤◌, ◌<◌}
use mathlib.Core.Path.{◌≡◌, refl, sym, ap, ◌∙◌}
use mathlib.Core.List.{List, [], ◌∷◌}
use mathlib.Core.Bool.{Bool, true, false, not}
use native.Mathlib.Nat.{zero-add}
use native.Mathlib.Omega.{arith}
use borrow.Author.Tests.{ltb-true}
use lib.Dec.{ltb, eqb}
use lib.ListN.{length, get_or}
use Rattle.lists.specs.Rows.{tabulate, first_from, first_in, any_of}
use Rattle.lists.specs.Outcome.{Outcome, accepted, refused, refuse, ◌>>◌}
use Rattle.lists.proofs.Rows.{length-tabulate, get_d_tabulate}
use Rattle.lists.proofs.First.{first_list}
use Rattle.lists.proofs.FirstIn.{first_in_passes}
use Rattle.obj.specs.Answers.{place}
use Rattle.obj.specs.declared.Section.{Section}
use Rattle.tables.specs.Tables.{size_check, first_fault, records_check}
use Rattle.faults.specs.Faults.{section_bad, split_bad, split_misplaced, unit_bad}
use Rattle.tables.specs.Records.{numbered, split_before, section_fault, split_fault, unit_fault}
use Rattle.tables.proofs.Laws.{size_passed}
use Rattle.name_table.specs.NameTable.{name_fault, names_check}
use Rattle.name_table.proofs.Laws.{name_few}
use Rattle.stage_tables.specs.StageTables.{table_check, stage_sections, stage_splits, stage_units, sections_check, splits_check, units_check}
use Rattle.obj.specs.Records.{split_width}
use Rattle.obj.proofs.Laws.{place_small}
use Rattle.obj.specs.Nothing.{no_section, no_split, no_unit}

abbrev pub Low : {A : Type 0} → Outcome A → Type 0
Low (accepted a) = Unit {0}
Low (refused number section address) = (1 ≤ number) × (number ≤ 8) × (section ≡ 0) × (address < 4294967296)

low_refuse : (number address : ℕ) (t : Bool) → (t ≡ true → 1 ≤ number) → number ≤ 8 → (t ≡ true → address < 4294967296) → Low (refuse number 0 address t)
unfolding refuse
low_refuse number address true a b c = (a refl, b, refl, c refl)
low_refuse number address false a b c = tt

-- one check after another
low_then : (m n : Outcome (Unit {0})) → Low m → (m ≡ accepted tt → Low n) → Low (m >> n)
unfolding ◌>>◌
low_then (accepted u) n l f = f refl
low_then (refused number section address) n l f = l

low_size : (width ceiling size : ℕ) → ceiling ≤ 4096 → Low (size_check width ceiling size)
unfolding size_check
low_size width ceiling size few =
    low_then _ _ (low_refuse 1 (place (size / width)) (not (eqb (size % width) 0)) (λ e. omega arith) (omega arith) (λ e. place_small (size / width)))
    (λ e. low_then _ _ (low_refuse 2 ceiling (ltb ceiling (size / width)) (λ e. omega arith) (omega arith) (λ e. omega arith)) (λ q. tt))

-- the first record that has a fault has one
first_faulty : (fault : ℕ → ℕ) (n : ℕ) → first_fault fault n < n → 0 < fault (first_fault fault n)
unfolding first_fault
first_faulty fault n h =
    let bad : ℕ → Bool = λ k. ltb 0 (fault k) in
    let at : first_from bad 0 n ≡ first_in bad (tabulate (λ k. k) 0 n) = first_list bad (λ k. k) n in
    let long = length-tabulate (λ k. k) 0 n in
    let inside : first_in bad (tabulate (λ k. k) 0 n) < length (tabulate (λ k. k) 0 n) = omega arith in
    let passes = first_in_passes bad (tabulate (λ k. k) 0 n) 0 inside in
    let is : get_or (tabulate (λ k. k) 0 n) (first_in bad (tabulate (λ k. k) 0 n)) 0 ≡ first_from bad 0 n =
    get_d_tabulate (λ k. k) 0 n (first_in bad (tabulate (λ k. k) 0 n)) 0 (omega arith) ∙ zero-add _ ∙ sym at in
    ltb-true 0 (fault (first_from bad 0 n)) (ap bad (sym is) ∙ passes)

low_records : (fault : ℕ → ℕ) (n : ℕ) → ((k : ℕ) → fault k ≤ 8) → n ≤ 4096 → Low (records_check fault n)
unfolding records_check
low_records fault n small few =
    low_refuse (fault (first_fault fault n)) (first_fault fault n) (ltb (first_fault fault n) n)
    (λ e. first_faulty fault n (ltb-true (first_fault fault n) n e))
    (small (first_fault fault n))
    (λ e. omega (arith, ltb-true (first_fault fault n) n e))

low_table : (width ceiling : ℕ) (b : List ℕ) (fault : ℕ → ℕ) → ((k : ℕ) → fault k ≤ 8) → ceiling ≤ 4096 → Low (table_check width ceiling b fault)
unfolding table_check
low_table width ceiling b fault small few =
    low_then (size_check width ceiling (length b)) (records_check fault (length b / width)) (low_size width ceiling (length b) few)
    (λ e. low_records fault (length b / width) small (let q = (size_passed width ceiling (length b) e).1 in omega arith))

-- ---- each kind's numbers
numbered_small : (number : ℕ) (t : Bool) → number ≤ 8 → numbered number t ≤ 8
numbered_small number true h = h
numbered_small number false h = omega arith

section_small : (lengths b : List ℕ) (k : ℕ) → section_fault lengths (stage_sections b) k ≤ 8
unfolding section_fault
section_small lengths b k =
    numbered_small 4 (section_bad (get_or lengths (get_or (stage_sections b) k no_section).name 0) (get_or (stage_sections b) k no_section)) (omega arith)

split_small : (lengths : List ℕ) (heads : List Section) (b : List ℕ) (k : ℕ) → split_fault lengths heads (stage_splits b) k ≤ 8
unfolding split_fault
split_small lengths heads b k =
    let s = get_or (stage_splits b) k no_split in
    numbered_small 7
    (any_of
    (split_bad (get_or lengths s.unit 0) (get_or lengths s.rename 0) s ∷ split_misplaced (length heads) (get_or heads s.section no_section) (split_before (stage_splits b) k) s ∷ []))
    (omega arith)

unit_small : (lengths b : List ℕ) (k : ℕ) → unit_fault lengths (stage_units b) k ≤ 8
unfolding unit_fault
unit_small lengths b k = numbered_small 8 (unit_bad (get_or lengths (get_or (stage_units b) k no_unit).name 0) (get_or (stage_units b) k no_unit)) (omega arith)

pub low_names : (ends bytes : List ℕ) → Low (names_check 4096 ends bytes)
unfolding names_check
low_names ends bytes =
    low_then (size_check 2 4096 (length ends)) (records_check (name_fault ends bytes) (length ends / 2)) (low_size 2 4096 (length ends) (omega arith))
    (λ e. low_records (name_fault ends bytes) (length ends / 2) (name_few ends bytes) (size_passed 2 4096 (length ends) e).1)

pub low_sections : (lengths b : List ℕ) → Low (sections_check 64 lengths b)
low_sections lengths b = low_table 15 64 b (section_fault lengths (stage_sections b)) (section_small lengths b) (omega arith)

pub low_splits : (lengths : List ℕ) (heads : List Section) (b : List ℕ) → Low (splits_check 1024 lengths heads b)
low_splits lengths heads b = low_table split_width 1024 b (split_fault lengths heads (stage_splits b)) (split_small lengths heads b) (omega arith)

pub low_units : (lengths b : List ℕ) → Low (units_check 1024 lengths b)
low_units lengths b = low_table 8 1024 b (unit_fault lengths (stage_units b)) (unit_small lengths b) (omega arith)
