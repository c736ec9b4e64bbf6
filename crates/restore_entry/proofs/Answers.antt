-- The numbers of the table checks' refusals are 1 to 8. So an entry whose word is 0 has accepted, and 10 and 73 come of a walk only. Assumes nothing.
use Prim.Native.Nat.{ℕ, zero, suc, ◌+◌, ◌/◌, ◌≤◌, ◌<◌}
use mathlib.Core.Path.{◌≡◌, refl}
use mathlib.Core.List.{List, [], ◌∷◌}
use mathlib.Core.Bool.{Bool, true, false, cond}
use native.Mathlib.Omega.{arith}
use lib.Dec.{ltb}
use lib.ListN.{length, get_or, take}
use borrow.Author.Tests.{ltb-true}
use Rattle.lists.specs.Outcome.{Outcome, accepted, refused, refuse, ◌>>◌}
use Rattle.lists.specs.Rows.{first_from, any_of}
use Rattle.obj.specs.Answers.{outcome_word}
use Rattle.obj.specs.declared.Section.{Section}
use Rattle.obj.specs.declared.Symbol.{Symbol}
use Rattle.obj.specs.declared.Reloc.{Reloc}
use Rattle.obj.specs.declared.Split.{Split}
use Rattle.obj.specs.declared.Unit as units
use Rattle.tables.specs.Records.{image_places_of, bytes_cut, floor_from, split_before, section_fault, image_fault, symbol_fault, reloc_fault_above, reloc_fault, split_fault, unit_fault}
use Rattle.faults.specs.Faults.{section_bad, symbol_bad, reloc_bad, split_bad, split_misplaced, unit_bad}
use Rattle.tables.specs.Tables.{size_check, first_fault, records_check}
use Rattle.name_table.specs.NameTable.{name_fault, names_check}
use Rattle.name_table.proofs.Laws.{name_few}
use Rattle.stage_tables.specs.StageTables.{stage_sections, stage_symbols, stage_relocs, stage_splits, stage_units, table_check, image_check, symbols_check, relocs_check, splits_check, units_check}
use Rattle.restore.proofs.Refusals.{Says, says_then}
use Rattle.obj.specs.Records.{split_width}
use Rattle.obj.specs.Nothing.{no_section, no_symbol, no_reloc, no_split, no_unit}

-- 1 to 8
pub record Table (number section address : ℕ) : Type 0 where
  pub least : 0 < number
  pub most : number ≤ 8

-- each refusal has the property, so it has a weaker one
pub says_map : {A : Type 0} {P Q : (number section address : ℕ) → Type 0} → ((number section address : ℕ) → P number section address → Q number section address)
    → (o : Outcome A) → Says P o → Says Q o
says_map f (accepted a) p = tt
says_map f (refused number section address) p = f number section address p

module _ (P : (number section address : ℕ) → Type 0) where
  pub says_after : {B : Type 0} (m : Outcome (Unit {0})) (o : Outcome B) → Says P m → Says P o → Says P (m >> o)
  unfolding ◌>>◌
  says_after (accepted u) o p q = q
  says_after (refused number section address) o p q = p

refuse_says : (number section address : ℕ) (t : Bool) → (t ≡ true → Table number section address) → Says Table (refuse number section address t)
unfolding refuse
refuse_says number section address true f = f refl
refuse_says number section address false f = tt

-- the first that is bad is bad
first_bad : (bad : ℕ → Bool) (i n : ℕ) → first_from bad i n < i + n → bad (first_from bad i n) ≡ true
unfolding first_from
first_bad bad i zero h = absurd (omega arith)
first_bad bad i (suc n) h = go (bad i) refl h (λ q. first_bad bad (suc i) n q)
  where
    go : (b : Bool) → bad i ≡ b → cond b i (first_from bad (suc i) n) < i + suc n → (first_from bad (suc i) n < suc i + n → bad (first_from bad (suc i) n) ≡ true)
        → bad (cond b i (first_from bad (suc i) n)) ≡ true
    go true e q ih = e
    go false e q ih = ih (omega arith)

size_says : (width ceiling size : ℕ) → Says Table (size_check width ceiling size)
unfolding size_check
size_says width ceiling size =
    says_then Table 1 _ _ _ _ (λ e. record { least = omega arith; most = omega arith })
    (λ e. says_then Table 2 _ _ _ _ (λ f. record { least = omega arith; most = omega arith }) (λ f. tt))

records_say : (fault : ℕ → ℕ) (n : ℕ) → ((k : ℕ) → fault k ≤ 8) → Says Table (records_check fault n)
unfolding records_check first_fault
records_say fault n few =
    refuse_says _ _ _ (ltb (first_fault fault n) n) (λ e. record {
      least = ltb-true 0 (fault (first_fault fault n)) (first_bad (λ k. ltb 0 (fault k)) 0 n (let h : first_fault fault n < n = ltb-true _ _ e in omega arith));
      most = few (first_fault fault n);
    })

table_says : (width ceiling : ℕ) (b : List ℕ) (fault : ℕ → ℕ) → ((k : ℕ) → fault k ≤ 8) → Says Table (table_check width ceiling b fault)
unfolding table_check
table_says width ceiling b fault few = says_after Table _ _ (size_says width ceiling (length b)) (records_say fault (length b / width) few)

-- ---- each kind's number
one_of : (number : ℕ) (t : Bool) → number ≤ 8 → cond t number 0 ≤ 8
one_of number true h = h
one_of number false h = omega arith

first_of : (number rest : ℕ) (t : Bool) → number ≤ 8 → rest ≤ 8 → cond t number rest ≤ 8
first_of number rest true h q = h
first_of number rest false h q = q

image_few : (lengths places : List ℕ) (image : ℕ) (sections : List Section) (k : ℕ) → image_fault lengths places image sections k ≤ 8
unfolding image_fault section_fault
image_few lengths places image sections k =
    first_of 1 _ (bytes_cut places image k (get_or sections k no_section)) (omega arith)
    (one_of 4 (section_bad (get_or lengths (get_or sections k no_section).name 0) (get_or sections k no_section)) (omega arith))

symbol_few : (names : ℕ) (sections : List Section) (symbols : List Symbol) (k : ℕ) → symbol_fault names sections symbols k ≤ 8
unfolding symbol_fault
symbol_few names sections symbols k =
    one_of 5 (symbol_bad names (length sections) (get_or sections (get_or symbols k no_symbol).section no_section) (get_or symbols k no_symbol)) (omega arith)

reloc_few : (sections : List Section) (symbols : ℕ) (relocs : List Reloc) (k : ℕ) → reloc_fault sections symbols relocs k ≤ 8
unfolding reloc_fault reloc_fault_above
reloc_few sections symbols relocs k =
    let r = get_or relocs k no_reloc in
    one_of 6 (reloc_bad (length sections) symbols (get_or sections r.section no_section) (floor_from r.section 0 (take k relocs)) r) (omega arith)

split_few : (lengths : List ℕ) (sections : List Section) (splits : List Split) (k : ℕ) → split_fault lengths sections splits k ≤ 8
unfolding split_fault
split_few lengths sections splits k =
    let s = get_or splits k no_split in
    one_of 7
    (any_of
    (split_bad (get_or lengths s.unit 0) (get_or lengths s.rename 0) s
    ∷ split_misplaced (length sections) (get_or sections s.section no_section) (split_before splits k) s
    ∷ []))
    (omega arith)

unit_few : (lengths : List ℕ) (us : List units.Unit) (k : ℕ) → unit_fault lengths us k ≤ 8
unfolding unit_fault
unit_few lengths us k = one_of 8 (unit_bad (get_or lengths (get_or us k no_unit).name 0) (get_or us k no_unit)) (omega arith)

pub names_say : (ceiling : ℕ) (ends bytes : List ℕ) → Says Table (names_check ceiling ends bytes)
unfolding names_check
names_say ceiling ends bytes = says_after Table _ _ (size_says 2 ceiling (length ends)) (records_say (name_fault ends bytes) (length ends / 2) (name_few ends bytes))

pub sections_say : (ceiling : ℕ) (lengths places : List ℕ) (image : ℕ) (b : List ℕ) → Says Table (image_check ceiling lengths places image b)
sections_say ceiling lengths places image b = table_says 15 ceiling b _ (image_few lengths (image_places_of places) image (stage_sections b))

pub symbols_say : (ceiling names : ℕ) (sections : List Section) (b : List ℕ) → Says Table (symbols_check ceiling names sections b)
symbols_say ceiling names sections b = table_says 20 ceiling b _ (symbol_few names sections (stage_symbols b))

pub relocs_say : (ceiling : ℕ) (sections : List Section) (symbols : ℕ) (b : List ℕ) → Says Table (relocs_check ceiling sections symbols b)
relocs_say ceiling sections symbols b = table_says 23 ceiling b _ (reloc_few sections symbols (stage_relocs b))

pub splits_say : (ceiling : ℕ) (lengths : List ℕ) (sections : List Section) (b : List ℕ) → Says Table (splits_check ceiling lengths sections b)
splits_say ceiling lengths sections b = table_says split_width ceiling b _ (split_few lengths sections (stage_splits b))

pub units_say : (ceiling : ℕ) (lengths b : List ℕ) → Says Table (units_check ceiling lengths b)
units_say ceiling lengths b = table_says 8 ceiling b _ (unit_few lengths (stage_units b))

-- THEOREM: where no refusal has number 0, the word 0 is an accepted outcome's
pub accepted_of : {A : Type 0} (o : Outcome A) → Says (λ number section address. 0 < number) o → outcome_word o ≡ 0 → (a : A) × (o ≡ accepted a)
accepted_of (accepted a) p e = (a, refl)
accepted_of (refused number section address) p e = absurd (omega arith)
