-- The column that holds, for each section, one more than the address of its last relocation so far: a relocation that passed is stored in it,
-- and what it holds is what the definition finds by looking back. Assumes nothing.
use Prim.Native.Nat.{ℕ, suc, ◌+◌, ◌%◌, ◌<◌}
use mathlib.Core.Path.{◌≡◌, refl, sym, ap, ◌∙◌}
use mathlib.Core.Bool.{Bool, true, false, cond}
use mathlib.Core.List.{List, [], ◌∷◌, ◌++◌}
use native.Mathlib.Numerals.{add-one}
use native.Mathlib.Omega.{arith}
use borrow.Author.Tests.{eqb-true, eqb-false}
use lib.Dec.{eqb}
use lib.ListN.{length, get_or, take, set, replicate, length-map}
use lib.Seq.{take-suc, get_or-set_same, get_or-set_other}
use Rattle.lists.proofs.Rows.{get_or_same}
use Rattle.obj.specs.declared.Reloc.{Reloc}
use Rattle.obj.specs.Records.{section_at, reloc_at}
use Rattle.obj.specs.Nothing.{no_reloc}
use Rattle.faults.proofs.Laws.{reloc_section, reloc_fours}
use Rattle.tables.specs.Records.{sections_in, relocs_in, floor_from, reloc_fault_above, reloc_fault}
use Rattle.tables.proofs.Lookups.{found}
use Rattle.lists.specs.Outcome.{Outcome, accepted}
use Rattle.tables.specs.Tables.{record_check}
use Rattle.tables.proofs.Loops.{passed_fault}
use Rattle.tables.proofs.Faults.{no_number}

-- the column after the first k relocations
pub record Floors (relocs : List Reloc) (k : ℕ) (floors : List ℕ) : Type 0 where
  pub each : (section : ℕ) → get_or floors section 0 ≡ floor_from section 0 (take k relocs)

pub no_floors : (relocs : List Reloc) (n : ℕ) {floors : List ℕ} → floors ≡ replicate n 0 → Floors relocs 0 floors
unfolding floor_from
no_floors relocs n e = record { each = λ s. rw e (get_or_same n s 0) }

-- the last relocation counts
floor_last : (section floor : ℕ) (relocs : List Reloc) (r : Reloc)
    → floor_from section floor (relocs ++ (r ∷ [])) ≡ cond (eqb r.section section) (suc r.address) (floor_from section floor relocs)
unfolding floor_from
floor_last section floor [] r = refl
floor_last section floor (x ∷ relocs) r = floor_last section (cond (eqb x.section section) (suc x.address) floor) relocs r

pub floor_more : (section : ℕ) (relocs : List Reloc) (k : ℕ) → k < length relocs
    → floor_from section 0 (take (suc k) relocs)
    ≡ cond (eqb (get_or relocs k no_reloc).section section) (suc (get_or relocs k no_reloc).address) (floor_from section 0 (take k relocs))
floor_more section relocs k h =
    ap (floor_from section 0) (take-suc relocs k no_reloc h) ∙ floor_last section 0 (take k relocs) (get_or relocs k no_reloc)

-- one relocation more is stored
pub floors_more : (relocs : List Reloc) (k : ℕ) (floors : List ℕ) {r : Reloc} → Floors relocs k floors → k < length relocs
    → r ≡ get_or relocs k no_reloc → r.section < length floors → Floors relocs (k + 1) (set floors r.section (r.address + 1))
floors_more relocs k floors {r} all h e q =
    record {
      each = λ s.
          ap (λ (v : ℕ). get_or (set floors r.section v) s 0) (add-one r.address)
          ∙ by_test s (eqb r.section s) refl
          ∙ ap (λ (x : Reloc). cond (eqb x.section s) (suc x.address) (floor_from s 0 (take k relocs))) e
          ∙ sym (floor_more s relocs k h)
          ∙ ap (λ (j : ℕ). floor_from s 0 (take j relocs)) (sym (add-one k));
    }
  where
    by_test : (s : ℕ) (t : Bool) → eqb r.section s ≡ t
        → get_or (set floors r.section (suc r.address)) s 0 ≡ cond (eqb r.section s) (suc r.address) (floor_from s 0 (take k relocs))
    by_test s true p =
        let same = eqb-true r.section s p in
        rw p (ap (λ (i : ℕ). get_or (set floors r.section (suc r.address)) i 0) (sym same) ∙ get_or-set_same floors r.section (suc r.address) 0 q)
    by_test s false p =
        rw p (get_or-set_other floors r.section s (suc r.address) 0 (λ same. eqb-false r.section s p (sym same)) ∙ all.each s)

module _ (heads at : List ℕ) (symbols : ℕ) (b places : List ℕ) (k : ℕ) (floors : List ℕ) {r : Reloc} (read : r ≡ reloc_at b (get_or places k 0)) where
  -- what the column gives is the definition's fault
  pub reloc_fault_here : {o : Outcome (Unit {0})} → o ≡ record_check (reloc_fault_above (sections_in heads at) symbols (get_or floors r.section 0) r) k
      → Floors (relocs_in b places) k floors → k < length places → o ≡ record_check (reloc_fault (sections_in heads at) symbols (relocs_in b places) k) k
  unfolding reloc_fault
  reloc_fault_here answer all h =
      let e = found (reloc_at b) places k no_reloc h read in
      answer ∙ ap (λ (n : ℕ). record_check n k) (rw (all.each r.section, e))

  -- a relocation that passes has a known section, and an address to which one can be added
  pub reloc_passed : accepted tt ≡ record_check (reloc_fault_above (sections_in heads at) symbols (get_or floors r.section 0) r) k
      → (r.section < length at) × (r.address % 4 ≡ 0)
  unfolding reloc_fault_above
  reloc_passed answer =
      let good = no_number 6 _ (omega arith) (passed_fault _ k answer) in
      (rw (length-map at (section_at heads)) at (reloc_section _ _ _ _ _ good), reloc_fours _ _ _ _ _ good)
