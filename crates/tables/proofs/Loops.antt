-- The checks as the code makes them: the size's two refusals, and a pass over the records that stops at the first fault. What is left from
-- record i on has the table's first fault, as long as no record before i has one. Assumes nothing.
use Prim.Native.Nat.{ℕ, ◌+◌, ◌-◌, ◌/◌, ◌%◌, ◌<◌, ◌≤◌}
use mathlib.Core.Path.{◌≡◌, refl, sym, ap, ◌∙◌}
use mathlib.Core.Bool.{not}
use native.Mathlib.Omega.{arith}
use native.Mathlib.Nat.{sub-zero}
use borrow.Author.Tests.{lt-ltb, le-ltb, eq-eqb, ne_eqb, ltb-false}
use lib.Dec.{ltb}
use Rattle.lists.specs.Rows.{first_from}
use Rattle.std.specs.Prelude.{Err, Bool, true, false}
use Rattle.lists.specs.Outcome.{Outcome, accepted, refused, refuse}
use Rattle.obj.specs.declared.Refusal.{Refusal}
use Rattle.lists.proofs.First.{first_here, first_on, first_end}
use Rattle.lists.proofs.Outcomes.{fails, passes, refuses, allows, not_both, refuse_inv}
use Rattle.obj.specs.Answers.{place, meaning}
use Rattle.tables.specs.Tables.{size_check, first_fault, record_check, records_check}

-- ---- 1 and 2
module _ (width ceiling size : ℕ) where
  pub size_cut : (size % width ≡ 0 → ⊥) → refused 1 0 (place (size / width)) ≡ size_check width ceiling size
  unfolding size_check
  size_cut h = sym (fails _ _ _ _ _ (ap not (ne_eqb _ _ h)))

  pub size_over : size % width ≡ 0 → ceiling < size / width → refused 2 0 ceiling ≡ size_check width ceiling size
  unfolding size_check
  size_over e h = sym (passes _ _ _ _ _ (ap not (eq-eqb _ _ e)) ∙ fails _ _ _ _ _ (lt-ltb _ _ h))

  pub size_good : size % width ≡ 0 → size / width ≤ ceiling → accepted tt ≡ size_check width ceiling size
  unfolding size_check
  size_good e h = sym (passes _ _ _ _ _ (ap not (eq-eqb _ _ e)) ∙ passes _ _ _ _ _ (le-ltb _ _ h))

-- ---- the records, in order

refused_inv : {number section address : ℕ} (n s a : ℕ) (test : Bool) → ◌≡◌ {A = Outcome (Unit {0})} (refused number section address) (refuse n s a test) → test ≡ true
unfolding refuse
refused_inv n s a true e = refl
refused_inv n s a false e = absurd (not_both e)

-- a record without a fault isn't
pub no_fault : (k : ℕ) → accepted tt ≡ record_check 0 k
unfolding refuse
no_fault k = refl

-- a record with one is refused by its number
pub some_fault : (f k : ℕ) → 0 < f → refused f 0 k ≡ record_check f k
some_fault f k h = sym (refuses _ _ _ _ (lt-ltb 0 f h))

-- one that isn't refused has none
pub passed_fault : (f k : ℕ) → accepted tt ≡ record_check f k → f ≡ 0
passed_fault f k e = let none = ltb-false 0 f (refuse_inv _ _ _ _ (sym e)) in omega arith

-- no record before i has a fault: the first one from i on is the table's first
pub record Going (fault : ℕ → ℕ) (n i : ℕ) : Type 0 where
  pub within : i ≤ n
  pub same : first_from (λ k. ltb 0 (fault k)) i (n - i) ≡ first_fault fault n

module _ {fault : ℕ → ℕ} {n : ℕ} where
  pub going : Going fault n 0
  unfolding first_fault
  going = record { within = omega arith; same = rw sub-zero }

  -- record i is refused
  pub stops : {i : ℕ} {e : Refusal} → Going fault n i → i < n → meaning (Err e) ≡ record_check (fault i) i → meaning (Err e) ≡ records_check fault n
  unfolding records_check refuse
  stops {i} {e} g h said =
      let test : ltb 0 (fault i) ≡ true = refused_inv _ _ _ _ said in
      let at : first_fault fault n ≡ i = sym g.same ∙ first_here (λ k. ltb 0 (fault k)) i n h test in
      said ∙ refuses _ _ _ _ test ∙ rw at (sym (refuses _ _ _ _ (lt-ltb i n h)))

  -- it is not
  pub goes_on : {i : ℕ} → Going fault n i → i < n → accepted tt ≡ record_check (fault i) i → Going fault n (i + 1)
  goes_on {i} g h said =
      record {
        within = omega arith;
        same = sym (first_on (λ k. ltb 0 (fault k)) i n h (refuse_inv _ _ _ _ (sym said))) ∙ g.same;
      }

  -- no record has one
  pub passes_all : {i : ℕ} → Going fault n i → n ≤ i → accepted tt ≡ records_check fault n
  unfolding records_check
  passes_all {i} g h =
      let at : first_fault fault n ≡ i = sym g.same ∙ first_end (λ k. ltb 0 (fault k)) i n h in
      rw at (sym (allows _ _ _ _ (le-ltb i n h)))
