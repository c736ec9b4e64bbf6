-- The check of the section table with two images: where the sections of kinds 0 to 2 lie in both or in neither, it answers the same, since it asks each section's own
-- place alone, and none of a section of kind 3. Assumes nothing.
use Prim.Native.Nat.{ℕ, zero, suc, ◌+◌, ◌/◌, ◌<◌}
use mathlib.Core.Path.{◌≡◌, refl, sym, ap, ◌∙◌, subst}
use mathlib.Core.List.{List}
use mathlib.Core.Logic.{◌≢◌}
use mathlib.Core.Bool.{Bool, true, false, cond}
use native.Mathlib.Omega.{arith}
use native.Mathlib.Decide.{ℕ_discrete}
use borrow.Author.Tests.{ltb-true}
use lib.Dec.{ltb}
use lib.ListN.{length}
use Rattle.lists.specs.Outcome.{Outcome, refuse, ◌>>◌}
use Rattle.lists.specs.Rows.{first_from}
use Rattle.obj.specs.Records.{stage_places}
use Rattle.obj.specs.declared.Section.{Section}
use Rattle.tables.specs.Tables.{first_fault, records_check, size_check}
use Rattle.tables.specs.Records.{image_places_of, bytes_cut, section_fault, image_fault}
use Rattle.tables.proofs.Laws.{bss_not_cut}
use Rattle.stage_tables.specs.StageTables.{stage_sections, table_check, image_check}
use Rattle.sections.specs.Sections.{head_of}
use Rattle.restore_entry.proofs.Tables.{head_is}

-- ---- records with the same faults
module _ (f g : ℕ → ℕ) where
  first_alike : (i n : ℕ) → ((k : ℕ) → k < i + n → f k ≡ g k) → first_from (λ k. ltb 0 (f k)) i n ≡ first_from (λ k. ltb 0 (g k)) i n
  unfolding first_from
  first_alike i zero same = refl
  first_alike i (suc n) same =
      let here = same i (omega arith) in
      let rest = first_alike (suc i) n (λ k h. same k (omega arith)) in
      λ z. cond (ltb 0 (here z)) i (rest z)

  records_alike : (n : ℕ) → ((k : ℕ) → k < n → f k ≡ g k) → records_check f n ≡ records_check g n
  unfolding records_check first_fault refuse
  records_alike n same =
      ap (λ (j : ℕ). refuse (f j) 0 j (ltb j n)) (first_alike 0 n (λ k h. same k (omega arith)))
      ∙ go (first_fault g n) (ltb (first_fault g n) n) refl
    where
      go : (j : ℕ) (b : Bool) → ltb j n ≡ b → refuse (f j) 0 j b ≡ refuse (g j) 0 j b
      go j true e = ap (λ (number : ℕ). refuse number 0 j true) (same j (ltb-true j n e))
      go j false e = refl

-- ---- sections in two images

module _ (sections places image places' image' : List ℕ) where
  abbrev head : ℕ → Section
  head = head_of sections (stage_places 15 (length sections / 15))

  -- each section of another kind lies in both images or in neither
  abbrev pub Both : Type 0
  Both = (k : ℕ) → k < length sections / 15 → (head k).kind ≢ 3
      → bytes_cut (image_places_of places) (length image) k (head k) ≡ bytes_cut (image_places_of places') (length image') k (head k)

  cut_alike : Both → (k : ℕ) → k < length sections / 15 → Dec ((head k).kind ≡ 3)
      → bytes_cut (image_places_of places) (length image) k (head k) ≡ bytes_cut (image_places_of places') (length image') k (head k)
  cut_alike same k h (yes e) = bss_not_cut (image_places_of places) (length image) k (head k) e ∙ sym (bss_not_cut (image_places_of places') (length image') k (head k) e)
  cut_alike same k h (no d) = same k h d

  fault_alike : Both → (lengths : List ℕ) (k : ℕ) → k < length sections / 15
      → image_fault lengths (image_places_of places) (length image) (stage_sections sections) k
      ≡ image_fault lengths (image_places_of places') (length image') (stage_sections sections) k
  unfolding image_fault
  fault_alike same lengths k h =
      ap (λ (b : Bool). cond b 1 (section_fault lengths (stage_sections sections) k))
      (subst (λ (s : Section). bytes_cut (image_places_of places) (length image) k s ≡ bytes_cut (image_places_of places') (length image') k s) (head_is sections k h)
      (cut_alike same k h (ℕ_discrete (head k).kind 3)))

  -- THEOREM: the check of the section table answers the same
  pub check_alike : Both → (ceiling : ℕ) (lengths : List ℕ)
      → image_check ceiling lengths places (length image) sections ≡ image_check ceiling lengths places' (length image') sections
  unfolding table_check
  check_alike same ceiling lengths =
      ap (λ (o : Outcome (Unit {0})). size_check 15 ceiling (length sections) >> o)
      (records_alike _ _ (length sections / 15) (fault_alike same lengths))
