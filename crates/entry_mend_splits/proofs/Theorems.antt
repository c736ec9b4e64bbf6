-- What an accepted call gives, over its lent bytes. The front of the output goes straight into the next entry: it passes the checks of a split table, the check of the
-- splits answers neither 50 nor 51 of it, and mending it again gives it back. A list that passes both rules comes back unchanged. Assumes nothing.
use mathlib.Core.Path.{◌≡◌, sym, ap, ap₂, subst, ◌∙◌}
use mathlib.Core.List.{List, [], map}
use Prim.Native.Nat.{ℕ, ◌*◌, ◌/◌, ◌≤◌, ◌<◌}
use native.Mathlib.Omega.{arith}
use lib.ListN.{length, get_or, take, drop, length-map}
use lib.Seq.{take-append_seam}
use Rattle.lists.specs.Outcome.{Outcome, accepted, ◌>>◌}
use Rattle.lists.specs.Sort.{All}
use Rattle.lists.proofs.Outcomes.{then_both}
use Rattle.lists.proofs.Stores.{sets-itself}
use Rattle.tables.specs.Tables.{main_ceilings, records_check}
use Rattle.tables.specs.Records.{section_fault, split_fault}
use Rattle.tables.proofs.Lookups.{split_origins}
use Rattle.name_table.specs.NameTable.{names_check}
use Rattle.name_table.specs.Stored.{name_lengths, stage_lengths}
use Rattle.name_table.proofs.Laws.{length-stage_names, names_passed}
use Rattle.stage_tables.specs.StageTables.{stage_sections, stage_splits, sections_check, splits_check}
use Rattle.stage_tables.proofs.Laws.{table_passed, length_sections, length_splits}
use Rattle.splits.specs.Updates.{with_end}
use Rattle.splits.proofs.Bytes.{length-table_bytes}
use Rattle.stage_splits.specs.StageSplits.{room_of}
use Rattle.kept_output.specs.Kept.{output_of}
use Rattle.mend.specs.Mend.{section_ends_of, Mended, mend}
use Rattle.mend_laws.specs.Passing.{PassesBoth}
use Rattle.mend_laws.proofs.Laws.{mend_passes, mend_twice, mend_fields, mend_keeps, mend_inv}
use Rattle.mend_laws.proofs.Tables.{mend_table, length_mended}
use Rattle.mend_outputs.specs.Outputs.{split_bytes, written, Leaves}
use Rattle.obj.specs.Records.{stage_places, split_width}
use Rattle.entry_mend_splits.specs.Entry.{mend_splits_of}
use Rattle.entry_mend_splits.proofs.Bytes.{bytes_back, bytes_pass, mended_origins}

module _ (ends bytes sections : List ℕ) where
  -- what follows the checks of names and sections
  after_heads : {o : Outcome Mended} → names_check main_ceilings.names ends bytes ≡ accepted tt → sections_check main_ceilings.sections (stage_lengths ends bytes) sections ≡ accepted tt
      → (names_check main_ceilings.names ends bytes >> (sections_check main_ceilings.sections (stage_lengths ends bytes) sections >> o)) ≡ o
  unfolding ◌>>◌
  after_heads a b = rw (a, b)

  after_table : {m : Outcome (Unit {0})} {o : Outcome Mended} → m ≡ accepted tt → (m >> o) ≡ o
  unfolding ◌>>◌
  after_table e = rw e

  -- THEOREM: "a list that already passes both comes back unchanged", with no line, whatever room there is for lines
  pub keeps : (splits : List ℕ) (size room : ℕ) → names_check main_ceilings.names ends bytes ≡ accepted tt
      → sections_check main_ceilings.sections (stage_lengths ends bytes) sections ≡ accepted tt
      → splits_check (room_of size) (stage_lengths ends bytes) (stage_sections sections) splits ≡ accepted tt → PassesBoth (stage_splits splits)
      → mend_splits_of ends bytes sections splits size room ≡ accepted (record { splits = stage_splits splits; lines = [] })
  unfolding mend_splits_of
  keeps splits size room a b t p = after_heads a b ∙ after_table t ∙ mend_keeps (section_ends_of (stage_sections sections)) room (stage_splits splits) p

  module _ (splits : List ℕ) (size room : ℕ) (m : Mended) (accepts : mend_splits_of ends bytes sections splits size room ≡ accepted m) where
    -- each line of the definition passed
    parts : (names_check main_ceilings.names ends bytes ≡ accepted tt) × (sections_check main_ceilings.sections (stage_lengths ends bytes) sections ≡ accepted tt)
        × (splits_check (room_of size) (stage_lengths ends bytes) (stage_sections sections) splits ≡ accepted tt)
        × (mend (section_ends_of (stage_sections sections)) room (stage_splits splits) ≡ accepted m)
    unfolding mend_splits_of
    parts =
        let a = then_both _ _ _ accepts in
        let b = then_both _ _ _ a.1 in
        let c = then_both _ _ _ b.1 in
        (a.0, b.0, c.0, c.1)

    few_names : length (stage_lengths ends bytes) ≤ 65535
    unfolding name_lengths
    few_names =
        let n = (names_passed main_ceilings.names ends bytes parts.0).few in
        simp length-map (omega (arith, n, length-stage_names ends bytes (length ends / 2)))

    heads_passed : records_check (section_fault (stage_lengths ends bytes) (stage_sections sections)) (length (stage_sections sections)) ≡ accepted tt
    heads_passed =
        ap (records_check (section_fault (stage_lengths ends bytes) (stage_sections sections))) (length_sections sections)
        ∙ (table_passed 15 main_ceilings.sections sections (section_fault (stage_lengths ends bytes) (stage_sections sections)) parts.1).2

    splits_passed : records_check (split_fault (stage_lengths ends bytes) (stage_sections sections) (stage_splits splits)) (length (stage_splits splits)) ≡ accepted tt
    splits_passed =
        ap (records_check (split_fault (stage_lengths ends bytes) (stage_sections sections) (stage_splits splits))) (length_splits splits)
        ∙ (table_passed split_width (room_of size) splits (split_fault (stage_lengths ends bytes) (stage_sections sections) (stage_splits splits)) parts.2).2

    few_sections : length (stage_sections sections) ≤ 65535
    few_sections =
        let n = (table_passed 15 main_ceilings.sections sections (section_fault (stage_lengths ends bytes) (stage_sections sections)) parts.1).1 in
        omega (arith, n, length_sections sections)

    -- as many as were handed in
    pub few_given : length m.splits ≤ room_of size
    few_given =
        let n = (table_passed split_width (room_of size) splits (split_fault (stage_lengths ends bytes) (stage_sections sections) (stage_splits splits)) parts.2).1 in
        let k = length_mended (section_ends_of (stage_sections sections)) (stage_splits splits) in
        let same = ap (λ (x : Mended). length x.splits) (mend_inv (section_ends_of (stage_sections sections)) room (stage_splits splits) m parts.3).2 in
        omega (arith, n, k, same, length_splits splits)

    table_good : records_check (split_fault (stage_lengths ends bytes) (stage_sections sections) m.splits) (length m.splits) ≡ accepted tt
    table_good = mend_table (stage_lengths ends bytes) (stage_sections sections) heads_passed (stage_splits splits) splits_passed room m parts.3

    -- the lent table is of bytes, as every table is, so that its origins have 16 bits
    abbrev OfBytes : Type 0
    OfBytes = (i : ℕ) → get_or splits i 0 < 256

    origins : OfBytes → All (λ s. s.origin < 65536) m.splits
    origins small =
        mended_origins (section_ends_of (stage_sections sections)) room (stage_splits splits) m parts.3 (split_origins splits (stage_places split_width (length splits / split_width)) small)

    -- the mended table's records, taken again
    records_pass : OfBytes → (ceiling : ℕ) → length m.splits ≤ ceiling → splits_check ceiling (stage_lengths ends bytes) (stage_sections sections) (split_bytes m) ≡ accepted tt
    records_pass small ceiling h =
        ap (splits_check ceiling (stage_lengths ends bytes) (stage_sections sections)) (sym (sets-itself (split_bytes m)))
        ∙ bytes_pass (stage_lengths ends bytes) few_names (stage_sections sections) few_sections m.splits table_good (origins small) (split_bytes m) ceiling (length-table_bytes m.splits) h

    records_back : OfBytes → stage_splits (split_bytes m) ≡ m.splits
    records_back small =
        ap stage_splits (sym (sets-itself (split_bytes m)))
        ∙ bytes_back (stage_lengths ends bytes) few_names (stage_sections sections) few_sections m.splits table_good (origins small) (split_bytes m) (length-table_bytes m.splits)

    -- THEOREM: "touches no other field"
    pub fields : map (with_end 0) m.splits ≡ map (with_end 0) (stage_splits splits)
    fields = mend_fields (section_ends_of (stage_sections sections)) room (stage_splits splits) m parts.3

    module _ {out lines counts out' lines' counts' : List ℕ} {answer : ℕ} (left : Leaves (mend_splits_of ends bytes sections splits size room) out lines counts answer out' lines' counts') where
      -- the front of the output
      pub given_back : take (split_width * length m.splits) out' ≡ split_bytes m
      given_back =
          ap₂ take (sym (length-table_bytes m.splits)) (left.splits ∙ ap (λ (o : Outcome Mended). output_of out (written split_bytes o)) accepts)
          ∙ take-append_seam (split_bytes m) (drop (length (split_bytes m)) out)

      -- THEOREM: it passes the checks of a split table, with the output's room or more as ceiling
      pub goes_on : OfBytes → (ceiling : ℕ) → room_of size ≤ ceiling
          → splits_check ceiling (stage_lengths ends bytes) (stage_sections sections) (take (split_width * length m.splits) out') ≡ accepted tt
      goes_on small ceiling h =
          ap (splits_check ceiling (stage_lengths ends bytes) (stage_sections sections)) given_back ∙ records_pass small ceiling (omega (arith, h, few_given))

      -- THEOREM: "The list that it gives back passes rules 50 and 51", whatever the symbols
      pub passes_both : OfBytes → PassesBoth (stage_splits (take (split_width * length m.splits) out'))
      passes_both small =
          subst PassesBoth (sym (ap stage_splits given_back ∙ records_back small)) (mend_passes (section_ends_of (stage_sections sections)) room (stage_splits splits) m parts.3)

      -- THEOREM: mending twice is mending once, whatever room there is for lines the second time, and no line is written then
      pub twice : OfBytes → (again : ℕ)
          → mend_splits_of ends bytes sections (take (split_width * length m.splits) out') size again ≡ accepted (record { splits = m.splits; lines = [] })
      unfolding mend_splits_of
      twice small again =
          after_heads parts.0 parts.1
          ∙ after_table (goes_on small (room_of size) (omega arith))
          ∙ ap (mend (section_ends_of (stage_sections sections)) again) (ap stage_splits given_back ∙ records_back small)
          ∙ mend_twice (section_ends_of (stage_sections sections)) room (stage_splits splits) m parts.3 again
