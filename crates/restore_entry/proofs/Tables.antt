-- What the table checks say of the walk's input: each field of `Checked` from the check that gives it. Assumes nothing.
use Prim.Native.Nat.{ℕ, ◌+◌, ◌/◌, ◌≤◌, ◌<◌}
use mathlib.Core.Path.{◌≡◌, sym, ap, ◌∙◌, subst}
use mathlib.Core.List.{List}
use mathlib.Core.Bool.{false}
use mathlib.Core.Logic.{◌≢◌}
use native.Mathlib.Omega.{arith}
use lib.ListN.{length, get_or, drop, length-drop}
use lib.Seq.{length-take-le}
use borrow.Author.Tests.{ne_eqb}
use Rattle.std.proofs.lemmas.List.{get_or-map}
use Rattle.lists.specs.Outcome.{accepted}
use Rattle.lists.specs.Sort.{All}
use Rattle.lists.proofs.Each.{all_placed}
use Rattle.align.specs.Align.{bad_align}
use Rattle.obj.specs.Records.{section_at, stage_places, split_width}
use Rattle.obj.specs.declared.Section.{Section}
use Rattle.obj.specs.declared.Split.{Split}
use Rattle.obj.proofs.Laws.{length-stage_places}
use Rattle.obj.specs.Nothing.{no_section, no_split}
use Rattle.tables.specs.Tables.{records_check}
use Rattle.tables.specs.Records.{image_places_of, image_fault, partial_fault, split_fault}
use Rattle.tables.proofs.Laws.{image_bytes, splits_section, splits_in_section, splits_partials, partials_aligned, partials_end}
use Rattle.stage_tables.specs.StageTables.{stage_sections, stage_splits}
use Rattle.stage_tables.proofs.Laws.{table_passed, length_sections, length_splits}
use Rattle.symbols.specs.Sound.{Sound}
use Rattle.symbol_order.specs.Order.{symbol_of}
use Rattle.sections.specs.Sections.{head_of}
use Rattle.sections.specs.Bytes.{bytes_of}
use Rattle.sections.proofs.Nobits.{nobits_bytes}
use Rattle.stage_symbols.proofs.Laws.{symbols_sound}
use Rattle.walk.specs.Walk.{end_in}
use Rattle.restore.specs.Restoring.{Checked}
use Rattle.restore_entry.specs.Tables.{Lent, input_in, Passed}

-- a section's head is its record
pub head_is : (sections : List ℕ) (n : ℕ) → n < length sections / 15
    → head_of sections (stage_places 15 (length sections / 15)) n ≡ get_or (stage_sections sections) n no_section
head_is sections n h = sym (get_or-map (section_at sections) (stage_places 15 (length sections / 15)) n 0 no_section (rw length-stage_places h))

module _ (t : Lent) (a : Passed t) where
  abbrev head : ℕ → Section
  head = head_of t.sections (stage_places 15 (length t.sections / 15))

  pub sections_few : length t.sections / 15 ≤ 64
  sections_few = (table_passed 15 64 t.sections _ a.of_sections).1

  -- "Section bytes equal size"
  section_sized : (n : ℕ) → n < length t.sections / 15 → (head n).kind ≢ 3 → length (bytes_of t.image (image_places_of t.places) n (head n)) ≡ (head n).size
  unfolding bytes_of
  section_sized n h holds =
      rw (ne_eqb (head n).kind 3 holds)
      (length-take-le (head n).size (drop (get_or (image_places_of t.places) n 0) t.image)
      (omega (arith, inside, length-drop (get_or (image_places_of t.places) n 0) t.image)))
    where
      records : records_check (image_fault t.name_lengths (image_places_of t.places) (length t.image) (stage_sections t.sections)) (length t.sections / 15) ≡ accepted tt
      records = (table_passed 15 64 t.sections _ a.of_sections).2

      inside : get_or (image_places_of t.places) n 0 + (head n).size ≤ length t.image
      inside =
          subst (λ (x : Section). get_or (image_places_of t.places) n 0 + x.size ≤ length t.image) (sym (head_is t.sections n h))
          (image_bytes t.name_lengths (image_places_of t.places) (length t.image) (stage_sections t.sections) (length t.sections / 15) records n h
          (λ q. holds (ap (λ (x : Section). x.kind) (head_is t.sections n h) ∙ q))).1

  -- ---- the splits
  records : records_check (split_fault t.name_lengths (stage_sections t.sections) (stage_splits t.splits)) (length t.splits / split_width) ≡ accepted tt
  records = (table_passed split_width 1024 t.splits _ a.of_splits).2

  partials : records_check (partial_fault t.name_lengths (stage_splits t.splits)) (length t.splits / split_width) ≡ accepted tt
  partials = splits_partials t.name_lengths (stage_sections t.sections) (stage_splits t.splits) (length t.splits / split_width) records

  each_split : (P : Split → Type 0) → ((k : ℕ) → k < length t.splits / split_width → P (get_or (stage_splits t.splits) k no_split)) → All P (stage_splits t.splits)
  each_split P f = all_placed (stage_splits t.splits) no_split (λ k h. f k (omega (arith, length_splits t.splits)))

  split_ends : (k : ℕ) → k < length t.splits / split_width → let s = get_or (stage_splits t.splits) k no_split in
      s.end ≤ (head s.section).address + (head s.section).size
  split_ends k h =
      let s = get_or (stage_splits t.splits) k no_split in
      let home : s.section < length t.sections / 15 = omega (
        arith,
        splits_section t.name_lengths (stage_sections t.sections) (stage_splits t.splits) (length t.splits / split_width) records k h,
        length_sections t.sections,
      ) in
      subst (λ (x : Section). s.end ≤ x.address + x.size) (sym (head_is t.sections s.section home))
      (splits_in_section t.name_lengths (stage_sections t.sections) (stage_splits t.splits) (length t.splits / split_width) records k h)

  -- 7: "end above 0xF0000000"
  pub splits_end : All (λ s. s.end ≤ 4026531840) (stage_splits t.splits)
  splits_end = each_split (λ s. s.end ≤ 4026531840) (partials_end t.name_lengths (stage_splits t.splits) (length t.splits / split_width) partials)

  -- THEOREM: tables that passed their checks give a walk what the theorems on restoring ask of its input
  pub input_checked : Checked (input_in t)
  input_checked =
      record {
        sized = λ n h. section_sized n (rw length-stage_places at h);
        nobits = λ n h q. nobits_bytes n (head n) q t.image (image_places_of t.places);
        sound =
            subst (Sound (symbol_of t.symbols (stage_places 20 (length t.symbols / 20)))) (sym (length-stage_places 20 (length t.symbols / 20)))
            (symbols_sound 4096 t.names (stage_sections t.sections) t.symbols a.of_symbols);
        aligned = each_split (λ s. bad_align s.alignment ≡ false) (partials_aligned t.name_lengths (stage_splits t.splits) (length t.splits / split_width) partials);
        ended = each_split (λ s. s.end ≤ end_in (input_in t).sections s.section) split_ends;
      }
