-- A name table that passed its check: each name is found by its place and length, and the names are such as a table may hold (file_tables/specs/Tables.antt).
-- Assumes nothing.
use mathlib.Core.Path.{◌≡◌, refl, sym, ap, ap₂, ◌∙◌}
use mathlib.Core.List.{List, [], map}
use mathlib.Core.Bool.{Bool, true, false}
use Prim.Native.Nat.{ℕ, ◌-◌, ◌/◌, ◌≤◌, ◌<◌}
use native.Mathlib.Nat.{zero-add}
use native.Mathlib.Omega.{arith}
use lib.ListN.{length, get_or, take, drop, get_or-map}
use Rattle.lists.specs.Outcome.{accepted}
use Rattle.lists.specs.Rows.{tabulate}
use Rattle.lists.proofs.Rows.{get_d_tabulate}
use Rattle.names.specs.Names.{name_at, same_name, name_bad}
use Rattle.names.proofs.Laws.{same_equal}
use Rattle.name_table.specs.NameTable.{start_of, end_of, name_in, stage_names, names_check}
use Rattle.name_table.specs.Stored.{name_starts, name_lengths, stage_lengths}
use Rattle.name_table.proofs.Laws.{length-stage_names, stage_name, length_name, passed_sound, names_passed}
use Rattle.gap_splits.specs.Entering.{bytes_of}
use Rattle.file_tables.specs.Tables.{Clean}
use Rattle.file_tables.proofs.Clean.{each_member}

module _ (ends bytes : List ℕ) (passed : names_check 4096 ends bytes ≡ accepted tt) where
  abbrev count : ℕ
  count = length ends / 2

  abbrev names : List (List ℕ)
  names = stage_names ends bytes count

  lengths_are : stage_lengths ends bytes ≡ map length names
  unfolding name_lengths
  lengths_are = refl

  -- name k, as the image asks for it
  pub name_at_lem : (k : ℕ) → k < count → name_at bytes (name_starts ends count) (stage_lengths ends bytes) k ≡ get_or names k []
  unfolding name_at name_in name_starts
  name_at_lem k h =
      let s = passed_sound 4096 ends bytes passed k h in
      let size : get_or (stage_lengths ends bytes) k 0 ≡ end_of ends k - start_of ends k =
      ap (λ (l : List ℕ). get_or l k 0) lengths_are ∙ get_or-map length names k [] ∙ ap length (stage_name ends bytes count k h) ∙ length_name ends bytes k s.within in
      let start : get_or (tabulate (start_of ends) 0 count) k 0 ≡ start_of ends k = get_d_tabulate (start_of ends) 0 count k 0 h ∙ ap (start_of ends) (zero-add k) in
      ap₂ (λ (n m : ℕ). take n (drop m bytes)) size start ∙ sym (stage_name ends bytes count k h)

  many : length names ≡ count
  many = length-stage_names ends bytes count

  apart : (j k : ℕ) → j < k → k < count → same_name (name_in ends bytes j) (name_in ends bytes k) ≡ false
  apart j k p q = go (same_name (name_in ends bytes j) (name_in ends bytes k)) refl
    where
      go : (t : Bool) → same_name (name_in ends bytes j) (name_in ends bytes k) ≡ t → t ≡ false
      go true e = absurd ((names_passed 4096 ends bytes passed).different j k p q (same_equal (name_in ends bytes j) (name_in ends bytes k) e))
      go false e = refl

  -- THEOREM: its names are such as a table may hold, where they have no more bytes
  pub clean_passed : bytes_of names ≤ 65535 → Clean names
  clean_passed short = record {
    few = omega (arith, many, (names_passed 4096 ends bytes passed).few);
    short = short;
    good = each_member (λ x. name_bad x ≡ false) names []
        (λ k h. let q : k < count = omega (arith, h, many) in rw (stage_name ends bytes count k q) (passed_sound 4096 ends bytes passed k q).good);
    different = λ j k p h. let q : k < count = omega (arith, h, many) in rw (stage_name ends bytes count j (omega arith), stage_name ends bytes count k q) (apart j k p q);
  }
