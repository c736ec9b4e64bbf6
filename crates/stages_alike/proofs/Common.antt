-- Marking common, of tables that say the same: which sections are named `.bss` is asked of those that are there alone. Assumes nothing.
use mathlib.Core.Path.{◌≡◌, ap, ◌∙◌}
use mathlib.Core.List.{List}
use mathlib.Core.Bool.{Bool}
use Prim.Native.Nat.{ℕ}
use Rattle.lists.specs.Rows.{tabulate}
use Rattle.lists.proofs.All.{all_map}
use Rattle.lists.proofs.Filter.{keep_same}
use Rattle.lists.proofs.Rising.{numbers-below}
use Rattle.obj.specs.declared.Split.{Split}
use Rattle.names.specs.Fixed.{is_bss}
use Rattle.sections.specs.Image.{Image}
use Rattle.sections.specs.Sections.{Sections}
use Rattle.common.specs.Common.{bss_sections, common_of}
use Rattle.stages_alike.specs.Alike.{SameImages, SameSections}
use Rattle.stages_alike.proofs.Sections.{section_named}

-- section n is named `.bss`
abbrev bss_of : Image → Sections → ℕ → Bool
bss_of g s n = is_bss (g.name (s.head n).name)

module _ (g h : Image) (same : SameImages g h) (s t : Sections) (sections : SameSections g h s t) where
  pub bss_alike : bss_sections (λ n. is_bss (g.name (s.head n).name)) s.count ≡ bss_sections (λ n. is_bss (h.name (t.head n).name)) t.count
  unfolding bss_sections
  bss_alike =
      keep_same (bss_of g s) (bss_of h t) (tabulate (λ k. k) 0 s.count)
      (all_map (λ n b. ap is_bss (section_named g h same s t sections n b)) (numbers-below s.count))
      ∙ ap (λ (count : ℕ). bss_sections (bss_of h t) count) sections.counts

  -- THEOREM: the same splits become common, or the same refusal comes
  pub common_alike : (given : Bool) (start : ℕ) (rows : List Split)
      → common_of given start (bss_sections (λ n. is_bss (g.name (s.head n).name)) s.count) rows
      ≡ common_of given start (bss_sections (λ n. is_bss (h.name (t.head n).name)) t.count) rows
  common_alike given start rows = ap (λ (bss : List ℕ). common_of given start bss rows) bss_alike
