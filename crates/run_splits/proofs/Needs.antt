-- What each stage of the split table is asked with: the loaded file's laws for the tables, and the rows that the stage before left. Assumes nothing.
use Prim.Native.Nat.{ℕ, ◌+◌, ◌*◌, ◌≤◌}
use mathlib.Core.Path.{◌≡◌, sym, ap, subst, ◌∙◌}
use mathlib.Core.List.{List}
use native.Mathlib.Omega.{arith}
use native.Mathlib.Nat.{zero-add}
use lib.ListN.{length, get_or, drop, length-drop}
use lib.Seq.{length-take-le}
use Rattle.lists.specs.Outcome.{accepted}
use Rattle.lists.specs.Sort.{All}
use Rattle.lists.proofs.All.{all_at}
use Rattle.lists.proofs.Outcomes.{bind_inv}
use Rattle.lists.proofs.Rows.{get_d_tabulate, length-tabulate}
use Rattle.names.specs.Names.{name_at}
use Rattle.obj.specs.declared.Split.{Split}
use Rattle.obj.specs.Nothing.{no_split}
use Rattle.names.proofs.Laws.{length-names}
use Rattle.load.specs.Load.{Loaded, names_in}
use Rattle.loaded.specs.Tables.{byte_places, Usable}
use Rattle.loaded.proofs.Laws.{few_sections, few_symbols, all_named, section_named, sections_kept, sections_heads}
use Rattle.sections.specs.Sections.{head_of, Kept}
use Rattle.splits.specs.Columns.{Columns, row_at, rows}
use Rattle.common.specs.Sections.{Sections}
use Rattle.gap_splits.specs.Entering.{Filled, Ceilings}
use Rattle.create_gap_splits.specs.Create.{Short}
use Rattle.trim.specs.Steps.{Placed, AllPlaced}
use Rattle.run_splits.specs.Table.{Fine, merged, with_common, with_gaps}
use Rattle.run_splits.proofs.Keeping.{merged_fine, common_fine, gaps_fine}
use Rattle.run_splits.proofs.Steps.{marked_table, gaps_with}

module _ {file : List ℕ} {t : Loaded} (u : Usable file t) where
  -- common's
  pub sections_common : Sections file t.names t.lengths file t.sections
  sections_common = record { few = few_sections u; held = (sections_heads u).held; names = all_named u; named = section_named u }

  pub images_kept : (images : List ℕ) → images ≡ byte_places t.sections → Kept file t.sections file images t.names
  images_kept images e = subst (λ (l : List ℕ). Kept file t.sections file l t.names) (sym e) (sections_kept u)

  -- "a section's name at most 64 bytes"
  pub section_short : Short file t.sections file t.names t.lengths
  unfolding name_at
  section_short n h =
      let k = (head_of file t.sections n).name in
      let inside = (all_named u).inside k (section_named u n h) in
      let short = (u.good.sections.each n h).short in
      let long = length-take-le (get_or t.lengths k 0) (drop (get_or t.names k 0) file) (simp length-drop (omega (arith, inside))) in
      omega (arith, long, short)

  -- 64 + 2 * 1,024 + 4,096 places hold all gaps
  pub gaps_roomy : (n cap room : ℕ) → n ≤ cap → cap ≤ 1024 → 6208 ≤ room → length t.sections + 2 * n + length t.symbols ≤ room
  gaps_roomy n cap room h k a = omega (arith, h, k, a, few_sections u, few_symbols u)

  -- ---- the rows before the trim
  module _ (room : ℕ) (names : Ceilings) where
    gapped_fine : (r : Filled) → gaps_with file t room names (byte_places t.sections) (marked_table file t room names) ≡ accepted r
        → All (Fine (length t.sections) (length r.names)) r.rows
    unfolding merged with_common with_gaps names_in
    gapped_fine r e =
        let a = bind_inv _ _ _ e in
        let b = bind_inv _ _ _ a.1 in
        gaps_fine u room names a.0 r
        (common_fine u room names _ b.0 a.0 (subst (λ (n : ℕ). All (Fine (length t.sections) n) b.0) (sym (length-names file t.names t.lengths (length t.names))) (merged_fine u room names b.0 b.1)) b.2)
        a.2

    fine_placed : (c : Columns) (n names : ℕ) → All (Fine (length t.sections) names) (rows c n) → AllPlaced (length t.sections) c n
    fine_placed c n names q = record {
      each = λ k h.
          let f = all_at k no_split q (omega (arith, h, length-tabulate (row_at c) 0 n)) in
          let e = get_d_tabulate (row_at c) 0 n k no_split h ∙ ap (row_at c) (zero-add k) in
          subst (Placed (length t.sections)) e (record { section = f.section; end = f.end });
    }

    pub rows-placed : (images : List ℕ) → images ≡ byte_places t.sections → (full : Filled) → accepted full ≡ gaps_with file t room names images (marked_table file t room names)
        → (table : Columns) (n : ℕ) → full.rows ≡ rows table n → AllPlaced (length t.sections) table n
    rows-placed images p full e table n same =
        fine_placed table n _
        (subst (λ (l : List Split). All (Fine (length t.sections) (length full.names)) l) same
        (gapped_fine full (ap (λ (l : List ℕ). gaps_with file t room names l (marked_table file t room names)) (sym p) ∙ sym e)))
