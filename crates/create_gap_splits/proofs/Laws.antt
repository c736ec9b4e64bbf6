-- From the search to the entering: what the entering asks of the tables and of the gaps, and the outcome of both. Assumes nothing.
use mathlib.Core.Path.{◌≡◌, sym, ap, ◌∙◌}
use mathlib.Core.List.{List}
use Prim.Native.Nat.{ℕ}
use native.Mathlib.Omega.{arith}
use lib.ListN.{length}
use Rattle.lists.specs.Outcome.{accepted, refused}
use Rattle.lists.proofs.All.{all_map}
use Rattle.lists.proofs.Binds.{bind_goes, bind_stops}
use Rattle.names.specs.Names.{names_of}
use Rattle.names.specs.Index.{Indexed}
use Rattle.tables.specs.Tables.{AllHeld}
use Rattle.sections.specs.Image.{Image, Tables}
use Rattle.sections.specs.Sections.{Sections, Kept}
use Rattle.obj.specs.declared.Split.{Split}
use Rattle.merge.specs.Merge.{Given}
use Rattle.gap_columns.specs.Table.{found_in}
use Rattle.gap_columns.specs.declared.gap_table.GapTable.{GapTable}
use Rattle.gaps.specs.Gaps.{found_gaps}
use Rattle.gaps.specs.Found.{searched}
use Rattle.std.specs.Prelude.{Ok, Err}
use Rattle.obj.specs.Answers.{Answer}
use Rattle.obj.specs.declared.Refusal.{Refusal}
use Rattle.gaps.proofs.Inside.{found_lies, found_rising}
use Rattle.gap_splits.specs.Entering.{Filled, Ceilings, filled}
use Rattle.gap_splits.specs.Answers.{Tables as Named, Gaps}
use Rattle.create_gap_splits.specs.Create.{name_in, gaps_filled, Short}

-- ---- the sections
module _ (heads head_places image image_places name_places : List ℕ) (kept : Kept heads head_places image image_places name_places) where
  pub all_held : AllHeld 15 heads head_places
  all_held = record { few = omega (arith, kept.few); each = λ k h. (kept.held k h).inside }

  pub named_tables : (symbols symbol_places order name_bytes name_lengths buckets chain : List ℕ) → Tables symbols symbol_places order name_bytes name_places name_lengths
      → Indexed (names_of name_bytes name_places name_lengths (length name_places)) buckets chain → Short heads head_places name_bytes name_places name_lengths
      → Named heads head_places name_bytes name_places name_lengths buckets chain
  named_tables symbols symbol_places order name_bytes name_lengths buckets chain t i s = record {
    named = t.names.names;
    indexed = i;
    few = kept.few;
    sections = record { held = kept.held; named = kept.named };
    short = s;
  }

-- ---- the gaps
module _ (g : Image) (sections : Sections) (rows : List Split) (found : GapTable) where
  -- a search that found them
  is_found : {s : Answer} → searched found s ≡ found_gaps g sections rows → s ≡ Ok tt → found_gaps g sections rows ≡ accepted (found_in found)
  is_found e f = sym e ∙ ap (searched found) f

  pub found_gaps_lem : {s : Answer} → searched found s ≡ found_gaps g sections rows → s ≡ Ok tt → Gaps (found_in found) sections.count
  found_gaps_lem e f =
      let q = is_found e f in record {
        rising = found_rising g sections rows (found_in found) q;
        there = all_map (λ x l. l.there) (found_lies g sections rows (found_in found) q);
      }

  module _ (limits : Given) (room : Ceilings) (names : List (List ℕ)) where
    abbrev t : Filled
    t = record { names = names; rows = rows }

    pub filled_found : {s : Answer} → searched found s ≡ found_gaps g sections rows → s ≡ Ok tt
        → filled (name_in g sections) limits room t (found_in found) ≡ gaps_filled g sections limits room t
    unfolding gaps_filled
    filled_found e f = sym (bind_goes _ _ (found_in found) (is_found e f))

    pub filled_refused : {s : Answer} (d : Refusal) → searched found s ≡ found_gaps g sections rows → s ≡ Err d
        → refused d.number d.section d.address ≡ gaps_filled g sections limits room t
    unfolding gaps_filled
    filled_refused d e f = sym (bind_stops _ _ d.number d.section d.address (sym e ∙ ap (searched found) f))
