-- What the walk asks of the tables: a usable file has all of them, and the records of the units stand at the multiples of 8. Its answer is that of the definition.
-- Assumes nothing.
use Prim.Native.Nat.{ℕ, ◌≤◌, ◌<◌}
use mathlib.Core.Path.{◌≡◌, sym, ap, subst, ◌∙◌}
use mathlib.Core.List.{List, [], map-map}
use native.Mathlib.Omega.{arith}
use lib.ListN.{length, get_or, length-map}
use Rattle.lists.specs.Sort.{All}
use Rattle.lists.proofs.All.{all_at}
use Rattle.obj.specs.Records.{unit_at, stage_places}
use Rattle.obj.specs.declared.Split.{Split}
use Rattle.obj.specs.declared.Unit as units
use Rattle.obj.proofs.Laws.{length-stage_places, stage_place}
use Rattle.loaded.specs.Tables.{byte_places, tables_with}
use Rattle.loaded.proofs.Laws.{tables-ordered, symbols_sound, sections_kept, relocs_whole, relocs_rising, few_relocs}
use Rattle.sections.specs.Image.{Image, image_of}
use Rattle.sections.specs.Sections.{sections_of, Kept}
use Rattle.splits.specs.Columns.{Columns}
use Rattle.relocs.specs.Relocs.{reloc_of}
use Rattle.units.specs.Units.{unit_names, Listed}
use Rattle.pieces.specs.declared.Counts.{Counts}
use Rattle.pieces.specs.declared.lent.PieceTables.{PieceTables}
use Rattle.std.specs.Prelude.{Result}
use Rattle.std.proofs.lemmas.List.{get_or-map}
use Rattle.obj.specs.declared.Refusal.{Refusal}
use Rattle.obj.specs.Nothing.{no_unit}
use Rattle.split_obj.specs.Loop.{Ready}
use Rattle.stage_walk.specs.Lines.{walk_of, Gives}
use Rattle.stage_walk.proofs.Lines.{gives_as}
use Rattle.run.specs.Run.{walked}
use Rattle.run.specs.Answers.{units_at, Prepared, Tabled, Units}
use Rattle.run.proofs.Linking.{row_homed}

-- the units at the places that were filled
pub units_listed : (b places column : List ℕ) (k : ℕ) → places ≡ stage_places 8 k → Units b k → All (λ (u : units.Unit). u.name < 4096) (units_at b k) → 4096 ≤ length column
    → Listed b places column
units_listed b places column k e w names long =
    subst (λ (l : List ℕ). Listed b l column) (sym e)
    (record {
      few = omega (arith, length-stage_places 8 k, w.few);
      held = λ i h.
          let q : i < k = omega (arith, length-stage_places 8 k) in
          record { there = h; inside = omega (arith, stage_place 8 k i q, w.fit) };
      named = λ i h.
          let at : get_or (units_at b k) i no_unit ≡ unit_at b (get_or (stage_places 8 k) i 0) = get_or-map (unit_at b) (stage_places 8 k) i 0 no_unit h in
          let low = all_at i no_unit names (omega (arith, length-map (stage_places 8 k) (unit_at b))) in
          omega (arith, long, low, ap (λ (u : units.Unit). u.name) at);
    })

module _ {file names lengths sections images symbols order relocs us : List ℕ} (p : Prepared file names lengths sections images symbols order relocs us) where
  pub ready : (places numbers : List ℕ) (c : Columns) (n : ℕ) → Tabled (length sections) c n
      → length places ≤ 1024 → 4096 ≤ length numbers
      → Ready file symbols order file names lengths file sections file images file relocs places numbers c n (length sections)
  ready places numbers c n w few long = record {
    asked = record { tables = tables-ordered p.usable order p.order_is; sound = symbols_sound p.usable };
    kept = subst (λ (l : List ℕ). Kept file sections file l names) (sym p.images_are) (sections_kept p.usable);
    whole = relocs_whole p.usable;
    rising = relocs_rising p.usable;
    few_relocs = few_relocs p.usable;
    few_units = few;
    named = λ i h. omega (arith, long, (row_homed c n w.homed i h).unit);
    within = omega arith;
  }

  abbrev image : Image
  image = image_of file symbols file names lengths

  pub walked_as : {before after : PieceTables} {r : Result (Unit {0}) Refusal} (rows : List Split) (unit_table places : List ℕ) (k : ℕ) (room : Counts) → places ≡ stage_places 8 k
      → Gives (walk_of image (sections_of file sections file images) (reloc_of file relocs) (length relocs) rows (unit_names unit_table places) room) before after r
      → Gives (walked file (tables_with names lengths sections symbols relocs [] us) room rows (units_at unit_table k)) before after r
  unfolding walked
  walked_as rows unit_table places k room e g =
      gives_as
      (ap (λ (l : List ℕ). walk_of image (sections_of file sections file l) (reloc_of file relocs) (length relocs) rows (unit_names unit_table places) room) p.images_are
      ∙ ap (λ (l : List ℕ). walk_of image (sections_of file sections file (byte_places sections)) (reloc_of file relocs) (length relocs) rows l room)
      (ap (unit_names unit_table) e ∙ sym (map-map (λ (u : units.Unit). u.name) (unit_at unit_table) (stage_places 8 k))))
      g
