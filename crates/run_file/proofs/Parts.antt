-- The loader's columns by their parts: each table is a part of the column of places, and what was loaded is what the stages are given. Assumes nothing.
use Prim.Native.Nat.{ℕ, ◌+◌, ◌-◌, ◌≤◌}
use mathlib.Core.Path.{◌≡◌, refl, sym, ap, subst, ◌∙◌}
use mathlib.Core.List.{List}
use native.Mathlib.Omega.{arith}
use lib.ListN.{length, take, drop}
use lib.Seq.{length-take-le}
use Rattle.lists.specs.Outcome.{Outcome, accepted, refused}
use Rattle.lists.proofs.Binds.{bind_goes, bind_stops}
use Rattle.tables.specs.Tables.{main_ceilings}
use Rattle.load.specs.Load.{Loaded, load_of, names_in}
use Rattle.load.specs.Columns.{part, tables_in}
use Rattle.tables.specs.declared.Counts.{Counts}
use Rattle.load.proofs.Parts.{length_part}
use Rattle.loaded.specs.Tables.{tables_with}
use Rattle.loaded.proofs.Bytes.{loaded_usable}
use Rattle.std.specs.Prelude.{Result, Ok, Err}
use Rattle.obj.specs.declared.Refusal.{Refusal}
use Rattle.run_load.specs.Prepared.{Prepares, prepared_as}
use Rattle.run_load.specs.declared.Prepared.{Prepared}
use Rattle.run.specs.Run.{Rooms, Ended, stages, run_of}
use Rattle.run_file.specs.RunFile.{Ready, Stored}

module _ {file : List ℕ} {n : Counts} {ordered : ℕ} {places lengths heads chain images order : List ℕ} (q : Stored file n ordered places lengths heads chain images order) where
  pub few_names : n.names ≤ 4096
  few_names = omega (arith, q.ready.tabled.few.names, q.ready.tabled.allowed.names)

  pub few_sections : n.sections ≤ 64
  few_sections = omega (arith, q.ready.tabled.few.sections, q.ready.tabled.allowed.sections)

  pub few_symbols : n.symbols ≤ 4096
  few_symbols = omega (arith, q.ready.tabled.few.symbols, q.ready.tabled.allowed.symbols)

  pub few_relocs : n.relocations ≤ 4096
  few_relocs = omega (arith, q.ready.tabled.few.relocations, q.ready.tabled.allowed.relocations)

  pub few_splits : n.splits ≤ 1024
  few_splits = omega (arith, q.ready.tabled.few.splits, q.ready.tabled.allowed.splits)

  pub few_units : n.units ≤ 1024
  few_units = omega (arith, q.ready.tabled.few.units, q.ready.tabled.allowed.units)

  pub long_places : 14464 ≤ length places
  long_places = q.ready.tabled.long_places

  pub names_long : n.names ≡ length (take n.names lengths)
  names_long = sym (length-take-le n.names lengths (omega (arith, few_names, q.ready.tabled.long_lengths)))

  pub images_long : n.sections ≡ length (take n.sections images)
  images_long = sym (length-take-le n.sections images (omega (arith, few_sections, q.images_long)))

  pub order_long : ordered ≡ length (take ordered order)
  order_long = sym (length-take-le ordered order q.done.small)

  -- the parts that are lent are the tables
  pub parts_are : tables_with (part 10304 n.names places) (take n.names lengths) (part 0 n.sections places) (part 64 n.symbols places) (part 4160 n.relocations places) (part 8256 n.splits places) (part 9280 n.units places) ≡ tables_in n places lengths
  unfolding tables_in
  parts_are = refl

  pub parts_ready : Ready file (part 10304 n.names places) (take n.names lengths) heads chain (part 0 n.sections places) (take n.sections images) (part 64 n.symbols places) (take ordered order) (part 4160 n.relocations places) (part 8256 n.splits places) (part 9280 n.units places)
  unfolding names_in tables_in
  parts_ready =
      record {
        usable = q.usable;
        indexed = q.ready.indexed;
        images_are = ap (λ (k : ℕ). take k images) (sym (length_part 0 n.sections places (omega (arith, few_sections, long_places)))) ∙ q.done.images_are;
        order_is = q.done.order_is;
      }

-- ---- the file made ready, and the run of it
module _ {file : List ℕ} {r : Result Prepared Refusal} {places lengths heads chain images order : List ℕ}
    (p : Prepares file (load_of main_ceilings file) r places lengths heads chain images order) where
  -- a refused file ends the run
  pub run_refused : {e : Refusal} → r ≡ Err e → (rooms : Loaded → Rooms) → refused e.number e.section e.address ≡ run_of file rooms
  unfolding run_of
  run_refused {e} told rooms =
      sym (bind_stops (load_of main_ceilings file) _ e.number e.section e.address (sym p.means ∙ ap (λ (a : Result Prepared Refusal). prepared_as a places lengths) told))

  module _ {made : Prepared} (told : r ≡ Ok made) where
    abbrev loaded : Loaded
    loaded = tables_in made.counts places lengths

    pub loads : load_of main_ceilings file ≡ accepted loaded
    loads = sym p.means ∙ ap (λ (a : Result Prepared Refusal). prepared_as a places lengths) told

    pub stored : 64 ≤ length images → Stored file made.counts made.ordered places lengths heads chain images order
    stored long = record { usable = loaded_usable file loaded loads; ready = p.ready made told; done = p.done made told; images_long = long }

    -- an accepted one goes through the stages
    pub run_goes : (rooms : Loaded → Rooms) {o : Outcome Ended} → o ≡ stages file loaded (rooms loaded) → o ≡ run_of file rooms
    unfolding run_of
    run_goes rooms e = e ∙ sym (bind_goes (load_of main_ceilings file) (λ (t : Loaded). stages file t (rooms t)) loaded loads)
