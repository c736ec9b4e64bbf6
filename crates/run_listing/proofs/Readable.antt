-- What the listing asks of a run's tables: a run that was done has left them so. Its names are the file's and those added, and every record names what is there.
-- Assumes nothing.
use Prim.Native.Nat.{ℕ, ◌*◌, ◌<◌}
use mathlib.Core.Path.{◌≡◌, sym, ap, subst, ◌∙◌}
use mathlib.Core.List.{List}
use native.Mathlib.Omega.{arith}
use native.Mathlib.Nat.{zero-add}
use lib.ListN.{length, get_or, length-map}
use Rattle.lists.specs.Rows.{tabulate}
use Rattle.lists.specs.Sort.{All}
use Rattle.lists.proofs.All.{all_at, all_map}
use Rattle.lists.proofs.Rows.{get_d_tabulate, length-tabulate}
use Rattle.obj.specs.Records.{unit_at, stage_places}
use Rattle.obj.specs.declared.Unit as units
use Rattle.obj.proofs.Laws.{length-stage_places, stage_place}
use Rattle.obj.specs.Nothing.{no_unit}
use Rattle.tables.specs.Records.{units_in}
use Rattle.names.specs.Append.{Columns as Beside, Packed}
use Rattle.load.specs.Load.{Loaded, names_in}
use Rattle.loaded.specs.Tables.{Usable}
use Rattle.loaded.proofs.Laws.{few_units, section_named}
use Rattle.splits.specs.Columns.{Columns}
use Rattle.pieces.specs.Pieces.{piece_at, symbol_at, reloc_at, pieces_in, symbols_in, relocs_in, piece_width}
use Rattle.pieces.specs.declared.Piece.{Piece}
use Rattle.pieces.specs.declared.PieceSymbol.{PieceSymbol}
use Rattle.pieces.specs.declared.PieceReloc.{PieceReloc}
use Rattle.pieces.specs.declared.Counts.{Counts}
use Rattle.run_splits.specs.Table.{Homed}
use Rattle.run_splits.proofs.Keeping.{table_homed}
use Rattle.std.specs.Prelude.{Ok}
use Rattle.std.proofs.lemmas.List.{get_or-map}
use Rattle.run.specs.Run.{Rooms, Result, walked, stages}
use Rattle.run.specs.Answers.{ran_in, Units, units_at}
use Rattle.listing.specs.Tables.{Readable}
use Rattle.run_listing.specs.Tables.{listed_tables}
use Rattle.run_listing.proofs.Ended.{Finished, finished}
use Rattle.run_listing.proofs.Added.{Longer, table_longer, names_more, name_known}
use Rattle.run_listing.proofs.Units.{units_below}
use Rattle.run_listing.proofs.Walked.{Below, walk-below}

-- what holds of each row of a table holds of row k
row_at_lem : {A : Type 0} {P : A → Type 0} (f : ℕ → A) (n k : ℕ) → k < n → All P (tabulate f 0 n) → P (f k)
row_at_lem {A} {P} f n k h q = subst P (get_d_tabulate f 0 n k (f k) h ∙ ap f (zero-add k)) (all_at k (f k) q (omega (arith, length-tabulate f 0 n)))

module _ (b : List ℕ) (n k : ℕ) where
  piece_at_lem : {P : Piece → Type 0} → k < n → All P (pieces_in b n) → P (piece_at b (piece_width * k))
  unfolding pieces_in
  piece_at_lem h q = row_at_lem (λ i. piece_at b (piece_width * i)) n k h q

  symbol_at_lem : {P : PieceSymbol → Type 0} → k < n → All P (symbols_in b n) → P (symbol_at b (12 * k))
  unfolding symbols_in
  symbol_at_lem h q = row_at_lem (λ i. symbol_at b (12 * i)) n k h q

  reloc_at_lem : {P : PieceReloc → Type 0} → k < n → All P (relocs_in b n) → P (reloc_at b (8 * k))
  unfolding relocs_in
  reloc_at_lem h q = row_at_lem (λ i. reloc_at b (8 * i)) n k h q

  unit_at_lem : {P : units.Unit → Type 0} → k < length (stage_places 8 n) → All P (units_at b n) → P (unit_at b (get_or (stage_places 8 n) k 0))
  unit_at_lem {P} h q = subst P (get_or-map (unit_at b) (stage_places 8 n) k 0 no_unit h) (all_at k no_unit q (omega (arith, length-map (stage_places 8 n) (unit_at b))))

-- ---- what the stages gave names what is there
module _ {file : List ℕ} {t : Loaded} (u : Usable file t) (room : Rooms) (r : Result) (f : Finished file t room r) where
  longer : Longer (names_in file t) f.full.names
  longer = table_longer u room.splits room.names f.full f.tabled

  homed : All (Homed (length t.sections) (length f.full.names)) f.full.rows
  homed = table_homed u room.splits room.names f.full f.tabled

  units_named : All (λ (x : units.Unit). x.name < length f.full.names) r.units
  units_named =
      subst (All (λ (x : units.Unit). x.name < length f.full.names)) (sym f.units)
      (units_below (length f.full.names) f.full.rows (units_in file t.units) _ room.units f.nodes
      (omega (arith, few_units u, length-map t.units (unit_at file))) (all_map (λ s q. q.unit) homed) f.ordered)

  pub output_below : Below (length f.full.names) (length t.symbols) (length t.relocations) r.output
  unfolding walked
  output_below =
      walk-below _ (length f.full.names) (λ n h. omega (arith, section_named u n h, names_more u longer)) (all_map (λ s q. q.renamed) homed) r.output f.walks

-- THEOREM: what a run leaves can be listed
pub run_readable : {file : List ℕ} {t : Loaded} (u : Usable file t) (room : Rooms) (c : Beside) (table : Columns) (units pieces entries offsets : List ℕ)
    (names used splits n : ℕ) (made : Counts)
    → ran_in c table units pieces entries offsets (Ok (record { names = names; used = used; splits = splits; units = n; made = made })) ≡ stages file t room
    → Packed c.bytes c.places c.lengths names used
    → Units units n
    → Readable (listed_tables file t c units pieces entries offsets n made)
run_readable {file} {t} u room c table units pieces entries offsets names used splits n made e packed w =
    let f = finished file t room _ (sym e) in
    let all = longer u room _ f in
    let known = name_known u f.full.names all c names used packed f.added in
    let below = output_below u room _ f in
    let long = length-stage_places 8 n in
    record {
      few_units = omega (arith, w.few);
      units = λ k h. record { there = h; inside = omega (arith, w.fit, stage_place 8 n k (omega arith)) };
      unit_names = λ k h. known _ (unit_at_lem units n k h (units_named u room _ f));
      piece_names = λ k h. known _ (piece_at_lem pieces made.pieces k h below.pieces);
      symbols = λ k h. let q = symbol_at_lem entries made.symbols k h below.symbols in record { there = q; inside = u.good.symbols.held _ q };
      symbol_names = λ k h.
          let q = symbol_at_lem entries made.symbols k h below.symbols in
          known _ (omega (arith, (u.good.symbols.each _ q).name, names_more u all));
      relocs = λ k h. let q = reloc_at_lem offsets made.relocs k h below.relocs in record { there = q; inside = u.good.relocations.held _ q };
    }
