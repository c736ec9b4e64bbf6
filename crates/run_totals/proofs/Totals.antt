-- T8 over a whole run: every accepted run's pieces and symbols are of listed units (74 never came), no split and no symbol ends above the ceiling of addresses, and
-- there are at most 1,024 pieces and 4,096 symbols. So the totals are sums over both tables, in 64 bits. Assumes nothing.
use Prim.Native.Nat.{ℕ, ◌≤◌, ◌<◌}
use mathlib.Core.Path.{◌≡◌, refl, sym, ap, subst, ◌∙◌}
use mathlib.Core.List.{List, map}
use mathlib.Core.Bool.{Bool, true, false, cond}
use native.Mathlib.Omega.{arith}
use lib.Dec.{eqb}
use lib.ListN.{length, length-map}
use Rattle.lists.specs.Outcome.{Outcome, accepted, ◌>>=◌}
use Rattle.lists.specs.Sort.{All}
use Rattle.lists.proofs.All.{all_at, all_map}
use Rattle.lists.proofs.Each.{all_placed}
use Rattle.lists.proofs.Outcomes.{bind_inv, then_both, same_accepted}
use Rattle.obj.specs.Records.{unit_at, stage_places}
use Rattle.obj.specs.declared.Reloc.{Reloc}
use Rattle.obj.specs.declared.Split.{Split}
use Rattle.obj.specs.declared.Unit as units
use Rattle.obj.specs.Nothing.{no_split}
use Rattle.tables.specs.Tables.{main_ceilings}
use Rattle.symbol_order.specs.Order.{symbol_of}
use Rattle.names.specs.Append.{Columns as Beside}
use Rattle.load.specs.Load.{Loaded, load_of}
use Rattle.load.proofs.Laws.{length-names_in}
use Rattle.loaded.specs.Tables.{image_from, sections_from, Usable}
use Rattle.loaded.proofs.Bytes.{loaded_usable}
use Rattle.loaded.proofs.Laws.{symbols_sound}
use Rattle.splits.specs.Columns.{Columns}
use Rattle.gap_splits.specs.Entering.{Filled, Ceilings}
use Rattle.trim.proofs.Bounds.{trim_within}
use Rattle.run_splits.specs.Table.{Fine, checked, split_table}
use Rattle.run_splits.proofs.Keeping.{merged_fine, common_fine, gaps_fine}
use Rattle.units.specs.Units.{unit_names}
use Rattle.pieces.specs.Pieces.{piece_width}
use Rattle.pieces.specs.declared.PieceSymbol.{PieceSymbol}
use Rattle.pieces.specs.declared.Counts.{Counts}
use Rattle.restore.proofs.Walked.{pieces_room}
use Rattle.stage_walk.specs.Room.{room_in}
use Rattle.stage_walk.proofs.Room.{room_low}
use Rattle.std.specs.Prelude.{Ok}
use Rattle.run.specs.Run.{Rooms, Result, done, walked, stages, run_of}
use Rattle.run.specs.Answers.{ran_in, units_at}
use Rattle.run_file.specs.RunFile.{rooms_in}
use Rattle.run_listing.specs.Tables.{listed_tables}
use Rattle.run_listing.proofs.Ended.{Finished, finished}
use Rattle.run_listing.proofs.Readable.{output_below}
use Rattle.listing.specs.Listing.{common_size}
use Rattle.run_totals.specs.Totals.{listed, Totals, Read}
use Rattle.run_totals.proofs.Walked.{OfUnits, walk_of_units, pieces_small}
use Rattle.run_totals.proofs.Sums.{Summable, totals_of, read_of}

-- ---- the split table of a run

module _ {file : List ℕ} {t : Loaded} (u : Usable file t) (room : ℕ) (names : Ceilings) where
  checked_ends : (n : ℕ) (l m : List Split) → All (Fine (length t.sections) n) l → checked file t room names l ≡ accepted m → All (λ s. s.end ≤ 4026531840) m
  unfolding checked
  checked_ends n l m q e =
      all_placed m no_split
      (trim_within (λ k. 4026531840) (image_from file t) (sections_from file t) l m (then_both _ _ _ e).1 (λ k h. (all_at k no_split q h).end))

  -- no split ends above the ceiling of addresses
  table_ends : (r : Filled) → split_table file t room names ≡ accepted r → All (λ s. s.end ≤ 4026531840) r.rows
  unfolding split_table
  table_ends r e =
      let a = bind_inv _ _ _ e in
      let b = bind_inv _ _ _ a.2 in
      let c = bind_inv _ _ _ b.2 in
      let d = bind_inv _ _ _ c.2 in
      let known = subst (λ (n : ℕ). All (Fine (length t.sections) n) a.0) (sym (length-names_in file t)) (merged_fine u room names a.0 a.1) in
      subst (λ (f : Filled). All (λ s. s.end ≤ 4026531840) f.rows) (same_accepted d.2)
      (checked_ends (length c.0.names) c.0.rows d.0
      (gaps_fine u room names b.0 c.0 (common_fine u room names _ a.0 b.0 known b.1) c.1) d.1)

-- ---- the pieces of a run

-- what the totals rest on, of the run of a loaded file
record Made (file : List ℕ) (t : Loaded) (room : Counts) (r : Result) : Type 0 where
  fine : OfUnits (length (map (λ (u : units.Unit). u.name) r.units)) room r.output
  small : All (λ p. p.size ≤ 4026531840) r.output.pieces
  symbols_small : All (λ y. common_size (symbol_of file t.symbols) y ≤ 4026531840) r.output.symbols
  few : length r.output.pieces ≤ room.pieces

-- a symbol of the file is no longer than the ceiling of addresses
common_small : {file : List ℕ} {t : Loaded} → Usable file t → (y : PieceSymbol) → y.symbol < length t.symbols → common_size (symbol_of file t.symbols) y ≤ 4026531840
common_small {file} {t} u y h =
    either (eqb y.piece 65535) (either (eqb (symbol_of file t.symbols y.symbol).size_known 1) (omega (arith, (symbols_sound u).ends y.symbol h)))
  where
    either : {a : ℕ} (b : Bool) → a ≤ 4026531840 → cond b a 0 ≤ 4026531840
    either true q = q
    either false q = omega arith

finished_made : {file : List ℕ} {t : Loaded} → Usable file t → (room : Rooms) (r : Result) → Finished file t room r → Made file t room.output r
unfolding walked
finished_made {file} {t} u room r f = record {
  fine =
      subst (λ (us : List units.Unit). OfUnits (length (map (λ (x : units.Unit). x.name) us)) room.output r.output) (sym f.units)
      (walk_of_units _ r.output f.walks);
  small = pieces_small _ 4026531840 (table_ends u room.splits room.names f.full f.tabled) r.output f.walks;
  symbols_small = all_map (common_small u) (output_below u room r f).symbols;
  few = pieces_room _ r.output f.walks;
}

run_made : (file : List ℕ) (rooms : Loaded → Rooms) (room : Counts) (t : Loaded) → load_of main_ceilings file ≡ accepted t → (rooms t).output ≡ room → (r : Result)
    → run_of file rooms ≡ accepted (done r) → Made file t room r
unfolding run_of ◌>>=◌
run_made file rooms room t l same r e =
    subst (λ (c : Counts). Made file t c r) same
    (finished_made (loaded_usable file t l) (rooms t) r
    (finished file t (rooms t) r (sym (ap (λ (o : Outcome Loaded). o >>= λ t. stages file t (rooms t)) l) ∙ e)))

-- ---- the theorems

-- as many names as unit records
names_alike : (b : List ℕ) (n : ℕ) → length (map (λ (u : units.Unit). u.name) (units_at b n)) ≡ length (unit_names b (stage_places 8 n))
names_alike b n =
    length-map (units_at b n) (λ (u : units.Unit). u.name) ∙ length-map (stage_places 8 n) (unit_at b)
    ∙ sym (length-map (stage_places 8 n) (λ (at : ℕ). (unit_at b at).name))

-- lent tables of any lengths: names and bytes of names, splits, units, and the walk's output
module _ (file : List ℕ) (names bytes splits most a b d : ℕ) (t : Loaded) (l : load_of main_ceilings file ≡ accepted t) where
  abbrev rooms : Loaded → Rooms
  rooms = rooms_in file names bytes splits most (room_in a b d)

  rows_made : (r : Result) → run_of file rooms ≡ accepted (done r) → Made file t (room_in a b d) r
  unfolding rooms_in
  rows_made r e = run_made file rooms (room_in a b d) t l refl r e

  -- the listing of these units is summable
  made_summable : (r : Result) → Made file t (room_in a b d) r → (name : ℕ → List ℕ) (reloc : ℕ → Reloc) (us : List ℕ)
      → length (map (λ (u : units.Unit). u.name) r.units) ≡ length us
      → Summable
      (record {
        name = name;
        symbol = symbol_of file t.symbols;
        reloc = reloc;
        units = us;
        pieces = r.output.pieces;
        symbols = r.output.symbols;
        relocs = r.output.relocs;
      })
  made_summable r m name reloc us same =
      let f = subst (λ (k : ℕ). OfUnits k (room_in a b d) r.output) same m.fine in
      record {
        units = f.pieces;
        symbol_units = f.symbols;
        once = f.once;
        small = m.small;
        symbols_small = m.symbols_small;
        few = omega (arith, m.few, room_low 1024 a piece_width);
        symbols_few = omega (arith, f.few, room_low 4096 b 12);
      }

  -- THEOREM T8: of every accepted run, the total's bytes are the sum of the sizes of all pieces and of all common symbols of known size, which is the sum of the
  -- units' figures, in 64 bits
  pub run_totals : (r : Result) → run_of file rooms ≡ accepted (done r) → (name : ℕ → List ℕ) (reloc : ℕ → Reloc) → Totals (listed name (symbol_of file t.symbols) reloc r)
  run_totals r e name reloc =
      totals_of (listed name (symbol_of file t.symbols) reloc r) (made_summable r (rows_made r e) name reloc (map (λ (u : units.Unit). u.name) r.units) refl)

  -- THEOREM T8: .. and so it is told from the bytes of the tables that the run left, and of the file's symbols
  pub tables_totals : (c : Beside) (table : Columns) (unit_records pieces entries offsets : List ℕ) (added used rows n : ℕ) (made : Counts)
      → ran_in c table unit_records pieces entries offsets (Ok (record { names = added; used = used; splits = rows; units = n; made = made })) ≡ run_of file rooms
      → Read (listed_tables file t c unit_records pieces entries offsets n made)
  tables_totals c table unit_records pieces entries offsets added used rows n made e =
      read_of (listed_tables file t c unit_records pieces entries offsets n made)
      (totals_of _ (made_summable _ (rows_made _ (sym e)) _ _ (unit_names unit_records (stage_places 8 n)) (names_alike unit_records n)))
