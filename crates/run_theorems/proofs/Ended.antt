-- A call that was answered, undone: the file was loaded, and its stages gave what the outputs hold. The split table that is read from its output is the run's, and the counts
-- say how many records there are. Assumes nothing.
use Prim.Native.Nat.{ℕ, zero, suc, ◌+◌, ◌*◌, ◌-◌, ◌/◌, ◌≤◌, ◌<◌}
use mathlib.Core.Path.{◌≡◌, refl, sym, ap, subst, ◌∙◌}
use mathlib.Core.List.{List, [], ◌∷◌, ◌++◌, map, append_assoc}
use native.Mathlib.Nat.{zero-add}
use native.Mathlib.Omega.{arith}
use lib.ListN.{length, get_or, take, drop, replicate, length-append, length-take, length-map}
use mir.Syntax.{w32}
use mir.Val.{SFits}
use lib.Seq.{sets, sets-eq, drop_at, get_or-take}
use Rattle.std.proofs.lemmas.List.{get_or-map}
use Rattle.lists.specs.Outcome.{Outcome, accepted}
use Rattle.lists.specs.Sort.{All}
use Rattle.lists.specs.Members.{In}
use Rattle.lists.proofs.All.{all_at, all_map}
use Rattle.lists.proofs.Outcomes.{bind_inv}
use Rattle.lists.specs.Bounds.{Bytes}
use Rattle.fields.specs.Fields.{le16, enc16}
use Rattle.fields.proofs.Laws.{round16}
use Rattle.obj.specs.Answers.{refusal_word}
use Rattle.obj.specs.Records.{section_at, unit_at, stage_places, split_width}
use Rattle.obj.specs.declared.Split.{Split}
use Rattle.obj.specs.declared.Unit as units
use Rattle.obj.specs.Nothing.{no_split, no_unit}
use Rattle.outputs.specs.Outputs.{halves, counts_of}
use Rattle.tables.specs.Tables.{main_ceilings}
use Rattle.tables.specs.Records.{splits_in}
use Rattle.load.specs.Load.{Loaded, names_in, load_of}
use Rattle.load.proofs.Laws.{name_known, good_units}
use Rattle.loaded.specs.Tables.{Usable}
use Rattle.loaded.proofs.Bytes.{loaded_usable}
use Rattle.loaded.proofs.Laws.{few_sections}
use Rattle.splits.specs.Bytes as split_bytes
use Rattle.splits.specs.Bytes.{table_bytes}
use Rattle.splits.proofs.Bytes.{length-table_bytes, splits_back}
use Rattle.gap_splits.specs.Entering.{Filled}
use Rattle.gap_laws.specs.Good.{Within}
use Rattle.symbol_order.proofs.Ranks.{unit_fits}
use Rattle.file_tables.proofs.Written as written
use Rattle.link_graph.specs.Graph.{nodes}
use Rattle.order.specs.LinkOrder.{link_order, record_of}
use Rattle.order.specs.Bytes.{Fits}
use Rattle.order.proofs.Theorems.{Ways}
use Rattle.restore_entry.proofs.Decoded.{after16}
use Rattle.run_splits.specs.Table.{Homed, split_table}
use Rattle.run_splits.proofs.Keeping.{table_homed}
use Rattle.run_splits.proofs.Tables.{homed_more}
use Rattle.run.specs.Run.{Ended, done, cycle, stages, run_of}
use Rattle.run_listing.proofs.Ended.{Finished, finished}
use Rattle.entry_resolve_link_order.proofs.Theorems.{node_split, own_fits}
use Rattle.entry_split_file.specs.Entry.{split_file_of, left_by}
use Rattle.run_theorems.specs.Run.{Call, loaded_by, tables, section_heads, unit_records, rooms_for, rooms, result, split_count, splits_of, given_by}
use Rattle.split_origins.proofs.Originated.{origin_fits}
use Rattle.run_entries.proofs.Good.{Good}
use Rattle.run_entries.proofs.Rows as rows-laws
use Rattle.run_entries.proofs.Rows.{Staged, staged}
use Rattle.run_entries.proofs.Never.{split_file_says}
use Rattle.run_theorems.proofs.Running.{names-within, names_few, splits_few, done_of, cycle_of}

-- an order number of the file has 32 bits
pub file_order : (c : Call) (k : ℕ) → k < length (unit_records c) → SFits w32 (get_or (unit_records c) k no_unit).order
file_order c k h =
    let q : k < length (tables c).units = omega (arith, length-map (tables c).units (unit_at c.file)) in
    subst (λ (u : units.Unit). SFits w32 u.order) (sym (get_or-map (unit_at c.file) (tables c).units k 0 no_unit q)) (unit_fits c.file (get_or (tables c).units k 0))

module _ (c : Call) where
  -- the file was loaded, and its stages ended so
  pub record Came (x : Ended) : Type 0 where
    pub loaded : load_of main_ceilings c.file ≡ accepted (tables c)
    pub stages : stages c.file (tables c) (rooms c) ≡ accepted x

  came : (x : Ended) → split_file_of c.file c.sizes ≡ accepted x → Came x
  unfolding run_of
  came x e =
      let b = bind_inv (load_of main_ceilings c.file) _ x e in
      let same : tables c ≡ b.0 = ap loaded_by b.1 in
      record {
        loaded = b.1 ∙ ap accepted (sym same);
        stages = subst (λ (t : Loaded). stages c.file t (rooms_for c.file c.sizes t) ≡ accepted x) (sym same) b.2;
      }

  -- an answer of 0 is that of a run that was done
  pub done_is : c.word ≡ 0 → split_file_of c.file c.sizes ≡ accepted (done (result c))
  done_is e =
      let d = done_of (Bytes c.file) (split_file_of c.file c.sizes) (split_file_says c.file c.sizes) (sym c.leaves.said ∙ e) in
      d.1 ∙ ap (λ (o : Outcome Ended). accepted (done (left_by o))) (sym d.1)

  pub came_done : c.word ≡ 0 → Came (done (result c))
  came_done e = came (done (result c)) (done_is e)

  pub finished_is : (e : c.word ≡ 0) → Finished c.file (tables c) (rooms c) (result c)
  finished_is e = finished c.file (tables c) (rooms c) (result c) (came_done e).stages

  -- .. and one of 61 that of a run that ended on a cycle
  pub came_cycle : Bytes c.file → c.word ≡ refusal_word 61 0 0 → (us : List units.Unit) × (split_file_of c.file c.sizes ≡ accepted (cycle us)) × Came (cycle us)
  came_cycle b e =
      let d = cycle_of (Bytes c.file) (split_file_of c.file c.sizes) (split_file_says c.file c.sizes) b (sym c.leaves.said ∙ e) in
      (d.0, d.1, came (cycle d.0) d.1)

  -- ---- a split table of the run
  module _ (loads : load_of main_ceilings c.file ≡ accepted (tables c)) where
    pub usable : Usable c.file (tables c)
    usable = loaded_usable c.file (tables c) loads

    pub within : Within (rooms c).names (names_in c.file (tables c))
    within = names-within c.file c.sizes (tables c)

    pub few_names : (rooms c).names.names ≤ 4096
    few_names = names_few c.file c.sizes (tables c) usable

    pub few_splits : (rooms c).splits ≤ 1024
    few_splits = splits_few c.file c.sizes (tables c)

    module _ (full : Filled) (tabled : split_table c.file (tables c) (rooms c).splits (rooms c).names ≡ accepted full) where
      pub staged_table : Staged usable (rooms c).splits (rooms c).names full
      staged_table = staged usable (rooms c).splits (rooms c).names full tabled

      -- it has no fault, and as many names as there are ceilings for
      pub good_table : Good (section_heads c) (rooms c).splits full.names full.rows
      good_table = staged_table.good

      many_names : length full.names ≤ 4096
      many_names = omega (arith, few_names, (staged_table.within within).few)

      -- a split of it has its widths
      pub rows_fit : (k : ℕ) → k < length full.rows → split_bytes.Fits (get_or full.rows k no_split)
      rows_fit =
          written.rows_fit (map length full.names) (section_heads c) full.rows (omega (arith, length-map full.names (length {A = ℕ}), many_names))
          (omega (arith, length-map (tables c).sections (section_at c.file), few_sections usable)) good_table.faultless (all_map origin_fits good_table.origins)

      -- a unit record of the file has its widths
      file_fits : (k : ℕ) → k < length (unit_records c) → Fits (get_or (unit_records c) k no_unit)
      file_fits k h =
          let q : k < length (tables c).units = omega (arith, length-map (tables c).units (unit_at c.file)) in
          let good = good_units usable.good k q in
          record {
            name = omega (arith, usable.good.within.names, name_known usable.good _ good.named);
            autogenerated = omega (arith, good.autogenerated);
            has_order = omega (arith, good.has_order);
            order = file_order c k h;
          }

      homed : All (Homed (length (tables c).sections) 4096) full.rows
      homed =
          all_map (λ s q. homed_more many_names q) (table_homed usable (rooms c).splits (rooms c).names full tabled)

      -- the record of a unit that has splits has its widths
      pub records_fit : (v : ℕ) → In v (nodes full.rows) → Fits (record_of full.rows (unit_records c) v)
      records_fit v i =
          let k = node_split full.rows v i in
          own_fits full.rows (unit_records c) file_fits v (omega (arith, k.2, (all_at k.0 no_split homed k.1).unit))

      -- what the link order may give
      pub link_ways : Ways (given_by c full.rows) (rooms c).units (link_order (given_by c full.rows) (rooms c).units)
      link_ways = rows-laws.link_ways usable good_table few_splits (rooms c).units

  -- ---- the split table, read from its output
  module _ (e : c.word ≡ 0) where
    abbrev f : Finished c.file (tables c) (rooms c) (result c)
    f = finished_is e

    pub good_full : Good (section_heads c) (rooms c).splits f.full.names f.full.rows
    good_full = good_table (came_done e).loaded f.full f.tabled

    -- THEOREM: the rows that the split output holds are those of the run's split table
    pub splits_read : splits_of c ≡ f.full.rows
    splits_read =
        ap (λ (b : List ℕ). splits_in b (stage_places split_width (split_count c))) (c.leaves.left.splits_are ∙ sym front)
        ∙ splits_back out rows (omega (arith, length-table_bytes rows, length-append (table_bytes rows) rest)) no_split
        (λ k h. subst (λ (l : List Split). split_bytes.Fits (get_or l k no_split)) (sym f.splits) (rows_fit (came_done e).loaded f.full f.tabled k (subst (λ (l : List Split). k < length l) f.splits h)))
        ∙ f.splits
      where
        rows : List Split
        rows = (result c).splits

        rest : List ℕ
        rest = replicate (c.sizes.splits - length (table_bytes rows)) 0

        out : List ℕ
        out = table_bytes rows ++ rest

        front : sets out 0 (table_bytes rows) ≡ out
        front =
            sets-eq (table_bytes rows) out 0 (omega (arith, length-append (table_bytes rows) rest))
            ∙ ap (λ (n : ℕ). table_bytes rows ++ drop n out) (zero-add (length (table_bytes rows)))
            ∙ ap (λ (l : List ℕ). table_bytes rows ++ l) (drop_at (table_bytes rows) rest (length (table_bytes rows)) refl)

-- ---- the counts

-- number k of packed numbers, whatever follows
half_at : (l rest : List ℕ) (k : ℕ) → k < length l → get_or l k 0 < 65536 → le16 (halves l ++ rest) (2 * k) ≡ get_or l k 0
unfolding halves
half_at [] rest k h q = absurd (omega arith)
half_at (x ∷ l) rest zero h q = round16 x q
half_at (x ∷ l) rest (suc k) h q =
    ap (λ (b : List ℕ). le16 b (2 * suc k)) (append_assoc (enc16 x) (halves l) rest)
    ∙ ap (le16 (enc16 x ++ (halves l ++ rest))) (let e : 2 * suc k ≡ length (enc16 x) + 2 * k + 0 = omega arith in e)
    ∙ after16 (enc16 x) (halves l ++ rest) (2 * k) 0
    ∙ ap (le16 (halves l ++ rest)) (let e : 2 * k + 0 ≡ 2 * k = omega arith in e)
    ∙ half_at l rest k (omega arith) q

-- count k, where bytes are lent for it
pub count_at : (size : ℕ) (l : List ℕ) (k : ℕ) → 2 * k + 2 ≤ size → k < length l → get_or l k 0 < 65536 → le16 (counts_of size l) (2 * k) ≡ get_or l k 0
unfolding counts_of
count_at size l k room h q =
    let inside : k < size / 2 = omega arith in
    let same = get_or-take (size / 2) l k 0 inside in
    half_at (take (size / 2) l) _ k (taken (size / 2) l k inside h) (omega arith) ∙ same
  where
    taken : (n : ℕ) (l : List ℕ) (k : ℕ) → k < n → k < length l → k < length (take n l)
    taken n l k a b = rw length-take (omega arith)
