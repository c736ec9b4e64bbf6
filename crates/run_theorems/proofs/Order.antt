-- T1 over the entry `split_file`, of every call: the units of an accepted run stand in link order; for a file that no other check refuses 61 comes exactly if the units hold
-- a cycle, and else the answer is the walk's; and 61 shows a cycle. Each rests on what the link order may give (order's `ways`) for the run's split table. Assumes nothing.
use Prim.Native.Nat.{ℕ, ◌-◌, ◌/◌, ◌≤◌, ◌<◌}
use mathlib.Core.Path.{◌≡◌, refl, sym, ap, subst, ◌∙◌}
use mathlib.Core.Bool.{true, false, false≢true}
use mathlib.Core.List.{List, [], ◌∷◌, map}
use mathlib.Core.Logic.{◌⊎◌, inl, inr, ◌↔◌, ◌≢◌}
use native.Mathlib.Omega.{arith}
use borrow.Author.Tests.{eqb-true}
use lib.ListN.{length, get_or, drop, replicate, length-map}
use Rattle.std.proofs.lemmas.List.{get_or-map}
use Rattle.lists.specs.Outcome.{Outcome, accepted, refused, ◌>>=◌}
use Rattle.lists.specs.Members.{In}
use Rattle.lists.specs.Tables.{laid}
use Rattle.lists.proofs.Outcomes.{bind_inv, not_both, same_accepted}
use Rattle.lists.proofs.Binds.{bind_goes}
use Rattle.lists.specs.Bounds.{Bytes}
use Rattle.fields.specs.Fields.{le16}
use Rattle.obj.specs.Answers.{refusal_word, outcome_word}
use Rattle.obj.specs.declared.Split.{Split}
use Rattle.obj.specs.declared.Unit as units
use Rattle.obj.specs.Nothing.{no_unit}
use Rattle.outputs.specs.Outputs.{halves, counts_of}
use Rattle.stage_names.specs.StageNames.{ends_from, flat}
use Rattle.splits.specs.Bytes.{table_bytes}
use Rattle.pieces.specs.Pieces.{piece_bytes, symbol_bytes, reloc_bytes, packed}
use Rattle.tables.specs.Tables.{main_ceilings}
use Rattle.load.specs.Load.{names_in, load_of}
use Rattle.toposort.specs.Search.{End, all, cyclic, lost}
use Rattle.order_numbers.specs.Numbers.{has_order, order_twice}
use Rattle.symbol_order.proofs.Ranks.{rank_same}
use Rattle.link_graph.specs.Graph.{Given, nodes}
use Rattle.link_graph.specs.Joined.{InOrder, HasCycle, IsCycle}
use Rattle.link_graph.proofs.Graph.{length-nodes}
use Rattle.order.specs.LinkOrder.{link_order, record_of, records_of}
use Rattle.order.specs.Bytes.{units_bytes}
use Rattle.order.proofs.Stage.{length_records, own_name}
use Rattle.order.proofs.Theorems.{units_at, Ways, number_twice, no_room, ordered, on_cycle, differ}
use Rattle.walk.specs.Walk.{Output}
use Rattle.restore.proofs.Refusals.{Says}
use Rattle.run_splits.specs.Table.{split_table}
use Rattle.run.specs.Run.{Result, done, cycle, units_of, walked, on_order, ordered_and_walked, stages, run_of}
use Rattle.run_listing.proofs.Ended.{Finished}
use Rattle.run_file.specs.RunFile.{rooms_in}
use Rattle.entry_split_file.specs.Entry.{split_file_of, left_by, word_by}
use Rattle.entry_resolve_link_order.specs.Entry.{names_read, Records}
use Rattle.entry_resolve_link_order.proofs.Theorems.{records_names, names_read_lem, own_records, not_twice, closed}
use Rattle.symbol_order.specs.Keys.{rank_of}
use Rattle.run_theorems.specs.Run.{Call, tables, unit_records, rooms, result, unit_count, split_count, given_by, HoldsTable, InLinkOrder, Tabled, Orderly, Walks, OnCycle}
use Rattle.run_entries.specs.Numbers.{staging}
use Rattle.run_entries.proofs.Numbers.{Can}
use Rattle.run_entries.proofs.Never.{walked_can}
use Rattle.run_theorems.proofs.Running.{not_cycle}
use Rattle.run_theorems.proofs.Ended.{Came, came_done, came_cycle, finished_is, usable, few_splits, staged_table, good_full, records_fit, link_ways, splits_read, count_at, file_order}

-- ---- what the link order gave

same_all : (l m : List ℕ) → ◌≡◌ {A = End} (all l) (all m) → l ≡ m
same_all l m e = cc

not_cyclic : (l m : List ℕ) → ◌≡◌ {A = End} (cyclic l) (all m) → ⊥
not_cyclic l m e = let z : ◌≡◌ {A = ℕ} 0 1 = cc in omega arith

abbrev NodesOf : Given → List ℕ → Type 0
NodesOf g l = (v : ℕ) → In v l → v < length (nodes g.splits)

-- an order is right
order_right : (g : Given) (room : ℕ) (l : List ℕ) (o : Outcome End) → Ways g room o → o ≡ accepted (all l) → InOrder g (units_at g l) × NodesOf g l
order_right g room l o (number_twice t) e = absurd (not_both e)
order_right g room l o (no_room t h) e = absurd (not_both e)
order_right g room l o (on_cycle m c inside) e = absurd (not_cyclic m l (same_accepted e))
order_right g room l o (ordered h m r inside acyclic) e =
    let same : m ≡ l = same_all m l (same_accepted e) in (subst (λ (x : List ℕ). InOrder g (units_at g x)) same r, subst (NodesOf g) same inside)

-- ---- T1.1
module _ (c : Call) (e : c.word ≡ 0) where
  abbrev loads : load_of main_ceilings c.file ≡ accepted (tables c)
  loads = (came_done c e).loaded

  abbrev f : Finished c.file (tables c) (rooms c) (result c)
  f = finished_is c e

  abbrev S : List Split
  S = f.full.rows

  right : InOrder (given_by c S) (units_at (given_by c S) f.nodes) × NodesOf (given_by c S) f.nodes
  right = order_right (given_by c S) (rooms c).units f.nodes _ (link_ways c loads f.full f.tabled) f.ordered

  units_are : c.units ≡ laid c.sizes.units (units_bytes (records_of S (unit_records c) f.nodes))
  units_are = c.leaves.left.units_are ∙ ap (λ (l : List units.Unit). laid c.sizes.units (units_bytes l)) f.units

  long : length f.nodes ≡ length (nodes S)
  long = sym (length-map f.nodes (λ v. get_or (nodes S) v 0)) ∙ right.0.long

  pub units_count : unit_count c ≡ length f.nodes
  units_count = ap length f.units ∙ length_records S (unit_records c) f.nodes

  -- the names of the units that were walked, read from the unit output
  pub units_read : names_read c.units (unit_count c) ≡ map (λ (u : units.Unit). u.name) (units_of c.file (tables c) S f.nodes)
  units_read =
      ap (names_read c.units) units_count
      ∙ names_read_lem S (unit_records c) (records_fit c loads f.full f.tabled) f.nodes right.1 c.sizes.units c.units units_are
      ∙ sym (records_names S (unit_records c) f.nodes)

  few_walked : length (result c).splits ≤ 1024
  few_walked = subst (λ (l : List Split). length l ≤ 1024) (sym f.splits) (omega (arith, (good_full c e).few, few_splits c loads))

  -- the third count says how many splits were walked
  pub splits-counted : 6 ≤ c.sizes.counts → le16 c.counts 4 ≡ split_count c
  splits-counted h =
      ap (λ (l : List ℕ). le16 l 4) c.leaves.left.counted ∙ count_at c.sizes.counts _ 2 h (omega arith) (omega (arith, few_walked))

  -- .. and the fourth how many units there are
  pub units_counted : 8 ≤ c.sizes.counts → le16 c.counts 6 ≡ unit_count c
  units_counted h =
      ap (λ (l : List ℕ). le16 l 6) c.leaves.left.counted
      ∙ count_at c.sizes.counts _ 3 h (omega arith) (omega (arith, few_walked, units_count, long, length-nodes S, ap length f.splits))

  -- THEOREM: the split output of an accepted call holds the run's split table, and the third count is the number of its rows
  pub holds_table : HoldsTable c
  holds_table = record {
    table = record { loaded = loads; full = f.full; tabled = f.tabled };
    rows = splits_read c e;
    counted = λ h. splits-counted h ∙ ap length f.splits ∙ sym (ap length (splits_read c e));
  }

  -- THEOREM (T1.1): the unit output of an accepted call names each unit that has a split in the table that was walked once and nothing else, each by its own record, each before
  -- those that it is joined to; zeros follow, and the fourth count is their number
  pub in_link_order : InLinkOrder c
  in_link_order =
      let names = names_read_lem S (unit_records c) (records_fit c loads f.full f.tabled) f.nodes right.1 c.sizes.units c.units units_are in
      let own = own_records S (unit_records c) (records_fit c loads f.full f.tabled) f.nodes right.1 c.sizes.units c.units units_are (given_by c S) refl refl in
      let back = sym (splits_read c e) in
      record {
        order =
            subst (λ (l : List Split). InOrder (given_by c l) (names_read c.units (length (nodes l)))) back
            (subst (λ (n : ℕ). InOrder (given_by c S) (names_read c.units n)) long (subst (InOrder (given_by c S)) (sym names) right.0));
        records = subst (λ (l : List Split). Records (given_by c l) c.units (length (nodes l))) back (subst (Records (given_by c S) c.units) long own);
        counted = λ h. subst (λ (l : List Split). le16 c.counts 6 ≡ length (nodes l)) back (units_counted h ∙ units_count ∙ long);
      }

-- ---- T1.2
done_word : (m : Outcome Output) (g : Output → Result) → word_by (m >>= λ out. accepted (done (g out))) ≡ outcome_word m
unfolding ◌>>=◌
done_word (accepted out) g = refl
done_word (refused number section address) g = refl

module _ (c : Call) (t : Tabled c) where
  abbrev G : Given
  G = given_by c t.full.rows

  abbrev room : ℕ
  room = (rooms c).units

  -- the run from the link order on
  from_order : split_file_of c.file c.sizes
      ≡ (link_order G room >>= on_order c.file (tables c) (rooms c).output (drop (length (names_in c.file (tables c))) t.full.names) t.full.rows)
  unfolding run_of stages ordered_and_walked
  from_order = bind_goes (load_of main_ceilings c.file) _ (tables c) t.loaded ∙ bind_goes (split_table c.file (tables c) (rooms c).splits (rooms c).names) _ t.full t.tabled

  word_after : (x : End) → link_order G room ≡ accepted x
      → c.word ≡ word_by (on_order c.file (tables c) (rooms c).output (drop (length (names_in c.file (tables c))) t.full.names) t.full.rows x)
  word_after x q = c.leaves.said ∙ ap word_by (from_order ∙ bind_goes (link_order G room) _ x q)

  module _ (good : Orderly c t) where
    no_number_twice : order_twice (unit_records c) ≡ false
    unfolding order_twice
    no_number_twice = not_twice (unit_records c) apart
      where
        apart : (i j : ℕ) → i < j → j < length (unit_records c) → has_order (get_or (unit_records c) i no_unit) ≡ true → has_order (get_or (unit_records c) j no_unit) ≡ true
            → rank_of (get_or (unit_records c) i no_unit) ≢ rank_of (get_or (unit_records c) j no_unit)
        apart i j h q a b e =
            good.numbers i j h q (eqb-true _ _ a) (eqb-true _ _ b)
            (rank_same (get_or (unit_records c) i no_unit).order (get_or (unit_records c) j no_unit).order (file_order c i (omega arith)).sfits (file_order c j q).sfits e)

    unit_room : room ≡ c.sizes.units / 8
    unfolding rooms_in
    unit_room = refl

    -- an order that is walked, or a cycle
    two_ways : (o : Outcome End) → link_order G room ≡ o → Ways G room o → (Walks c t × (HasCycle G → ⊥)) ⊎ ((c.word ≡ refusal_word 61 0 0) × HasCycle G)
    unfolding on_order records_of
    two_ways o q (number_twice e) = absurd (false≢true (sym no_number_twice ∙ e))
    two_ways o q (no_room e h) = absurd (omega (arith, unit_room, good.room))
    two_ways o q (on_cycle l x inside) = inr (word_after (cyclic l) q, closed G (units_at G l) x)
    two_ways o q (ordered h l r inside acyclic) =
        inl (
          record {
            order = units_of c.file (tables c) t.full.rows l;
            in_order = subst (InOrder G) (sym (records_names t.full.rows (unit_records c) l)) r;
            own = λ k k-inside.
                let i : k < length l = omega (arith, length_records t.full.rows (unit_records c) l) in
                let at : get_or (records_of t.full.rows (unit_records c) l) k no_unit ≡ record_of t.full.rows (unit_records c) (get_or (nodes t.full.rows) (get_or l k 0) 0) =
                get_or-map (λ v. record_of t.full.rows (unit_records c) (get_or (nodes t.full.rows) v 0)) l k 0 no_unit i in
                at ∙ ap (record_of t.full.rows (unit_records c)) (sym (ap (λ (u : units.Unit). u.name) at ∙ own_name t.full.rows (unit_records c) _));
            answer = word_after (all l) q ∙ done_word _ _;
          },
          acyclic,
        )

    decided : (Walks c t × (HasCycle G → ⊥)) ⊎ ((c.word ≡ refusal_word 61 0 0) × HasCycle G)
    decided = two_ways (link_order G room) refl (link_ways c t.loaded t.full t.tabled)

    -- no refusal of the walk has the word of a cycle
    walk-apart : (o : Outcome Output) → Says (Can (Unit {0})) o → outcome_word o ≢ refusal_word 61 0 0
    walk-apart (accepted out) s e = absurd (omega arith)
    walk-apart (refused number section address) s e =
        not_cycle {B = Unit {0}} (record { comes = staging s.comes; narrow = s.narrow }) tt e

    -- THEOREM (T1.2): a file that no check refuses up to the trim, with no order number twice and room for its units, is refused with 61 exactly if its units hold a cycle
    pub cycle_exactly : HasCycle G ↔ (c.word ≡ refusal_word 61 0 0)
    cycle_exactly = (there decided, back decided)
      where
        there : (Walks c t × (HasCycle G → ⊥)) ⊎ ((c.word ≡ refusal_word 61 0 0) × HasCycle G) → HasCycle G → c.word ≡ refusal_word 61 0 0
        there (inl x) h = absurd (x.1 h)
        there (inr x) h = x.0

        back : (Walks c t × (HasCycle G → ⊥)) ⊎ ((c.word ≡ refusal_word 61 0 0) × HasCycle G) → c.word ≡ refusal_word 61 0 0 → HasCycle G
        back (inr x) e = x.1
        back (inl x) e =
            absurd
            (walk-apart (walked c.file (tables c) (rooms c).output t.full.rows x.0.order)
            (walked_can (Unit {0}) (usable c t.loaded) (staged_table c t.loaded t.full t.tabled) (rooms c).output x.0.order x.0.in_order)
            (sym x.0.answer ∙ e))

    -- THEOREM (T1.2): without a cycle a link order of its units is walked, and the answer is the walk's
    pub walked_else : (HasCycle G → ⊥) → Walks c t
    walked_else acyclic = go decided
      where
        go : (Walks c t × (HasCycle G → ⊥)) ⊎ ((c.word ≡ refusal_word 61 0 0) × HasCycle G) → Walks c t
        go (inl x) = x.0
        go (inr x) = absurd (acyclic x.1)

-- ---- T1.3
same_cycle : {a b : List units.Unit} → cycle a ≡ cycle b → a ≡ b
same_cycle e = cc

not_ended : {r : Result} {l : List units.Unit} → done r ≡ cycle l → ⊥
not_ended e = let z : ◌≡◌ {A = ℕ} 0 1 = cc in omega arith

same_cyclic : (l m : List ℕ) → ◌≡◌ {A = End} (cyclic l) (cyclic m) → l ≡ m
same_cyclic l m e = cc

-- what was left after a cycle
pub record Looped (c : Call) (us : List units.Unit) : Type 0 where
  pub table : Tabled c
  pub nodes : List ℕ
  pub is : us ≡ records_of table.full.rows (unit_records c) nodes
  pub cycle : IsCycle (given_by c table.full.rows) (units_at (given_by c table.full.rows) nodes)
  pub inside : NodesOf (given_by c table.full.rows) nodes

module _ (c : Call) (us : List units.Unit) (t : Tabled c) where
  on_end : (x : End) → (o : Outcome End) → Ways (given_by c t.full.rows) (rooms c).units o → o ≡ accepted x
      → on_order c.file (tables c) (rooms c).output (drop (length (names_in c.file (tables c))) t.full.names) t.full.rows x ≡ accepted (cycle us) → Looped c us
  unfolding on_order
  on_end (all l) o w q e = let b = bind_inv _ _ _ e in absurd (not_ended (same_accepted b.2))
  on_end (cyclic l) o (number_twice z) q e = absurd (not_both q)
  on_end (cyclic l) o (no_room z h) q e = absurd (not_both q)
  on_end (cyclic l) o (ordered h m r inside acyclic) q e = absurd (differ m l (same_accepted q))
  on_end (cyclic l) o (on_cycle m x inside) q e =
      let same : m ≡ l = same_cyclic m l (same_accepted q) in
      record {
        table = t;
        nodes = l;
        is = sym (same_cycle (same_accepted e));
        cycle = subst (λ (k : List ℕ). IsCycle (given_by c t.full.rows) (units_at (given_by c t.full.rows) k)) same x;
        inside = subst (NodesOf (given_by c t.full.rows)) same inside;
      }
  on_end lost o (number_twice z) q e = absurd (not_both q)
  on_end lost o (no_room z h) q e = absurd (not_both q)
  on_end lost o (ordered h m r inside acyclic) q e = absurd (let z : ◌≡◌ {A = ℕ} 0 1 = cc in omega arith)
  on_end lost o (on_cycle m x inside) q e = absurd (let z : ◌≡◌ {A = ℕ} 0 1 = cc in omega arith)

looped : (c : Call) (us : List units.Unit) → Came c (cycle us) → Looped c us
unfolding stages ordered_and_walked
looped c us came =
    let a = bind_inv _ _ _ came.stages in
    let b = bind_inv _ _ _ a.2 in
    let t : Tabled c = record { loaded = came.loaded; full = a.0; tabled = a.1 } in
    on_end c us t b.0 _ (link_ways c came.loaded a.0 a.1) b.1 b.2

-- nothing laid is zeros
nothing-laid : (size : ℕ) → laid size [] ≡ replicate size 0
nothing-laid size = ap (λ (k : ℕ). replicate {A = ℕ} k 0) (let e : size - 0 ≡ size = omega arith in e)

-- THEOREM (T1.3): a call that is refused with 61 leaves in its unit output a cycle of joined units of the run's split table, none twice, each by its own record; zeros follow,
-- the fourth count is their number, and all other outputs are zeros. What is lent as a file is bytes, as each slice of `u8` is: of other numbers a section's number of
-- "20 no section" could be read that makes its word that of 61
pub shown_cycle : (c : Call) → Bytes c.file → c.word ≡ refusal_word 61 0 0 → OnCycle c
unfolding halves ends_from flat table_bytes packed
shown_cycle c b e =
    let came = came_cycle c b e in
    let x = looped c came.0 came.2 in
    let rows = x.table.full.rows in
    let U = unit_records c in
    let left = c.leaves.left in
    let same : result c ≡ left_by (accepted (cycle came.0)) = ap left_by came.1 in
    let is : c.units ≡ laid c.sizes.units (units_bytes (records_of rows U x.nodes)) =
    left.units_are ∙ ap (λ (r : Result). laid c.sizes.units (units_bytes r.units)) same ∙ ap (λ (l : List units.Unit). laid c.sizes.units (units_bytes l)) x.is in
    let fits = records_fit c x.table.loaded x.table.full x.table.tabled in
    let names = names_read_lem rows U fits x.nodes x.inside c.sizes.units c.units is in
    let count : length came.0 ≡ length x.nodes = ap length x.is ∙ length_records rows U x.nodes in
    record {
      table = x.table;
      k = length x.nodes;
      cycle = subst (IsCycle (given_by c rows)) (sym names) x.cycle;
      records = own_records rows U fits x.nodes x.inside c.sizes.units c.units is (given_by c rows) refl refl;
      ends = left.ends_are ∙ ap (λ (r : Result). laid c.sizes.ends (halves (ends_from 0 r.added))) same ∙ nothing-laid c.sizes.ends;
      bytes = left.bytes_are ∙ ap (λ (r : Result). laid c.sizes.bytes (flat r.added)) same ∙ nothing-laid c.sizes.bytes;
      splits = left.splits_are ∙ ap (λ (r : Result). laid c.sizes.splits (table_bytes r.splits)) same ∙ nothing-laid c.sizes.splits;
      pieces = left.pieces_are ∙ ap (λ (r : Result). laid c.sizes.pieces (packed piece_bytes r.output.pieces)) same ∙ nothing-laid c.sizes.pieces;
      symbols = left.symbols_are ∙ ap (λ (r : Result). laid c.sizes.symbols (packed symbol_bytes r.output.symbols)) same ∙ nothing-laid c.sizes.symbols;
      relocs = left.relocs_are ∙ ap (λ (r : Result). laid c.sizes.relocs (packed reloc_bytes r.output.relocs)) same ∙ nothing-laid c.sizes.relocs;
      counts =
          left.counted
          ∙ ap (λ (r : Result). counts_of c.sizes.counts
          (length r.added ∷ length (flat r.added) ∷ length r.splits ∷ length r.units ∷ length r.output.pieces ∷ length r.output.symbols ∷ length r.output.relocs ∷ [])) same
          ∙ ap (λ (n : ℕ). counts_of c.sizes.counts (0 ∷ 0 ∷ 0 ∷ n ∷ 0 ∷ 0 ∷ 0 ∷ [])) count;
    }
