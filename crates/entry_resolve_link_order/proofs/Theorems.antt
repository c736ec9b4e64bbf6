-- What the entry answers is right, said of its bytes (T1 of the demands): an accepted unit table names each unit that has splits once, each before those that it
-- is joined to; 61 shows a cycle of joined units, none twice; and for tables that no check refuses one of the two comes, 61 exactly if the units hold a cycle.
-- Each rests on what the stage may give (order's `ways`); what joins two units is said without a search (link_graph's specs/Joined.antt). Assumes nothing.
use Prim.Native.Nat.{ℕ, suc, ◌+◌, ◌*◌, ◌-◌, ◌/◌, ◌≤◌, ◌<◌, zero-le, suc-le-suc}
use mathlib.Core.Path.{◌≡◌, refl, sym, ap, ap₂, subst, ◌∙◌}
use mathlib.Core.List.{List, [], ◌∷◌, map, map-map, map-id}
use mathlib.Core.Bool.{Bool, true, false, cond, ◌||◌, false≢true}
use mathlib.Core.Logic.{◌⊎◌, inl, inr, ◌↔◌, ◌≢◌}
use native.Mathlib.Omega.{arith}
use borrow.Author.Tests.{ltb-true, eqb-true, ne_eqb}
use lib.Dec.{ltb, eqb}
use lib.ListN.{length, get_or, replicate, length-map}
use lib.Seq.{get_or-append-add}
use mir.Syntax.{w32}
use mir.Val.{SFits}
use Rattle.std.proofs.lemmas.List.{get_or-map}
use Rattle.lists.specs.Rows.{tabulate, keep_if, some}
use Rattle.lists.specs.Members.{In}
use Rattle.lists.specs.Outcome.{Outcome, accepted, refused, ◌>>◌}
use Rattle.lists.specs.Tables.{laid}
use Rattle.lists.proofs.Rows.{get_or_same, has_place}
use Rattle.lists.proofs.Parts.{tabulate_list}
use Rattle.lists.proofs.Outcomes.{then_goes}
use Rattle.obj.specs.Answers.{refusal_word, outcome_word}
use Rattle.obj.specs.Records.{split_at, unit_at, stage_places, split_width}
use Rattle.obj.specs.declared.Split.{Split}
use Rattle.obj.specs.declared.Unit as units
use Rattle.obj.proofs.Laws.{length-stage_places}
use Rattle.obj.specs.Nothing.{no_split, no_unit}
use Rattle.outputs.specs.Outputs.{counts_of}
use Rattle.tables.specs.Records.{split_fault, unit_fault}
use Rattle.tables.specs.Tables.{records_check}
use Rattle.tables.proofs.Laws as tables
use Rattle.name_table.specs.NameTable.{names_check}
use Rattle.name_table.specs.Stored.{stage_lengths}
use Rattle.name_table.proofs.Laws.{length-stage_lengths, names_passed}
use Rattle.stage_tables.specs.StageTables.{stage_sections, stage_splits, stage_units, sections_check, splits_check, units_check}
use Rattle.stage_tables.proofs.Laws.{table_passed}
use Rattle.toposort.specs.Search.{End, all, cyclic}
use Rattle.toposort.specs.Sorting.{nodes_left}
use Rattle.order_numbers.specs.Numbers.{has_order, twice, order_twice}
use Rattle.symbol_order.specs.Keys.{rank_of}
use Rattle.symbol_order.proofs.Ranks.{unit_fits, rank_same}
use Rattle.link_graph.specs.Graph.{Given, units_of, nodes}
use Rattle.link_graph.specs.Joined.{InOrder, HasCycle, IsCycle}
use Rattle.link_graph.proofs.Nodes.{in_counted}
use Rattle.link_graph.proofs.Graph.{in_at}
use Rattle.link_graph.proofs.Joined.{BySection, place_of}
use Rattle.order.specs.LinkOrder.{link_order, first_record, hand_of, made_unit, record_of, records_of}
use Rattle.order.specs.Bytes.{units_bytes, Fits}
use Rattle.order.specs.Columns.{said_of}
use Rattle.order.proofs.Bytes.{length-units_bytes, units_back}
use Rattle.order.proofs.Stage.{length_records, own_name}
use Rattle.order.proofs.Theorems.{units_at, Ways, number_twice, no_room, ordered, on_cycle, ways}
use Rattle.entry_resolve_link_order.specs.Entry.{given_in, resolve_of, Leaves, units_read, names_read, Records, Accepted, Shown, Good}
use Rattle.entry_resolve_link_order.proofs.Refusals.{Low, low_names, low_sections, low_splits, low_units}

-- ---- every input goes one of two ways

pub record Passed (ends bytes sections splits us : List ℕ) : Type 0 where
  pub names : names_check 4096 ends bytes ≡ accepted tt
  pub heads : sections_check 64 (stage_lengths ends bytes) sections ≡ accepted tt
  pub table : splits_check 1024 (stage_lengths ends bytes) (stage_sections sections) splits ≡ accepted tt
  pub records : units_check 1024 (stage_lengths ends bytes) us ≡ accepted tt

data Tables (ends bytes sections splits us : List ℕ) (size : ℕ) : Outcome End → Type 0 where
  table_refused : (number section address : ℕ) → Low {A = End} (refused number section address) → Tables ends bytes sections splits us size (refused number section address)
  tables_passed : Passed ends bytes sections splits us
      → Tables ends bytes sections splits us size (link_order (given_in ends bytes sections splits us) (size / 8))

-- a check that refuses, or lets the rest decide
one_check : (T : Outcome End → Type 0) (m : Outcome (Unit {0})) (n : Outcome End) → Low m
    → ((number section address : ℕ) → Low {A = End} (refused number section address) → T (refused number section address)) → (m ≡ accepted tt → T n) → T (m >> n)
unfolding ◌>>◌
one_check T (accepted u) n l stop go = go refl
one_check T (refused number section address) n l stop go = stop number section address l

tables_of : (ends bytes sections splits us : List ℕ) (size : ℕ) → Tables ends bytes sections splits us size (resolve_of ends bytes sections splits us size)
unfolding resolve_of
tables_of ends bytes sections splits us size =
    let T = Tables ends bytes sections splits us size in
    let l = stage_lengths ends bytes in
    one_check T (names_check 4096 ends bytes) _ (low_names ends bytes) (λ a b c q. table_refused a b c q) (λ e₁.
    one_check T (sections_check 64 l sections) _ (low_sections l sections) (λ a b c q. table_refused a b c q) (λ e₂.
    one_check T (splits_check 1024 l (stage_sections sections) splits) _ (low_splits l (stage_sections sections) splits) (λ a b c q. table_refused a b c q) (λ e₃.
    one_check T (units_check 1024 l us) _ (low_units l us) (λ a b c q. table_refused a b c q) (λ e₄.
    tables_passed (record { names = e₁; heads = e₂; table = e₃; records = e₄ })))))

-- ---- units that have splits, and their records

-- the unit of a node is that of a split
pub node_split : (S : List Split) (v : ℕ) → In v (nodes S) → (k : ℕ) × (k < length S) × ((get_or S k no_split).unit ≡ v)
unfolding nodes
node_split S v i = go (in_counted v (units_of S) [] i)
  where
    go : In v [] ⊎ In v (units_of S) → (k : ℕ) × (k < length S) × ((get_or S k no_split).unit ≡ v)
    go (inl j) = absurd j
    go (inr j) =
        let k = place_of v (units_of S) j in
        let inside : k.0 < length S = omega (arith, k.1, length-map S (λ (s : Split). s.unit)) in
        (k.0, inside, sym (get_or-map (λ (s : Split). s.unit) S k.0 no_split 0 inside) ∙ k.2)

-- a unit's record has its widths, where the unit records have theirs
pub own_fits : (S : List Split) (U : List units.Unit) → ((k : ℕ) → k < length U → Fits (get_or U k no_unit)) → (v : ℕ) → v < 65536 → Fits (record_of S U v)
unfolding record_of
own_fits S U fits v small = by_record (ltb (first_record U v) (length U)) refl (some (hand_of v) S)
  where
    by_record : (t : Bool) → ltb (first_record U v) (length U) ≡ t → (s : Bool) → Fits (cond t (get_or U (first_record U v) no_unit) (made_unit v (cond s 0 1)))
    by_record true e s = fits (first_record U v) (ltb-true (first_record U v) (length U) e)
    by_record false e true = record { name = small; autogenerated = omega arith; has_order = omega arith; order = record { sfits = omega arith } }
    by_record false e false = record { name = small; autogenerated = omega arith; has_order = omega arith; order = record { sfits = omega arith } }

-- ---- what tables that passed give

lengths_few : (ends bytes : List ℕ) → names_check 4096 ends bytes ≡ accepted tt → length (stage_lengths ends bytes) ≤ 4096
lengths_few ends bytes e = rw length-stage_lengths (names_passed 4096 ends bytes e).few

module _ (ends bytes sections splits us : List ℕ) (p : Passed ends bytes sections splits us) where
  abbrev S : List Split
  S = stage_splits splits

  abbrev U : List units.Unit
  U = stage_units us

  abbrev L : List ℕ
  L = stage_lengths ends bytes

  names_few : length L ≤ 4096
  names_few = lengths_few ends bytes p.names

  length_S : length S ≡ length splits / split_width
  length_S = length-map (stage_places split_width (length splits / split_width)) (split_at splits) ∙ length-stage_places split_width (length splits / split_width)

  length_U : length U ≡ length us / 8
  length_U = length-map (stage_places 8 (length us / 8)) (unit_at us) ∙ length-stage_places 8 (length us / 8)

  passed_splits : (length splits / split_width ≤ 1024) × (records_check (split_fault L (stage_sections sections) S) (length splits / split_width) ≡ accepted tt)
  passed_splits = let q = table_passed split_width 1024 splits (split_fault L (stage_sections sections) S) p.table in (q.1, q.2)

  passed_units : (length us / 8 ≤ 1024) × (records_check (unit_fault L U) (length us / 8) ≡ accepted tt)
  passed_units = let q = table_passed 8 1024 us (unit_fault L U) p.records in (q.1, q.2)

  pub few_splits : length S ≤ 1024
  few_splits = omega (arith, length_S, passed_splits.0)

  pub few_units : length U ≤ 1024
  few_units = omega (arith, length_U, passed_units.0)

  -- sections do not fall
  pub lies : BySection S
  lies i j h q = (tables.splits_rise L (stage_sections sections) S (length splits / split_width) passed_splits.1 i j h (omega (arith, length_S))).sections

  -- a unit that has splits is a name
  unit_small : (v : ℕ) → In v (nodes S) → v < 65536
  unit_small v i =
      let k = node_split S v i in
      let h = has_place L (get_or S k.0 no_split).unit (tables.partials_named L S (length splits / split_width) (tables.splits_partials L (stage_sections sections) S (length splits / split_width) passed_splits.1) k.0 (omega (arith, length_S, k.1))) in
      omega (arith, names_few, k.2)

  -- a unit record has its widths
  record_fits : (k : ℕ) → k < length U → Fits (get_or U k no_unit)
  record_fits k h =
      let q : k < length us / 8 = omega (arith, length_U) in
      let yes-no = tables.units_answers L U (length us / 8) passed_units.1 k q in
      let name = has_place L (get_or U k no_unit).name (tables.units_named L U (length us / 8) passed_units.1 k q) in
      let at : get_or U k no_unit ≡ unit_at us (get_or (stage_places 8 (length us / 8)) k 0) = get_or-map (unit_at us) (stage_places 8 (length us / 8)) k 0 no_unit (omega (arith, length-stage_places 8 (length us / 8))) in
      record {
        name = omega (arith, names_few);
        autogenerated = omega (arith, yes-no.0);
        has_order = omega (arith, yes-no.1);
        order = subst (λ (u : units.Unit). SFits w32 u.order) (sym at) (unit_fits us (get_or (stage_places 8 (length us / 8)) k 0));
      }

-- ---- the records read back from the table

maps_alike : (f h : ℕ → ℕ) → ((v : ℕ) → f v ≡ h v) → (l : List ℕ) → map f l ≡ map h l
maps_alike f h e [] = refl
maps_alike f h e (x ∷ l) = ap₂ (λ (y : ℕ) (t : List ℕ). y ∷ t) (e x) (maps_alike f h e l)

-- the names of the nodes' records are the nodes' units
pub records_names : (S : List Split) (U : List units.Unit) (l : List ℕ) → map (λ (u : units.Unit). u.name) (records_of S U l) ≡ map (λ v. get_or (nodes S) v 0) l
unfolding records_of
records_names S U l =
    map-map (λ (u : units.Unit). u.name) (λ v. record_of S U (get_or (nodes S) v 0)) l
    ∙ maps_alike (λ v. (record_of S U (get_or (nodes S) v 0)).name) (λ v. get_or (nodes S) v 0) (λ v. own_name S U (get_or (nodes S) v 0)) l

-- the records of these nodes, of units whose records have their widths
module _ (S : List Split) (U : List units.Unit) (fits : (v : ℕ) → In v (nodes S) → Fits (record_of S U v)) (l : List ℕ) (inside : (v : ℕ) → In v l → v < length (nodes S)) (size : ℕ)
    (out : List ℕ) (is : out ≡ laid size (units_bytes (records_of S U l))) where
  abbrev R : List units.Unit
  R = records_of S U l

  abbrev unit_of_node : ℕ → ℕ
  unit_of_node v = get_or (nodes S) v 0

  length_R : length R ≡ length l
  length_R = length_records S U l

  -- record k is that of node k
  record_at : (k : ℕ) → k < length l → get_or R k no_unit ≡ record_of S U (unit_of_node (get_or l k 0))
  unfolding records_of
  record_at k h = get_or-map (λ v. record_of S U (unit_of_node v)) l k 0 no_unit h

  at_fits : (k : ℕ) → k < length R → Fits (get_or R k no_unit)
  at_fits k h =
      let q : k < length l = omega (arith, length_R) in
      let node : get_or l k 0 < length (nodes S) = inside (get_or l k 0) (in_at l k q) in
      rw (record_at k q) (fits (unit_of_node (get_or l k 0)) (in_at (nodes S) (get_or l k 0) node))

  pub records_read : units_read out (length l) ≡ R
  unfolding units_read
  records_read =
      ap (λ (n : ℕ). tabulate (λ k. unit_at out (8 * k)) 0 n) (sym length_R)
      ∙ tabulate_list (λ (u : units.Unit). u) (λ k. unit_at out (8 * k)) R no_unit
      (λ k h. ap (λ (b : List ℕ). unit_at b (8 * k)) is ∙ units_back R (replicate (size - length (units_bytes R)) 0) k no_unit h (at_fits k h))
      ∙ map-id R

  pub names_read_lem : names_read out (length l) ≡ map unit_of_node l
  names_read_lem = ap (map (λ (u : units.Unit). u.name)) records_read ∙ records_names S U l

  pub own_records : (g : Given) → g.splits ≡ S → g.units ≡ U → Records g out (length l)
  own_records g es eu = record {
    own = λ k h.
        ap (λ (m : List units.Unit). get_or m k no_unit) records_read
        ∙ record_at k h
        ∙ ap (record_of S U) (sym (ap (λ (m : List ℕ). get_or m k 0) names_read_lem ∙ get_or-map unit_of_node l k 0 0 h))
        ∙ ap₂ (λ (s : List Split) (u : List units.Unit). record_of s u (get_or (names_read out (length l)) k 0)) (sym es) (sym eu);
    zeros = λ j h.
        let long : length (units_bytes R) ≡ 8 * length l = length-units_bytes R ∙ ap (λ (n : ℕ). 8 * n) length_R in
        let past : j ≡ length (units_bytes R) + (j - length (units_bytes R)) = omega arith in
        ap₂ (λ (b : List ℕ) (i : ℕ). get_or b i 0) is past
        ∙ get_or-append-add (units_bytes R) (replicate (size - length (units_bytes R)) 0) (j - length (units_bytes R)) 0
        ∙ get_or_same (size - length (units_bytes R)) (j - length (units_bytes R)) 0;
  }

-- ---- no order number twice

none_equal : (x : ℕ) (l : List units.Unit) → ((k : ℕ) → k < length l → has_order (get_or l k no_unit) ≡ true → rank_of (get_or l k no_unit) ≢ x)
    → some (λ y. eqb y x) (map rank_of (keep_if has_order l)) ≡ false
unfolding some keep_if
none_equal x [] f = refl
none_equal x (u ∷ l) f = go (has_order u) refl (none_equal x l (λ k h e. f (suc k) (suc-le-suc h) e))
  where
    go : (t : Bool) → has_order u ≡ t → some (λ y. eqb y x) (map rank_of (keep_if has_order l)) ≡ false
        → some (λ y. eqb y x) (map rank_of (cond t (u ∷ keep_if has_order l) (keep_if has_order l))) ≡ false
    go true e ih = ap₂ (λ (a b : Bool). a || b) (ne_eqb (rank_of u) x (f 0 (suc-le-suc zero-le) e)) ih
    go false e ih = ih

pub not_twice : (l : List units.Unit)
    → ((i j : ℕ) → i < j → j < length l → has_order (get_or l i no_unit) ≡ true → has_order (get_or l j no_unit) ≡ true → rank_of (get_or l i no_unit) ≢ rank_of (get_or l j no_unit))
    → twice (map rank_of (keep_if has_order l)) ≡ false
unfolding twice keep_if
not_twice [] f = refl
not_twice (u ∷ l) f = go (has_order u) refl (not_twice l (λ i j h q a b. f (suc i) (suc j) (suc-le-suc h) (suc-le-suc q) a b))
  where
    go : (t : Bool) → has_order u ≡ t → twice (map rank_of (keep_if has_order l)) ≡ false
        → twice (map rank_of (cond t (u ∷ keep_if has_order l) (keep_if has_order l))) ≡ false
    go true e ih =
        ap₂ (λ (a b : Bool). a || b)
        (none_equal (rank_of u) l (λ k h a z. f 0 (suc k) (suc-le-suc zero-le) (suc-le-suc h) e a (sym z))) ih
    go false e ih = ih

-- a cycle is one that the units hold
pub closed : (g : Given) (l : List ℕ) → IsCycle g l → HasCycle g
closed g [] c = absurd c.closes
closed g (x ∷ l) c = record { first = x; rest = l; closes = c.closes }

-- ---- the theorems, over whatever the entry was lent and left

module _ (ends bytes sections splits us : List ℕ) (size counts_size word : ℕ) (out counts : List ℕ)
    (w : Leaves (stage_splits splits) (stage_units us) (resolve_of ends bytes sections splits us size) size counts_size word out counts) where
  abbrev G : Given
  G = given_in ends bytes sections splits us

  -- the record of a unit that has splits has its widths
  records_fit : Passed ends bytes sections splits us → (v : ℕ) → In v (nodes (stage_splits splits)) → Fits (record_of (stage_splits splits) (stage_units us) v)
  records_fit p v i = own_fits (stage_splits splits) (stage_units us) (record_fits ends bytes sections splits us p) v (unit_small ends bytes sections splits us p v i)

  -- the outcome, by the way that the tables go
  low_word : (number section address : ℕ) → Low {A = End} (refused number section address) → (refusal_word number section address ≢ 0) × (refusal_word number section address ≢ refusal_word 61 0 0)
  low_word number section address q = ((λ e. omega (arith, q.0, q.1, q.2, q.3)), (λ e. omega (arith, q.0, q.1, q.2, q.3)))

  left_units : (o : Outcome End) → resolve_of ends bytes sections splits us size ≡ o
      → (out ≡ laid size (units_bytes (records_of (stage_splits splits) (stage_units us) (nodes_left o)))) × (counts ≡ counts_of counts_size (length (nodes_left o) ∷ []))
  left_units o e = (
    w.units ∙ ap (λ (x : Outcome End). laid size (units_bytes (records_of (stage_splits splits) (stage_units us) (nodes_left x)))) e,
    w.counted ∙ ap (λ (x : Outcome End). counts_of counts_size (length (nodes_left x) ∷ [])) e,
  )

  -- THEOREM (T1.1): an accepted unit table names each unit that has splits once and nothing else, each by its own record, each before those that it is joined to;
  -- zeros follow, and the count is the number of these units
  pub accepted_order : word ≡ 0 → Accepted G out counts counts_size
  accepted_order e = by_tables (resolve_of ends bytes sections splits us size) refl (tables_of ends bytes sections splits us size) (sym w.said ∙ e)
    where
      by_way : Passed ends bytes sections splits us → (o : Outcome End) → resolve_of ends bytes sections splits us size ≡ o → Ways G (size / 8) o
          → outcome_word (said_of o) ≡ 0 → Accepted G out counts counts_size
      by_way p o q (number_twice t) z = absurd (omega arith)
      by_way p o q (no_room t h) z = absurd (omega arith)
      by_way p o q (on_cycle l c inside) z = absurd (omega arith)
      by_way p o q (ordered h l r inside acyclic) z =
          let s = left_units (accepted (all l)) q in
          let long : length l ≡ length (nodes (stage_splits splits)) = sym (length-map l (λ v. get_or (nodes (stage_splits splits)) v 0)) ∙ r.long in
          let names = names_read_lem (stage_splits splits) (stage_units us) (records_fit p) l inside size out s.0 in
          let own = own_records (stage_splits splits) (stage_units us) (records_fit p) l inside size out s.0 G refl refl in
          record {
            order = subst (λ (n : ℕ). InOrder G (names_read out n)) long (subst (InOrder G) (sym names) r);
            records = subst (Records G out) long own;
            counted = s.1 ∙ ap (λ (n : ℕ). counts_of counts_size (n ∷ [])) long;
          }

      by_tables : (o : Outcome End) → resolve_of ends bytes sections splits us size ≡ o → Tables ends bytes sections splits us size o → outcome_word (said_of o) ≡ 0
          → Accepted G out counts counts_size
      by_tables o q (table_refused number section address low) z = absurd ((low_word number section address low).0 z)
      by_tables o q (tables_passed p) z =
          by_way p (link_order G (size / 8)) q
          (ways G (lies ends bytes sections splits us p) (few_splits ends bytes sections splits us p) (few_units ends bytes sections splits us p) (size / 8)) z

  -- THEOREM (T1.3): 61 leaves a cycle of joined units, none twice, each by its own record; zeros follow, and the count is its length
  pub shown_cycle : word ≡ refusal_word 61 0 0 → Shown G out counts counts_size
  shown_cycle e = by_tables (resolve_of ends bytes sections splits us size) refl (tables_of ends bytes sections splits us size) (sym w.said ∙ e)
    where
      by_way : Passed ends bytes sections splits us → (o : Outcome End) → resolve_of ends bytes sections splits us size ≡ o → Ways G (size / 8) o
          → outcome_word (said_of o) ≡ refusal_word 61 0 0 → Shown G out counts counts_size
      by_way p o q (number_twice t) z = absurd (omega arith)
      by_way p o q (no_room t h) z = absurd (omega arith)
      by_way p o q (ordered h l r inside acyclic) z = absurd (omega arith)
      by_way p o q (on_cycle l c inside) z =
          let s = left_units (accepted (cyclic l)) q in
          let names = names_read_lem (stage_splits splits) (stage_units us) (records_fit p) l inside size out s.0 in
          record {
            k = length l;
            cycle = subst (IsCycle G) (sym names) c;
            records = own_records (stage_splits splits) (stage_units us) (records_fit p) l inside size out s.0 G refl refl;
            counted = s.1;
          }

      by_tables : (o : Outcome End) → resolve_of ends bytes sections splits us size ≡ o → Tables ends bytes sections splits us size o
          → outcome_word (said_of o) ≡ refusal_word 61 0 0 → Shown G out counts counts_size
      by_tables o q (table_refused number section address low) z = absurd ((low_word number section address low).1 z)
      by_tables o q (tables_passed p) z =
          by_way p (link_order G (size / 8)) q
          (ways G (lies ends bytes sections splits us p) (few_splits ends bytes sections splits us p) (few_units ends bytes sections splits us p) (size / 8)) z

  -- ---- tables that no check refuses
  module _ (good : Good ends bytes sections splits us size) where
    passed : Passed ends bytes sections splits us
    passed = record { names = good.names; heads = good.heads; table = good.table; records = good.records }

    stage_is : resolve_of ends bytes sections splits us size ≡ link_order G (size / 8)
    unfolding resolve_of
    stage_is =
        sym (then_goes refl _ good.names) ∙ sym (then_goes refl _ good.heads) ∙ sym (then_goes refl _ good.table) ∙ sym (then_goes refl _ good.records)

    no_number_twice : order_twice (stage_units us) ≡ false
    unfolding order_twice
    no_number_twice = not_twice (stage_units us) apart
      where
        fits : (k : ℕ) → k < length (stage_units us) → SFits w32 (get_or (stage_units us) k no_unit).order
        fits k h = (record_fits ends bytes sections splits us passed k h).order

        apart : (i j : ℕ) → i < j → j < length (stage_units us) → has_order (get_or (stage_units us) i no_unit) ≡ true → has_order (get_or (stage_units us) j no_unit) ≡ true
            → rank_of (get_or (stage_units us) i no_unit) ≢ rank_of (get_or (stage_units us) j no_unit)
        apart i j h q a b e =
            good.numbers i j h q (eqb-true _ _ a) (eqb-true _ _ b)
            (rank_same (get_or (stage_units us) i no_unit).order (get_or (stage_units us) j no_unit).order (fits i (omega arith)).sfits (fits j q).sfits e)

    -- an order or a cycle
    two_ways : (o : Outcome End) → link_order G (size / 8) ≡ o → Ways G (size / 8) o
        → ((word ≡ 0) × (HasCycle G → ⊥)) ⊎ ((word ≡ refusal_word 61 0 0) × HasCycle G)
    two_ways o q (number_twice t) = absurd (false≢true (sym no_number_twice ∙ t))
    two_ways o q (no_room t h) = absurd (omega (arith, good.room))
    two_ways o q (ordered h l r inside acyclic) = inl (w.said ∙ ap (λ (x : Outcome End). outcome_word (said_of x)) (stage_is ∙ q), acyclic)
    two_ways o q (on_cycle l c inside) = inr (w.said ∙ ap (λ (x : Outcome End). outcome_word (said_of x)) (stage_is ∙ q), closed G (units_at G l) c)

    decided : ((word ≡ 0) × (HasCycle G → ⊥)) ⊎ ((word ≡ refusal_word 61 0 0) × HasCycle G)
    decided =
        two_ways (link_order G (size / 8)) refl
        (ways G (lies ends bytes sections splits us passed) (few_splits ends bytes sections splits us passed) (few_units ends bytes sections splits us passed) (size / 8))

    -- THEOREM (T1.2): they are accepted, or refused with 61
    pub order_or_cycle : (word ≡ 0) ⊎ (word ≡ refusal_word 61 0 0)
    order_or_cycle = go decided
      where
        go : ((word ≡ 0) × (HasCycle G → ⊥)) ⊎ ((word ≡ refusal_word 61 0 0) × HasCycle G) → (word ≡ 0) ⊎ (word ≡ refusal_word 61 0 0)
        go (inl x) = inl x.0
        go (inr x) = inr x.0

    -- THEOREM (T1.2): with 61 exactly if the units hold a cycle
    pub cycle_exactly : HasCycle G ↔ (word ≡ refusal_word 61 0 0)
    cycle_exactly = (there decided, back decided)
      where
        there : ((word ≡ 0) × (HasCycle G → ⊥)) ⊎ ((word ≡ refusal_word 61 0 0) × HasCycle G) → HasCycle G → word ≡ refusal_word 61 0 0
        there (inl x) h = absurd (x.1 h)
        there (inr x) h = x.0

        back : ((word ≡ 0) × (HasCycle G → ⊥)) ⊎ ((word ≡ refusal_word 61 0 0) × HasCycle G) → word ≡ refusal_word 61 0 0 → HasCycle G
        back (inl x) e = absurd (let z = x.0 in omega arith)
        back (inr x) e = x.1
