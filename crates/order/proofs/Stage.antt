-- From the sort's answer and table to the stage's: what each answer leaves, and that every node left is one. Assumes nothing.
use Prim.Native.Nat.{ℕ, ◌*◌, ◌/◌, ◌≤◌, ◌<◌}
use mathlib.Core.Path.{◌≡◌, refl, sym, ap, subst, ◌∙◌}
use mathlib.Core.List.{List, [], ◌∷◌, ◌++◌, map}
use mathlib.Core.Bool.{Bool, true, false, cond}
use mathlib.Core.Logic.{◌⊎◌, inl, inr}
use native.Mathlib.Omega.{arith}
use borrow.Author.Tests.{ltb-true, eqb-true}
use lib.Dec.{ltb, eqb}
use lib.ListN.{length, get_or, take, length-append, length-map}
use lib.Seq.{sets, length-take-le, take-append-le}
use Rattle.lists.specs.Sort.{All, none, each}
use Rattle.lists.specs.Members.{In}
use Rattle.lists.specs.Rows.{keep_if, some}
use Rattle.lists.specs.Outcome.{Outcome, accepted, refuse, ◌>>◌}
use Rattle.lists.proofs.Outcomes.{fails, passes}
use Rattle.lists.proofs.FirstIn.{first_in_passes}
use Rattle.lists.proofs.Rows.{length-tabulate}
use Rattle.obj.specs.Answers.{meaning}
use Rattle.obj.specs.declared.Split.{Split}
use Rattle.obj.specs.declared.Unit as units
use Rattle.obj.specs.Nothing.{no_split, no_unit}
use Rattle.std.specs.Prelude.{Result, Ok, Err, MatchResult}
use Rattle.std.specs.Result.{IsErrAnd}
use Rattle.std.proofs.lemmas.List.{get_or-map}
use Rattle.toposort.specs.Search.{Graph, End, all, cyclic, lost, searched}
use Rattle.toposort.specs.Sorting as sorting
use Rattle.toposort.specs.Sorting.{sort_of, kept, Sorts, Within, Sound, answer_of, nodes_left}
use Rattle.toposort.specs.Answers.{Edge, Path, Closes, Right}
use Rattle.toposort.specs.declared.Unsorted.{Unsorted}
use Rattle.toposort.specs.declared.Unsorted.TheVariants.{Cycle, NoNode, Short}
use Rattle.toposort.proofs.Theorems.{Gives, no_node, too_short, answer, sorted_right}
use Rattle.splits.specs.Columns.{Columns, rows, row_at}
use Rattle.order_numbers.specs.Numbers.{ordered, order_twice}
use Rattle.link_graph.specs.Graph.{Given, UnitEdge, units_of, node_of, has_node, nodes, split_at, chained, links, edges, graph_of}
use Rattle.link_graph.specs.Columns.{UnitsBelow}
use Rattle.link_graph.proofs.Nodes.{in_counted}
use Rattle.link_graph.proofs.Rows.{row_at_lem}
use Rattle.link_graph.proofs.Joined.{place_of}
use Rattle.link_graph.proofs.Graph.{same_edges}
use Rattle.order.specs.declared.Unlinked.{Unlinked}
use Rattle.order.specs.declared.Unlinked.TheVariants.{Refused}
use Rattle.order.specs.Columns as stage
use Rattle.order.specs.LinkOrder.{link_order, first_record, hand_of, made_unit, record_of, records_of}
use Rattle.order.specs.Bytes.{units_bytes}
use Rattle.order.specs.Columns.{said_of, Resolves}
use Rattle.outputs.specs.Room.{room_for}
use Rattle.outputs.proofs.Room.{room_low, room_fits, room_same}
use Rattle.obj.proofs.Errors.{is_err}

-- ---- what an answer leaves is what its outcome says
said : (r : Result ℕ Unsorted) (t : List ℕ) (o : Outcome End) → sorting.meaning r t ≡ o → meaning (answer_of r) ≡ said_of o
said (Ok n) t o e = ap said_of e
said (Err (Cycle k)) t o e = ap said_of e
said (Err (NoNode i)) t o e = ap said_of e
said (Err Short) t o e = ap said_of e

left : (r : Result ℕ Unsorted) (t : List ℕ) (o : Outcome End) → sorting.meaning r t ≡ o → take (kept r) t ≡ nodes_left o
left (Ok n) t o e = ap nodes_left e
left (Err (Cycle k)) t o e = ap nodes_left e
left (Err (NoNode i)) t o e = ap nodes_left e
left (Err Short) t o e = ap nodes_left e

-- what the sort says, said of the unit records: an order as it is, and why there is none
abbrev linked_by : Result ℕ Unsorted → Result ℕ Unlinked
linked_by (Ok n) = Ok n
linked_by (Err why) = Err (stage.unlinked_of why)

pub says_linked : (r : Result ℕ Unsorted) → stage.Says r (linked_by r)
says_linked (Ok n) = (refl, refl, tt)
says_linked (Err (Cycle k)) = (refl, refl, tt)
says_linked (Err (NoNode e)) = (refl, refl, λ e. omega arith)
says_linked (Err Short) = (refl, refl, λ e. omega arith)

pub says_of : (r : Result ℕ Unsorted) (a : Result ℕ Unlinked) → MatchResult r (λ n. a ≡ Ok n) (λ e. IsErrAnd a (λ d. d ≡ stage.unlinked_of e)) → stage.Says r a
says_of (Ok n) a is = subst (stage.Says (Ok n)) (sym is) (says_linked (Ok n))
says_of (Err e) a given = subst (stage.Says (Err e)) (sym (is_err a given)) (says_linked (Err e))

-- a table of more bytes than 1,024 units take is as good as one of 1,024
same_room : (g : Graph) (size room : ℕ) → g.count ≤ 1024 → room ≡ room_for 1024 8 size → sort_of g room ≡ sort_of g (size / 8)
unfolding sort_of
same_room g size room h w = rw (w, room_same 1024 8 size h)

-- ---- the nodes that are left are nodes
all_in : (P : ℕ → Type 0) (l : List ℕ) → ((v : ℕ) → In v l → P v) → All P l
all_in P [] f = none
all_in P (x ∷ l) f = each (f x (inl refl)) (all_in P l (λ v i. f v (inr i)))

module _ (g : Graph) (o : Sound g) where
  leaves_node : (v w : ℕ) → Edge g v w → v < g.count
  leaves_node v w e = subst (λ (k : ℕ). k < g.count) e.leaves (o.starts e.at e.inside)

  on_path : (v : ℕ) (l : List ℕ) (w : ℕ) → Path g v l w → All (λ u. u < g.count) (v ∷ l)
  on_path v [] w p = each (leaves_node v w p) none
  on_path v (x ∷ l) w p = each (leaves_node v x p.0) (on_path x l w p.1)

  on_cycle : (l : List ℕ) → Closes g l → All (λ u. u < g.count) l
  on_cycle [] c = absurd c
  on_cycle (x ∷ l) c = on_path x l x c

  ended_inside : (e : End) → Right g e → All (λ u. u < g.count) (nodes_left (accepted e))
  ended_inside (all l) r = all_in (λ u. u < g.count) l r.only
  ended_inside (cyclic l) r = on_cycle l r.closes
  ended_inside lost r = absurd r

pub left_inside : (g : Graph) (room : ℕ) → Within g → All (λ u. u < g.count) (nodes_left (sort_of g room))
left_inside g room w = go (sort_of g room) (sorted_right g room w)
  where
    go : (o : Outcome End) → Gives g room o → All (λ u. u < g.count) (nodes_left o)
    go o (no_node e b) = none
    go o (too_short s h) = none
    go o (answer s h r iff) = ended_inside g s (searched g) r

-- every node's unit has a place in a column that has one for the units of the splits
pub nodes-named : (c : Columns) (n : ℕ) (column : List ℕ) → UnitsBelow c n (length column) → All (λ x. x < length column) (nodes (rows c n))
unfolding nodes
nodes-named c n column w = all_in (λ x. x < length column) (nodes (rows c n)) (λ v i. of_split v (in_counted v (units_of (rows c n)) [] i))
  where
    of_split : (v : ℕ) → In v [] ⊎ In v (units_of (rows c n)) → v < length column
    of_split v (inl j) = absurd j
    of_split v (inr j) =
        let k = place_of v (units_of (rows c n)) j in
        let long : length (units_of (rows c n)) ≡ n = length-map (rows c n) (λ (s : Split). s.unit) ∙ length-tabulate (row_at c) 0 n in
        let inside : k.0 < n = omega (arith, k.1, long) in
        let is : (row_at c k.0).unit ≡ v =
        ap (λ (s : Split). s.unit) (sym (row_at_lem c n k.0 inside))
        ∙ sym (get_or-map (λ (s : Split). s.unit) (rows c n) k.0 no_split 0 (omega (arith, length-tabulate (row_at c) 0 n)))
        ∙ k.2 in
        omega (arith, w k.0 inside)

-- ---- the front of a table whose first part was lent and comes back as `part`
module _ (g : Graph) (size room : ℕ) (r : Result ℕ Unsorted) (part rest : List ℕ) (k : ℕ) (few : g.count ≤ 1024) (w : room ≡ room_for 1024 8 size) (s : Sorts (sort_of g room) room r part)
    (e : k ≡ kept r) where
  means : sorting.meaning r part ≡ sort_of g (size / 8)
  means = s.means ∙ same_room g size room few w

  pub kept_there : k ≤ length (part ++ rest)
  kept_there = simp length-append (omega (arith, s.room, s.long))

  pub kept_long : length (take k (part ++ rest)) ≡ k
  kept_long = length-take-le k (part ++ rest) kept_there

  pub kept-nodes : take k (part ++ rest) ≡ nodes_left (sort_of g (size / 8))
  kept-nodes = take-append-le k part rest (omega (arith, s.room, s.long)) ∙ ap (λ (i : ℕ). take i part) e ∙ left r part _ means

  pub kept-fits : 8 * k ≤ size
  kept-fits = omega (arith, s.room, w, room_fits 1024 8 size)

  pub sorted_resolves : (splits : List Split) (us : List units.Unit) (a : Result ℕ Unlinked) (before after : List ℕ) → length before ≡ size
      → stage.Says r a
      → after ≡ sets before 0 (units_bytes (records_of splits us (take k (part ++ rest))))
      → Resolves splits us (sort_of g (size / 8)) a before after
  sorted_resolves splits us a before after long q f = record {
    said = ap meaning q.1 ∙ said r part _ means;
    counted = q.0 ∙ sym e ∙ sym kept_long ∙ ap length kept-nodes;
    front = f ∙ ap (λ (l : List ℕ). sets before 0 (units_bytes (records_of splits us l))) kept-nodes;
    room = omega (arith, kept-fits, q.0, e);
    few = omega (arith, s.room, w, room_low 1024 8 size, q.0);
    other = q.2;
  }

-- ---- the stage: 60 first
pub order_twice_resolves : (g : Given) (room : ℕ) (before : List ℕ) → order_twice g.units ≡ true
    → Resolves g.splits g.units (link_order g room) (Err (Refused (record { number = 60; section = 0; address = 0 }))) before before
unfolding link_order units_bytes records_of
order_twice_resolves g room before e =
    rw (fails 60 0 0 (order_twice g.units) (sort_of (graph_of g) room) e)
    (record { said = refl; counted = refl; front = refl; room = omega arith; few = omega arith; other = λ e. omega arith })

pub sorted_stage : (g : Given) (room : ℕ) → order_twice g.units ≡ false → sort_of (graph_of g) room ≡ link_order g room
unfolding link_order
sorted_stage g room e = sym (passes 60 0 0 (order_twice g.units) (sort_of (graph_of g) room) e)

-- a graph with the same columns sorts the same
pub same_sort : (g h : Graph) (room : ℕ) → g.count ≡ h.count → g.from ≡ h.from → g.to ≡ h.to → sort_of g room ≡ sort_of h room
same_sort g h room c f t = λ i. sort_of (record { count = c i; from = f i; to = t i }) room

pub resolves_as : {splits : List Split} {us : List units.Unit} {o p : Outcome End} {r : Result ℕ Unlinked} {before after : List ℕ} → o ≡ p
    → Resolves splits us o r before after → Resolves splits us p r before after
resolves_as {splits} {us} {o} {p} {r} {before} {after} e w = subst (λ (x : Outcome End). Resolves splits us x r before after) e w

-- of the sections' names only those of the splits' sections matter
pub same_pointers : (splits : List Split) (us : List units.Unit) (p q : ℕ → Bool) (room : ℕ)
    → ((i : ℕ) → i < length splits → p (split_at splits i).section ≡ q (split_at splits i).section)
    → link_order (record { splits = splits; units = us; pointers = p }) room ≡ link_order (record { splits = splits; units = us; pointers = q }) room
unfolding link_order edges chained
same_pointers splits us p q room agree =
    ap (λ (l : List UnitEdge). refuse 60 0 0 (order_twice us) >> sort_of (record {
      count = length (nodes splits);
      from = map (λ (e : UnitEdge). node_of (nodes splits) e.from) (l ++ links (map (λ (u : units.Unit). u.name) (keep_if (λ (u : units.Unit). has_node (nodes splits) u.name) (ordered us))));
      to = map (λ (e : UnitEdge). node_of (nodes splits) e.to) (l ++ links (map (λ (u : units.Unit). u.name) (keep_if (λ (u : units.Unit). has_node (nodes splits) u.name) (ordered us))));
    }) room)
    (same_edges p q splits agree)

-- each node that is left has a record
pub length_records : (splits : List Split) (us : List units.Unit) (l : List ℕ) → length (records_of splits us l) ≡ length l
unfolding records_of
length_records splits us l = length-map l (λ v. record_of splits us (get_or (nodes splits) v 0))

-- a unit's record has its name
pub own_name : (S : List Split) (U : List units.Unit) (v : ℕ) → (record_of S U v).name ≡ v
unfolding record_of
own_name S U v = by_record (ltb (first_record U v) (length U)) refl (some (hand_of v) S)
  where
    by_record : (t : Bool) → ltb (first_record U v) (length U) ≡ t → (s : Bool) → (cond t (get_or U (first_record U v) no_unit) (made_unit v (cond s 0 1))).name ≡ v
    by_record true e s = eqb-true _ _ (first_in_passes (λ (u : units.Unit). eqb u.name v) U no_unit (ltb-true (first_record U v) (length U) e))
    by_record false e s = refl
