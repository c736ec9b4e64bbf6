-- What the entry answers is right, said of its bytes: every node table that it accepts is an order, every cycle that it shows is one, and
-- it shows one exactly if the edges hold one. Each rests on what the sort may give (toposort's `sorted_right`). Assumes nothing.
use Prim.Native.Nat.{ℕ, zero, suc, ◌+◌, ◌*◌, ◌/◌, ◌%◌, ◌≤◌, ◌<◌}
use mathlib.Core.Path.{◌≡◌, refl, sym, ap, ap₂, subst, ◌∙◌}
use mathlib.Core.List.{List, [], ◌∷◌, ◌++◌}
use mathlib.Core.Logic.{◌⊎◌, inl, inr, ◌↔◌}
use native.Mathlib.Nat.{zero-add}
use native.Mathlib.Decide.{ℕ_discrete, dec_lt}
use native.Mathlib.Omega.{arith}
use lib.ListN.{length, get_or}
use lib.Seq.{ext_get_or}
use Rattle.lists.specs.Rows.{tabulate}
use Rattle.lists.specs.Outcome.{Outcome, accepted, refused}
use Rattle.lists.specs.Tables.{laid}
use Rattle.lists.specs.Members.{In}
use Rattle.lists.proofs.Rows.{length-tabulate, get_d_tabulate}
use Rattle.fields.specs.Fields.{le16, enc16}
use Rattle.obj.specs.Answers.{refusal_word, place}
use Rattle.obj.proofs.Laws.{place_small}
use Rattle.outputs.specs.Outputs.{halves, counts_of}
use Rattle.toposort.specs.Search.{Graph, End, all, cyclic, lost, searched}
use Rattle.toposort.specs.Answers.{Edge, Path, Closes, IsCycle, IsOrder, HasCycle, Right}
use Rattle.toposort.specs.Sorting.{Within, Sound, sort_of, nodes_left}
use Rattle.toposort.proofs.Theorems.{Gives, no_node, too_short, answer, sorted_right, searched_right, cycle_iff}
use Rattle.entry_toposort.specs.Entry.{starts_of, goals_of, graph_of, toposort_of, word_of, nodes_in, Good, Leaves}
use Rattle.entry_toposort.proofs.Laws.{many_nodes, cut_edges, many_edges, table_sorted}

-- ---- the nodes read back from the table

-- every number of the list fits two bytes
abbrev Small : List ℕ → Type 0
Small [] = Unit {0}
Small (x ∷ l) = (x < 65536) × Small l

read_from : (l rest : List ℕ) (i : ℕ) → i < length l → Small l → le16 (halves l ++ rest) (2 * i) ≡ get_or l i 0
unfolding halves
read_from [] rest i h s = absurd (omega arith)
read_from (x ∷ l) rest zero h s = let small = s.0 in omega arith
read_from (x ∷ l) rest (suc i) h s =
    let two : 2 * suc i ≡ suc (suc (2 * i)) = omega arith in
    let three : 2 * suc i + 1 ≡ suc (suc (2 * i + 1)) = omega arith in
    ap₂ (λ (a b : ℕ). get_or (enc16 x ++ halves l ++ rest) a 0 + 256 * get_or (enc16 x ++ halves l ++ rest) b 0) two three
    ∙ read_from l rest i (omega arith) s.1

-- what a table of two-byte records and zeros holds
nodes_read : (l : List ℕ) (size : ℕ) → Small l → nodes_in (laid size (halves l)) (length l) ≡ l
unfolding nodes_in
nodes_read l size s =
    ext_get_or 0 (tabulate (λ i. le16 (laid size (halves l)) (2 * i)) 0 (length l)) l (length-tabulate _ 0 (length l))
    (λ i h.
    let k : i < length l = rw (length-tabulate (λ i. le16 (laid size (halves l)) (2 * i)) 0 (length l)) at h in
    get_d_tabulate _ 0 (length l) i 0 k ∙ ap (λ (j : ℕ). le16 (laid size (halves l)) (2 * j)) (zero-add i) ∙ read_from l _ i k s)

-- ---- the nodes of an order and of a cycle are nodes

order_small : (g : Graph) → g.count ≤ 1024 → (l : List ℕ) → ((v : ℕ) → In v l → v < g.count) → Small l
order_small g few [] only = tt
order_small g few (x ∷ l) only = (omega (arith, only x (inl refl)), order_small g few l (λ v i. only v (inr i)))

-- each node that an edge enters
entered : (g : Graph) → Sound g → (v w : ℕ) → Edge g v w → w < 65536
entered g o v w e = omega (arith, o.nodes, o.goals e.at e.inside, e.enters)

path_small : (g : Graph) → Sound g → (v : ℕ) (l : List ℕ) (w : ℕ) → Path g v l w → Small l × (w < 65536)
path_small g o v [] w p = (tt, entered g o v w p)
path_small g o v (x ∷ l) w p =
    let rest = path_small g o x l w p.1 in
    ((entered g o v x p.0, rest.0), rest.1)

cycle_small : (g : Graph) → Sound g → (l : List ℕ) → Closes g l → Small l
cycle_small g o [] c = absurd c
cycle_small g o (x ∷ l) c = let s = path_small g o x l x c in (s.1, s.0)

-- ---- every input goes one of these ways

data Ways (nodes : ℕ) (edges : List ℕ) (size : ℕ) : Outcome End → Type 0 where
  nodes_many : Ways nodes edges size (refused 2 0 1024)
  edges_cut : Ways nodes edges size (refused 1 0 (place (length edges / 4)))
  edges_many : Ways nodes edges size (refused 2 0 2048)
  sorted : {o : Outcome End} → Within (graph_of nodes edges) → Gives (graph_of nodes edges) (size / 2) o → Ways nodes edges size o

within : (nodes : ℕ) (edges : List ℕ) → nodes ≤ 1024 → length edges / 4 ≤ 2048 → Within (graph_of nodes edges)
unfolding starts_of goals_of
within nodes edges h few =
    let a = length-tabulate (λ i. le16 edges (4 * i)) 0 (length edges / 4) in
    let b = length-tabulate (λ i. le16 edges (4 * i + 2)) 0 (length edges / 4) in
    record { nodes = h; edges = omega arith; paired = b ∙ sym a }

module _ (nodes : ℕ) (edges : List ℕ) (size : ℕ) where
  ways : Ways nodes edges size (toposort_of nodes edges size)
  ways = by_tests (dec_lt 1024 nodes) (ℕ_discrete (length edges % 4) 0) (dec_lt 2048 (length edges / 4))
    where
      by_tests : Dec (1024 < nodes) → Dec (length edges % 4 ≡ 0) → Dec (2048 < length edges / 4) → Ways nodes edges size (toposort_of nodes edges size)
      by_tests (yes h) w k = subst (Ways nodes edges size) (sym (many_nodes nodes edges size h)) nodes_many
      by_tests (no h) (no w) k =
          let few : nodes ≤ 1024 = omega arith in
          subst (Ways nodes edges size) (sym (cut_edges nodes edges size few w)) edges_cut
      by_tests (no h) (yes w) (yes k) =
          let few : nodes ≤ 1024 = omega arith in
          subst (Ways nodes edges size) (sym (many_edges nodes edges size few w k)) edges_many
      by_tests (no h) (yes w) (no k) =
          let few : nodes ≤ 1024 = omega arith in
          let short : length edges / 4 ≤ 2048 = omega arith in
          subst (Ways nodes edges size) (sym (table_sorted nodes edges size few w short))
          (sorted (within nodes edges few short) (sorted_right (graph_of nodes edges) (size / 2) (within nodes edges few short)))

-- what a way that ends with word 0, and one that ends with 61, leaves in the node table
ordered_of : (nodes : ℕ) (edges : List ℕ) (size : ℕ) (o : Outcome End) → Ways nodes edges size o → word_of o ≡ 0
    → (l : List ℕ) × (nodes_left o ≡ l) × IsOrder (graph_of nodes edges) l × (nodes ≤ 1024)
ordered_of nodes edges size o nodes_many e = absurd (omega arith)
ordered_of nodes edges size o edges_cut e = absurd (omega arith)
ordered_of nodes edges size o edges_many e = absurd (omega arith)
ordered_of nodes edges size o (sorted w (no_node i b)) e = absurd (omega arith)
ordered_of nodes edges size o (sorted w (too_short s h)) e = absurd (omega arith)
ordered_of nodes edges size o (sorted w (answer s h r iff)) e = by_end (searched (graph_of nodes edges)) r e
  where
    by_end : (x : End) → Right (graph_of nodes edges) x → word_of (accepted x) ≡ 0
        → (l : List ℕ) × (nodes_left (accepted x) ≡ l) × IsOrder (graph_of nodes edges) l × (nodes ≤ 1024)
    by_end (all l) q z = (l, refl, q, s.nodes)
    by_end (cyclic l) q z = absurd (omega arith)
    by_end lost q z = absurd q

cycle_of : (nodes : ℕ) (edges : List ℕ) (size : ℕ) (o : Outcome End) → Ways nodes edges size o → word_of o ≡ refusal_word 61 0 0
    → (l : List ℕ) × (nodes_left o ≡ l) × IsCycle (graph_of nodes edges) l × Sound (graph_of nodes edges)
cycle_of nodes edges size o nodes_many e = absurd (omega arith)
cycle_of nodes edges size o edges_cut e = absurd (omega (arith, place_small (length edges / 4)))
cycle_of nodes edges size o edges_many e = absurd (omega arith)
cycle_of nodes edges size o (sorted w (no_node i b)) e = absurd (omega (arith, b.inside, w.edges))
cycle_of nodes edges size o (sorted w (too_short s h)) e = absurd (omega arith)
cycle_of nodes edges size o (sorted w (answer s h r iff)) e = by_end (searched (graph_of nodes edges)) r e
  where
    by_end : (x : End) → Right (graph_of nodes edges) x → word_of (accepted x) ≡ refusal_word 61 0 0
        → (l : List ℕ) × (nodes_left (accepted x) ≡ l) × IsCycle (graph_of nodes edges) l × Sound (graph_of nodes edges)
    by_end (all l) q z = absurd (omega arith)
    by_end (cyclic l) q z = (l, refl, q, s)
    by_end lost q z = absurd q

-- ---- tables that no check refuses

module _ (nodes : ℕ) (edges : List ℕ) (size : ℕ) (g : Good nodes edges size) where
  good_sound : Sound (graph_of nodes edges)
  unfolding starts_of goals_of
  good_sound =
      let w = within nodes edges g.few_nodes g.few_edges in
      let long = length-tabulate (λ i. le16 edges (4 * i)) 0 (length edges / 4) in
      record {
        nodes = w.nodes;
        edges = w.edges;
        paired = w.paired;
        starts = λ e h. rw (get_d_tabulate (λ i. le16 edges (4 * i)) 0 (length edges / 4) e 0 (omega arith), zero-add e) (g.joined e (omega arith)).0;
        goals = λ e h. rw (get_d_tabulate (λ i. le16 edges (4 * i + 2)) 0 (length edges / 4) e 0 (omega arith), zero-add e) (g.joined e (omega arith)).1;
      }

  searched_is : toposort_of nodes edges size ≡ accepted (searched (graph_of nodes edges))
  searched_is =
      table_sorted nodes edges size g.few_nodes g.whole g.few_edges
      ∙ by_gives (sort_of (graph_of nodes edges) (size / 2)) (sorted_right (graph_of nodes edges) (size / 2) (within nodes edges g.few_nodes g.few_edges))
    where
      by_gives : (o : Outcome End) → Gives (graph_of nodes edges) (size / 2) o → o ≡ accepted (searched (graph_of nodes edges))
      by_gives o (no_node e b) =
          let sound = good_sound in
          absurd (b.bad (sound.starts e b.inside, sound.goals e b.inside))
      by_gives o (too_short s h) = absurd (omega (arith, g.room))
      by_gives o (answer s h r iff) = refl

has_cycle : (g : Graph) (l : List ℕ) → IsCycle g l → HasCycle g
has_cycle g [] c = absurd c.closes
has_cycle g (x ∷ l) c = record { first = x; rest = l; closes = c.closes }

-- ---- the theorems, over whatever the entry was lent and left

module _ (nodes : ℕ) (edges : List ℕ) (size counts_size word : ℕ) (out counts : List ℕ)
    (w : Leaves (toposort_of nodes edges size) size counts_size word out counts) where
  -- THEOREM: an accepted node table holds each node once, with every edge of the edge table forward
  pub accepted_order : word ≡ 0 → IsOrder (graph_of nodes edges) (nodes_in out nodes)
  accepted_order e =
      let a = ordered_of nodes edges size (toposort_of nodes edges size) (ways nodes edges size) (sym w.said ∙ e) in
      let order = a.2 in
      let small : Small a.0 = order_small (graph_of nodes edges) a.3 a.0 order.only in
      let read : nodes_in out nodes ≡ a.0 =
      ap (λ (t : List ℕ). nodes_in t nodes) (w.nodes ∙ ap (λ (l : List ℕ). laid size (halves l)) a.1)
      ∙ ap (nodes_in (laid size (halves a.0))) (sym order.long) ∙ nodes_read a.0 size small in
      subst (IsOrder (graph_of nodes edges)) (sym read) order

  -- THEOREM: 61 leaves a cycle: consecutive edges of the edge table, the last to the first, no node twice; its length is the count
  pub shown_cycle : word ≡ refusal_word 61 0 0 → (k : ℕ) × IsCycle (graph_of nodes edges) (nodes_in out k) × (counts ≡ counts_of counts_size (k ∷ []))
  shown_cycle e =
      let a = cycle_of nodes edges size (toposort_of nodes edges size) (ways nodes edges size) (sym w.said ∙ e) in
      let small : Small a.0 = cycle_small (graph_of nodes edges) a.3 a.0 a.2.closes in
      let read : nodes_in out (length a.0) ≡ a.0 =
      ap (λ (t : List ℕ). nodes_in t (length a.0)) (w.nodes ∙ ap (λ (l : List ℕ). laid size (halves l)) a.1)
      ∙ nodes_read a.0 size small in (
        length a.0,
        subst (IsCycle (graph_of nodes edges)) (sym read) a.2,
        w.counted ∙ ap (λ (l : List ℕ). counts_of counts_size (length l ∷ [])) a.1,
      )

  -- THEOREM: tables that no check refuses are accepted or refused with 61
  pub order_or_cycle : Good nodes edges size → (word ≡ 0) ⊎ (word ≡ refusal_word 61 0 0)
  order_or_cycle g = by_end (searched (graph_of nodes edges)) refl
    where
      by_end : (x : End) → searched (graph_of nodes edges) ≡ x → (word ≡ 0) ⊎ (word ≡ refusal_word 61 0 0)
      by_end (all l) e = inl (w.said ∙ ap word_of (searched_is nodes edges size g ∙ ap accepted e))
      by_end (cyclic l) e = inr (w.said ∙ ap word_of (searched_is nodes edges size g ∙ ap accepted e))
      by_end lost e = absurd (subst (Right (graph_of nodes edges)) e (searched_right (graph_of nodes edges) (good_sound nodes edges size g)))

  -- THEOREM: they are refused with 61 exactly if the edges hold a cycle
  pub cycle_exactly : Good nodes edges size → HasCycle (graph_of nodes edges) ↔ (word ≡ refusal_word 61 0 0)
  cycle_exactly g = (there, back)
    where
      sound : Sound (graph_of nodes edges)
      sound = good_sound nodes edges size g

      there : HasCycle (graph_of nodes edges) → word ≡ refusal_word 61 0 0
      there h =
          let c = (cycle_iff (graph_of nodes edges) sound).0 h in
          w.said ∙ ap word_of (searched_is nodes edges size g ∙ ap accepted c.1)

      back : word ≡ refusal_word 61 0 0 → HasCycle (graph_of nodes edges)
      back e = has_cycle _ _ (shown_cycle e).1
