-- A step from a good state of the search leads to a good state with less left to do, or to a right answer (`fine_step`). The theorems and
-- the proof of the code both rest on it.
use Prim.Native.Nat.{ℕ, zero, suc, ◌≤◌, ◌<◌}
use mathlib.Core.Path.{◌≡◌, refl, sym, ap, ◌∙◌, subst}
use mathlib.Core.List.{List, [], ◌∷◌}
use mathlib.Core.Logic.{◌⊎◌, inl, inr, ◌≢◌}
use native.Mathlib.Omega.{arith}
use native.Mathlib.Decide.{ℕ_discrete}
use lib.ListN.{length, set, take, replicate, length-take}
use lib.Seq.{get_or-take}
use Rattle.toposort.specs.declared.State.{State}
use Rattle.toposort.specs.declared.State.TheVariants.{Unseen, Open, Closed}
use Rattle.toposort.specs.declared.Node.{Node}
use Rattle.toposort.specs.declared.Move.{Move}
use Rattle.toposort.specs.declared.Move.TheVariants.{Finish, Close, Take}
use Rattle.toposort.specs.Search.{Graph, Search, End, Next, going, ended, node, state_at, start, hops, climb, next_edge, move_of, on_seen, on_move, on_state, step, run}
use Rattle.toposort.specs.Sorting.{Sound, After}
use Rattle.toposort.specs.Answers.{Edge, IsCycle, IsOrder, Right}
use Rattle.lists.specs.Members.{In}
use Rattle.toposort.proofs.Moves.{Taken, MoveIs, move_is}
use Rattle.toposort.proofs.Edges.{next_le, after_le}
use Rattle.toposort.proofs.Nodes.{at_same, at_other, at_case, total, total_set, total_zero, total_le, is_open, is_open_le, pot, unclosed, Linked, blank}
use Rattle.toposort.proofs.Safe.{Safe, Here, linked_here, linked_is, unseen_open, closed_open, safe_start, safe_advance, safe_push, safe_close, same_next}
use Rattle.toposort.proofs.Seen.{Taking, taking, Seen, seen_close, seen-take, closed_unseen}
use Rattle.toposort.proofs.Rights.{Trace, Ordered, Passed, passed_edge, trace_advance, ordered-set, ordered_close, trace_close, trace_set, cycle_closes, cycle_once}

-- a good state: what Safe.antt, Seen.antt and Rights.antt say of it
pub record Fine (g : Graph) (s : Search) (path : List ℕ) : Type 0 where
  pub safe : Safe g s.nodes s.cur s.order path
  pub seen : Seen s.nodes
  pub ordered : Ordered g s.nodes s.order
  pub trace : Trace g s.nodes s.cur path 1024

-- where a step may lead from there
abbrev pub Goes : Graph → Search → Next → Type 0
Goes g s (going t) = (path : List ℕ) × Fine g t path × (total pot t.nodes < total pot s.nodes)
Goes g s (ended e) = Right g e

open_closed : (k p : ℕ) → Open k p ≡ Closed → ⊥
open_closed k p e = closed_open (Open k p) k p e refl

module _ (g : Graph) (o : Sound g) (ns : List Node) (cur : ℕ) (order : List ℕ) where
  abbrev S : Search
  S = record { nodes = ns; cur = cur; order = order }

  module _ (path : List ℕ) (w : Fine g (record { nodes = ns; cur = cur; order = order }) path) (k p : ℕ) (e : state_at ns cur ≡ Open k p)
      (root : cur ≡ 1024 → k ≤ g.count) (inner : cur ≢ 1024 → After g.from cur k × (cur < g.count)) where
    small : cur ≢ 1024 → k ≤ length g.from
    small n = after_le g.from cur k (inner n).0

    here : cur < 1025
    here = linked_here g o ns cur path w.safe.linked

    inns : cur < length ns
    inns = omega (arith, here, w.safe.long)

    low : k ≤ 2048
    low = go (ℕ_discrete cur 1024)
      where
        go : Dec (cur ≡ 1024) → k ≤ 2048
        go (yes c) = omega (arith, root c, o.nodes)
        go (no n) = omega (arith, small n, o.edges)

    live : state_at ns cur ≡ Closed → ⊥
    live x = closed_open _ k p x e

    -- the root has passed every node
    finish : (cur ≡ 1024) × (k ≡ g.count) → IsOrder g order
    finish m =
        record {
          forward = w.ordered.forward;
          whole = λ v lt. w.ordered.closed v (closed v lt);
          only = λ v i. (w.ordered.only v i).1;
          long =
              omega (
                arith,
                total_zero unclosed (take g.count ns)
                    (λ u lt.
                    let b : u < g.count = omega (arith, length-take g.count ns) in
                    ap (λ (x : Node). unclosed x.state) (get_or-take g.count ns u (node Unseen) b) ∙ ap unclosed (closed u b)),
                w.safe.shut,
              );
        }
      where
        alone : (path : List ℕ) → Linked g ns cur path → (u : ℕ) → In u (cur ∷ path) → u ≡ 1024
        alone [] l u (inl x) = x ∙ l.0
        alone [] l u (inr x) = absurd x
        alone (y ∷ path) l u i = absurd (omega (arith, l.0.within, m.0, o.nodes))

        closed : (u : ℕ) → u < g.count → state_at ns u ≡ Closed
        closed u lt = go (state_at ns u) refl
          where
            go : (s : State) → state_at ns u ≡ s → s ≡ Closed
            go Unseen x = absurd (w.seen k p u (ap (state_at ns) (sym m.0) ∙ e) (omega (arith, m.1)) x)
            go (Open i r) x = absurd (omega (arith, alone path w.safe.linked u (w.safe.held u i r x), o.nodes))
            go Closed x = refl

    -- the node is closed
    shuts : (cur ≢ 1024) × (next_edge g.from cur k ≡ length g.from)
        → Goes g S (going (record { nodes = set ns cur (node Closed); cur = p; order = cur ∷ order }))
    unfolding safe_close
    shuts m = go path w
      where
        less : total pot (set ns cur (node Closed)) < total pot ns
        less = omega (arith, total_set pot ns cur Closed inns, ap pot e, low)

        go : (path : List ℕ) → Fine g (record { nodes = ns; cur = cur; order = order }) path
            → Goes g S (going (record { nodes = set ns cur (node Closed); cur = p; order = cur ∷ order }))
        go [] f = absurd (m.0 f.safe.linked.0)
        go (q ∷ rest) f =
            let s = safe_close g o ns cur order (q ∷ rest) f.safe k p e m.0 in
            let same : q ≡ p = same_parent' _ _ _ _ _ f.safe.linked.0.is e in (
              rest,
              record {
                safe = s.1;
                seen = seen_close g o ns cur f.safe.long here f.seen m.0;
                ordered =
                    ordered_close g o ns cur f.safe.long k p e order rest m.0 (small m.0) (inner m.0).1 m.1 (f.trace.0 k p e)
                    f.ordered;
                trace =
                    subst (λ (x : ℕ). Trace g (set ns cur (node Closed)) x rest 1024) same
                    (trace_close g o ns cur f.safe.long k p e q rest inns f.safe.linked.1 f.trace.2);
              },
              less,
            )
          where
            same_parent' : (s : State) (k p j q : ℕ) → s ≡ Open k p → s ≡ Open j q → p ≡ q
            same_parent' s k p j q a b = cc

    -- an edge is taken
    module _ (a v : ℕ) (t : Taken g cur k a v) where
      tk : Taking g cur k a v
      tk = taking g o cur k a v root small t

      past : Safe g (set ns cur (node (Open a p))) cur order path
      past = safe_advance g o ns cur order path w.safe k p a e tk.root tk.inner

      ps : cur ≢ 1024 → Passed g cur k a v
      ps n =
          record {
            low = small n;
            lt = let ne : next_edge g.from cur k ≢ length g.from = t.edge n in omega (arith, next_le g.from cur k (small n));
            step = t.step n;
            goal = t.goal n;
          }

      less : total pot (set ns cur (node (Open a p))) < total pot ns
      less = omega (arith, total_set pot ns cur (Open a p) inns, ap pot e, tk.rises, tk.low)

      ord : Ordered g (set ns cur (node (Open a p))) order
      ord = ordered-set g ns cur (Open a p) inns live order (open_closed a p) w.ordered

      v_in : v < length (set ns cur (node (Open a p)))
      v_in = omega (arith, tk.within, o.nodes, past.long)

      passes : state_at (set ns cur (node (Open a p))) v ≡ Closed → Goes g S (going (record { nodes = set ns cur (node (Open a p)); cur = cur; order = order }))
      passes z = (
        path,
        record {
          safe = past;
          seen = λ j r u y lt x. sees j r u y lt x (ℕ_discrete u v);
          ordered = ord;
          trace = trace_advance g o ns cur w.safe.long k p e path a v 1024 w.safe.linked ps (inl z) w.trace;
        },
        less,
      )
        where
          sees : (j r u : ℕ) → state_at (set ns cur (node (Open a p))) 1024 ≡ Open j r → u < j
              → state_at (set ns cur (node (Open a p))) u ≡ Unseen → Dec (u ≡ v) → ⊥
          sees j r u y lt x (yes d) = closed_unseen _ (ap (state_at (set ns cur (node (Open a p)))) d ∙ z) x
          sees j r u y lt x (no n) = seen-take g o ns cur w.safe.long here w.seen k p a v e t root j r u y lt n x

      opens : state_at (set ns cur (node (Open a p))) v ≡ Unseen
          → Goes g S (going (record { nodes = set (set ns cur (node (Open a p))) v (node (Open 0 cur)); cur = v; order = order }))
      opens z = (
        cur ∷ path,
        record {
          safe = pushed;
          seen = sees;
          ordered = ordered-set g (set ns cur (node (Open a p))) v (Open 0 cur) v_in fresh order (open_closed 0 cur) ord;
          trace = (
            (λ j r x i lt h. absurd (omega (arith, same_next _ _ _ _ _ (at_same (set ns cur (node (Open a p))) v (Open 0 cur) v_in) x))),
            up (ℕ_discrete cur 1024),
            trace_set g (set ns cur (node (Open a p))) v (Open 0 cur) v_in fresh cur path v pushed.linked.1
                (trace_advance g o ns cur w.safe.long k p e path a v v w.safe.linked ps (inr refl) w.trace),
          );
        },
        omega (arith, total_set pot (set ns cur (node (Open a p))) v (Open 0 cur) v_in, ap pot z, less),
      )
        where
          pushed : Safe g (set (set ns cur (node (Open a p))) v (node (Open 0 cur))) v order (cur ∷ path)
          pushed = safe_push g o (set ns cur (node (Open a p))) cur order path past v tk.within z

          fresh : state_at (set ns cur (node (Open a p))) v ≡ Closed → ⊥
          fresh x = closed_unseen _ x z

          up : Dec (cur ≡ 1024) → (cur ≡ 1024) ⊎ Edge g cur v
          up (yes c) = inl c
          up (no n) = inr (passed_edge g cur k a v (ps n))

          sees : Seen (set (set ns cur (node (Open a p))) v (node (Open 0 cur)))
          sees j r u y lt =
              at_case (λ u s. u < j → s ≡ Unseen → ⊥) (set ns cur (node (Open a p))) v (Open 0 cur) v_in (λ _ x. unseen_open _ 0 cur x refl)
              (λ u n lt. seen-take g o ns cur w.safe.long here w.seen k p a v e t root j r u
              (sym (at_other (set ns cur (node (Open a p))) v 1024 (Open 0 cur) (λ x. omega (arith, tk.within, o.nodes))) ∙ y) lt n)
              u lt

      meets : (j q : ℕ) → state_at (set ns cur (node (Open a p))) v ≡ Open j q
          → IsCycle g (climb (suc (hops 1025 (set ns cur (node (Open a p))) v cur)) (set ns cur (node (Open a p))) cur [])
      meets j q z =
          record {
            closes =
                cycle_closes g (set ns cur (node (Open a p))) v apart o.nodes path cur v 1025 [] short past.linked
                (trace_advance g o ns cur w.safe.long k p e path a v v w.safe.linked ps (inr refl) w.trace) on
                (passed_edge g cur k a v (ps (λ c. inner_root c path past.linked on)));
            once = cycle_once g (set ns cur (node (Open a p))) v apart path cur 1025 [] short past.linked on tt (λ u i. tt);
          }
        where
          on : In v (cur ∷ path)
          on = past.held v j q z

          apart : v ≢ 1024
          apart x = omega (arith, tk.within, o.nodes)

          short : length path ≤ 1025
          short =
              omega (
                arith,
                total_le is_open is_open_le (take g.count (set ns cur (node (Open a p)))),
                past.opens,
                length-take g.count (set ns cur (node (Open a p))),
                o.nodes,
              )

          inner_root : cur ≡ 1024 → (path : List ℕ) → Linked g (set ns cur (node (Open a p))) cur path → In v (cur ∷ path) → ⊥
          inner_root c [] l (inl x) = apart (x ∙ c)
          inner_root c [] l (inr x) = x
          inner_root c (y ∷ path) l i = omega (arith, l.0.within, o.nodes)

-- a step from a fine state leads to a fine state, with less to do, or to a right answer
pub fine_step : (g : Graph) → Sound g → (s : Search) (path : List ℕ) → Fine g s path → Goes g s (step g s)
unfolding on_state on_move on_seen
fine_step g o s path w = rw h.is (move (move_of g s.cur h.next) (move_is g s.cur h.next))
  where
    h : Here g s.nodes s.cur
    h = linked_is g o s.nodes s.cur path w.safe.linked

    seen_as : (a v : ℕ) → Taken g s.cur h.next a v → (x : State)
        → state_at (set s.nodes s.cur (node (Open a h.parent))) v ≡ x
        → Goes g s (on_seen (set s.nodes s.cur (node (Open a h.parent))) s.cur s.order v x)
    seen_as a v t Unseen z = opens g o s.nodes s.cur s.order path w h.next h.parent h.is h.root h.node a v t z
    seen_as a v t (Open j q) z = meets g o s.nodes s.cur s.order path w h.next h.parent h.is h.root h.node a v t j q z
    seen_as a v t Closed z = passes g o s.nodes s.cur s.order path w h.next h.parent h.is h.root h.node a v t z

    move : (m : Move) → MoveIs g s.cur h.next m → Goes g s (on_move s h.parent m)
    move Finish m = finish g o s.nodes s.cur s.order path w h.next h.parent h.is h.root h.node m
    move Close m = shuts g o s.nodes s.cur s.order path w h.next h.parent h.is h.root h.node m
    move (Take a v) t = seen_as a v t (state_at (set s.nodes s.cur (node (Open a h.parent))) v) refl

-- an ended search stays ended
pub run_ended : (f : ℕ) (g : Graph) (e : End) → run f g (ended e) ≡ e
unfolding run
run_ended zero g e = refl
run_ended (suc f) g e = refl

-- the search starts in a good state
pub start_fine : (g : Graph) → Sound g → Fine g start []
start_fine g o =
    record {
      safe = safe_start g o;
      seen = λ k p u e lt. absurd (let z = same_next _ 0 1024 k p refl e in omega arith);
      ordered =
          record {
            forward = tt;
            closed = λ v e. absurd (none v e);
            only = λ v i. absurd i;
          };
      trace = tt;
    }
  where
    none : (v : ℕ) → state_at start.nodes v ≡ Closed → ⊥
    none =
        at_case (λ v s. s ≡ Closed → ⊥) (replicate 1025 (node Unseen)) 1024 (Open 0 1024) (omega arith) (open_closed 0 1024)
        (λ u _ x. closed_unseen _ x (blank 1025 u))
