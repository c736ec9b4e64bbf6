-- What a turn of the code's search keeps (`Searching`): the state is good, the table holds the nodes closed so far from the place `left` up
-- to the count, and what is left to run gives what the whole search gives. One lemma for each way that a turn goes.
use Prim.Native.Nat.{ℕ, zero, suc, ◌+◌, ◌-◌, ◌≤◌, ◌<◌}
use mathlib.Core.Path.{◌≡◌, refl, sym, ap, ◌∙◌, subst}
use mathlib.Core.List.{List, [], ◌∷◌, ◌++◌}
use mathlib.Core.Logic.{◌≢◌}
use native.Mathlib.Omega.{arith}
use native.Mathlib.Decide.{ℕ_discrete}
use native.Mathlib.Numerals.{sub-one}
use lib.ListN.{length, set, take, drop, length-set, take-append-drop}
use lib.Seq.{take_at}
use Rattle.lists.specs.Outcome.{accepted}
use Rattle.lists.proofs.Fill.{set_below}
use Rattle.toposort.specs.declared.State.{State}
use Rattle.toposort.specs.declared.State.TheVariants.{Unseen, Open, Closed}
use Rattle.toposort.specs.declared.Node.{Node}
use Rattle.toposort.specs.declared.Move.TheVariants.{Finish, Close, Take}
use Rattle.toposort.specs.declared.Unsorted.TheVariants.{Cycle}
use Rattle.std.specs.Prelude.{Ok, Err}
use Rattle.toposort.specs.Search.{Graph, Search, End, all, cyclic, Next, going, ended, node, state_at, parent_of, start, up, hops, climb, move_of, on_seen, on_move, on_state, step, run, enough, searched, Reaches}
use Rattle.toposort.specs.Sorting.{Sound, Sorts, After}
use Rattle.toposort.proofs.Edges.{after_le}
use Rattle.toposort.proofs.Climb.{hops_le, climb-length}
use Rattle.toposort.proofs.Moves.{MoveIs, move_is}
use Rattle.toposort.proofs.Seen.{Taking, taking}
use Rattle.toposort.proofs.Steps.{Fine, Goes, fine_step, start_fine, run_ended}
use Rattle.toposort.proofs.Nodes.{total, pot}
use Rattle.toposort.proofs.Safe.{Safe, Here, linked_here, linked_is, same_next, safe_advance, safe_room, safe_up}

-- the steps, by their kinds
module _ (g : Graph) (ns : List Node) (cur : ℕ) (order : List ℕ) (k p : ℕ) (e : state_at ns cur ≡ Open k p) where
  abbrev S : Search
  S = record { nodes = ns; cur = cur; order = order }

  step_finish : move_of g cur k ≡ Finish → step g S ≡ ended (all order)
  unfolding on_state on_move
  step_finish m = rw (e, m)

  step_close : move_of g cur k ≡ Close → step g S ≡ going (record { nodes = set ns cur (node Closed); cur = p; order = cur ∷ order })
  unfolding on_state on_move
  step_close m = rw (e, m)

  module _ (a v : ℕ) (m : move_of g cur k ≡ Take a v) where
    step_open : state_at (set ns cur (node (Open a p))) v ≡ Unseen
        → step g S ≡ going (record { nodes = set (set ns cur (node (Open a p))) v (node (Open 0 cur)); cur = v; order = order })
    unfolding on_state on_move on_seen
    step_open z = rw (e, m, z)

    step_pass : state_at (set ns cur (node (Open a p))) v ≡ Closed
        → step g S ≡ going (record { nodes = set ns cur (node (Open a p)); cur = cur; order = order })
    unfolding on_state on_move on_seen
    step_pass z = rw (e, m, z)

    step_cycle : (j q : ℕ) → state_at (set ns cur (node (Open a p))) v ≡ Open j q
        → step g S ≡ ended (cyclic (climb (suc (hops 1025 (set ns cur (node (Open a p))) v cur)) (set ns cur (node (Open a p))) cur []))
    unfolding on_state on_move on_seen
    step_cycle j q z = rw (e, m, z)

-- the loop's invariant
pub record Searching (g : Graph) (table₀ table : List ℕ) (ns : List Node) (left cur : ℕ) : Type 0 where
  pub order : List ℕ
  pub path : List ℕ
  -- the state is good
  pub fine : Fine g (record { nodes = ns; cur = cur; order = order }) path
  -- the table holds the closed nodes from `left` on
  pub count : left + length order ≡ g.count
  pub long : length table ≡ length table₀
  pub holds : table ≡ take left table₀ ++ (order ++ drop g.count table₀)
  -- and what is left to run gives what the whole search gives
  pub fuel : ℕ
  pub more : total pot ns < fuel
  pub same : searched g ≡ run fuel g (going (record { nodes = ns; cur = cur; order = order }))

-- before the first turn
pub walk_start : (g : Graph) → Sound g → (table₀ : List ℕ) → Searching g table₀ table₀ start.nodes g.count 1024
unfolding total
walk_start g o table₀ =
    record {
      order = [];
      path = [];
      fine = start_fine g o;
      count = omega arith;
      long = refl;
      holds = sym (take-append-drop g.count table₀);
      fuel = enough;
      more = omega arith;
      same = refl;
    }

module _ {g : Graph} {table₀ table : List ℕ} {ns : List Node} {left cur : ℕ} (o : Sound g) (w : Searching g table₀ table ns left cur) where
  abbrev now : Search
  now = record { nodes = ns; cur = cur; order = w.order }

  -- where a step leads, a step that goes on, and one that ends
  went : (n : Next) → step g now ≡ n → Goes g now n
  went n q = subst (Goes g now) q (fine_step g o now w.path w.fine)

  walk_step : (t : Search) (table' : List ℕ) (left' : ℕ) → step g now ≡ going t → left' + length t.order ≡ g.count
      → length table' ≡ length table₀ → table' ≡ take left' table₀ ++ (t.order ++ drop g.count table₀)
      → Searching g table₀ table' t.nodes left' t.cur
  unfolding run
  walk_step t table' left' q c l h = go w.fuel w.more w.same
    where
      go : (f : ℕ) → total pot ns < f → searched g ≡ run f g (going now) → Searching g table₀ table' t.nodes left' t.cur
      go zero lt x = absurd (omega arith)
      go (suc f) lt x =
          let r = went (going t) q in
          record {
            order = t.order;
            path = r.0;
            fine = r.1;
            count = c;
            long = l;
            holds = h;
            fuel = f;
            more = omega (arith, r.2);
            same = x ∙ ap (run f g) q;
          }

  walk_end : (x : End) → step g now ≡ ended x → searched g ≡ x
  unfolding run
  walk_end x q = go w.fuel w.more w.same
    where
      go : (f : ℕ) → total pot ns < f → searched g ≡ run f g (going now) → searched g ≡ x
      go zero lt y = absurd (omega arith)
      go (suc f) lt y = y ∙ ap (run f g) q ∙ run_ended f g x

  -- the node that the search stands at is open, and has a record
  pub walk_here : Here g ns cur
  walk_here = linked_is g o ns cur w.path w.fine.safe.linked

  pub walk_in : cur < 1025
  walk_in = linked_here g o ns cur w.path w.fine.safe.linked

-- a turn: the graph is sound, the invariant holds, and the node is open with its next edge and parent
pub record Turn (g : Graph) (table₀ table : List ℕ) (ns : List Node) (left cur k p : ℕ) : Type 0 where
  pub sound : Sound g
  pub inv : Searching g table₀ table ns left cur
  pub is : state_at ns cur ≡ Open k p

module _ {g : Graph} {table₀ table : List ℕ} {ns : List Node} {left cur k p : ℕ} (t : Turn g table₀ table ns left cur k p) where
  here_next : (walk_here t.sound t.inv).next ≡ k
  here_next = same_next _ _ _ _ _ (walk_here t.sound t.inv).is t.is

  walk_root : cur ≡ 1024 → k ≤ g.count
  walk_root c = subst (λ (i : ℕ). i ≤ g.count) here_next ((walk_here t.sound t.inv).root c)

  -- a node's index comes right after an edge of its own, or is 0
  pub walk_after : cur ≢ 1024 → (cur < 1024) × After g.from cur k
  walk_after n = (
    omega (arith, ((walk_here t.sound t.inv).node n).1, t.sound.nodes),
    subst (After g.from cur) here_next ((walk_here t.sound t.inv).node n).0,
  )

  walk_inner : cur ≢ 1024 → k ≤ length g.from
  walk_inner n = after_le g.from cur k (walk_after n).1

  pub walk_low : k ≤ 2048
  walk_low = go (ℕ_discrete cur 1024)
    where
      go : Dec (cur ≡ 1024) → k ≤ 2048
      go (yes c) = omega (arith, walk_root c, t.sound.nodes)
      go (no n) = omega (arith, walk_inner n, t.sound.edges)

  pub walk_parent : p < 1025
  walk_parent = subst (λ (s : State). parent_of s < 1025) t.is (t.inv.fine.safe.inside cur)

  -- the node is closed: it is written just below the nodes closed before it
  module _ (m : move_of g cur k ≡ Close) where
    closes : step g (now t.sound t.inv) ≡ going (record { nodes = set ns cur (node Closed); cur = p; order = cur ∷ t.inv.order })
    closes = step_close g ns cur t.inv.order k p t.is m

    pub walk_room : 0 < left
    walk_room =
        omega (
          arith,
          safe_room g t.sound ns cur t.inv.order t.inv.path t.inv.fine.safe (subst (MoveIs g cur k) m (move_is g cur k)).0,
          t.inv.count,
        )

    pub close_less : total pot (set ns cur (node Closed)) < total pot ns
    close_less = (went t.sound t.inv _ closes).2

    pub walk_close : g.count ≤ length table₀ → Searching g table₀ (set table (left - 1) cur) (set ns cur (node Closed)) (left - 1) p
    walk_close room =
        walk_step t.sound t.inv _ _ _ closes (omega (arith, walk_room, t.inv.count)) (simp length-set t.inv.long) (below left refl)
      where
        below : (l : ℕ) → left ≡ l → set table (left - 1) cur ≡ take (left - 1) table₀ ++ (cur ∷ t.inv.order ++ drop g.count table₀)
        below zero x = absurd (omega (arith, walk_room))
        below (suc l) x =
            rw (x, sub-one)
            (ap (λ (r : List ℕ). set r l cur) (rw x at t.inv.holds)
            ∙ set_below l table₀ (t.inv.order ++ drop g.count table₀) cur (omega (arith, t.inv.count)))

  -- an edge is taken
  module _ {a v : ℕ} (m : move_of g cur k ≡ Take a v) where
    abbrev past : List Node
    past = set ns cur (node (Open a p))

    pub walk_taking : Taking g cur k a v
    walk_taking = taking g t.sound cur k a v walk_root walk_inner (subst (MoveIs g cur k) m (move_is g cur k))

    -- to a closed node: it is passed
    module _ (z : state_at past v ≡ Closed) where
      passes : step g (now t.sound t.inv) ≡ going (record { nodes = past; cur = cur; order = t.inv.order })
      passes = step_pass g ns cur t.inv.order k p t.is a v m z

      pub pass_less : total pot past < total pot ns
      pass_less = (went t.sound t.inv _ passes).2

      pub walk_pass : Searching g table₀ table past left cur
      walk_pass = walk_step t.sound t.inv _ _ _ passes t.inv.count t.inv.long t.inv.holds

    -- to an unseen node: it is opened
    module _ (z : state_at past v ≡ Unseen) where
      opens : step g (now t.sound t.inv) ≡ going (record { nodes = set past v (node (Open 0 cur)); cur = v; order = t.inv.order })
      opens = step_open g ns cur t.inv.order k p t.is a v m z

      pub open_less : total pot (set past v (node (Open 0 cur))) < total pot ns
      open_less = (went t.sound t.inv _ opens).2

      pub walk_open : Searching g table₀ table (set past v (node (Open 0 cur))) left v
      walk_open = walk_step t.sound t.inv _ _ _ opens t.inv.count t.inv.long t.inv.holds

    -- to an open node: a cycle
    module _ {j q : ℕ} (z : state_at past v ≡ Open j q) where
      safe_past : Safe g past cur t.inv.order t.inv.path
      safe_past =
          safe_advance g t.sound ns cur t.inv.order t.inv.path t.inv.fine.safe k p a t.is walk_taking.root walk_taking.inner

      walk_up : (i : ℕ) × (i < g.count) × (up i past cur ≡ v)
      walk_up =
          safe_up g t.sound past cur t.inv.order t.inv.path safe_past v j q
          (λ x. omega (arith, walk_taking.within, t.sound.nodes)) z

      pub walk_reaches : Reaches past v cur
      walk_reaches =
          record {
            far = walk_up.0;
            short = omega (arith, walk_up.1, t.sound.nodes);
            meets = walk_up.2;
            inside = safe_past.inside;
            here = walk_in t.sound t.inv;
          }

      pub walk_short : suc (hops 1025 past v cur) ≤ g.count
      walk_short = omega (arith, hops_le past v 1025 walk_up.0 cur walk_up.2, walk_up.1)

      pub walk_cycle : searched g ≡ cyclic (climb (suc (hops 1025 past v cur)) past cur [])
      walk_cycle = walk_end t.sound t.inv _ (step_cycle g ns cur t.inv.order k p t.is a v m j q z)

  -- the root has passed every node: the order fills the table's first places
  pub walk_finish : move_of g cur k ≡ Finish → g.count ≤ length table₀
      → Sorts (accepted (searched g)) (length table₀) (Ok g.count) table
  walk_finish m room =
      let q = step_finish g ns cur t.inv.order k p t.is m in
      let full : length t.inv.order ≡ g.count = (went t.sound t.inv _ q).long in
      let none : left ≡ 0 = omega (arith, t.inv.count) in
      record {
        means =
            ap (λ (l : List ℕ). accepted (all (take g.count l))) (rw none at t.inv.holds)
            ∙ ap (λ (l : List ℕ). accepted (all l)) (take_at t.inv.order (drop g.count table₀) g.count full)
            ∙ ap accepted (sym (walk_end t.sound t.inv _ q));
        long = t.inv.long;
        room = room;
        small = omega (arith, t.sound.nodes);
      }

-- the cycle stands at the front of the table
pub cycle_sorts : (x : End) (size k : ℕ) (ns : List Node) (cur : ℕ) (rest table : List ℕ) → x ≡ cyclic (climb k ns cur [])
    → table ≡ climb k ns cur [] ++ rest → length table ≡ size → k ≤ size → k ≤ 2048 → Sorts (accepted x) size (Err (Cycle k)) table
cycle_sorts x size k ns cur rest table e h l r b =
    let long : length (climb k ns cur []) ≡ k = omega (arith, climb-length k ns cur []) in
    record {
      means =
          ap (λ (t : List ℕ). accepted (cyclic (take k t))) h
          ∙ ap (λ (t : List ℕ). accepted (cyclic t)) (take_at (climb k ns cur []) rest k long)
          ∙ ap accepted (sym e);
      long = l;
      room = r;
      small = b;
    }
