-- `toposort::search`: each goal cites one law of Walk.antt, about the turn (`Turn`) that the loop stands in.
use Prim.Native.Nat.{ℕ, suc, ◌≤◌, ◌<◌}
use mathlib.Core.Path.{◌≡◌, sym, ap, ◌∙◌, subst}
use mathlib.Core.List.{List, []}
use native.Mathlib.Omega.{arith}
use lib.ListN.{set}
use Rattle.toposort.specs.declared.State.{State}
use Rattle.toposort.specs.declared.State.TheVariants.{Unseen, Open, Closed}
use Rattle.toposort.specs.declared.Node.{Node}
use Rattle.toposort.specs.Search.{Graph, node, state_at, cyclic, hops, climb, Reaches, searched}
use Rattle.toposort.specs.Lent.{graph_in}
use Rattle.toposort.proofs.Seen.{Taking}
use Rattle.toposort.proofs.Walk.{Turn, walk_start, walk_here, walk_in, walk_after, walk_low, walk_parent, walk_room, close_less, walk_close, walk_taking, pass_less, walk_pass, open_less, walk_open, walk_reaches, walk_short, walk_cycle, walk_finish, cycle_sorts}
use Rattle.toposort.proofs.search.Goals as goal
use Rattle.toposort.proofs.search.Goals.{In-Open, In-Close, In-Take, After-open-in-Take, In-Open-state, After-cycle_length-k}

-- ---- The open node.
abbrev graph : In-Open → Graph
graph c = graph_in c.args.graph.now

turn : (c : In-Open) → Turn (graph c) c.args.table.now c.loop-nodes.table c.loop-nodes.nodes c.loop-nodes.left c.loop-nodes.cur c.in-Open.next c.in-Open.parent
turn c = record { sound = c.requires.sound; inv = c.loop-nodes.invariant; is = c.in-Open.is }

here : (c : In-Open) → c.loop-nodes.cur < 1025
here c = walk_in c.requires.sound c.loop-nodes.invariant

-- ---- The node that an edge leads to, `adj`, in the records with the edge passed.
abbrev taker : In-Take → In-Open
taker c = (goal.at.In-Take c).In-Open

taking : (c : In-Take) → Taking (graph (taker c)) c.loop-nodes.cur c.in-Open.next c.in-Take.after c.in-Take.adj
taking c = walk_taking (turn (taker c)) (sym c.in-Take.ensures)

adj-in : (c : In-Take) → c.in-Take.adj < 1025
adj-in c = omega (arith, (taking c).within, c.requires.sound.nodes)

abbrev past : In-Take → List Node
past c = set c.loop-nodes.nodes c.loop-nodes.cur (node (Open c.in-Take.after c.in-Open.parent))

met : (c : After-open-in-Take) (s : State) → state_at (set c.loop-nodes.nodes c.loop-nodes.cur c.open-in-Take.result) c.in-Take.adj ≡ s
    → state_at (past (goal.at.After-open-in-Take c).In-Take) c.in-Take.adj ≡ s
met c s z = subst (λ (x : Node). state_at (set c.loop-nodes.nodes c.loop-nodes.cur x) c.in-Take.adj ≡ s) c.open-in-Take.ensures z

-- ---- The cycle that it closes.
abbrev take_of : In-Open-state → In-Take
take_of c = (goal.at.In-Open-state c).In-Take

meeting : (c : In-Open-state) → state_at (past (take_of c)) c.in-Take.adj ≡ Open c.in-Open-state.next c.in-Open-state.parent
meeting c = met (goal.at.In-Open-state c).After-open-in-Take (Open c.in-Open-state.next c.in-Open-state.parent) c.in-Open-state.is

reaches : (c : In-Open-state) → Reaches (past (take_of c)) c.in-Take.adj c.loop-nodes.cur
reaches c = walk_reaches (turn (taker (take_of c))) (sym c.in-Take.ensures) (meeting c)

abbrev meet_of : After-cycle_length-k → In-Open-state
meet_of c = (goal.at.After-cycle_length-k c).In-Open-state

counted : (c : After-cycle_length-k) → c.cycle_length-k.result ≡ suc (hops 1025 (past (take_of (meet_of c))) c.in-Take.adj c.loop-nodes.cur)
counted c = c.cycle_length-k.ensures ∙ ap (λ (x : Node). suc (hops 1025 (set c.loop-nodes.nodes c.loop-nodes.cur x) c.in-Take.adj c.loop-nodes.cur)) c.open-in-Take.ensures

fits : (c : After-cycle_length-k) → c.cycle_length-k.result ≤ c.args.graph.now.count
fits c = omega (arith, counted c, walk_short (turn (taker (take_of (meet_of c)))) (sym c.in-Take.ensures) (meeting (meet_of c)))

cycle : (c : After-cycle_length-k)
    → searched (graph (taker (take_of (meet_of c)))) ≡ cyclic (climb c.cycle_length-k.result (past (take_of (meet_of c))) c.loop-nodes.cur [])
cycle c =
    walk_cycle (turn (taker (take_of (meet_of c)))) (sym c.in-Take.ensures) (meeting (meet_of c))
    ∙ ap (λ (k : ℕ). cyclic (climb k (past (take_of (meet_of c))) c.loop-nodes.cur [])) (sym (counted c))

-- ---- The goals, in the order of the code.
pub loop-nodes-init : goal.loop-nodes-init
loop-nodes-init c = rw c.open.ensures (walk_start _ c.requires.sound _)

pub offset_bounds-nodes-cur : goal.offset_bounds-nodes-cur
offset_bounds-nodes-cur c = omega (arith, walk_in c.requires.sound c.loop-nodes.invariant)

pub bounds : goal.bounds
bounds c = walk_in c.requires.sound c.loop-nodes.invariant

pub returns-in_default : goal.returns-in_default
returns-in_default c = absurd (c.in_default.not-Open _ _ (walk_here c.requires.sound c.loop-nodes.invariant).is)

pub overflow_cast-next : goal.overflow_cast-next
overflow_cast-next c = omega (arith, walk_low (turn (goal.at.overflow_cast-next c).In-Open))

pub next_move-requires : goal.next_move-requires
next_move-requires c =
    let t = turn (goal.at.next_move-requires c).In-Open in
    let r = c.requires in
    record {
      chained = r.chained;
      few = r.sound.edges;
      paired = r.sound.paired;
      low = walk_low t;
      inner = walk_after t;
    }

pub returns-in-Finish : goal.returns-in-Finish
returns-in-Finish c = walk_finish (turn (goal.at.returns-in-Finish c).In-Open) (sym c.in-Finish.ensures) c.requires.room

pub overflow_sub-left : goal.overflow_sub-left
overflow_sub-left c = walk_room (turn (goal.at.overflow_sub-left c).In-Open) (sym c.in-Close.ensures)

pub bounds-table-left : goal.bounds-table-left
bounds-table-left c =
    let t = turn (goal.at.bounds-table-left c).In-Open in
    omega (arith, walk_room t (sym c.in-Close.ensures), t.inv.count, t.inv.long, c.requires.room)

pub overflow_cast-cur : goal.overflow_cast-cur
overflow_cast-cur c = omega (arith, walk_parent (turn (goal.at.overflow_cast-cur c).In-Open))

pub loop-nodes-smaller-in-Close : goal.loop-nodes-smaller-in-Close
loop-nodes-smaller-in-Close c = rw c.closed.ensures (close_less (turn (goal.at.loop-nodes-smaller-in-Close c).In-Open) (sym c.in-Close.ensures))

pub loop-nodes-preserved-in-Close : goal.loop-nodes-preserved-in-Close
loop-nodes-preserved-in-Close c =
    rw c.closed.ensures (walk_close (turn (goal.at.loop-nodes-preserved-in-Close c).In-Open) (sym c.in-Close.ensures) c.requires.room)

pub open-requires-in-Take : goal.open-requires-in-Take
open-requires-in-Take c =
    let k = (goal.at.open-requires-in-Take c).In-Take in
    (omega (arith, (taking k).low), omega (arith, walk_parent (turn (taker k))))

pub offset_bounds-nodes-adj : goal.offset_bounds-nodes-adj
offset_bounds-nodes-adj c = omega (arith, adj-in (goal.at.offset_bounds-nodes-adj c).In-Take)

pub bounds-in-Take : goal.bounds-in-Take
bounds-in-Take c = adj-in (goal.at.bounds-in-Take c).In-Take

pub offset_bounds-nodes-adj-in-Unseen : goal.offset_bounds-nodes-adj-in-Unseen
offset_bounds-nodes-adj-in-Unseen c = omega (arith, adj-in (goal.at.offset_bounds-nodes-adj-in-Unseen c).In-Take)

pub bounds-nodes-adj : goal.bounds-nodes-adj
bounds-nodes-adj c = adj-in (goal.at.bounds-nodes-adj c).In-Take

pub loop-nodes-smaller-in-Unseen : goal.loop-nodes-smaller-in-Unseen
loop-nodes-smaller-in-Unseen c =
    let o = (goal.at.loop-nodes-smaller-in-Unseen c).After-open-in-Take in
    rw (c.open-in-Take.ensures, c.open-in-Unseen.ensures)
    (open_less (turn (taker (goal.at.After-open-in-Take o).In-Take)) (sym c.in-Take.ensures) (met o Unseen c.in-Unseen.is))

pub loop-nodes-preserved-in-Unseen : goal.loop-nodes-preserved-in-Unseen
loop-nodes-preserved-in-Unseen c =
    let o = (goal.at.loop-nodes-preserved-in-Unseen c).After-open-in-Take in
    rw (c.open-in-Take.ensures, c.open-in-Unseen.ensures)
    (walk_open (turn (taker (goal.at.After-open-in-Take o).In-Take)) (sym c.in-Take.ensures) (met o Unseen c.in-Unseen.is))

pub cycle_length-k-requires : goal.cycle_length-k-requires
cycle_length-k-requires c = rw c.open-in-Take.ensures (reaches (goal.at.cycle_length-k-requires c).In-Open-state)

pub write_cycle-requires : goal.write_cycle-requires
write_cycle-requires c =
    let k = (goal.at.write_cycle-requires c).After-cycle_length-k in (
      omega (arith, fits k, c.loop-nodes.invariant.long, c.requires.room),
      rw c.open-in-Take.ensures (reaches (meet_of k)).inside,
      here (taker (take_of (meet_of k))),
    )

pub returns-in-Open-state : goal.returns-in-Open-state
returns-in-Open-state c =
    let k = (goal.at.returns-in-Open-state c).After-cycle_length-k in
    cycle_sorts _ _ _ _ _ _ _ (cycle k) (rw c.open-in-Take.ensures at c.write_cycle.ensures)
    (c.write_cycle.auto.table ∙ c.loop-nodes.invariant.long)
    (omega (arith, fits k, c.requires.room))
    (omega (arith, fits k, c.requires.sound.nodes))

pub loop-nodes-smaller : goal.loop-nodes-smaller
loop-nodes-smaller c =
    let o = (goal.at.loop-nodes-smaller c).After-open-in-Take in
    rw c.open-in-Take.ensures
    (pass_less (turn (taker (goal.at.After-open-in-Take o).In-Take)) (sym c.in-Take.ensures) (met o Closed c.in-Closed.is))

pub loop-nodes-preserved : goal.loop-nodes-preserved
loop-nodes-preserved c =
    let o = (goal.at.loop-nodes-preserved c).After-open-in-Take in
    rw c.open-in-Take.ensures
    (walk_pass (turn (taker (goal.at.After-open-in-Take o).In-Take)) (sym c.in-Take.ensures) (met o Closed c.in-Closed.is))
