-- The answers are right: in every state of the search the passed edges of a node on the way up go to closed nodes, or to the node below it,
-- and the edges of a closed node go to nodes closed before it. So the order is forward, and an edge to an open node closes a cycle.
use Prim.Native.Nat.{ℕ, zero, suc, ◌+◌, ◌≤◌, ◌<◌}
use mathlib.Core.Path.{◌≡◌, refl, sym, ap, ◌∙◌, subst}
use mathlib.Core.List.{List, [], ◌∷◌}
use mathlib.Core.Logic.{◌⊎◌, inl, inr, ◌≢◌, ⊎_elim}
use mathlib.Core.Bool.{Bool, true, false, cond}
use native.Mathlib.Omega.{arith}
use native.Mathlib.Decide.{ℕ_discrete, dec_lt}
use lib.ListN.{length, get_or, set}
use lib.Dec.{eqb}
use borrow.Author.Tests.{eqb-true, eqb-false}
use Rattle.toposort.specs.declared.State.{State}
use Rattle.toposort.specs.declared.State.TheVariants.{Open, Closed}
use Rattle.toposort.specs.declared.Node.{Node}
use Rattle.toposort.specs.Search.{Graph, node, state_at, parent_of, next_edge, hops, climb}
use Rattle.toposort.specs.Sorting.{Sound}
use Rattle.toposort.specs.Answers.{Edge, Path, Closes, Forward}
use Rattle.lists.specs.Members.{Fresh, In, Distinct}
use Rattle.lists.proofs.Members.{fresh_in, fresh_of}
use Rattle.toposort.proofs.Edges.{next_none, next_found}
use Rattle.toposort.proofs.Nodes.{at_same, at_other, at_case, Linked}
use Rattle.toposort.proofs.Safe.{closed_open, same_next}

-- the edges of v that were passed go to closed nodes or to the child
abbrev pub Done : Graph → List Node → ℕ → ℕ → ℕ → Type 0
Done g ns v k child = (e : ℕ) → e < k → get_or g.from e 0 ≡ v → (state_at ns (get_or g.to e 0) ≡ Closed) ⊎ (get_or g.to e 0 ≡ child)

-- the same of each node on the way up, whose child is the one below; 1024 stands for none
abbrev pub Trace : Graph → List Node → ℕ → List ℕ → ℕ → Type 0
Trace g ns v [] child = Unit {0}
Trace g ns v (p ∷ path) child =
    ((k q : ℕ) → state_at ns v ≡ Open k q → Done g ns v k child) × ((p ≡ 1024) ⊎ Edge g p v) × Trace g ns p path v

-- the order holds the closed nodes, each edge of which goes to a node closed before it
pub record Ordered (g : Graph) (ns : List Node) (order : List ℕ) : Type 0 where
  pub forward : Forward g order
  pub closed : (v : ℕ) → state_at ns v ≡ Closed → In v order
  pub only : (v : ℕ) → In v order → (state_at ns v ≡ Closed) × (v < g.count)

-- a store at a node that was not closed, and that is not on the way
module _ (g : Graph) (ns : List Node) (u : ℕ) (s : State) (inns : u < length ns) (live : state_at ns u ≡ Closed → ⊥) where
  pub closed_set : (v : ℕ) → state_at ns v ≡ Closed → state_at (set ns u (node s)) v ≡ Closed
  closed_set v e = at_other ns u v s (λ x. live (ap (state_at ns) (sym x) ∙ e)) ∙ e

  pub done_set : (v k child : ℕ) → Done g ns v k child → Done g (set ns u (node s)) v k child
  done_set v k child d e lt f = ⊎_elim (λ x. inl (closed_set _ x)) inr (d e lt f)

  pub trace_set : (v : ℕ) (path : List ℕ) (child : ℕ) → Fresh u (v ∷ path) → Trace g ns v path child → Trace g (set ns u (node s)) v path child
  trace_set v [] child f t = tt
  trace_set v (p ∷ path) child f t =
      ((λ k q e. done_set v k child (t.0 k q (sym (at_other ns u v s (λ x. f.0 (sym x))) ∙ e))), t.1, trace_set p path v f.1 t.2)

  pub ordered-set : (order : List ℕ) → (s ≡ Closed → ⊥) → Ordered g ns order → Ordered g (set ns u (node s)) order
  ordered-set order not o =
      record {
        forward = o.forward;
        closed = at_case (λ v s. s ≡ Closed → In v order) ns u s inns (λ e. absurd (not e)) (λ v _ e. o.closed v e);
        only = λ v i. (closed_set v (o.only v i).0, (o.only v i).1);
      }

-- an edge of cur is passed: it is the next, and goes to w
pub record Passed (g : Graph) (cur k a w : ℕ) : Type 0 where
  pub low : k ≤ length g.from
  pub lt : next_edge g.from cur k < length g.from
  pub step : a ≡ next_edge g.from cur k + 1
  pub goal : w ≡ get_or g.to (next_edge g.from cur k) 0

pub passed_edge : (g : Graph) (cur k a w : ℕ) → Passed g cur k a w → Edge g cur w
passed_edge g cur k a w t =
    record {
      at = next_edge g.from cur k;
      inside = t.lt;
      leaves = next_found g.from cur k t.low t.lt;
      enters = sym t.goal;
    }

module _ (g : Graph) (o : Sound g) (ns : List Node) (cur : ℕ) (long : length ns ≡ 1025) (k p : ℕ) (e : state_at ns cur ≡ Open k p) where
  not_closed : state_at ns cur ≡ Closed → ⊥
  not_closed x = closed_open _ k p x e

  -- every edge of cur before the index goes to a closed node
  done_closed : k ≤ length g.from → Done g ns cur k 1024 → (i : ℕ) → i < k → get_or g.from i 0 ≡ cur → state_at ns (get_or g.to i 0) ≡ Closed
  done_closed low d i lt f =
      ⊎_elim (λ x. x) (λ x. absurd (omega (arith, o.goals i (omega arith), o.nodes))) (d i lt f)

  -- cur passes an edge to w, which is closed or becomes its child
  pub trace_advance : (path : List ℕ) (a w child : ℕ) → Linked g ns cur path → (cur ≢ 1024 → Passed g cur k a w)
      → (state_at (set ns cur (node (Open a p))) w ≡ Closed) ⊎ (w ≡ child)
      → Trace g ns cur path 1024 → Trace g (set ns cur (node (Open a p))) cur path child
  trace_advance [] a w child l ps c t = tt
  trace_advance (q ∷ path) a w child l ps c t = (now_done, t.1, trace_set g ns cur (Open a p) inns not_closed q path cur l.1 t.2)
    where
      inns : cur < length ns
      inns = omega (arith, l.0.within, o.nodes)

      pd : Passed g cur k a w
      pd = ps (λ x. omega (arith, l.0.within, o.nodes))

      now_done : (j r : ℕ) → state_at (set ns cur (node (Open a p))) cur ≡ Open j r → Done g (set ns cur (node (Open a p))) cur j child
      now_done j r f i lt h = go (dec_lt i k) (ℕ_discrete i (next_edge g.from cur k))
        where
          same : a ≡ j
          same = same_next _ _ _ _ _ (at_same ns cur (Open a p) inns) f

          go : Dec (i < k) → Dec (i ≡ next_edge g.from cur k)
              → (state_at (set ns cur (node (Open a p))) (get_or g.to i 0) ≡ Closed) ⊎ (get_or g.to i 0 ≡ child)
          go (yes b) d = inl (closed_set g ns cur (Open a p) inns not_closed _ (done_closed pd.low (t.0 k p e) i b h))
          go (no b) (yes d) =
              let is : get_or g.to i 0 ≡ w = ap (λ (x : ℕ). get_or g.to x 0) d ∙ sym pd.goal in
              ⊎_elim (λ x. inl (ap (state_at (set ns cur (node (Open a p)))) is ∙ x)) (λ x. inr (is ∙ x)) c
          go (no b) (no d) = absurd (next_none g.from cur k i (omega arith) (omega (arith, pd.step, same)) h)

  -- cur is closed: its edges all go to closed nodes
  pub ordered_close : (order path : List ℕ) → cur ≢ 1024 → k ≤ length g.from → cur < g.count → next_edge g.from cur k ≡ length g.from
      → Done g ns cur k 1024 → Ordered g ns order → Ordered g (set ns cur (node Closed)) (cur ∷ order)
  ordered_close order path n low within none d r =
      record {
        forward = (fresh_of cur order (λ v i x. not_closed (ap (state_at ns) x ∙ (r.only v i).0)), goes, r.forward);
        closed = at_case (λ v s. s ≡ Closed → In v (cur ∷ order)) ns cur Closed inns (λ _. inl refl) (λ v _ x. inr (r.closed v x));
        only = only;
      }
    where
      inns : cur < length ns
      inns = omega (arith, o.nodes)

      goes : (w : ℕ) → Edge g cur w → In w order
      goes w x = r.closed w (ap (state_at ns) (sym x.enters) ∙ go (dec_lt x.at k))
        where
          go : Dec (x.at < k) → state_at ns (get_or g.to x.at 0) ≡ Closed
          go (yes b) = done_closed low d x.at b x.leaves
          go (no b) = absurd (next_none g.from cur k x.at (omega arith) (omega (arith, x.inside)) x.leaves)

      only : (v : ℕ) → In v (cur ∷ order) → (state_at (set ns cur (node Closed)) v ≡ Closed) × (v < g.count)
      only v (inl x) = (ap (state_at (set ns cur (node Closed))) x ∙ at_same ns cur Closed inns, omega arith)
      only v (inr i) = (closed_set g ns cur Closed inns not_closed v (r.only v i).0, (r.only v i).1)

  -- and its parent has no child then
  pub trace_close : (q : ℕ) (path : List ℕ) → cur < length ns → Fresh cur (q ∷ path) → Trace g ns q path cur
      → Trace g (set ns cur (node Closed)) q path 1024
  trace_close q [] inns f t = tt
  trace_close q (r ∷ path) inns f t = (
    (λ j s x i lt h.
        ⊎_elim (λ y. inl (closed_set g ns cur Closed inns not_closed _ y))
        (λ y. inl (ap (state_at (set ns cur (node Closed))) y ∙ at_same ns cur Closed inns))
        (t.0 j s (sym (at_other ns cur q Closed (λ y. f.0 (sym y))) ∙ x) i lt h)),
    t.1,
    trace_set g ns cur Closed inns not_closed r path q f.1 t.2,
  )

-- the way up from a node to one above it, closed by an edge back, is a cycle
pub cycle_closes : (g : Graph) (ns : List Node) (top : ℕ) → top ≢ 1024 → g.count ≤ 1024 → (path : List ℕ) (v child f : ℕ) (below : List ℕ)
    → length path ≤ f → Linked g ns v path → Trace g ns v path child → In top (v ∷ path) → Path g v below top
    → Closes g (climb (suc (hops f ns top v)) ns v below)
unfolding hops climb
cycle_closes g ns top n b [] v child f below h l t (inl e) p = absurd (n (e ∙ l.0))
cycle_closes g ns top n b [] v child f below h l t (inr i) p = absurd i
cycle_closes g ns top n b (q ∷ path) v child zero below h l t i p = absurd (omega arith)
cycle_closes g ns top n b (q ∷ path) v child (suc f) below h l t i p =
    go (eqb v top) refl (λ j pp. cycle_closes g ns top n b path q v f (v ∷ below) (omega arith) l.2 t.2 j pp)
  where
    root : q ≡ 1024 → (path : List ℕ) → Linked g ns q path → In top (q ∷ path) → ⊥
    root e [] l (inl x) = n (x ∙ e)
    root e [] l (inr x) = x
    root e (r ∷ path) l x = omega (arith, l.0.within)

    go : (c : Bool) → eqb v top ≡ c
        → (In top (q ∷ path) → Path g q (v ∷ below) top → Closes g (climb (suc (hops f ns top q)) ns q (v ∷ below)))
        → Closes g (climb (suc (cond c 0 (suc (hops f ns top (parent_of (state_at ns v)))))) ns v below)
    go true c ih = subst (λ (x : ℕ). Path g v below x) (sym (eqb-true _ _ c)) p
    go false c ih =
        let up : In top (q ∷ path) = ⊎_elim (λ x. absurd (eqb-false _ _ c (sym x))) (λ x. x) i in
        let ed : Edge g q v = ⊎_elim (λ x. absurd (root x path l.2 up)) (λ x. x) t.1 in
        subst (λ (s : State). Closes g (climb (suc (hops f ns top (parent_of s))) ns (parent_of s) (v ∷ below))) (sym l.0.is) (ih up (ed, p))

-- no node stands twice in it: none stands twice on the way up, and what is still above stands nowhere in what is written
pub cycle_once : (g : Graph) (ns : List Node) (top : ℕ) → top ≢ 1024 → (path : List ℕ) (v f : ℕ) (below : List ℕ)
    → length path ≤ f → Linked g ns v path → In top (v ∷ path) → Distinct below → ((u : ℕ) → In u (v ∷ path) → Fresh u below)
    → Distinct (climb (suc (hops f ns top v)) ns v below)
unfolding hops climb
cycle_once g ns top n [] v f below h l (inl e) d a = absurd (n (e ∙ l.0))
cycle_once g ns top n [] v f below h l (inr i) d a = absurd i
cycle_once g ns top n (q ∷ path) v zero below h l i d a = absurd (omega arith)
cycle_once g ns top n (q ∷ path) v (suc f) below h l i d a =
    go (eqb v top) refl (λ j. cycle_once g ns top n path q f (v ∷ below) (omega arith) l.2 j now apart)
  where
    now : Distinct (v ∷ below)
    now = (a v (inl refl), d)

    apart : (u : ℕ) → In u (q ∷ path) → Fresh u (v ∷ below)
    apart u j = ((λ e. fresh_in v (q ∷ path) l.1 (subst (λ (x : ℕ). In x (q ∷ path)) e j)), a u (inr j))

    go : (c : Bool) → eqb v top ≡ c → (In top (q ∷ path) → Distinct (climb (suc (hops f ns top q)) ns q (v ∷ below)))
        → Distinct (climb (suc (cond c 0 (suc (hops f ns top (parent_of (state_at ns v)))))) ns v below)
    go true c ih = now
    go false c ih =
        subst (λ (s : State). Distinct (climb (suc (hops f ns top (parent_of s))) ns (parent_of s) (v ∷ below))) (sym l.0.is)
        (ih (⊎_elim (λ x. absurd (eqb-false _ _ c (sym x))) (λ x. x) i))
