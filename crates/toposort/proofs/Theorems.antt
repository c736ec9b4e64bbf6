-- The answers of the search are right, it answers a cycle exactly where the edges hold one, and the whole sort gives what document 01 says.
-- The search ends because each step leaves less to do (`fine_step`), and an order rules a cycle out because its edges only go forward.
use Prim.Native.Nat.{ℕ, zero, suc, ◌≤◌, ◌<◌}
use mathlib.Core.Path.{◌≡◌, refl, sym, ◌∙◌, subst}
use mathlib.Core.List.{List, [], ◌∷◌}
use mathlib.Core.Logic.{inl, inr, ◌↔◌}
use native.Mathlib.Omega.{arith}
use native.Mathlib.Decide.{dec_lt}
use lib.ListN.{length, get_or}
use borrow.Author.Tests.{lt-ltb, le-ltb}
use Rattle.lists.specs.Members.{In}
use Rattle.lists.proofs.Members.{fresh_in}
use Rattle.lists.specs.Outcome.{Outcome, accepted, refused}
use Rattle.lists.proofs.Outcomes.{fails, passes}
use Rattle.toposort.specs.Search.{Graph, Search, End, all, cyclic, lost, Next, going, ended, start, step, run, enough, searched, bad_edge}
use Rattle.toposort.specs.Sorting.{Sound, Within, sort_of}
use Rattle.toposort.specs.Answers.{Edge, Path, IsCycle, HasCycle, Forward, Right}
use Rattle.toposort.proofs.Edges.{good_before, bad_is}
use Rattle.toposort.proofs.Nodes.{total, pot}
use Rattle.toposort.proofs.Steps.{Fine, Goes, fine_step, start_fine, run_ended}

-- from a good state with fewer steps left than are allowed the search ends right
run_right : (f : ℕ) (g : Graph) → Sound g → (s : Search) (path : List ℕ) → Fine g s path → total pot s.nodes < f → Right g (run f g (going s))
unfolding run
run_right zero g o s path w h = absurd (omega arith)
run_right (suc f) g o s path w h = go (step g s) (fine_step g o s path w) (λ t q x l. run_right f g o t q x l)
  where
    go : (n : Next) → Goes g s n → ((t : Search) (q : List ℕ) → Fine g t q → total pot t.nodes < f → Right g (run f g (going t)))
        → Right g (run f g n)
    go (going t) x ih = ih t x.0 x.1 (omega (arith, x.2))
    go (ended e) x ih = subst (Right g) (sym (run_ended f g e)) x

-- THEOREM: an order holds each node once, with every edge forward; a cycle is one of the table's edges, no node twice; one of the two always comes
pub searched_right : (g : Graph) → Sound g → Right g (searched g)
unfolding total
searched_right g o = run_right enough g o start [] (start_fine g o) (omega arith)

-- in a forward list an edge, and so a way along edges, leads from a member to a member
edge_in : (g : Graph) (l : List ℕ) → Forward g l → (v w : ℕ) → In v l → Edge g v w → In w l
edge_in g [] f v w i e = absurd i
edge_in g (x ∷ l) f v w (inl p) e = inr (f.1 w (subst (λ (y : ℕ). Edge g y w) p e))
edge_in g (x ∷ l) f v w (inr i) e = inr (edge_in g l f.2 v w i e)

path_in : (g : Graph) (l : List ℕ) → Forward g l → (v : ℕ) (ws : List ℕ) (w : ℕ) → In v l → Path g v ws w → In w l
path_in g l f v [] w i p = edge_in g l f v w i p
path_in g l f v (x ∷ ws) w i p = path_in g l f x ws w (edge_in g l f v x i p.0) p.1

-- a way out of the first goes on among the later
path_later : (g : Graph) (x : ℕ) (l : List ℕ) → Forward g (x ∷ l) → (ws : List ℕ) (w : ℕ) → Path g x ws w → In w l
path_later g x l f [] w p = f.1 w p
path_later g x l f (y ∷ ws) w p = path_in g l f.2 y ws w (f.1 y p.0) p.1

-- so no way leads back to where it began
no_loop : (g : Graph) (l : List ℕ) → Forward g l → (v : ℕ) → In v l → (ws : List ℕ) → Path g v ws v → ⊥
no_loop g [] f v i ws p = i
no_loop g (x ∷ l) f v (inl e) ws p =
    fresh_in x l f.0 (path_later g x l f ws x (subst (λ (y : ℕ). Path g y ws y) e p))
no_loop g (x ∷ l) f v (inr i) ws p = no_loop g l f.2 v i ws p

-- a way along edges ends at a node
path_end : (g : Graph) → Sound g → (v : ℕ) (ws : List ℕ) (w : ℕ) → Path g v ws w → w < g.count
path_end g o v [] w p = subst (λ (x : ℕ). x < g.count) p.enters (o.goals p.at p.inside)
path_end g o v (x ∷ ws) w p = path_end g o x ws w p.1

-- THEOREM: the search answers a cycle exactly where the edges hold one
pub cycle_iff : (g : Graph) → Sound g → HasCycle g ↔ ((l : List ℕ) × (searched g ≡ cyclic l))
cycle_iff g o = ((λ h. to h (searched g) refl (searched_right g o)), from)
  where
    to : HasCycle g → (e : End) → searched g ≡ e → Right g e → (l : List ℕ) × (searched g ≡ cyclic l)
    to h (all l) q r =
        absurd (no_loop g l r.forward h.first (r.whole h.first (path_end g o h.first h.rest h.first h.closes)) h.rest h.closes)
    to h (cyclic l) q r = (l, q)
    to h lost q r = absurd r

    from : (l : List ℕ) × (searched g ≡ cyclic l) → HasCycle g
    from x = go x.0 (subst (Right g) x.1 (searched_right g o))
      where
        go : (l : List ℕ) → IsCycle g l → HasCycle g
        go [] c = absurd c.closes
        go (y ∷ l) c = record { first = y; rest = l; closes = c.closes }

-- an edge that joins nodes
abbrev pub Joins : Graph → ℕ → Type 0
Joins g e = (get_or g.from e 0 < g.count) × (get_or g.to e 0 < g.count)

-- the first edge that joins no node
pub record FirstBad (g : Graph) (e : ℕ) : Type 0 where
  pub inside : e < length g.from
  pub bad : Joins g e → ⊥
  pub before : (i : ℕ) → i < e → Joins g i

-- what the sort may give: 62 at the first edge that joins no node; otherwise 76 where the table is shorter than the nodes; otherwise the
-- answer of the search, which is right, and is a cycle exactly where the edges hold one
pub data Gives (g : Graph) (room : ℕ) : Outcome End → Type 0 where
  no_node : (e : ℕ) → FirstBad g e → Gives g room (refused 62 0 e)
  too_short : Sound g → room < g.count → Gives g room (refused 76 0 0)
  answer : Sound g → g.count ≤ room → Right g (searched g) → HasCycle g ↔ ((l : List ℕ) × (searched g ≡ cyclic l))
      → Gives g room (accepted (searched g))

-- the edges all join nodes where the scan for a bad one finds none
pub sound_edges : (g : Graph) → Within g → length g.from ≤ bad_edge g.count g.from g.to → Sound g
sound_edges g w h =
    record {
      nodes = w.nodes;
      edges = w.edges;
      paired = w.paired;
      starts = λ e k. (good_before g.count g.from g.to e (omega arith)).0;
      goals = λ e k. (good_before g.count g.from g.to e (omega arith)).1;
    }

-- THEOREM: for a graph within the ceilings the sort gives one of these three: 62, 76, or a right answer
pub sorted_right : (g : Graph) (room : ℕ) → Within g → Gives g room (sort_of g room)
unfolding sort_of
sorted_right g room w = by_edge (dec_lt (bad_edge g.count g.from g.to) (length g.from)) (dec_lt room g.count)
  where
    by_edge : Dec (bad_edge g.count g.from g.to < length g.from) → Dec (room < g.count) → Gives g room (sort_of g room)
    by_edge (yes h) k =
        subst (Gives g room) (sym (fails _ _ _ _ _ (lt-ltb _ _ h)))
        (no_node (bad_edge g.count g.from g.to)
        (record {
          inside = h;
          bad = bad_is g.count g.from g.to w.paired h;
          before = good_before g.count g.from g.to;
        }))
    by_edge (no h) (yes k) =
        let good : length g.from ≤ bad_edge g.count g.from g.to = omega arith in
        subst (Gives g room) (sym (passes _ _ _ _ _ (le-ltb _ _ good) ∙ fails _ _ _ _ _ (lt-ltb _ _ k)))
        (too_short (sound_edges g w good) k)
    by_edge (no h) (no k) =
        let good : length g.from ≤ bad_edge g.count g.from g.to = omega arith in
        let room_for : g.count ≤ room = omega arith in
        let o : Sound g = sound_edges g w good in
        subst (Gives g room) (sym (passes _ _ _ _ _ (le-ltb _ _ good) ∙ passes _ _ _ _ _ (le-ltb _ _ room_for)))
        (answer o room_for (searched_right g o) (cycle_iff g o))
