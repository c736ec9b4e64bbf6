-- What every state of the search keeps, and what each kind of step does to it: the open nodes are those on the way up, each with an index
-- right after an edge of its own; a node is closed exactly if it stands in the order; the counts of both fit the table.
use Prim.Native.Nat.{ℕ, ◌+◌, ◌≤◌, ◌<◌}
use mathlib.Core.Path.{◌≡◌, refl, sym, ap, ◌∙◌}
use mathlib.Core.List.{List, [], ◌∷◌}
use mathlib.Core.Logic.{inl, inr, ◌≢◌, ⊎_elim}
use native.Mathlib.Omega.{arith}
use lib.ListN.{length, set, take, replicate, length-set, length-take}
use lib.Seq.{take-set-le}
use Rattle.toposort.specs.declared.State.{State}
use Rattle.toposort.specs.declared.State.TheVariants.{Unseen, Open, Closed}
use Rattle.toposort.specs.declared.Node.{Node}
use Rattle.toposort.specs.Search.{Graph, node, state_at, parent_of, start, up}
use Rattle.toposort.specs.Sorting.{Sound, After}
use Rattle.lists.specs.Members.{Fresh, In}
use Rattle.toposort.proofs.Nodes.{at_same, at_case, total, total_le, is_open, is_open_le, unclosed, Linked, linked_set, linked_fresh, linked_up, take_same, take-set, blank, blank_total, blank_open}

-- a state of the search, with `path` the nodes above the one that it stands at
pub record Safe (g : Graph) (ns : List Node) (cur : ℕ) (order path : List ℕ) : Type 0 where
  -- a record for each node and the root
  pub long : length ns ≡ 1025
  -- the way up, all open
  pub linked : Linked g ns cur path
  -- each parent has a record
  pub inside : (v : ℕ) → parent_of (state_at ns v) < 1025
  -- as many nodes are open as stand on the way up
  pub opens : total is_open (take g.count ns) ≡ length path
  -- and these are they
  pub held : (v k p : ℕ) → state_at ns v ≡ Open k p → In v (cur ∷ path)
  -- each node is still to be closed or stands in the order
  pub shut : total unclosed (take g.count ns) + length order ≡ g.count

-- the node that the search stands at has a record
pub linked_here : (g : Graph) → Sound g → (ns : List Node) (cur : ℕ) (path : List ℕ) → Linked g ns cur path → cur < 1025
linked_here g o ns cur [] l = omega (arith, l.0)
linked_here g o ns cur (p ∷ path) l = omega (arith, l.0.within, o.nodes)

-- it is open, and its index is within the nodes or comes right after an edge of its own
pub record Here (g : Graph) (ns : List Node) (cur : ℕ) : Type 0 where
  pub next : ℕ
  pub parent : ℕ
  pub is : state_at ns cur ≡ Open next parent
  pub root : cur ≡ 1024 → next ≤ g.count
  pub node : cur ≢ 1024 → After g.from cur next × (cur < g.count)

pub linked_is : (g : Graph) → Sound g → (ns : List Node) (cur : ℕ) (path : List ℕ) → Linked g ns cur path → Here g ns cur
linked_is g o ns cur [] l =
    record {
      next = l.1.next;
      parent = 1024;
      is = ap (state_at ns) l.0 ∙ l.1.is;
      root = λ _. l.1.small;
      node = λ n. absurd (n l.0);
    }
linked_is g o ns cur (p ∷ path) l =
    record {
      next = l.0.next;
      parent = p;
      is = l.0.is;
      root = λ e. absurd (omega (arith, l.0.within, o.nodes));
      node = λ _. (l.0.after, l.0.within);
    }

-- one state is open in one way, and an open one is not unseen and not closed
pub same_parent : (s : State) (k p j q : ℕ) → s ≡ Open k p → s ≡ Open j q → p ≡ q
same_parent s k p j q a b = cc

pub same_next : (s : State) (k p j q : ℕ) → s ≡ Open k p → s ≡ Open j q → k ≡ j
same_next s k p j q a b = cc

pub unseen_open : (s : State) (k p : ℕ) → s ≡ Unseen → s ≡ Open k p → ⊥
unseen_open s k p a b = let z : ◌≡◌ {A = ℕ} 0 1 = cc in omega arith

pub closed_open : (s : State) (k p : ℕ) → s ≡ Closed → s ≡ Open k p → ⊥
closed_open s k p a b = let z : ◌≡◌ {A = ℕ} 0 1 = cc in omega arith

module _ (g : Graph) (o : Sound g) where
  -- all is unseen but the root
  pub safe_start : Safe g start.nodes 1024 [] []
  unfolding total
  safe_start =
      record {
        long = refl;
        linked = (refl, record { next = 0; is = refl; small = omega arith });
        inside = at_case (λ u s. parent_of s < 1025) (replicate 1025 (node Unseen)) 1024 (Open 0 1024) (omega arith) (omega arith)
            (λ u _. rw (blank 1025 u) (omega arith));
        opens = rw (take-set-le g.count (replicate 1025 (node Unseen)) 1024 (node (Open 0 1024)) o.nodes) (blank_open g.count 1025);
        held = λ v. at_case (λ u s. (k p : ℕ) → s ≡ Open k p → In u (1024 ∷ [])) (replicate 1025 (node Unseen)) 1024 (Open 0 1024)
            (omega arith) (λ k p e. inl refl) (λ u _ k p e. absurd (unseen_open _ k p (blank 1025 u) e)) v;
        shut = rw (take-set-le g.count (replicate 1025 (node Unseen)) 1024 (node (Open 0 1024)) o.nodes)
            (omega (arith, blank_total g.count 1025 (omega (arith, o.nodes))));
      }

  module _ (ns : List Node) (cur : ℕ) (order : List ℕ) where
    -- the next edge is passed
    pub safe_advance : (path : List ℕ) → Safe g ns cur order path → (k p k' : ℕ) → state_at ns cur ≡ Open k p
        → (cur ≡ 1024 → k' ≤ g.count) → (cur ≢ 1024 → After g.from cur k')
        → Safe g (set ns cur (node (Open k' p))) cur order path
    safe_advance path s k p k' e root inner =
        record {
          long = simp length-set s.long;
          linked = link path s.linked;
          inside = at_case (λ u s. parent_of s < 1025) ns cur (Open k' p) inns (rw (ap parent_of e) at (s.inside cur)) (λ u _. s.inside u);
          opens = let t = take_same is_open g.count ns cur (Open k' p) (sym (ap is_open e)) in omega (arith, s.opens);
          held = λ v. at_case (λ u s. (k p : ℕ) → s ≡ Open k p → In u (cur ∷ path)) ns cur (Open k' p) inns (λ _ _ _. inl refl) (λ u _. s.held u) v;
          shut = let t = take_same unclosed g.count ns cur (Open k' p) (sym (ap unclosed e)) in omega (arith, s.shut);
        }
      where
        here : cur < 1025
        here = linked_here g o ns cur path s.linked

        inns : cur < length ns
        inns = omega (arith, here, s.long)

        link : (path : List ℕ) → Linked g ns cur path → Linked g (set ns cur (node (Open k' p))) cur path
        link [] l = (
          l.0,
          record {
            next = k';
            is = ap (λ (v : ℕ). state_at (set ns cur (node (Open k' p))) v) (sym l.0) ∙ at_same ns cur (Open k' p) inns
                ∙ ap (Open k') (same_parent _ _ _ _ _ e (ap (state_at ns) l.0 ∙ l.1.is));
            small = root l.0;
          },
        )
        link (q ∷ path) l = (
          record {
            next = k';
            is = at_same ns cur (Open k' p) inns ∙ ap (Open k') (same_parent _ _ _ _ _ e l.0.is);
            after = inner (λ r. omega (arith, l.0.within, o.nodes));
            within = l.0.within;
          },
          l.1,
          linked_set g ns cur (Open k' p) q path l.1 l.2,
        )

    -- an unseen node is opened
    pub safe_push : (path : List ℕ) → Safe g ns cur order path → (v : ℕ) → v < g.count → state_at ns v ≡ Unseen
        → Safe g (set ns v (node (Open 0 cur))) v order (cur ∷ path)
    safe_push path s v h e =
        record {
          long = simp length-set s.long;
          linked = (
            record { next = 0; is = at_same ns v (Open 0 cur) inns; after = inl refl; within = h },
            fresh,
            linked_set g ns v (Open 0 cur) cur path fresh s.linked,
          );
          inside = at_case (λ u s. parent_of s < 1025) ns v (Open 0 cur) inns (linked_here g o ns cur path s.linked) (λ u _. s.inside u);
          opens = let t = take-set is_open g.count ns v (Open 0 cur) h inns in omega (arith, s.opens, ap is_open e);
          held = λ u. at_case (λ u s. (k p : ℕ) → s ≡ Open k p → In u (v ∷ cur ∷ path)) ns v (Open 0 cur) inns (λ _ _ _. inl refl)
              (λ u _ k p e. inr (s.held u k p e)) u;
          shut = let t = take_same unclosed g.count ns v (Open 0 cur) (sym (ap unclosed e)) in omega (arith, s.shut);
        }
      where
        inns : v < length ns
        inns = omega (arith, h, o.nodes, s.long)

        fresh : Fresh v (cur ∷ path)
        fresh = linked_fresh g ns v (λ k p. unseen_open _ k p e) cur path s.linked

    -- a node is closed
    unfoldable pub safe_close : (path : List ℕ) → Safe g ns cur order path → (k p : ℕ) → state_at ns cur ≡ Open k p → cur ≢ 1024
        → (rest : List ℕ) × Safe g (set ns cur (node Closed)) p (cur ∷ order) rest
    safe_close [] s k p e n = absurd (n s.linked.0)
    safe_close (q ∷ path) s k p e n = (
      path,
      record {
        long = simp length-set s.long;
        linked = rw same (linked_set g ns cur Closed q path s.linked.1 s.linked.2);
        inside = at_case (λ u s. parent_of s < 1025) ns cur Closed inns (omega arith) (λ u _. s.inside u);
        opens = let t = take-set is_open g.count ns cur Closed s.linked.0.within inns in omega (arith, s.opens, ap is_open e);
        held = λ u. at_case (λ u s. (k₁ p₁ : ℕ) → s ≡ Open k₁ p₁ → In u (p ∷ path)) ns cur Closed inns
            (λ k₁ p₁ e. absurd (closed_open _ k₁ p₁ refl e))
            (λ u ne k₁ p₁ e. rw same (⊎_elim (λ e. absurd (ne e)) (λ i. i) (s.held u k₁ p₁ e))) u;
        shut = let t = take-set unclosed g.count ns cur Closed s.linked.0.within inns in omega (arith, s.shut, ap unclosed e);
      },
    )
      where
        inns : cur < length ns
        inns = omega (arith, s.linked.0.within, o.nodes, s.long)

        same : p ≡ q
        same = same_parent _ _ _ _ _ e s.linked.0.is

    -- there is a place left for it
    pub safe_room : (path : List ℕ) → Safe g ns cur order path → cur ≢ 1024 → length order < g.count
    safe_room path s n =
        let h = linked_is g o ns cur path s.linked in
        let t = take-set unclosed g.count ns cur Closed (h.node n).1 (omega (arith, (h.node n).1, o.nodes, s.long)) in
        omega (arith, s.shut, ap unclosed h.is)

    -- an open node lies on the way up, no further than there are nodes
    pub safe_up : (path : List ℕ) → Safe g ns cur order path → (v k p : ℕ) → v ≢ 1024 → state_at ns v ≡ Open k p
        → (m : ℕ) × (m < g.count) × (up m ns cur ≡ v)
    safe_up path s v k p n e =
        let r = linked_up g ns v cur path n s.linked (s.held v k p e) in
        (r.0, omega (arith, total_le is_open is_open_le (take g.count ns), s.opens, length-take g.count ns, r.1), r.2)
