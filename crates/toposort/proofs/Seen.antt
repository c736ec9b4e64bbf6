-- What a taken edge says, and that every node that the root has passed has been seen: so none is unseen when the root has passed all.
use Prim.Native.Nat.{ℕ, ◌≤◌, ◌<◌}
use mathlib.Core.Path.{◌≡◌, refl, sym, ap, ◌∙◌}
use mathlib.Core.List.{List}
use mathlib.Core.Logic.{◌≢◌}
use native.Mathlib.Omega.{arith}
use native.Mathlib.Decide.{ℕ_discrete}
use lib.ListN.{length, set}
use Rattle.toposort.specs.declared.State.{State}
use Rattle.toposort.specs.declared.State.TheVariants.{Unseen, Open, Closed}
use Rattle.toposort.specs.declared.Node.{Node}
use Rattle.toposort.specs.Search.{Graph, node, state_at, next_edge}
use Rattle.toposort.specs.Sorting.{Sound, After}
use Rattle.toposort.proofs.Edges.{next_le, after-found}
use Rattle.toposort.proofs.Moves.{Taken}
use Rattle.toposort.proofs.Nodes.{at_same, at_other, at_case}
use Rattle.toposort.proofs.Safe.{unseen_open, same_next}

-- a taken edge: the index rises, stays within the table and comes right after an edge of the node; the edge goes to a node
pub record Taking (g : Graph) (cur next after v : ℕ) : Type 0 where
  pub rises : next < after
  pub root : cur ≡ 1024 → after ≤ g.count
  pub inner : cur ≢ 1024 → After g.from cur after
  pub within : v < g.count
  pub low : after ≤ 2048

pub taking : (g : Graph) → Sound g → (cur next after v : ℕ) → (cur ≡ 1024 → next ≤ g.count) → (cur ≢ 1024 → next ≤ length g.from)
    → Taken g cur next after v → Taking g cur next after v
taking g o cur next after v root inner t = go (ℕ_discrete cur 1024)
  where
    go : Dec (cur ≡ 1024) → Taking g cur next after v
    go (yes e) =
        let r = t.root e in
        let k = root e in
        let n : next ≢ g.count = r.0 in
        record {
          rises = omega (arith, r.1);
          root = λ _. omega (arith, r.1);
          inner = λ n. absurd (n e);
          within = omega (arith, r.2);
          low = omega (arith, r.1, o.nodes);
        }
    go (no n) =
        let s = t.step n in
        let k = next_le g.from cur next (inner n) in
        let ne : next_edge g.from cur next ≢ length g.from = t.edge n in
        let lt : next_edge g.from cur next < length g.from = omega arith in
        record {
          rises = omega arith;
          root = λ e. absurd (n e);
          inner = λ _. rw s (after-found g.from cur next (inner n) lt);
          within = rw (t.goal n) (o.goals _ lt);
          low = omega (arith, o.edges);
        }

-- every node that the root has passed has been seen
abbrev pub Seen : List Node → Type 0
Seen ns = (k p u : ℕ) → state_at ns 1024 ≡ Open k p → u < k → state_at ns u ≡ Unseen → ⊥

pub closed_unseen : (s : State) → s ≡ Closed → s ≡ Unseen → ⊥
closed_unseen s a b = let z : ◌≡◌ {A = ℕ} 0 1 = cc in omega arith

module _ (g : Graph) (o : Sound g) (ns : List Node) (cur : ℕ) (long : length ns ≡ 1025) (here : cur < 1025) (seen : Seen ns) where
  pub seen_close : cur ≢ 1024 → Seen (set ns cur (node Closed))
  seen_close n k p u e lt =
      at_case (λ u s. u < k → s ≡ Unseen → ⊥) ns cur Closed (omega arith) (λ _. closed_unseen _ refl)
      (λ u _ lt. seen k p u (sym (at_other ns cur 1024 Closed (λ r. n (sym r))) ∙ e) lt) u lt

  -- after an edge is passed, all but the node that it goes to
  pub seen-take : (k p a v : ℕ) → state_at ns cur ≡ Open k p → Taken g cur k a v → (cur ≡ 1024 → k ≤ g.count)
      → (j q u : ℕ) → state_at (set ns cur (node (Open a p))) 1024 ≡ Open j q → u < j → u ≢ v
      → state_at (set ns cur (node (Open a p))) u ≡ Unseen → ⊥
  seen-take k p a v e t root j q u f lt ne = go (ℕ_discrete cur 1024)
    where
      inns : cur < length ns
      inns = omega arith

      go : Dec (cur ≡ 1024) → state_at (set ns cur (node (Open a p))) u ≡ Unseen → ⊥
      go (yes c) z =
          let r = t.root c in
          let b = root c in
          let w = same_next _ _ _ _ _ (ap (λ (x : ℕ). state_at (set ns cur (node (Open a p))) x) (sym c) ∙ at_same ns cur (Open a p) inns) f in
          let low : u < k = omega (arith, r.1, r.2) in
          let apart : u ≢ cur = λ x. omega (arith, o.nodes) in
          seen k p u (sym (ap (state_at ns) c) ∙ e) low (sym (at_other ns cur u (Open a p) apart) ∙ z)
      go (no n) z =
          at_case (λ u s. u < j → s ≡ Unseen → ⊥) ns cur (Open a p) inns (λ _ y. unseen_open _ a p y refl)
          (λ u _ lt. seen j q u (sym (at_other ns cur 1024 (Open a p) (λ x. n (sym x))) ∙ f) lt) u lt z
