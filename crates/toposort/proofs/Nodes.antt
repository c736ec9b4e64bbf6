-- Records of nodes: a store and what is read back, sums over all of them, and the way up from the node that the search stands at.
-- A sum of weights after a store replaces every count: of open nodes, of nodes not yet closed, and of the steps that are left.
use Prim.Native.Nat.{ℕ, zero, suc, ◌+◌, ◌-◌, ◌≤◌, ◌<◌}
use mathlib.Core.Path.{◌≡◌, refl, sym, ap, ◌∙◌}
use mathlib.Core.List.{List, [], ◌∷◌}
use mathlib.Core.Logic.{inl, inr, ◌≢◌}
use native.Mathlib.Omega.{arith}
use native.Mathlib.Decide.{ℕ_discrete}
use native.Mathlib.Nat.{not-suc-le-zero, le_of_suc-le-suc}
use lib.ListN.{length, set, take, replicate}
use lib.Seq.{get_or-set_same, get_or-set_other}
use Rattle.toposort.specs.declared.State.{State}
use Rattle.toposort.specs.declared.State.TheVariants.{Unseen, Open, Closed}
use Rattle.toposort.specs.declared.Node.{Node}
use Rattle.toposort.specs.Search.{Graph, node, state_at, parent_of, up}
use Rattle.toposort.specs.Sorting.{After}
use Rattle.lists.specs.Members.{Fresh, In}

pub at_same : (ns : List Node) (v : ℕ) (s : State) → v < length ns → state_at (set ns v (node s)) v ≡ s
at_same ns v s h = ap (λ (x : Node). x.state) (get_or-set_same ns v (node s) (node Unseen) h)

pub at_other : (ns : List Node) (v u : ℕ) (s : State) → u ≢ v → state_at (set ns v (node s)) u ≡ state_at ns u
at_other ns v u s h = ap (λ (x : Node). x.state) (get_or-set_other ns v u (node s) (node Unseen) h)

-- a fact of the state at u after a store at v: at v of the new state, elsewhere of the old
pub at_case : (P : ℕ → State → Type 0) (ns : List Node) (v : ℕ) (s : State) → v < length ns
    → P v s → ((u : ℕ) → u ≢ v → P u (state_at ns u)) → (u : ℕ) → P u (state_at (set ns v (node s)) u)
at_case P ns v s h here there u = go (ℕ_discrete u v)
  where
    go : Dec (u ≡ v) → P u (state_at (set ns v (node s)) u)
    go (yes e) = rw (e, at_same ns v s h) here
    go (no n) = rw (at_other ns v u s n) (there u n)

-- a sum of the states' weights
unfoldable pub total : (State → ℕ) → List Node → ℕ
total w [] = 0
total w (x ∷ ns) = w x.state + total w ns

pub total_set : (w : State → ℕ) (ns : List Node) (v : ℕ) (s : State) → v < length ns
    → total w (set ns v (node s)) + w (state_at ns v) ≡ total w ns + w s
unfolding total
total_set w [] v s h = absurd (not-suc-le-zero h)
total_set w (x ∷ ns) zero s h = omega arith
total_set w (x ∷ ns) (suc v) s h = let ih = total_set w ns v s (le_of_suc-le-suc h) in omega arith

pub total_le : (w : State → ℕ) → ((s : State) → w s ≤ 1) → (ns : List Node) → total w ns ≤ length ns
unfolding total
total_le w h [] = omega arith
total_le w h (x ∷ ns) = let ih = total_le w h ns in omega (arith, h x.state)

pub total_zero : (w : State → ℕ) (ns : List Node) → ((v : ℕ) → v < length ns → w (state_at ns v) ≡ 0) → total w ns ≡ 0
unfolding total
total_zero w [] h = refl
total_zero w (x ∷ ns) h =
    let ih = total_zero w ns (λ v k. h (suc v) (omega arith)) in
    let here = h 0 (omega arith) in
    omega arith

-- the weights: the steps that a node has left, at most; whether it is open; whether it is still to be closed
abbrev pub pot : State → ℕ
pot Unseen = 2050
pot (Open next parent) = 2049 - next
pot Closed = 0

abbrev pub is_open : State → ℕ
is_open Unseen = 0
is_open (Open next parent) = 1
is_open Closed = 0

abbrev pub unclosed : State → ℕ
unclosed Unseen = 1
unclosed (Open next parent) = 1
unclosed Closed = 0

pub is_open_le : (s : State) → is_open s ≤ 1
is_open_le Unseen = omega arith
is_open_le (Open k p) = omega arith
is_open_le Closed = omega arith

-- an open node with its parent, its index right after an edge of its own; and the root, open with the next node
pub record OpenAt (g : Graph) (ns : List Node) (v p : ℕ) : Type 0 where
  pub next : ℕ
  pub is : state_at ns v ≡ Open next p
  pub after : After g.from v next
  pub within : v < g.count

pub record RootAt (g : Graph) (ns : List Node) : Type 0 where
  pub next : ℕ
  pub is : state_at ns 1024 ≡ Open next 1024
  pub small : next ≤ g.count

-- the nodes above v: each open, its parent the next, and the root the last
abbrev pub Linked : Graph → List Node → ℕ → List ℕ → Type 0
Linked g ns v [] = (v ≡ 1024) × RootAt g ns
Linked g ns v (p ∷ path) = OpenAt g ns v p × Fresh v (p ∷ path) × Linked g ns p path

-- a store at a node that is not on the way leaves it
pub linked_set : (g : Graph) (ns : List Node) (u : ℕ) (s : State) (v : ℕ) (path : List ℕ) → Fresh u (v ∷ path)
    → Linked g ns v path → Linked g (set ns u (node s)) v path
linked_set g ns u s v [] f l =
    (l.0, record { next = l.1.next; is = at_other ns u 1024 s (λ e. f.0 (sym e ∙ sym l.0)) ∙ l.1.is; small = l.1.small })
linked_set g ns u s v (p ∷ path) f l = (
  record {
    next = l.0.next;
    is = at_other ns u v s (λ e. f.0 (sym e)) ∙ l.0.is;
    after = l.0.after;
    within = l.0.within;
  },
  l.1,
  linked_set g ns u s p path f.1 l.2,
)

-- a node that is not open is not on the way
pub linked_fresh : (g : Graph) (ns : List Node) (u : ℕ) → ((k p : ℕ) → state_at ns u ≡ Open k p → ⊥) → (v : ℕ) (path : List ℕ)
    → Linked g ns v path → Fresh u (v ∷ path)
linked_fresh g ns u not v [] l = ((λ e. not l.1.next 1024 (ap (state_at ns) (e ∙ l.0) ∙ l.1.is)), tt)
linked_fresh g ns u not v (p ∷ path) l =
    ((λ e. not l.0.next p (ap (state_at ns) e ∙ l.0.is)), linked_fresh g ns u not p path l.2)

-- a node on the way is so many parents up, fewer than the way has
pub linked_up : (g : Graph) (ns : List Node) (u v : ℕ) (path : List ℕ) → u ≢ 1024 → Linked g ns v path → In u (v ∷ path)
    → (m : ℕ) × (m < length path) × (up m ns v ≡ u)
unfolding up
linked_up g ns u v [] n l (inl e) = absurd (n (e ∙ l.0))
linked_up g ns u v [] n l (inr m) = absurd m
linked_up g ns u v (p ∷ path) n l (inl e) = (0, omega arith, sym e)
linked_up g ns u v (p ∷ path) n l (inr i) =
    let r = linked_up g ns u p path n l.2 i in
    (suc r.0, omega arith, ap (λ (s : State). up r.0 ns (parent_of s)) l.0.is ∙ r.2)

-- the same over the first n: a store that keeps the weight, and one that changes it
pub take_same : (w : State → ℕ) (n : ℕ) (ns : List Node) (v : ℕ) (s : State) → w s ≡ w (state_at ns v)
    → total w (take n (set ns v (node s))) ≡ total w (take n ns)
unfolding total
take_same w n [] v s e = refl
take_same w zero (x ∷ ns) zero s e = refl
take_same w zero (x ∷ ns) (suc v) s e = refl
take_same w (suc n) (x ∷ ns) zero s e = omega arith
take_same w (suc n) (x ∷ ns) (suc v) s e = let ih = take_same w n ns v s e in omega arith

pub take-set : (w : State → ℕ) (n : ℕ) (ns : List Node) (v : ℕ) (s : State) → v < n → v < length ns
    → total w (take n (set ns v (node s))) + w (state_at ns v) ≡ total w (take n ns) + w s
unfolding total
take-set w n [] v s k h = absurd (not-suc-le-zero h)
take-set w zero (x ∷ ns) v s k h = absurd (not-suc-le-zero k)
take-set w (suc n) (x ∷ ns) zero s k h = omega arith
take-set w (suc n) (x ∷ ns) (suc v) s k h =
    let ih = take-set w n ns v s (le_of_suc-le-suc k) (le_of_suc-le-suc h) in omega arith

-- records that are all unseen
pub blank : (k u : ℕ) → state_at (replicate k (node Unseen)) u ≡ Unseen
blank zero u = refl
blank (suc k) zero = refl
blank (suc k) (suc u) = blank k u

pub blank_total : (n k : ℕ) → n ≤ k → total unclosed (take n (replicate k (node Unseen))) ≡ n
unfolding total
blank_total zero k h = refl
blank_total (suc n) zero h = absurd (not-suc-le-zero h)
blank_total (suc n) (suc k) h = let ih = blank_total n k (le_of_suc-le-suc h) in omega arith

pub blank_open : (n k : ℕ) → total is_open (take n (replicate k (node Unseen))) ≡ 0
unfolding total
blank_open zero k = refl
blank_open (suc n) zero = refl
blank_open (suc n) (suc k) = let ih = blank_open n k in omega arith
