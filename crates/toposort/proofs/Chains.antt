-- What a turn of `chain_edges` keeps: the edges from i on are chained, so each node's head is its first edge from i on. An edge that is put
-- before the chain of its node becomes that node's head, and the head of every other node stays.
use Prim.Native.Nat.{ℕ, ◌+◌, ◌-◌, ◌≤◌, ◌<◌}
use mathlib.Core.Path.{◌≡◌, sym, ap, ◌∙◌}
use mathlib.Core.List.{List}
use mathlib.Core.Logic.{inl, inr, ◌≢◌}
use native.Mathlib.Omega.{arith}
use native.Mathlib.Decide.{ℕ_discrete}
use lib.ListN.{length, get_or, set, replicate, length-set, length-replicate, get_or-replicate}
use lib.Seq.{get_or-set_same, get_or-set_other}
use Rattle.std.specs.Prelude.{Option, None, Some, MatchOption}
use Rattle.toposort.specs.Search.{next_edge}
use Rattle.toposort.specs.Sorting.{Chained, After, Follows}
use Rattle.toposort.proofs.Edges.{next_here, next_on, next_end, next_le, after_le}

-- the edges from i on are chained
pub record Chaining (from : List ℕ) (i : ℕ) (heads chain : List ℕ) : Type 0 where
  pub within : i ≤ length from
  pub heads_long : length heads ≡ 1024
  pub chain_long : length from ≤ length chain
  pub head : (v : ℕ) → v < 1024 → get_or heads v 0 ≡ next_edge from v i
  pub follow : (e : ℕ) → i ≤ e → e < length from → get_or chain e 0 ≡ next_edge from (get_or from e 0) (e + 1)

module _ (from : List ℕ) where
  -- no edge is chained yet: each head is the number of edges
  pub chain_start : (n : ℕ) (heads chain : List ℕ) → n ≡ 1024 → heads ≡ replicate n (length from) → length from ≤ length chain
      → Chaining from (length from) heads chain
  chain_start n heads chain m e l =
      record {
        within = omega arith;
        heads_long = ap length e ∙ length-replicate n (length from) ∙ m;
        chain_long = l;
        head = λ v h.
            ap (λ (t : List ℕ). get_or t v 0) e ∙ get_or-replicate n v (length from) 0 (omega arith)
            ∙ sym (next_end from v (length from) (omega arith));
        follow = λ e h k. absurd (omega arith);
      }

  module _ (i : ℕ) (heads chain : List ℕ) (c : Chaining from i heads chain) where
    -- the edge before i is chained
    pub chain_more : 0 < i → get_or from (i - 1) 0 < 1024
        → Chaining from (i - 1) (set heads (get_or from (i - 1) 0) (i - 1)) (set chain (i - 1) (get_or heads (get_or from (i - 1) 0) 0))
    chain_more h b =
        record {
          within = omega (arith, c.within);
          heads_long = simp length-set c.heads_long;
          chain_long = simp length-set c.chain_long;
          head = head;
          follow = follow;
        }
      where
        inside : i - 1 < length from
        inside = omega (arith, c.within)

        back : i - 1 + 1 ≡ i
        back = omega arith

        head : (v : ℕ) → v < 1024 → get_or (set heads (get_or from (i - 1) 0) (i - 1)) v 0 ≡ next_edge from v (i - 1)
        head v k = go (ℕ_discrete v (get_or from (i - 1) 0))
          where
            go : Dec (v ≡ get_or from (i - 1) 0) → get_or (set heads (get_or from (i - 1) 0) (i - 1)) v 0 ≡ next_edge from v (i - 1)
            go (yes e) =
                ap (λ (x : ℕ). get_or (set heads (get_or from (i - 1) 0) (i - 1)) x 0) e
                ∙ get_or-set_same heads (get_or from (i - 1) 0) (i - 1) 0 (omega (arith, c.heads_long))
                ∙ sym (next_here from v (i - 1) inside (sym e))
            go (no n) =
                get_or-set_other heads (get_or from (i - 1) 0) v (i - 1) 0 n ∙ c.head v k ∙ ap (next_edge from v) (sym back)
                ∙ sym (next_on from v (i - 1) inside (λ e. n (sym e)))

        follow : (e : ℕ) → i - 1 ≤ e → e < length from
            → get_or (set chain (i - 1) (get_or heads (get_or from (i - 1) 0) 0)) e 0 ≡ next_edge from (get_or from e 0) (e + 1)
        follow e l k = go (ℕ_discrete e (i - 1))
          where
            go : Dec (e ≡ i - 1) → get_or (set chain (i - 1) (get_or heads (get_or from (i - 1) 0) 0)) e 0 ≡ next_edge from (get_or from e 0) (e + 1)
            go (yes q) =
                rw q
                (get_or-set_same chain (i - 1) (get_or heads (get_or from (i - 1) 0) 0) 0 (omega (arith, inside, c.chain_long))
                ∙ c.head (get_or from (i - 1) 0) b ∙ ap (next_edge from (get_or from (i - 1) 0)) (sym back))
            go (no n) = get_or-set_other chain (i - 1) e (get_or heads (get_or from (i - 1) 0) 0) 0 n ∙ c.follow e (omega arith) k

    -- all edges are chained
    pub chain_done : i ≤ 0 → Chained from heads chain
    chain_done h =
        record {
          heads_long = c.heads_long;
          chain_long = c.chain_long;
          head = λ v k. c.head v k ∙ ap (next_edge from v) (let z : i ≡ 0 = omega arith in z);
          follow = λ e k. c.follow e (omega arith) k;
        }

-- what is read off the chain: the next edge of v, from 0 or from right after an edge of v
module _ (from heads chain : List ℕ) (v next : ℕ) (f : Follows from heads chain v next) where
  pub next_first : next ≡ 0 → get_or heads v 0 ≡ next_edge from v next
  next_first e = f.chained.head v f.node ∙ ap (next_edge from v) (sym e)

  before : After from v next → next ≢ 0 → (get_or from (next - 1) 0 ≡ v) × (next ≤ length from)
  before (inl e) n = absurd (n e)
  before (inr e) n = e

  pub next_later : next ≢ 0 → get_or chain (next - 1) 0 ≡ next_edge from v next
  next_later n =
      let b = before f.after n in
      let back : next - 1 + 1 ≡ next = omega arith in
      f.chained.follow (next - 1) (omega (arith, b.1)) ∙ ap (λ (u : ℕ). next_edge from u (next - 1 + 1)) b.0 ∙ ap (next_edge from v) back

  pub next_small : next_edge from v next ≤ length from
  next_small = next_le from v next (after_le from v next f.after)

-- the answer of `edge_of` at a place that holds the edge x, where there are n edges
pub found : (r : Option ℕ) (place x n : ℕ) → place ≡ x → x ≤ n → MatchOption r (n ≤ place) (λ (e : ℕ). (e ≡ place) × (e < n))
    → MatchOption r (x ≡ n) (λ (e : ℕ). (e ≡ x) × (e < n))
found None place x n p l h = omega arith
found (Some e) place x n p l h = (h.0 ∙ p, h.1)
