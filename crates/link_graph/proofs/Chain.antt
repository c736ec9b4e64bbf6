-- The chain of order numbers while it is made: numbers that become nodes in place, of which those that pass are kept; and an edge from each to the next.
-- Assumes nothing.
use Prim.Native.Nat.{ℕ, ◌+◌, ◌≤◌, ◌<◌}
use mathlib.Core.Path.{◌≡◌, refl, sym, ap, subst, ◌∙◌}
use mathlib.Core.List.{List, [], ◌∷◌, ◌++◌, map, append-nil}
use mathlib.Core.Bool.{true, false, not}
use mathlib.Core.Logic.{◌≢◌}
use native.Mathlib.Omega.{arith}
use borrow.Author.Tests.{eq-eqb, ne_eqb}
use lib.Dec.{eqb}
use lib.ListN.{length, get_or, take, drop, set, length-drop, drop_of_length-le}
use lib.Seq.{drop-set-lt}
use Rattle.std.proofs.lemmas.List.{drop_more}
use Rattle.lists.specs.Rows.{keep_if}
use Rattle.lists.specs.Sort.{All, each}
use Rattle.lists.proofs.Keep.{keep_more}
use Rattle.link_graph.specs.Graph.{UnitEdge, edge, links}

-- ---- those from place i on, without the first of them
parts : {P : ℕ → Type 0} {x : ℕ} {l : List ℕ} → All P (x ∷ l) → P x × All P l
parts (each h p) = (h, p)

-- ---- the nodes among them: f gives the node of a number, or 65535
abbrev pub nodes_kept : (f : ℕ → ℕ) → List ℕ → List ℕ
nodes_kept f l = keep_if (λ v. not (eqb v 65535)) (map f l)

-- the first k of s are kept, and with those of the numbers from place i on they are all; these numbers are below m
pub record Keeping (f : ℕ → ℕ) (m : ℕ) (all s : List ℕ) (i k : ℕ) : Type 0 where
  pub few : k ≤ i
  pub kept : take k s ++ nodes_kept f (drop i s) ≡ nodes_kept f all
  pub there : All (λ x. x < m) (drop i s)

module _ {f : ℕ → ℕ} {m : ℕ} {all s : List ℕ} {i k : ℕ} (t : Keeping f m all s i k) where
  module _ (h : i < length s) where
    first_and_rest : (get_or s i 0 < m) × All (λ x. x < m) (drop (i + 1) s)
    first_and_rest = parts (subst (All (λ x. x < m)) (drop_more s i 0 h) t.there)

    -- the next number is one of them
    pub keeping_next : get_or s i 0 < m
    keeping_next = first_and_rest.0

    kept-rest : nodes_kept f (drop i s) ≡ nodes_kept f (get_or s i 0 ∷ drop (i + 1) s)
    kept-rest = ap (nodes_kept f) (drop_more s i 0 h)

    -- it has a node
    pub keeping_node : {v : ℕ} → v ≡ f (get_or s i 0) → v ≢ 65535 → Keeping f m all (set s k v) (i + 1) (k + 1)
    unfolding keep_if
    keeping_node {v} is some =
        let same : drop (i + 1) (set s k v) ≡ drop (i + 1) s = drop-set-lt (i + 1) s k v (omega (arith, t.few)) in
        let passes : not (eqb (f (get_or s i 0)) 65535) ≡ true = ap not (ne_eqb _ _ (λ e. some (is ∙ e))) in
        record {
          few = omega (arith, t.few);
          kept = keep_more k s v _ (omega (arith, t.few)) ∙ rw (same, is) (rw (kept-rest, passes) at t.kept);
          there = rw same first_and_rest.1;
        }

    -- it has none
    pub keeping_none : f (get_or s i 0) ≡ 65535 → Keeping f m all s (i + 1) k
    unfolding keep_if
    keeping_none none =
        let fails : not (eqb (f (get_or s i 0)) 65535) ≡ false = ap not (eq-eqb _ _ none) in
        record { few = omega (arith, t.few); kept = rw (kept-rest, fails) at t.kept; there = first_and_rest.1 }

  pub keeping_done : length s ≤ i → take k s ≡ nodes_kept f all
  unfolding keep_if
  keeping_done h = rw (drop_of_length-le s h, append-nil) at t.kept

-- ---- an edge from each to the next
links_turn : (s : List ℕ) (i : ℕ) → i + 1 < length s → links (drop i s) ≡ edge (get_or s i 0) (get_or s (i + 1) 0) ∷ links (drop (i + 1) s)
unfolding links
links_turn s i h =
    ap links (drop_more s i 0 (omega arith) ∙ ap (λ (l : List ℕ). get_or s i 0 ∷ l) (drop_more s (i + 1) 0 h))
    ∙ ap (λ (l : List ℕ). edge (get_or s i 0) (get_or s (i + 1) 0) ∷ links l) (sym (drop_more s (i + 1) 0 h))

at_most_one : (l : List ℕ) → length l ≤ 1 → links l ≡ []
unfolding links
at_most_one [] h = refl
at_most_one (x ∷ []) h = refl
at_most_one (x ∷ y ∷ l) h = absurd (omega arith)

-- one end of each edge, behind the first e of a column
module _ (part : UnitEdge → ℕ) (s : List ℕ) (e i : ℕ) where
  pub link_written : i + 1 < length s → (out : List ℕ) (v : ℕ) → e + i < length out → v ≡ part (edge (get_or s i 0) (get_or s (i + 1) 0))
      → take (e + (i + 1)) (set out (e + i) v) ++ map part (links (drop (i + 1) s)) ≡ take (e + i) out ++ map part (links (drop i s))
  link_written h out v room is =
      let next : e + (i + 1) ≡ (e + i) + 1 = omega arith in
      ap (λ (k : ℕ). take k (set out (e + i) v) ++ map part (links (drop (i + 1) s))) next
      ∙ keep_more (e + i) out v _ room
      ∙ rw (is, links_turn s i h)

  pub links_end : length s ≤ i + 1 → (l : List ℕ) → l ++ map part (links (drop i s)) ≡ l
  links_end h l = rw (at_most_one (drop i s) (omega (arith, length-drop i s))) (append-nil l)
