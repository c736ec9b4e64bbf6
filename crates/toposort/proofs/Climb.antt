-- The way up from an open node: what a turn of `cycle_length` keeps, the nodes counted so far and those still to count; and what a turn of
-- `write_cycle` keeps, the table written so far, from the place k downwards.
use Prim.Native.Nat.{ℕ, zero, suc, ◌+◌, ◌-◌, ◌≤◌, ◌<◌}
use mathlib.Core.Path.{◌≡◌, refl, sym, ap, ◌∙◌}
use mathlib.Core.List.{List, [], ◌∷◌, ◌++◌}
use mathlib.Core.Bool.{Bool, true, false, cond}
use native.Mathlib.Omega.{arith}
use lib.ListN.{length, take, drop, set, length-set, take-append-drop}
use native.Mathlib.Numerals.{sub-one}
use Rattle.lists.proofs.Fill.{set_below}
use lib.Dec.{eqb}
use borrow.Author.Tests.{eq-eqb, ne_eqb}
use Rattle.toposort.specs.declared.Node.{Node}
use Rattle.toposort.specs.Search.{state_at, parent_of, hops, up, climb, Reaches}

-- counting: k nodes are passed, and `hops` counts the rest (the bound is a variable: under `unfolding hops` a numeral would be unrolled)
pub record Climbing (lim : ℕ) (ns : List Node) (top from cur k : ℕ) : Type 0 where
  pub far : ℕ
  pub short : k + far ≤ lim
  pub meets : up far ns cur ≡ top
  pub here : cur < 1025
  pub left : ℕ
  pub fuel : left + k ≡ suc lim
  pub count : suc (hops lim ns top from) ≡ k + hops left ns top cur

module _ (ns : List Node) (top from : ℕ) where
  pub climb-start : Reaches ns top from → Climbing 1025 ns top from from 1
  climb-start r =
      record {
        far = r.far;
        short = omega arith;
        meets = r.meets;
        here = r.here;
        left = 1025;
        fuel = refl;
        count = omega arith;
      }

module _ (lim : ℕ) (ns : List Node) (top from : ℕ) where
  pub climb_more : (cur k : ℕ) → Climbing lim ns top from cur k → (cur ≡ top → ⊥) → ((v : ℕ) → parent_of (state_at ns v) < 1025)
      → Climbing lim ns top from (parent_of (state_at ns cur)) (k + 1)
  unfolding up hops
  climb_more cur k c ne inside = go c.far c.left c.short c.meets c.fuel c.count
    where
      go : (far left : ℕ) → k + far ≤ lim → up far ns cur ≡ top → left + k ≡ suc lim → suc (hops lim ns top from) ≡ k + hops left ns top cur
          → Climbing lim ns top from (parent_of (state_at ns cur)) (k + 1)
      go zero left s m f e = absurd (ne m)
      go (suc far) zero s m f e = absurd (omega arith)
      go (suc far) (suc left) s m f e =
          record {
            far = far;
            short = omega arith;
            meets = m;
            here = inside cur;
            left = left;
            fuel = omega arith;
            count = let z = rw (ne_eqb cur top ne) at e in omega arith;
          }

  pub climb_done : (cur k : ℕ) → Climbing lim ns top from cur k → cur ≡ top → k ≡ suc (hops lim ns top from)
  unfolding hops
  climb_done cur k c e = go c.left c.fuel c.count
    where
      go : (left : ℕ) → left + k ≡ suc lim → suc (hops lim ns top from) ≡ k + hops left ns top cur → k ≡ suc (hops lim ns top from)
      go zero f q = omega arith
      go (suc left) f q = let z = rw (eq-eqb cur top e) at q in omega arith

-- writing: the places from `left` to k are written
pub record Writing (ns : List Node) (from k : ℕ) (table₀ : List ℕ) (cur left : ℕ) (table : List ℕ) : Type 0 where
  pub below : List ℕ
  pub within : left ≤ length table₀
  pub here : cur < 1025
  pub long : length table ≡ length table₀
  pub holds : table ≡ take left table₀ ++ (below ++ drop k table₀)
  pub same : climb k ns from [] ≡ climb left ns cur below

module _ (ns : List Node) (from k : ℕ) (table₀ : List ℕ) where
  pub write_start : k ≤ length table₀ → from < 1025 → Writing ns from k table₀ from k table₀
  write_start h i =
      record {
        below = [];
        within = h;
        here = i;
        long = refl;
        holds = sym (take-append-drop k table₀);
        same = refl;
      }

  pub write_more : (cur left : ℕ) (table : List ℕ) → Writing ns from k table₀ cur left table → 0 < left
      → ((v : ℕ) → parent_of (state_at ns v) < 1025)
      → Writing ns from k table₀ (parent_of (state_at ns cur)) (left - 1) (set table (left - 1) cur)
  unfolding climb
  write_more cur zero table w h inside = absurd (omega arith)
  write_more cur (suc left) table w h inside =
      rw (sub-one)
      record {
        below = cur ∷ w.below;
        within = omega arith;
        here = inside cur;
        long = length-set table left cur ∙ w.long;
        holds = ap (λ (t : List ℕ). set t left cur) w.holds ∙ set_below left table₀ (w.below ++ drop k table₀) cur w.within;
        same = w.same;
      }

  pub write_done : (cur left : ℕ) (table : List ℕ) → Writing ns from k table₀ cur left table → left ≤ 0
      → table ≡ climb k ns from [] ++ drop k table₀
  unfolding climb
  write_done cur zero table w h = w.holds ∙ ap (λ (t : List ℕ). t ++ drop k table₀) (sym w.same)
  write_done cur (suc left) table w h = absurd (omega arith)

-- the count of parents is the least that meets
pub hops_le : (ns : List Node) (top f m cur : ℕ) → up m ns cur ≡ top → hops f ns top cur ≤ m
unfolding up hops
hops_le ns top zero m cur e = omega arith
hops_le ns top (suc f) zero cur e = rw (eq-eqb cur top e) (omega arith)
hops_le ns top (suc f) (suc m) cur e = let ih = hops_le ns top f m (parent_of (state_at ns cur)) e in go (eqb cur top) ih
  where
    go : (b : Bool) → hops f ns top (parent_of (state_at ns cur)) ≤ m → cond b 0 (suc (hops f ns top (parent_of (state_at ns cur)))) ≤ suc m
    go true h = omega arith
    go false h = omega arith

pub climb-length : (k : ℕ) (ns : List Node) (cur : ℕ) (below : List ℕ) → length (climb k ns cur below) ≡ k + length below
unfolding climb
climb-length zero ns cur below = omega arith
climb-length (suc k) ns cur below = let ih = climb-length k ns (parent_of (state_at ns cur)) (cur ∷ below) in omega arith
