-- What the whole sort gives, by its tests: one lemma for each way out of the code's `toposort`, and what its calls ask once the edges have
-- passed the first test.
use Prim.Native.Nat.{ℕ, ◌≤◌, ◌<◌}
use mathlib.Core.Path.{◌≡◌, refl, sym, ap, ◌∙◌, subst}
use mathlib.Core.List.{List}
use lib.ListN.{length, take}
use lib.Seq.{length-take-le}
use native.Mathlib.Omega.{arith}
use borrow.Author.Tests.{lt-ltb, le-ltb}
use Rattle.lists.specs.Outcome.{Outcome, accepted, refused}
use Rattle.lists.proofs.Outcomes.{fails, passes}
use Rattle.toposort.specs.declared.Unsorted.{Unsorted}
use Rattle.toposort.specs.declared.Unsorted.TheVariants.{NoNode, Short}
use Rattle.std.specs.Prelude.{Result, Err}
use Rattle.toposort.specs.Search.{Graph, End, bad_edge, searched}
use Rattle.toposort.specs.Sorting.{sort_of, Sorts, Within, Sound, Chainable}
use Rattle.toposort.proofs.Theorems.{sound_edges}

module _ (g : Graph) (within : Within g) where
  -- 62
  pub sorts_bad : (b : ℕ) → b ≡ bad_edge g.count g.from g.to → b < length g.from → (table : List ℕ) → Sorts (sort_of g (length table)) (length table) (Err (NoNode b)) table
  unfolding sort_of
  sorts_bad b is h table =
      record {
        means = ap (refused 62 0) is ∙ sym (fails _ _ _ _ _ (lt-ltb _ _ (rw is at h)));
        long = refl;
        room = omega arith;
        small = omega (arith, within.edges);
      }

  module _ (good : bad_edge g.count g.from g.to ≡ length g.from) where
    -- 76
    pub sorts_short : (table : List ℕ) → length table < g.count → Sorts (sort_of g (length table)) (length table) (Err Short) table
    unfolding sort_of
    sorts_short table h =
        record {
          means = sym (passes _ _ _ _ _ (le-ltb _ _ (omega arith)) ∙ fails _ _ _ _ _ (lt-ltb _ _ h));
          long = refl;
          room = omega arith;
          small = omega arith;
        }

    -- the answer of the search
    pub sorts_searched : (room : ℕ) → g.count ≤ room → (answer : Result ℕ Unsorted) (table : List ℕ) → Sorts (accepted (searched g)) room answer table
        → Sorts (sort_of g room) room answer table
    unfolding sort_of
    sorts_searched room h answer table s =
        subst (λ (x : Outcome End). Sorts x room answer table)
        (sym (passes _ _ _ _ _ (le-ltb _ _ (omega arith)) ∙ passes _ _ _ _ _ (le-ltb _ _ h))) s

    pub sound : Sound g
    sound = sound_edges g within (omega arith)

    pub chainable : (heads chain : List ℕ) → length heads ≡ 1024 → length chain ≡ 2048 → Chainable g.from heads chain
    chainable heads chain h k =
        record {
          few = within.edges;
          heads_long = h;
          chain_long = omega (arith, within.edges);
          starts = λ e lt. omega (arith, sound.starts e lt, within.nodes);
        }

-- the table is the first `room` places of a longer one
pub sorts_in : {r : Result ℕ Unsorted} {part : List ℕ} (g : Graph) (room : ℕ) (table : List ℕ) → room ≤ length table
    → Sorts (sort_of g (length (take room table))) (length (take room table)) r part → Sorts (sort_of g room) room r part
sorts_in {r} {part} g room table h s = subst (λ (k : ℕ). Sorts (sort_of g k) k r part) (length-take-le room table h) s
