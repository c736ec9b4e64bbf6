-- What joins two units, said of the splits and of the unit records, without a graph or a search: document 01, "An edge joins neighbours of different units in a
-- section unless the second alone is common; the first split of `.ctors` and `.dtors` is passed over. Units with an order number, a signed 32-bit one from
-- lowest to highest, chain those that have splits." And what a right order and a cycle of units are.
use Rattle.std.specs.Prelude.{ℕ, ◌+◌, ◌<◌, ◌≡◌, List, [], ◌∷◌, true, ◌≢◌, length, get_or}
use Rattle.lists.specs.Members.{In, Distinct}
use Rattle.splits.specs.Questions.{is_common}
use Rattle.link_graph.specs.Graph.{Given, nodes, split_at, chained}

-- two neighbours of the split table that are joined
pub record Neighbours (g : Given) (a b : ℕ) : Type 0 where
  pub at : ℕ
  pub inside : at + 1 < length g.splits
  pub first : (split_at g.splits at).unit ≡ a
  pub second : (split_at g.splits (at + 1)).unit ≡ b
  -- "neighbours .. in a section"
  pub together : (split_at g.splits at).section ≡ (split_at g.splits (at + 1)).section
  -- "of different units"
  pub different : a ≢ b
  -- "unless the second alone is common"
  pub not_alone : is_common (split_at g.splits (at + 1)) ≡ true → is_common (split_at g.splits at) ≡ true
  -- "the first split of `.ctors` and `.dtors` is passed over": an earlier split lies in that section
  pub not_first : g.pointers (split_at g.splits at).section ≡ true
      → (j : ℕ) × (j < at) × ((split_at g.splits j).section ≡ (split_at g.splits at).section)

-- two neighbours of a list
pub record Next (l : List ℕ) (a b : ℕ) : Type 0 where
  pub at : ℕ
  pub inside : at + 1 < length l
  pub first : get_or l at 0 ≡ a
  pub second : get_or l (at + 1) 0 ≡ b

-- a must stand before b: their splits are such neighbours, or their order numbers are, lowest first, of the units that have splits
pub data Joined (g : Given) (a b : ℕ) : Type 0 where
  by_splits : Neighbours g a b → Joined g a b
  by_order : Next (chained g) a b → Joined g a b

-- ---- a right order

-- a stands before b in the list
pub record Before (l : List ℕ) (a b : ℕ) : Type 0 where
  pub at : ℕ
  pub later : ℕ
  pub rising : at < later
  pub inside : later < length l
  pub first : get_or l at 0 ≡ a
  pub second : get_or l later 0 ≡ b

-- each unit that has splits stands in the list once, and nothing else; and each unit stands before those that it is joined to
pub record InOrder (g : Given) (l : List ℕ) : Type 0 where
  pub whole : (v : ℕ) → In v (nodes g.splits) → In v l
  pub only : (v : ℕ) → In v l → In v (nodes g.splits)
  pub once : Distinct l
  pub long : length l ≡ length (nodes g.splits)
  pub forward : (a b : ℕ) → Joined g a b → Before l a b

-- ---- a cycle

-- joined from v through the list to w
abbrev pub Way : Given → ℕ → List ℕ → ℕ → Type 0
Way g v [] w = Joined g v w
Way g v (x ∷ l) w = Joined g v x × Way g x l w

-- a way, of any length, that leads back to where it began
pub record HasCycle (g : Given) : Type 0 where
  pub first : ℕ
  pub rest : List ℕ
  pub closes : Way g first rest first

-- each is joined to the next and the last to the first
abbrev pub Closes : Given → List ℕ → Type 0
Closes g [] = ⊥
Closes g (x ∷ l) = Way g x l x

-- a cycle, none of whose units stands in it twice
pub record IsCycle (g : Given) (l : List ℕ) : Type 0 where
  pub closes : Closes g l
  pub once : Distinct l
