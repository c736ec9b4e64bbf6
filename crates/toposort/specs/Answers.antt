-- What a right answer is, said without the search: an order of all nodes in which each edge goes forward, or a cycle of edges.
use Rattle.std.specs.Prelude.{ℕ, ◌<◌, ◌≡◌, List, [], ◌∷◌, length, get_or}
use Rattle.lists.specs.Members.{In, Fresh, Distinct}
use Rattle.toposort.specs.Search.{Graph, End, all, cyclic, lost}

-- an edge of the table from v to w
pub record Edge (g : Graph) (v w : ℕ) : Type 0 where
  pub at : ℕ
  pub inside : at < length g.from
  pub leaves : get_or g.from at 0 ≡ v
  pub enters : get_or g.to at 0 ≡ w

-- edges from v through the list to w
abbrev pub Path : Graph → ℕ → List ℕ → ℕ → Type 0
Path g v [] w = Edge g v w
Path g v (x ∷ l) w = Edge g v x × Path g x l w

-- each is followed by an edge to the next, and the last by one to the first
abbrev pub Closes : Graph → List ℕ → Type 0
Closes g [] = ⊥
Closes g (x ∷ l) = Path g x l x

-- a cycle, none of whose nodes stands in it twice
pub record IsCycle (g : Graph) (l : List ℕ) : Type 0 where
  pub closes : Closes g l
  pub once : Distinct l

-- the edges hold a cycle: a way along edges, of any length, that leads back to where it began
pub record HasCycle (g : Graph) : Type 0 where
  pub first : ℕ
  pub rest : List ℕ
  pub closes : Path g first rest first

-- none twice, and every edge of each goes to a later one
abbrev pub Forward : Graph → List ℕ → Type 0
Forward g [] = Unit {0}
Forward g (v ∷ l) = Fresh v l × ((w : ℕ) → Edge g v w → In w l) × Forward g l

-- an order of all nodes, each once, with every edge forward
pub record IsOrder (g : Graph) (l : List ℕ) : Type 0 where
  pub forward : Forward g l
  pub whole : (v : ℕ) → v < g.count → In v l
  pub only : (v : ℕ) → In v l → v < g.count
  pub long : length l ≡ g.count

-- the search ended right: with an order, or with a cycle
abbrev pub Right : Graph → End → Type 0
Right g (all l) = IsOrder g l
Right g (cyclic l) = IsCycle g l
Right g lost = ⊥
