-- What a move says, by the tests that `move_of` makes: each other file takes a move apart by `move_is` alone, and never by the tests.
use Prim.Native.Nat.{ℕ, ◌+◌}
use mathlib.Core.Path.{◌≡◌, refl}
use mathlib.Core.Bool.{Bool, true, false, cond}
use lib.ListN.{length, get_or}
use lib.Dec.{eqb}
use borrow.Author.Tests.{eqb-true, eqb-false}
use Rattle.toposort.specs.declared.Move.{Move}
use Rattle.toposort.specs.declared.Move.TheVariants.{Finish, Close, Take}
use Rattle.toposort.specs.Search.{Graph, next_edge, move_of}

-- an edge is taken: the root's is to the next node, another's is the next of its own in the table
pub record Taken (g : Graph) (cur next after node : ℕ) : Type 0 where
  pub edge : (cur ≡ 1024 → ⊥) → (next_edge g.from cur next ≡ length g.from → ⊥)
  pub step : (cur ≡ 1024 → ⊥) → after ≡ next_edge g.from cur next + 1
  pub goal : (cur ≡ 1024 → ⊥) → node ≡ get_or g.to (next_edge g.from cur next) 0
  pub root : cur ≡ 1024 → (next ≡ g.count → ⊥) × (after ≡ next + 1) × (node ≡ next)

-- what each move says
abbrev pub MoveIs : Graph → ℕ → ℕ → Move → Type 0
MoveIs g cur next Finish = (cur ≡ 1024) × (next ≡ g.count)
MoveIs g cur next Close = (cur ≡ 1024 → ⊥) × (next_edge g.from cur next ≡ length g.from)
MoveIs g cur next (Take after node) = Taken g cur next after node

pub move_is : (g : Graph) (cur next : ℕ) → MoveIs g cur next (move_of g cur next)
unfolding move_of
move_is g cur next = go (eqb cur 1024) (eqb next g.count) (eqb (next_edge g.from cur next) (length g.from)) refl refl refl
  where
    go : (a b e : Bool) → eqb cur 1024 ≡ a → eqb next g.count ≡ b → eqb (next_edge g.from cur next) (length g.from) ≡ e
        → MoveIs g cur next
        (cond a (cond b Finish (Take (next + 1) next))
        (cond e Close (Take (next_edge g.from cur next + 1) (get_or g.to (next_edge g.from cur next) 0))))
    go true true e p q r = (eqb-true _ _ p, eqb-true _ _ q)
    go true false e p q r =
        record {
          edge = λ n. absurd (n (eqb-true _ _ p));
          step = λ n. absurd (n (eqb-true _ _ p));
          goal = λ n. absurd (n (eqb-true _ _ p));
          root = λ _. (eqb-false _ _ q, refl, refl);
        }
    go false b true p q r = (eqb-false _ _ p, eqb-true _ _ r)
    go false b false p q r =
        record {
          edge = λ _. eqb-false _ _ r;
          step = λ _. refl;
          goal = λ _. refl;
          root = λ n. absurd (eqb-false _ _ p n);
        }
