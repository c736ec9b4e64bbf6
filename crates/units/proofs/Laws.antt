-- The column of unit numbers while it is made: after the first k units it has the last of them of each name. Assumes nothing.
use mathlib.Core.Path.{◌≡◌, refl, sym, ap, ◌∙◌}
use mathlib.Core.List.{List, [], ◌∷◌, ◌++◌}
use mathlib.Core.Bool.{Bool, true, false, cond}
use Prim.Native.Nat.{ℕ, suc, ◌+◌, ◌≤◌, ◌<◌}
use native.Mathlib.Nat.{suc-add, add-suc, zero-add}
use native.Mathlib.Numerals.{add-one}
use native.Mathlib.Omega.{arith}
use lib.Dec.{eqb}
use lib.ListN.{length, get_or, take, set, length-set}
use lib.Seq.{take-suc, take_all, length-take-le, get_or-set_same, get_or-set_other}
use borrow.Author.Tests.{eqb-true, eqb-false}
use Rattle.units.specs.Units.{last_named, unit_of, Numbered}

-- the last unit counts
named_last : (name found number : ℕ) (l : List ℕ) (u : ℕ) → last_named name found number (l ++ (u ∷ [])) ≡ cond (eqb u name) (number + length l) (last_named name found number l)
unfolding last_named
named_last name found number [] u = ap (λ (m : ℕ). cond (eqb u name) m found) (let e : number ≡ number + 0 = omega arith in e)
named_last name found number (x ∷ l) u =
    named_last name (cond (eqb x name) number found) (suc number) l u
    ∙ ap (λ (m : ℕ). cond (eqb u name) m (last_named name (cond (eqb x name) number found) (suc number) l)) (suc-add number (length l) ∙ sym (add-suc number (length l)))

-- the column after the first k units
pub record After (units column : List ℕ) (k : ℕ) : Type 0 where
  pub each : (name : ℕ) → name < length column → get_or column name 0 ≡ last_named name (length units) 0 (take k units)

pub after_none : (units column : List ℕ) → ((name : ℕ) → name < length column → get_or column name 0 ≡ length units) → After units column 0
unfolding last_named
after_none units column h = record { each = h }

module _ (units column : List ℕ) (k u : ℕ) (a : After units column k) (h : k < length units) (is : u ≡ get_or units k 0) (inside : u < length column) where
  one_more : (name : ℕ) → last_named name (length units) 0 (take (k + 1) units) ≡ cond (eqb u name) k (last_named name (length units) 0 (take k units))
  one_more name =
      ap (λ (j : ℕ). last_named name (length units) 0 (take j units)) (add-one k)
      ∙ ap (last_named name (length units) 0) (take-suc units k 0 h)
      ∙ named_last name (length units) 0 (take k units) (get_or units k 0)
      ∙ ap (λ (m : ℕ). cond (eqb (get_or units k 0) name) m (last_named name (length units) 0 (take k units))) (zero-add (length (take k units)) ∙ length-take-le k units (omega arith))
      ∙ ap (λ (m : ℕ). cond (eqb m name) k (last_named name (length units) 0 (take k units))) (sym is)

  pub after_more : After units (set column u k) (k + 1)
  after_more = record { each = λ name q. by_test name (eqb u name) refl (omega (arith, length-set column u k)) ∙ sym (one_more name) }
    where
      by_test : (name : ℕ) (t : Bool) → eqb u name ≡ t → name < length column
          → get_or (set column u k) name 0 ≡ cond (eqb u name) k (last_named name (length units) 0 (take k units))
      by_test name true e q =
          rw e (ap (λ (i : ℕ). get_or (set column u k) i 0) (sym (eqb-true u name e)) ∙ get_or-set_same column u k 0 inside)
      by_test name false e q =
          rw e (get_or-set_other column u name k 0 (λ z. eqb-false u name e (sym z)) ∙ a.each name q)

pub after_all : (units column : List ℕ) (k : ℕ) → length units ≤ k → After units column k → Numbered column units
unfolding unit_of
after_all units column k h a = record { each = λ name q. a.each name q ∙ ap (last_named name (length units) 0) (take_all k units h) }

-- the number of a unit is at most how many there are
named_le : (name found number m : ℕ) (l : List ℕ) → found ≤ m → number + length l ≤ m → last_named name found number l ≤ m
unfolding last_named
named_le name found number m [] h q = h
named_le name found number m (u ∷ l) h q = named_le name (cond (eqb u name) number found) (suc number) m l (go (eqb u name)) (omega arith)
  where
    go : (t : Bool) → cond t number found ≤ m
    go true = omega arith
    go false = h

pub unit_le : (units : List ℕ) (name : ℕ) → unit_of units name ≤ length units
unfolding unit_of
unit_le units name = named_le name (length units) 0 (length units) units (omega arith) (omega arith)
