-- From one row that passes to the next one, until there is none. Assumes nothing.
use mathlib.Core.Path.{◌≡◌, sym, ◌∙◌}
use mathlib.Core.Bool.{Bool, true, false, cond, false≢true}
use mathlib.Core.List.{List}
use Prim.Native.Nat.{ℕ, ◌+◌, ◌-◌, ◌≤◌, ◌<◌}
use native.Mathlib.Omega.{arith}
use lib.Dec.{ltb}
use lib.ListN.{get_or}
use borrow.Author.Tests.{lt-ltb, le-ltb}
use Rattle.std.specs.Prelude.{Option, Some, None, MatchOption, IfSome, is_some, unwrap_or}
use Rattle.obj.specs.declared.Split.{Split}
use Rattle.splits.specs.Columns.{Columns, row_at}
use Rattle.splits.specs.Questions.{NonePasses, FirstPlace, Hit, start_of}
use Rattle.splits.proofs.Blocks.{first_hit}

-- the next row passes, if there is one
abbrev pub NextIn : (Split → Bool) → Columns → ℕ → Option ℕ → Type 0
NextIn p c n next = MatchOption next (Unit {0}) (λ i. (i < n) × (p (row_at c i) ≡ true))

pub next_in : (p : Split → Bool) (c : Columns) (n at : ℕ) (r : Option ℕ) → FirstPlace p c at n r → NextIn p c n r
next_in p c n at None none = tt
next_in p c n at (Some i) s = (s.small, s.passes)

-- fewer rows are left
pub fewer_left : (p : Split → Bool) (c : Columns) (n i : ℕ) (r : Option ℕ) → i < n → FirstPlace p c (i + 1) n r → n - unwrap_or r n < n - i
fewer_left p c n i None h none = omega arith
fewer_left p c n i (Some j) h s = omega (arith, s.past, s.small)

-- none of the rows up to the next one passes
pub none_before : (p : Split → Bool) (c : Columns) (n at : ℕ) (r : Option ℕ) → at ≤ n → FirstPlace p c at n r
    → (at ≤ unwrap_or r n) × (unwrap_or r n ≤ n) × NonePasses p c at (unwrap_or r n)
none_before p c n at None h none = (h, omega arith, none)
none_before p c n at (Some i) h s = (s.past, omega (arith, s.small), s.none)

-- there is none
pub none_left : (p : Split → Bool) (c : Columns) (n at : ℕ) (r : Option ℕ) → is_some r ≡ false → FirstPlace p c at n r → NonePasses p c at n
none_left p c n at None e none = none
none_left p c n at (Some i) e s = absurd (false≢true (sym e))

-- columns of which each row passes where the other's does
pub same_places : (p : Split → Bool) (c d : Columns) (at n : ℕ) → ((k : ℕ) → p (row_at c k) ≡ p (row_at d k)) → (r : Option ℕ) → FirstPlace p c at n r → FirstPlace p d at n r
same_places p c d at n e None none = λ k h l. sym (e k) ∙ none k h l
same_places p c d at n e (Some i) s = record { past = s.past; small = s.small; none = λ k h l. sym (e k) ∙ s.none k h l; passes = sym (e i) ∙ s.passes }

-- the rows that pass begin with the next one
pub hit_next : (p : Split → Bool) (c : Columns) (n at : ℕ) (r : Option ℕ) → at ≤ n → FirstPlace p c at n r → Hit p c n at (unwrap_or r n)
hit_next p c n at None h none = first_hit p c n at None h none
hit_next p c n at (Some i) h s = (first_hit p c n at (Some i) h s).0

-- it is a row, where there is one
pub next_small : (p : Split → Bool) (c : Columns) (n at : ℕ) (r : Option ℕ) → FirstPlace p c at n r → IfSome r (λ i. i < n)
next_small p c n at None none = tt
next_small p c n at (Some i) s = s.small

-- where it starts, by its place
pub start_there : (starts : List ℕ) (end n : ℕ) (r : Option ℕ) → IfSome r (λ i. i < n) → start_of starts end r ≡ cond (ltb (unwrap_or r n) n) (get_or starts (unwrap_or r n) 0) end
start_there starts end n (Some i) h = rw (lt-ltb i n h)
start_there starts end n None h = rw (le-ltb n n (omega arith))
