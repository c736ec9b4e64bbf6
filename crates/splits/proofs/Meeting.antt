-- What a range holds, from one row in it to the next: an answer so far, or that of the rows that are left, is the answer of the table. Assumes nothing.
use mathlib.Core.Path.{◌≡◌, sym, ap, ◌∙◌}
use mathlib.Core.Bool.{Bool, false, ◌||◌}
use Prim.Native.Nat.{ℕ, ◌+◌, ◌-◌, ◌≤◌, ◌<◌}
use native.Mathlib.Omega.{arith}
use Rattle.std.specs.Prelude.{Option, Some, None, MatchOption}
use Rattle.lists.specs.Rows.{tabulate, some}
use Rattle.lists.proofs.SomeRows.{some_row, some_ended}
use Rattle.obj.specs.declared.Split.{Split}
use Rattle.splits.specs.Columns.{Columns, row_at, rows}
use Rattle.splits.specs.Questions.{FirstPlace}
use Rattle.splits.proofs.Blocks.{some_skip}

abbrev pub LeftOf : Bool → (Split → Bool) → Columns → ℕ → ℕ → Type 0
LeftOf seen p c n i = (seen || some p (tabulate (row_at c) i (n - i))) ≡ some p (rows c n)

-- the next row in the range is i, or there is none
abbrev pub LeftFrom : Bool → (Split → Bool) → Columns → ℕ → Option ℕ → Type 0
LeftFrom seen p c n next = MatchOption next (seen ≡ some p (rows c n)) (LeftOf seen p c n)

-- the rows up to the next one in the range do not count, if what is asked is of rows in the range
module _ (p q : Split → Bool) (within : (y : Split) → p y ≡ false → q y ≡ false) (c : Columns) (n : ℕ) where
  pub left_on : (at : ℕ) (seen : Bool) (r : Option ℕ) → at ≤ n → FirstPlace p c at n r → LeftOf seen q c n at → LeftFrom seen q c n r
  left_on at seen None h none e =
      sym (some_ended q (row_at c) n n seen (omega arith))
      ∙ ap (λ (b : Bool). seen || b) (sym (some_skip q (row_at c) n at n h (omega arith) (λ k l m. within (row_at c k) (none k l m))))
      ∙ e
  left_on at seen (Some i) h s e =
      ap (λ (b : Bool). seen || b) (sym (some_skip q (row_at c) n at i s.past (omega (arith, s.small)) (λ k l m. within (row_at c k) (s.none k l m)))) ∙ e

  -- row i is seen to
  pub left_next : (seen here : Bool) (i : ℕ) (r : Option ℕ) → i < n → q (row_at c i) ≡ here → FirstPlace p c (i + 1) n r → LeftOf seen q c n i
      → LeftFrom (seen || here) q c n r
  left_next seen here i r h e s l =
      left_on (i + 1) (seen || here) r (omega arith) s
      (ap (λ (b : Bool). (seen || b) || some q (tabulate (row_at c) (i + 1) (n - (i + 1)))) (sym e) ∙ some_row q (row_at c) n i seen h ∙ l)
