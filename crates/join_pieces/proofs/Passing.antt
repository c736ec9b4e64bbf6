-- A pass over n pieces, one after another: what is left at piece i, which starts at `at`. Assumes nothing.
use mathlib.Core.Path.{◌≡◌, sym, ap, subst, ◌∙◌}
use mathlib.Core.List.{List}
use mathlib.Core.Bool.{Bool, true, false}
use Prim.Native.Nat.{ℕ, ◌+◌, ◌-◌, ◌≤◌, ◌<◌}
use Rattle.lists.specs.Rows.{some}
use Rattle.obj.specs.Parts.{Part}
use Rattle.piece_records.specs.Records.{part_at, next_at, parts_at, Whole}
use Rattle.piece_records.proofs.Laws.{parts-start, whole_start, whole_turn, none_turn, some_hit, some_miss, some_ended}
use Rattle.join_pieces.specs.Joins.{Among}

-- the pieces that are left are whole, and what none of all passes none of them passes
pub record Passing (n : ℕ) (b : List ℕ) (at i : ℕ) : Type 0 where
  pub whole : Whole (n - i) b at
  pub within : (p : Part → Bool) → some p (parts_at n b 0) ≡ false → some p (parts_at (n - i) b at) ≡ false

module _ (n : ℕ) (b : List ℕ) where
  pub pass_start : Whole n b 0 → Passing n b 0 0
  pass_start w = record { whole = whole_start _ _ w; within = λ p e. ap (some p) (parts-start b n) ∙ e }

  module _ (at i : ℕ) (h : i < n) (s : Passing n b at i) where
    pub pass_among : Among n b at
    pass_among = record { lying = (whole_turn _ _ _ _ h s.whole).0; one = λ p e. (none_turn _ _ _ _ _ h (s.within p e)).0 }

    -- the next piece starts at k
    pub pass_turn : (k : ℕ) → k ≡ next_at b at → Passing n b k (i + 1)
    pass_turn k e =
        subst (λ (x : ℕ). Passing n b x (i + 1)) (sym e)
        (record { whole = (whole_turn _ _ _ _ h s.whole).1; within = λ p q. (none_turn _ _ _ _ _ h (s.within p q)).1 })

-- looking for a piece that passes p among those that are left is looking among all
module _ (p : Part → Bool) (n : ℕ) (b : List ℕ) where
  pub left_start : some p (parts_at (n - 0) b 0) ≡ some p (parts_at n b 0)
  left_start = ap (some p) (parts-start b n)

  module _ (at i : ℕ) (same : some p (parts_at (n - i) b at) ≡ some p (parts_at n b 0)) where
    pub left_hit : i < n → (r : Bool) → r ≡ true → r ≡ p (part_at b at) → true ≡ some p (parts_at n b 0)
    left_hit h r t e = sym (some_hit p b at i n h (sym e ∙ t)) ∙ same

    pub left_miss : i < n → (r : Bool) → r ≡ false → r ≡ p (part_at b at) → (k : ℕ) → k ≡ next_at b at
        → some p (parts_at (n - (i + 1)) b k) ≡ some p (parts_at n b 0)
    left_miss h r t e k q = ap (λ (x : ℕ). some p (parts_at (n - (i + 1)) b x)) q ∙ sym (some_miss p b at i n h (sym e ∙ t)) ∙ same

    pub left_ended : n ≤ i → false ≡ some p (parts_at n b 0)
    left_ended h = sym (some_ended p b at i n h) ∙ same
