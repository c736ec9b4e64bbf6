-- The larger of the default and the highest alignment of symbols, with its reason; and the ways in which a split's alignment is found.
-- Assumes nothing.
use mathlib.Core.Path.{◌≡◌, sym, ap, ap₂}
use mathlib.Core.Bool.{Bool, cond}
use Prim.Native.Nat.{ℕ, ◌≤◌, ◌<◌, max}
use native.Mathlib.Omega.{arith}
use borrow.Author.Tests.{lt-ltb, le-ltb, eq-eqb, ne_eqb}
use Rattle.lists.specs.Outcome.{Outcome, accepted, refused, ◌>>=◌}
use Rattle.obj.specs.declared.Symbol.{Symbol}
use Rattle.symbols.specs.Ranges.{highest_in}
use Rattle.sections.specs.Alignment.{Reason, given, symbol, default, Chosen, larger, alignment_of}

abbrev chosen : ℕ → Reason → Chosen
chosen a why = record { value = a; reason = why }

pub larger_symbol : (least highest : ℕ) → least < highest → chosen highest symbol ≡ larger least highest
unfolding larger
larger_symbol least highest h = ap₂ chosen (let e : highest ≡ max least highest = omega arith in e) (sym (ap (λ (t : Bool). cond t symbol default) (lt-ltb _ _ h)))

pub larger_default : (least highest : ℕ) → highest ≤ least → chosen least default ≡ larger least highest
unfolding larger
larger_default least highest h = ap₂ chosen (let e : least ≡ max least highest = omega arith in e) (sym (ap (λ (t : Bool). cond t symbol default) (le-ltb _ _ h)))

module _ (y : ℕ → Symbol) (count n least own start end : ℕ) where
  pub its_own : (own ≡ 0 → ⊥) → accepted (chosen own given) ≡ alignment_of y count n least own start end
  unfolding alignment_of
  its_own h = rw (ne_eqb own 0 h)

  -- none is given: what the symbols say decides
  pub by_symbols : own ≡ 0 → (highest : ℕ) → accepted highest ≡ highest_in y count n start end → accepted (larger least highest) ≡ alignment_of y count n least own start end
  unfolding alignment_of ◌>>=◌
  by_symbols h highest e = rw (eq-eqb own 0 h) (ap (λ (m : Outcome ℕ). m >>= λ found. accepted (larger least found)) e)

  pub backwards_asked : own ≡ 0 → refused 11 n start ≡ highest_in y count n start end → refused 11 n start ≡ alignment_of y count n least own start end
  unfolding alignment_of ◌>>=◌
  backwards_asked h e = rw (eq-eqb own 0 h) (ap (λ (m : Outcome ℕ). m >>= λ found. accepted (larger least found)) e)
