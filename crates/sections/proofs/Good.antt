-- A split's alignment is good, whichever it is: the given one, the default, or a symbol's. So an address below 0xF0000000 can be aligned up by it.
-- Assumes nothing.
use mathlib.Core.Path.{◌≡◌, refl, sym, ap, ◌∙◌}
use mathlib.Core.List.{List}
use mathlib.Core.Bool.{Bool, true, false, cond, not, ◌||◌}
use mathlib.Core.Logic.{◌⊎◌, inl, inr}
use Prim.Native.Nat.{ℕ, max}
use native.Mathlib.Omega.{arith}
use borrow.Author.Tests.{eqb-true, eqb-false}
use lib.Dec.{eqb}
use Rattle.lists.specs.Outcome.{accepted, ◌>>=◌}
use Rattle.lists.proofs.Outcomes.{same_accepted, bind_inv}
use Rattle.lists.proofs.Compare.{one_of_two}
use Rattle.align.specs.Align.{good_align, bad_align}
use Rattle.align.proofs.Laws.{not_bad}
use Rattle.align.proofs.Theorems.{good_is}
use Rattle.obj.specs.declared.Section.{Section}
use Rattle.obj.specs.declared.Symbol.{Symbol}
use Rattle.obj.specs.declared.Split.{Split}
use Rattle.names.specs.Fixed.{is_four_aligned}
use Rattle.symbols.specs.Ranges.{highest_in}
use Rattle.symbols.specs.Sound.{Sound}
use Rattle.symbols.proofs.Finds.{in_highest}
use Rattle.sections.specs.Image.{Image}
use Rattle.sections.specs.Alignment.{Chosen, given, default_alignment, larger, alignment_of, alignment_from}

-- 4 and 8
pub default_good : (head : Section) (name : List ℕ) → good_align (default_alignment head name) ≡ true
unfolding default_alignment
default_good head name = go (eqb head.kind 0 || is_four_aligned name)
  where
    go : (t : Bool) → good_align (cond t 4 8) ≡ true
    go true = (good_is 4).1 (2, omega arith, refl)
    go false = (good_is 8).1 (3, omega arith, refl)

larger_good : (least highest : ℕ) → good_align least ≡ true → bad_align highest ≡ false → good_align (larger least highest).value ≡ true
unfolding larger
larger_good least highest good h = go (eqb highest 0) refl
  where
    one : (max least highest ≡ least) ⊎ (max least highest ≡ highest) → good_align highest ≡ true → good_align (max least highest) ≡ true
    one (inl e) g = ap good_align e ∙ good
    one (inr e) g = ap good_align e ∙ g

    go : (t : Bool) → eqb highest 0 ≡ t → good_align (max least highest) ≡ true
    go true e = let z = eqb-true highest 0 e in ap good_align (let m : max least highest ≡ least = omega arith in m) ∙ good
    go false e = one (one_of_two least highest) (not_bad highest h (eqb-false highest 0 e))

pub chosen_good : (symbol : ℕ → Symbol) (count n least own start end : ℕ) → Sound symbol count → good_align least ≡ true → bad_align own ≡ false
    → (c : Chosen) → alignment_of symbol count n least own start end ≡ accepted c → good_align c.value ≡ true
unfolding alignment_of
chosen_good symbol count n least own start end sound good h c is = go (eqb own 0) refl is
  where
    go : (t : Bool) → eqb own 0 ≡ t
        → cond (not t) (accepted (record { value = own; reason = given })) (highest_in symbol count n start end >>= λ highest. accepted (larger least highest)) ≡ accepted c
        → good_align c.value ≡ true
    go true e q =
        let p = bind_inv (highest_in symbol count n start end) (λ highest. accepted (larger least highest)) c q in
        ap (λ (x : Chosen). good_align x.value) (sym (same_accepted p.2)) ∙ larger_good least p.0 good (in_highest symbol count n start end sound p.0 p.1)
    go false e q = ap (λ (x : Chosen). good_align x.value) (sym (same_accepted q)) ∙ not_bad own h (eqb-false own 0 e)

-- the alignment of a split of a table
pub from_good : (g : Image) (head : ℕ → Section) (start : ℕ) (s : Split) → Sound g.symbol g.count → bad_align s.alignment ≡ false
    → (c : Chosen) → alignment_from g head start s ≡ accepted c → good_align c.value ≡ true
unfolding alignment_from
from_good g head start s sound h c is =
    chosen_good g.symbol g.count s.section _ s.alignment start s.end sound (default_good (head s.section) (g.name (head s.section).name)) h c is
