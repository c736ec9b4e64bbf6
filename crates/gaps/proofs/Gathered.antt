-- Gaps that enter one after another, `into`: what is found later enters after what is found first, and as all start where gaps may start there is room.
-- Assumes nothing.
use mathlib.Core.Path.{◌≡◌, refl, sym, ap, ◌∙◌}
use mathlib.Core.List.{List, [], ◌++◌}
use Prim.Native.Nat.{ℕ, ◌≤◌}
use lib.ListN.{length}
use Rattle.lists.specs.Outcome.{Outcome, accepted, refused, ◌>>=◌}
use Rattle.lists.specs.Sort.{All, none, each, Rising}
use Rattle.lists.specs.Members.{In}
use Rattle.lists.proofs.Outcomes.{not_both}
use Rattle.gap_columns.specs.Columns.{Gap, key_of, placed, in_order}
use Rattle.gap_columns.proofs.Placed.{all_placed, rising_placed, in_append}
use Rattle.gaps.specs.Gaps.{into}
use Rattle.gaps.specs.Found.{Gathered}
use Rattle.gaps.proofs.Few.{rising_few}

-- ---- gathered gaps
module _ (room : List ℕ) where
  pub gathered_none : Gathered room []
  unfolding Rising
  gathered_none = record { rising = tt; among = none }

  pub gathered_placed : (x : Gap) (l : List Gap) → In (key_of x) room → Gathered room l → Gathered room (placed x l)
  gathered_placed x l i g = record { rising = rising_placed x l g.rising; among = all_placed x i g.among }

  pub gathered_few : (l : List Gap) → Gathered room l → length l ≤ length room
  gathered_few l g = rising_few key_of l room g.rising g.among

  gathered_in : (before : List Gap) {gaps : List Gap} → Gathered room before → All (λ x. In (key_of x) room) gaps → Gathered room (in_order before gaps)
  unfolding in_order
  gathered_in before g none = g
  gathered_in before g (each {x} i p) = gathered_in (placed x before) (gathered_placed x before i g) p

-- ---- one after another
module _ (before : List Gap) where
  -- what is found first has entered: what is left enters after it
  pub into_more : (s t : Outcome (List Gap)) (l : List Gap) → into before s ≡ accepted l → into before (s >>= λ gaps. t >>= λ more. accepted (gaps ++ more)) ≡ into l t
  unfolding into ◌>>=◌
  into_more (accepted s) (accepted t) l e = ap accepted (in_append before s t ∙ ap (λ (m : List Gap). in_order m t) (let z : in_order before s ≡ l = cc in z))
  into_more (accepted s) (refused x y z) l e = refl
  into_more (refused x y z) t l e = absurd (not_both e)

  -- a refusal stands
  pub into-stops : (x y z : ℕ) → into before (refused x y z) ≡ refused x y z
  unfolding into ◌>>=◌
  into-stops x y z = refl

  pub into_refused : (s t : Outcome (List Gap)) (x y z : ℕ) → into before s ≡ refused x y z → into before (s >>= λ gaps. t >>= λ more. accepted (gaps ++ more)) ≡ refused x y z
  unfolding into ◌>>=◌
  into_refused (accepted s) t x y z e = absurd (not_both (sym e))
  into_refused (refused a b c) t x y z e = e

  pub into-none : into before (accepted []) ≡ accepted before
  unfolding into in_order ◌>>=◌
  into-none = refl

  pub into_gathered : (room : List ℕ) (s : Outcome (List Gap)) (l : List Gap) → Gathered room before → ((gaps : List Gap) → s ≡ accepted gaps → All (λ x. In (key_of x) room) gaps)
      → into before s ≡ accepted l → Gathered room l
  unfolding into ◌>>=◌
  into_gathered room (accepted gaps) l g f e = rw (let z : l ≡ in_order before gaps = cc in z) (gathered_in room before g (f gaps refl))
  into_gathered room (refused x y z) l g f e = absurd (not_both e)
