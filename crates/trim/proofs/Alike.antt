-- Two columns of places that agree on the sections that are there: their trims agree, since a section's bytes are asked at its own place alone.
-- Assumes nothing.
use mathlib.Core.Path.{◌≡◌, refl, ap, ◌∙◌}
use mathlib.Core.List.{List}
use Prim.Native.Nat.{ℕ, zero, suc, ◌+◌, ◌≤◌, ◌<◌}
use native.Mathlib.Omega.{arith}
use lib.ListN.{length, get_or}
use Rattle.lists.specs.Outcome.{Outcome, ◌>>=◌}
use Rattle.lists.proofs.Binds.{onward}
use Rattle.obj.specs.declared.Split.{Split}
use Rattle.sections.specs.Image.{Image}
use Rattle.sections.specs.Sections.{sections_of}
use Rattle.sections.proofs.Laws.{bytes_as}
use Rattle.trim.specs.Trim.{falls_of, carry_from, cut_section, cut_from, trimmed}

module _ (g : Image) (heads head_places image I J : List ℕ) (same : (n : ℕ) → n < length head_places → get_or I n 0 ≡ get_or J n 0) where
  section_alike : (n : ℕ) (l : List Split) → n < length head_places
      → cut_section g (sections_of heads head_places image I) n l ≡ cut_section g (sections_of heads head_places image J) n l
  unfolding cut_section
  section_alike n l h =
      ap (λ (bytes : List ℕ). cut_section g (record { count = length head_places; head = (sections_of heads head_places image I).head; bytes = λ k. bytes }) n l)
      (bytes_as image I J n ((sections_of heads head_places image I).head n) (same n h))

  from_alike : (k n : ℕ) (l : List Split) → n + k ≤ length head_places
      → cut_from g (sections_of heads head_places image I) k n l ≡ cut_from g (sections_of heads head_places image J) k n l
  unfolding cut_from
  from_alike zero n l h = refl
  from_alike (suc k) n l h =
      ap (λ (m : Outcome (List Split)). m >>= cut_from g (sections_of heads head_places image I) k (suc n)) (section_alike n l (omega arith))
      ∙ onward (cut_section g (sections_of heads head_places image J) n l) _ _ (λ m. from_alike k (suc n) m (omega arith))

  pub trim_alike : (rows : List Split) → trimmed g (sections_of heads head_places image I) rows ≡ trimmed g (sections_of heads head_places image J) rows
  unfolding trimmed
  trim_alike rows =
      onward (falls_of g (sections_of heads head_places image I).head rows) _ _
      (λ falls. onward (carry_from 0 falls rows) _ _ (λ fallen. from_alike (length head_places) 0 fallen (omega arith)))
