-- The check of a split table, of symbols that agree below the count: the symbols that it looks at are there. Assumes nothing.
use mathlib.Core.Path.{◌≡◌, refl, ap, ◌∙◌}
use mathlib.Core.List.{List, [], ◌∷◌}
use mathlib.Core.Bool.{false, ◌&&◌, ◌||◌}
use Prim.Native.Nat.{ℕ, ◌+◌, ◌<◌}
use lib.Dec.{eqb, ltb}
use Rattle.lists.specs.Outcome.{accepted, refuse, ◌>>◌}
use Rattle.obj.specs.declared.Symbol.{Symbol}
use Rattle.obj.specs.declared.Split.{Split}
use Rattle.symbols.specs.Ranges.{last_below}
use Rattle.std.specs.Prelude.{Option, Some, None}
use Rattle.symbols.proofs.Finds.{below-found}
use Rattle.sections.specs.Image.{Image}
use Rattle.validate.specs.Check.{end_of, end_below, validate_one, validate_from, validate}
use Rattle.stages_alike.specs.Alike.{SameImages}
use Rattle.stages_alike.proofs.Symbols.{last_below_alike}
use Rattle.stages_alike.proofs.Sections.{counted}

module _ (y z : ℕ → Symbol) (count : ℕ) (same : (i : ℕ) → i < count → y i ≡ z i) where
  end_of_lem : (f : Option ℕ) → ((i : ℕ) → f ≡ Some i → i < count) → end_of y count f ≡ end_of z count f
  unfolding end_of
  end_of_lem (Some i) there = ap (λ (s : Symbol). s.address + s.size) (same i (there i refl))
  end_of_lem None there = refl

  end_below_alike : (n address : ℕ) → end_below y count n address ≡ end_below z count n address
  end_below_alike n address = end_of_lem (last_below y count n false address) (below-found y count n false address) ∙ ap (end_of z count) (last_below_alike y z count same n false address)

  one_alike : (before last : ℕ) (s : Split) → validate_one y count before last s ≡ validate_one z count before last s
  unfolding validate_one
  one_alike before last s = λ k. do
    refuse 50 s.section s.start (eqb s.section before && ltb s.start last)
    refuse 51 s.section s.start (eqb s.end 0 || ltb s.end s.start)
    refuse 52 s.section s.start (ltb s.start (end_below_alike s.section s.start k))
    refuse 53 s.section s.start (ltb s.end (end_below_alike s.section s.end k))
    accepted tt

  from_alike : (before last : ℕ) (rows : List Split) → validate_from y count before last rows ≡ validate_from z count before last rows
  unfolding validate_from
  from_alike before last [] = refl
  from_alike before last (s ∷ rows) = λ k. one_alike before last s k >> from_alike s.section s.end rows k

  -- THEOREM: the same splits pass, or the same refusal comes
  pub validate_alike : (rows : List Split) → validate y count rows ≡ validate z count rows
  unfolding validate
  validate_alike rows = from_alike 0 0 rows

-- .. of two images
pub validate_images : (g h : Image) → SameImages g h → (rows : List Split) → validate g.symbol g.count rows ≡ validate h.symbol h.count rows
validate_images g h same rows =
    counted g h same (λ x. validate x.symbol x.count rows) (validate_alike g.symbol h.symbol g.count same.symbols rows)
