-- The records of a stage table lie at the multiples of their length; a record's number as an address has 32 bits. Assumes nothing.
use Prim.Native.Nat.{ℕ, ◌*◌, ◌<◌}
use mathlib.Core.Path.{◌≡◌, refl, ap, ◌∙◌}
use mathlib.Core.Bool.{Bool, true, false, cond}
use native.Mathlib.Nat.{zero-add}
use native.Mathlib.Omega.{arith}
use borrow.Author.Tests.{ltb-true}
use lib.Dec.{ltb}
use lib.ListN.{length, get_or}
use Rattle.lists.proofs.Rows.{get_d_tabulate, length-tabulate}
use Rattle.obj.specs.Answers.{place}
use Rattle.obj.specs.Records.{stage_places}

module _ (width count : ℕ) where
  pub length-stage_places : length (stage_places width count) ≡ count
  unfolding stage_places
  length-stage_places = length-tabulate (λ k. width * k) 0 count

  pub stage_place : (k : ℕ) → k < count → get_or (stage_places width count) k 0 ≡ width * k
  unfolding stage_places
  stage_place k h = get_d_tabulate (λ k. width * k) 0 count k 0 h ∙ ap (λ (i : ℕ). width * i) (zero-add k)

pub place_small : (k : ℕ) → place k < 4294967296
place_small k = by_test (ltb k 4294967296) refl
  where
    by_test : (t : Bool) → ltb k 4294967296 ≡ t → cond t k 4294967295 < 4294967296
    by_test true e = ltb-true k 4294967296 e
    by_test false e = omega arith
