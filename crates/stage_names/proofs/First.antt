-- The fronts of name columns: they are names, and the same ones. Assumes nothing.
use Prim.Native.Nat.{ℕ, ◌<◌}
use mathlib.Core.Path.{◌≡◌, sym, ap, ◌∙◌}
use mathlib.Core.List.{List}
use native.Mathlib.Nat.{zero-add}
use native.Mathlib.Omega.{arith}
use lib.ListN.{length, take}
use lib.Seq.{get_or-take, length-take-le}
use Rattle.lists.proofs.Rows.{tabulate_ext}
use Rattle.names.specs.Names.{name_at, names_of, Named}

module _ (bytes places lengths : List ℕ) (n : ℕ) (s : Named bytes places lengths n) where
  placed : length (take n places) ≡ n
  placed = length-take-le _ _ s.placed

  measured : length (take n lengths) ≡ n
  measured = length-take-le _ _ s.measured

  pub first_named : Named bytes (take n places) (take n lengths) (length (take n places))
  first_named = record {
    placed = omega arith;
    measured = rw (placed, measured) (omega arith);
    inside = λ k h. let q : k < n = rw placed at h in rw (get_or-take _ places k 0 q, get_or-take _ lengths k 0 q) (s.inside k q);
  }

  name_same : (k : ℕ) → k < n → name_at bytes (take n places) (take n lengths) k ≡ name_at bytes places lengths k
  unfolding name_at
  name_same k h = rw (get_or-take _ places k 0 h, get_or-take _ lengths k 0 h)

  pub first_are : names_of bytes (take n places) (take n lengths) (length (take n places)) ≡ names_of bytes places lengths n
  unfolding names_of
  first_are =
      ap (names_of bytes (take n places) (take n lengths)) placed
      ∙ tabulate_ext _ _ 0 0 n (λ k h. ap (name_at bytes (take n places) (take n lengths)) (zero-add k) ∙ name_same k h ∙ ap (name_at bytes places lengths) (sym (zero-add k)))
