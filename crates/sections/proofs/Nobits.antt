-- Sections of kind 3, which hold no bytes (NOBITS of the System V ABI): no image and no name has a say in their splitting end, it is
-- address plus size and never 10, and no byte of theirs is other than zero. Assumes nothing.
use mathlib.Core.Path.{◌≡◌, refl, sym, ap, ◌∙◌}
use mathlib.Core.List.{List, []}
use mathlib.Core.Bool.{Bool, true, false, false≢true}
use Prim.Native.Nat.{ℕ, ◌+◌, zero-le}
use lib.Dec.{eqb}
use borrow.Author.Tests.{eq-eqb, eqb-true}
use Rattle.lists.specs.Outcome.{accepted}
use Rattle.obj.specs.declared.Section.{Section}
use Rattle.sections.specs.Image.{Image}
use Rattle.sections.specs.Bytes.{bytes_of, zero_between}
use Rattle.sections.specs.Ends.{splitting_end}
use Rattle.sections.proofs.Zero.{zero_past}

module _ (n : ℕ) (head : Section) (nobits : head.kind ≡ 3) where
  pub nobits_end : (g : Image) (bytes : List ℕ) → splitting_end g n head bytes ≡ accepted (head.address + head.size)
  unfolding splitting_end
  nobits_end g bytes = rw (eq-eqb head.kind 3 nobits)

  pub nobits_bytes : (image places : List ℕ) → bytes_of image places n head ≡ []
  unfolding bytes_of
  nobits_bytes image places = rw (eq-eqb head.kind 3 nobits)

  -- so 73 never comes of it
  pub nobits_zero : (image places : List ℕ) (from to : ℕ) → zero_between (bytes_of image places n head) from to ≡ true
  nobits_zero image places from to = ap (λ (l : List ℕ). zero_between l from to) (nobits_bytes image places) ∙ zero_past [] from to zero-le

-- two images that differ in no byte of a section that holds bytes have the same splitting end there
pub end_alike : (g : Image) (n : ℕ) (head : Section) (image other places : List ℕ)
    → ((head.kind ≡ 3 → ⊥) → bytes_of image places n head ≡ bytes_of other places n head)
    → splitting_end g n head (bytes_of image places n head) ≡ splitting_end g n head (bytes_of other places n head)
end_alike g n head image other places same = go (eqb head.kind 3) refl
  where
    go : (t : Bool) → eqb head.kind 3 ≡ t → splitting_end g n head (bytes_of image places n head) ≡ splitting_end g n head (bytes_of other places n head)
    go true e = let q = eqb-true head.kind 3 e in nobits_end n head q g _ ∙ sym (nobits_end n head q g _)
    go false e = ap (splitting_end g n head) (same (λ q. false≢true (sym e ∙ eq-eqb head.kind 3 q)))
