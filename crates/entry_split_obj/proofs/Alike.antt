-- Two columns of places that agree on the sections that are there: their walks agree, since a section's bytes are asked at its own place alone.
-- Assumes nothing.
use mathlib.Core.Path.{◌≡◌, refl, ap, ◌∙◌}
use mathlib.Core.List.{List, [], ◌∷◌}
use Prim.Native.Nat.{ℕ, zero, suc, ◌+◌, ◌≤◌, ◌<◌}
use native.Mathlib.Omega.{arith}
use mathlib.Core.Bool.{cond}
use lib.Dec.{ltb}
use lib.ListN.{length, get_or}
use Rattle.lists.specs.Rows.{keep_if}
use Rattle.lists.specs.Outcome.{Outcome, accepted, ◌>>=◌}
use Rattle.lists.proofs.Binds.{onward}
use Rattle.obj.specs.declared.Reloc.{Reloc}
use Rattle.obj.specs.declared.Split.{Split}
use Rattle.sections.specs.Image.{Image}
use Rattle.sections.specs.Bytes.{bytes_of}
use Rattle.sections.specs.Ends.{splitting_end}
use Rattle.sections.specs.Sections.{head_of, sections_of}
use Rattle.sections.proofs.Laws.{bytes_as}
use Rattle.splits.specs.Questions.{within, next_start}
use Rattle.pieces.specs.declared.Counts.{Counts}
use Rattle.walk.specs.Walk.{Input, Output, given, on_aligned, on_kept, on_split, walk_splits, walk_section, walk_sections, walk, nothing}
use Rattle.walk.specs.Giving.{input_of}

module _ (g : Image) (heads head_places image : List ℕ) (reloc : ℕ → Reloc) (relocs : ℕ) (splits : List Split) (units : List ℕ) (room : Counts) where
  abbrev input : List ℕ → Input
  input I = input_of g (sections_of heads head_places image I) reloc relocs splits units room

  -- with these bytes in each section
  abbrev with_bytes : List ℕ → Input
  with_bytes bytes = input_of g (record { count = length head_places; head = head_of heads head_places; bytes = λ k. bytes }) reloc relocs splits units room

  module _ (I J : List ℕ) (n : ℕ) (same : get_or I n 0 ≡ get_or J n 0) where
    bytes : bytes_of image I n (head_of heads head_places n) ≡ bytes_of image J n (head_of heads head_places n)
    bytes = bytes_as image I J n (head_of heads head_places n) same

    split_alike : (current next : ℕ) (s : Split) (out : Output) → on_split (input I) n current next s out ≡ on_split (input J) n current next s out
    unfolding on_split on_kept on_aligned given
    split_alike current next s out = ap (λ (b : List ℕ). on_split (with_bytes b) n current next s out) bytes

    splits_alike : (end current : ℕ) (out : Output) (l : List Split) → walk_splits (input I) n end current out l ≡ walk_splits (input J) n end current out l
    unfolding walk_splits
    splits_alike end current out [] = refl
    splits_alike end current out (s ∷ l) =
        ap (λ (m : Outcome Output). cond (ltb current end) m (accepted out))
        (ap (λ (m : Outcome Output). m >>= λ o. walk_splits (input I) n end (next_start end l) o l) (split_alike current (next_start end l) s out)
        ∙ onward (on_split (input J) n current (next_start end l) s out) _ _ (λ o. splits_alike end (next_start end l) o l))

    section_alike : (out : Output) → walk_section (input I) n out ≡ walk_section (input J) n out
    unfolding walk_section
    section_alike out =
        let low = (head_of heads head_places n).address in
        ap (λ (b : List ℕ). splitting_end g n (head_of heads head_places n) b >>= λ end. walk_splits (input I) n end low out (keep_if (within n low end) splits)) bytes
        ∙ onward (splitting_end g n (head_of heads head_places n) (bytes_of image J n (head_of heads head_places n))) _ _ (λ end. splits_alike end low out (keep_if (within n low end) splits))

  module _ (I J : List ℕ) (same : (n : ℕ) → n < length head_places → get_or I n 0 ≡ get_or J n 0) where
    pub sections_alike : (more n : ℕ) (out : Output) → n + more ≤ length head_places → walk_sections (input I) n more out ≡ walk_sections (input J) n more out
    unfolding walk_sections
    sections_alike zero n out h = refl
    sections_alike (suc more) n out h =
        ap (λ (m : Outcome Output). m >>= walk_sections (input I) (suc n) more) (section_alike I J n (same n (omega arith)) out)
        ∙ onward (walk_section (input J) n out) _ _ (λ o. sections_alike more (suc n) o (omega arith))

    pub walk_alike : walk (input I) ≡ walk (input J)
    unfolding walk
    walk_alike = sections_alike (length head_places) 0 nothing (omega arith)
