-- The splitting end and the alignment of a split, of tables that say the same: symbols below the count, sections below the count, names of these.
-- Each law is shown for tables of one count first (`recounted`), then carried along the equation of the counts. Assumes nothing.
use mathlib.Core.Path.{◌≡◌, refl, ap, ap₂, ◌∙◌}
use mathlib.Core.List.{List, reverse}
use mathlib.Core.Bool.{cond, not, ◌&&◌, ◌||◌}
use Prim.Native.Nat.{ℕ, ◌+◌, ◌<◌}
use lib.Dec.{eqb, ltb}
use Rattle.lists.specs.Outcome.{Outcome, accepted, refuse, ◌>>◌, ◌>>=◌}
use Rattle.lists.specs.Sort.{All, none, each}
use Rattle.obj.specs.declared.Section.{Section}
use Rattle.obj.specs.declared.Symbol.{Symbol}
use Rattle.obj.specs.declared.Split.{Split}
use Rattle.names.specs.Fixed.{is_linker_object, is_pointer_list}
use Rattle.sections.specs.Image.{Image}
use Rattle.sections.specs.Sections.{Sections}
use Rattle.sections.specs.Alignment.{given, larger, default_alignment, alignment_of, alignment_from}
use Rattle.sections.specs.Ends.{object_below, lowered, lowered_end, less_four, splitting_end}
use Rattle.stages_alike.specs.Alike.{SameImages, SameSections}
use Rattle.stages_alike.proofs.Lists.{all_reverse}
use Rattle.symbols.proofs.Finds.{symbols_there}
use Rattle.stages_alike.proofs.Symbols.{symbols_alike, highest_alike}

-- the symbols and names of h, so many of them
abbrev pub recounted : (h : Image) → (count : ℕ) → Image
recounted h count = record { symbol = h.symbol; count = count; name = h.name }

-- the end of a section of this name, before linker objects lower it
abbrev before : Section → (bytes name : List ℕ) → ℕ
before head bytes name = less_four (is_pointer_list name) bytes (head.address + head.size)

module _ (g h : Image) (same : SameImages g h) where
  -- what is shown for tables of one count holds for both
  pub counted : {A : Type 0} (f : Image → A) → f g ≡ f (recounted h g.count) → f g ≡ f h
  counted f e = e ∙ λ i. f (recounted h (same.counts i))

  -- the name of a symbol that is there
  pub symbol_named : (i : ℕ) → i < g.count → g.name (g.symbol i).name ≡ h.name (h.symbol i).name
  symbol_named i b = same.names i b ∙ ap (λ (s : Symbol). h.name s.name) (same.symbols i b)

  -- ---- the splitting end

  lowered_alike : (end : ℕ) {l : List ℕ} → All (λ i. i < g.count) l → lowered g end l ≡ lowered (recounted h g.count) end l
  unfolding lowered
  lowered_alike end none = refl
  lowered_alike end (each {x = i} b all) =
      let s = same.symbols i b in
      let n = symbol_named i b in
      λ k. cond (object_below end (s k)) (cond (is_linker_object (n k)) (lowered_alike (s k).address all k) end) (lowered_alike end all k)

  -- of one section, whose name both have
  end_named : (n : ℕ) (head : Section) (bytes : List ℕ) → g.name head.name ≡ h.name head.name
      → splitting_end g n head bytes ≡ splitting_end (recounted h g.count) n head bytes
  unfolding splitting_end
  end_named n head bytes e = λ k.
      cond (eqb head.kind 3 || eqb head.size 0) (accepted (head.address + head.size))
      (refuse 10 n head.address (is_pointer_list (e k) && ltb head.size 4) >> accepted (end k))
    where
      end : lowered_end g n (before head bytes (g.name head.name)) ≡ lowered_end (recounted h g.count) n (before head bytes (h.name head.name))
      end =
          lowered_alike (before head bytes (g.name head.name)) (all_reverse (symbols_there g.symbol g.count n) none)
          ∙ ap₂ (λ (name : List ℕ) (l : List ℕ). lowered (recounted h g.count) (before head bytes name) (reverse l)) e
          (symbols_alike g.symbol h.symbol g.count same.symbols n)

  -- ---- the alignment of a split

  -- of one section, whose default is the same
  pub alignment_alike : (n least own start end : ℕ) → alignment_of g.symbol g.count n least own start end ≡ alignment_of h.symbol h.count n least own start end
  unfolding alignment_of
  alignment_alike n least own start end =
      counted (λ x. alignment_of x.symbol x.count n least own start end)
      (ap (λ (o : Outcome ℕ). cond (not (eqb own 0)) (accepted (record { value = own; reason = given })) (o >>= λ highest. accepted (larger least highest)))
      (highest_alike g.symbol h.symbol g.count same.symbols n start end))

  module _ (s t : Sections) (sections : SameSections g h s t) where
    -- THEOREM: one splitting end
    pub end_alike : (n : ℕ) → n < s.count → splitting_end g n (s.head n) (s.bytes n) ≡ splitting_end h n (t.head n) (t.bytes n)
    end_alike n b =
        counted (λ x. splitting_end x n (s.head n) (s.bytes n)) (end_named n (s.head n) (s.bytes n) (sections.names n b))
        ∙ ap₂ (splitting_end h n) (sections.heads n b) (sections.bytes n b)

    -- the name of a section that is there
    pub section_named : (n : ℕ) → n < s.count → g.name (s.head n).name ≡ h.name (t.head n).name
    section_named n b = sections.names n b ∙ ap (λ (head : Section). h.name head.name) (sections.heads n b)

    -- its default alignment
    pub default_alike : (n : ℕ) → n < s.count → default_alignment (s.head n) (g.name (s.head n).name) ≡ default_alignment (t.head n) (h.name (t.head n).name)
    default_alike n b = ap₂ default_alignment (sections.heads n b) (section_named n b)

    -- the alignment of a split of section n, which has it or asks its default and its symbols
    pub alignment_in_alike : (n : ℕ) → n < s.count → (own start end : ℕ)
        → alignment_of g.symbol g.count n (default_alignment (s.head n) (g.name (s.head n).name)) own start end
        ≡ alignment_of h.symbol h.count n (default_alignment (t.head n) (h.name (t.head n).name)) own start end
    alignment_in_alike n b own start end =
        alignment_alike n (default_alignment (s.head n) (g.name (s.head n).name)) own start end
        ∙ ap (λ (least : ℕ). alignment_of h.symbol h.count n least own start end) (default_alike n b)

    -- THEOREM: one alignment of a split, asked from `start` on
    pub alignment_from_alike : (start : ℕ) (x : Split) → x.section < s.count → alignment_from g s.head start x ≡ alignment_from h t.head start x
    unfolding alignment_from
    alignment_from_alike start x b = alignment_in_alike x.section b x.alignment start x.end
