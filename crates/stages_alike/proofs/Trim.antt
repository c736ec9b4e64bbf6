-- The trim, of tables that say the same, for splits of sections that are there: the falls ask a section's default and symbols that are there, the cut a
-- section's end. Assumes nothing.
use mathlib.Core.Path.{◌≡◌, refl, ap, ◌∙◌}
use mathlib.Core.List.{List, ◌∷◌}
use mathlib.Core.Bool.{cond}
use Prim.Native.Nat.{ℕ, zero, suc, ◌+◌, ◌≤◌, ◌<◌}
use native.Mathlib.Omega.{arith}
use lib.Dec.{eqb, ltb}
use Rattle.lists.specs.Outcome.{Outcome, accepted, ◌>>◌, ◌>>=◌}
use Rattle.lists.specs.Sort.{All, none, each}
use Rattle.align.specs.Align.{align_up}
use Rattle.obj.specs.declared.Symbol.{Symbol}
use Rattle.obj.specs.declared.Split.{Split}
use Rattle.symbols.specs.Ranges.{last_in}
use Rattle.std.specs.Prelude.{Option, Some, None}
use Rattle.symbols.proofs.Finds.{in_found}
use Rattle.sections.specs.Image.{Image}
use Rattle.sections.specs.Sections.{Sections}
use Rattle.sections.specs.Alignment.{alignment_from}
use Rattle.trim.specs.Trim.{end_of, ask_next, aligned_end, fall_of, falls_of, carry_from, cut_last, cut_section, cut_from, trimmed}
use Rattle.stages_alike.specs.Alike.{SameImages, SameSections}
use Rattle.stages_alike.proofs.Lists.{bind_when}
use Rattle.stages_alike.proofs.Symbols.{last_alike}
use Rattle.stages_alike.proofs.Sections.{counted, end_alike, alignment_from_alike}

module _ (g h : Image) (same : SameImages g h) (s t : Sections) (sections : SameSections g h s t) where
  -- ---- the falls

  -- where the symbol ends that is found in a split
  end_of_lem : (x : Split) (found : Option ℕ) → last_in g.symbol g.count x.section x.start x.end ≡ accepted found
      → end_of g.symbol x.end found ≡ end_of h.symbol x.end found
  unfolding end_of
  end_of_lem x (Some i) e = ap (λ (y : Symbol). y.address + y.size) (same.symbols i (in_found g.symbol g.count x.section x.start x.end i e).there)
  end_of_lem x None e = refl

  aligned_alike : (x : Split) → x.section < s.count → aligned_end g s.head x ≡ aligned_end h t.head x
  unfolding aligned_end
  aligned_alike x b =
      bind_when (last_in g.symbol g.count x.section x.start x.end) _ rest
      (λ found e k. alignment_from_alike g h same s t sections x.start x b k >>= λ chosen. accepted (align_up (end_of_lem x found e k) chosen.value))
      ∙ ap (λ (o : Outcome (Option ℕ)). o >>= rest)
      (counted g h same (λ y. last_in y.symbol y.count x.section x.start x.end)
      (last_alike g.symbol h.symbol g.count same.symbols x.section x.start x.end))
    where
      rest : Option ℕ → Outcome ℕ
      rest found = alignment_from h t.head x.start x >>= λ chosen. accepted (align_up (end_of h.symbol x.end found) chosen.value)

  next_alike : (x : Split) {l : List Split} → All (λ r. r.section < s.count) l → ask_next g s.head x l ≡ ask_next h t.head x l
  unfolding ask_next
  next_alike x none = refl
  next_alike x (each {x = next} b all) = λ k.
      cond (eqb next.section x.section) (alignment_from_alike g h same s t sections x.start next b k >>= λ unused. accepted tt) (accepted tt)

  fall_alike : (x : Split) {l : List Split} → x.section < s.count → All (λ r. r.section < s.count) l → fall_of g s.head x l ≡ fall_of h t.head x l
  unfolding fall_of
  fall_alike x b all = λ k. aligned_alike x b k >>= λ end. cond (ltb end x.end) (next_alike x all k >> accepted end) (accepted 0)

  falls_alike : {l : List Split} → All (λ r. r.section < s.count) l → falls_of g s.head l ≡ falls_of h t.head l
  unfolding falls_of
  falls_alike none = refl
  falls_alike (each {x} b all) = λ k. fall_alike x b all k >>= λ fall. falls_alike all k >>= λ falls. accepted (fall ∷ falls)

  -- ---- the cut

  section_alike : (n : ℕ) (rows : List Split) → n < s.count → cut_section g s n rows ≡ cut_section h t n rows
  unfolding cut_section
  section_alike n rows b =
      let head = sections.heads n b in
      λ k. end_alike g h same s t sections n b k >>= λ end. accepted (cond (eqb ((head k).address + (head k).size) end) rows (cut_last n end rows))

  from_alike : (k n : ℕ) (rows : List Split) → n + k ≤ s.count → cut_from g s k n rows ≡ cut_from h t k n rows
  unfolding cut_from
  from_alike zero n rows b = refl
  from_alike (suc k) n rows b =
      let first = section_alike n rows (omega arith) in
      λ i. first i >>= λ cut. from_alike k (suc n) cut (omega arith) i

  -- THEOREM: the same table is left, or the same refusal
  pub trim_alike : {rows : List Split} → All (λ r. r.section < s.count) rows → trimmed g s rows ≡ trimmed h t rows
  unfolding trimmed
  trim_alike {rows} there = λ k. falls_alike there k >>= λ falls. carry_from 0 falls rows >>= λ fallen. cut fallen k
    where
      cut : (fallen : List Split) → cut_from g s s.count 0 fallen ≡ cut_from h t t.count 0 fallen
      cut fallen = from_alike s.count 0 fallen (omega arith) ∙ ap (λ (k : ℕ). cut_from h t k 0 fallen) sections.counts
