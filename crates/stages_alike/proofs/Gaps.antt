-- The search for gaps and their filling, of tables that say the same: each address at which a gap begins or ends comes from symbols and sections that are
-- there, and the gaps that are named lie in these sections. Assumes nothing.
use mathlib.Core.Path.{◌≡◌, refl, ap, ◌∙◌}
use mathlib.Core.List.{List, [], ◌∷◌, ◌++◌}
use mathlib.Core.Bool.{cond, not}
use Prim.Native.Nat.{ℕ, zero, suc, ◌+◌, ◌-◌, ◌%◌, ◌≤◌, ◌<◌}
use native.Mathlib.Omega.{arith}
use lib.Dec.{eqb, leb, ltb}
use Rattle.lists.specs.Outcome.{Outcome, accepted, refuse, ◌>>◌, ◌>>=◌}
use Rattle.lists.specs.Rows.{keep_if, some}
use Rattle.lists.specs.Sort.{All, none, each}
use Rattle.lists.proofs.All.{all_keep, all_map}
use Rattle.align.specs.Align.{align_up}
use Rattle.obj.specs.declared.Symbol.{Symbol}
use Rattle.obj.specs.declared.Split.{Split}
use Rattle.names.specs.GapName.{gap_name}
use Rattle.symbols.specs.Ranges.{stripped, symbols_between}
use Rattle.symbols.proofs.Finds.{symbols_there}
use Rattle.sections.specs.Image.{Image}
use Rattle.sections.specs.Sections.{Sections}
use Rattle.merge.specs.Merge.{Given, merge_one}
use Rattle.gap_columns.specs.Columns.{Gap, gap}
use Rattle.gaps.specs.Gaps.{misses, end_after, end_from, gap_end, gaps_up_to, gaps_to, gaps_before, gaps_from, below, section_gaps, gaps_of, into, found_gaps}
use Rattle.gaps.proofs.Inside.{found_lies}
use Rattle.gap_splits.specs.Entering.{Filled, Ceilings, named, gap_split, entered, filled}
use Rattle.create_gap_splits.specs.Create.{name_in, gaps_filled}
use Rattle.stages_alike.specs.Alike.{SameImages, SameSections}
use Rattle.stages_alike.proofs.Lists.{bind_when}
use Rattle.stages_alike.proofs.Symbols.{between_alike}
use Rattle.stages_alike.proofs.Sections.{counted, alignment_alike, end_alike, default_alike, section_named}

-- ---- the gaps of a section
module _ (y z : ℕ → Symbol) (count : ℕ) (same : (i : ℕ) → i < count → y i ≡ z i) where
  from_alike : (n current next : ℕ) (names : List ℕ) {l : List ℕ} → All (λ i. i < count) l → end_from y n current next names l ≡ end_from z n current next names l
  unfolding end_from
  from_alike n current next names none = refl
  from_alike n current next names (each {x = i} b all) =
      let s = same i b in
      λ k. cond (stripped (s k)) (from_alike n current next names all k)
      (cond (some (eqb (s k).name) names) (refuse 41 n current (not (eqb ((s k).address % 4) 0)) >> accepted (s k).address)
      (cond (misses current (s k)) (accepted (s k).address) (from_alike n current next ((s k).name ∷ names) all k)))

  gap_end_alike : (n current next : ℕ) → gap_end y count n current next ≡ gap_end z count n current next
  unfolding gap_end
  gap_end_alike n current next = λ k. end k >>= λ last. refuse 42 n current (leb last current) >> accepted last
    where
      end : end_from y n current next [] (symbols_between y count n current next) ≡ end_from z n current next [] (symbols_between z count n current next)
      end = from_alike n current next [] (all_keep _ (symbols_there y count n)) ∙ ap (end_from z n current next []) (between_alike y z count same n current next)

  up_to_alike : (most n current next alignment : ℕ) → gaps_up_to y count most n current next alignment ≡ gaps_up_to z count most n current next alignment
  unfolding gaps_up_to
  up_to_alike zero n current next alignment = refl
  up_to_alike (suc most) n current next alignment = λ k.
      cond (ltb (align_up current alignment) next)
      (gap_end_alike n current next k >>= λ end. up_to_alike most n end next alignment k >>= λ later. accepted (gap n current end ∷ later))
      (accepted [])

module _ (g h : Image) (same : SameImages g h) where
  -- the gaps up to the next start
  to_alike : (n current next alignment : ℕ) → gaps_to g.symbol g.count n current next alignment ≡ gaps_to h.symbol h.count n current next alignment
  to_alike n current next alignment =
      counted g h same (λ x. gaps_to x.symbol x.count n current next alignment)
      (up_to_alike g.symbol h.symbol g.count same.symbols (next - current) n current next alignment)

  before_alike : (n least current : ℕ) (s : Split) → gaps_before g.symbol g.count n least current s ≡ gaps_before h.symbol h.count n least current s
  unfolding gaps_before
  before_alike n least current s = λ k.
      alignment_alike g h same n least s.alignment s.start s.end k
      >>= λ chosen. refuse 40 n current (ltb s.start current) >> to_alike n current s.start chosen.value k

  gaps_alike : (n least end current : ℕ) (l : List Split) → gaps_from g.symbol g.count n least end current l ≡ gaps_from h.symbol h.count n least end current l
  unfolding gaps_from
  gaps_alike n least end current [] = to_alike n current end least
  gaps_alike n least end current (s ∷ later) = λ k.
      cond (leb end current) (accepted [])
      (before_alike n least current s k >>= λ gaps. gaps_alike n least end (end_after end s later) later k >>= λ more. accepted (gaps ++ more))

  -- ---- all gaps
  module _ (s t : Sections) (sections : SameSections g h s t) (rows : List Split) where
    section_alike : (n : ℕ) → n < s.count → section_gaps g s n rows ≡ section_gaps h t n rows
    unfolding section_gaps
    section_alike n b = λ k.
        end_alike g h same s t sections n b k
        >>= λ end. gaps_alike n (default_alike g h same s t sections n b k) end (sections.heads n b k).address (keep_if (below n end) rows) k

    of_alike : (k n : ℕ) → n + k ≤ s.count → gaps_of g s k n rows ≡ gaps_of h t k n rows
    unfolding gaps_of
    of_alike zero n b = refl
    of_alike (suc k) n b =
        let first = section_alike n (omega arith) in
        let rest = of_alike k (suc n) (omega arith) in
        λ i. first i >>= λ gaps. rest i >>= λ more. accepted (gaps ++ more)

    -- THEOREM: the same gaps are found
    pub found_alike : found_gaps g s rows ≡ found_gaps h t rows
    unfolding found_gaps
    found_alike = ap (into []) (of_alike s.count 0 (omega arith) ∙ ap (λ (k : ℕ). gaps_of h t k 0 rows) sections.counts)

-- ---- the gaps that enter

-- two names of each section that has a gap
entering_alike : (f e : ℕ → List ℕ) (limits : Given) (room : Ceilings) (x : Filled) {gaps : List Gap} → All (λ a. f a.section ≡ e a.section) gaps
    → filled f limits room x gaps ≡ filled e limits room x gaps
unfolding filled entered
entering_alike f e limits room x none = refl
entering_alike f e limits room x (each {x = a} p all) = λ k.
    (named room a.section a.start x.names (gap_name a.section a.start (p k))
    >>= λ unit. merge_one limits x.rows (gap_split a unit.number)
    >>= λ rows. accepted (record { names = unit.names; rows = rows }))
    >>= λ more. entering_alike f e limits room more all k

-- THEOREM: the same tables are left, or the same refusal
pub filled_alike : (g h : Image) (same : SameImages g h) (s t : Sections) (sections : SameSections g h s t) (limits : Given) (room : Ceilings) (x : Filled)
    → gaps_filled g s limits room x ≡ gaps_filled h t limits room x
unfolding gaps_filled
filled_alike g h same s t sections limits room x =
    bind_when (found_gaps g s x.rows) (filled (name_in g s) limits room x) (filled (name_in h t) limits room x)
    (λ gaps e. entering_alike (name_in g s) (name_in h t) limits room x
    (all_map (λ a lies. section_named g h same s t sections a.section lies.there) (found_lies g s x.rows gaps e)))
    ∙ ap (λ (o : Outcome (List Gap)). o >>= filled (name_in h t) limits room x) (found_alike g h same s t sections x.rows)
