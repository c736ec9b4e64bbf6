-- A turn of the search over the sections: the gaps of one section enter, and those of the later sections are left. How many gaps there can be.
-- Assumes nothing.
use mathlib.Core.Path.{◌≡◌, sym, ap, subst, ◌∙◌}
use mathlib.Core.List.{List, [], ◌++◌}
use Prim.Native.Nat.{ℕ, zero, suc, ◌+◌, ◌-◌, ◌*◌, ◌≤◌, ◌<◌}
use native.Mathlib.Nat.{sub-zero}
use native.Mathlib.Numerals.{add-one}
use native.Mathlib.Omega.{arith}
use lib.ListN.{length}
use Rattle.lists.specs.Outcome.{Outcome, accepted, refused, ◌>>=◌}
use Rattle.lists.specs.Rows.{tabulate, keep_if}
use Rattle.lists.specs.Sort.{All, none}
use Rattle.lists.specs.Members.{In}
use Rattle.lists.proofs.All.{all_append}
use Rattle.lists.proofs.Outcomes.{bind_inv, same_accepted}
use Rattle.lists.proofs.Rows.{length-tabulate}
use Rattle.obj.specs.declared.Split.{Split}
use Rattle.symbols.specs.Sound.{Sound}
use Rattle.sections.specs.Image.{Image}
use Rattle.sections.specs.Sections.{Sections}
use Rattle.sections.specs.Ends.{splitting_end}
use Rattle.sections.proofs.Good.{default_good}
use Rattle.splits.specs.Columns.{Columns, row_at, rows}
use Rattle.gap_columns.specs.Columns.{Gap, key_of}
use Rattle.gap_columns.specs.Table.{found_in, SameLent}
use Rattle.gap_columns.specs.declared.gap_table.GapTable.{GapTable}
use Rattle.gap_columns.proofs.Lent.{lent_still}
use Rattle.gaps.specs.Gaps.{gaps_from, below, default_of, section_gaps, gaps_of, into, found_gaps}
use Rattle.gaps.specs.Found.{starts, Gathered, SectionSpace}
use Rattle.gaps.proofs.Gathered.{into_more, into_refused, into-none, into_gathered, gathered_none, gathered_few}
use Rattle.gaps.proofs.Starts.{length-starts, section_starts, split_starts, symbol_starts, known_rows, among_from}

-- ---- one section
module _ (g : Image) (sections : Sections) (n : ℕ) (l : List Split) (before : List Gap) where
  -- 10
  pub section_short : (x y z : ℕ) → refused x y z ≡ splitting_end g n (sections.head n) (sections.bytes n) → refused x y z ≡ into before (section_gaps g sections n l)
  unfolding section_gaps into ◌>>=◌
  section_short x y z e =
      ap (λ (o : Outcome ℕ). into before (o >>= λ end. gaps_from g.symbol g.count n (default_of g sections n) end (sections.head n).address (keep_if (below n end) l))) e

  pub section_on : (end : ℕ) → accepted end ≡ splitting_end g n (sections.head n) (sections.bytes n)
      → into before (gaps_from g.symbol g.count n (default_of g sections n) end (sections.head n).address (keep_if (below n end) l)) ≡ into before (section_gaps g sections n l)
  unfolding section_gaps ◌>>=◌
  section_on end e =
      ap (λ (o : Outcome ℕ). into before (o >>= λ last. gaps_from g.symbol g.count n (default_of g sections n) last (sections.head n).address (keep_if (below n last) l))) e

-- ---- all sections
module _ (g : Image) (sections : Sections) (c : Columns) (m : ℕ) where
  abbrev room : List ℕ
  room = starts g sections (rows c m)

  -- every gap of a section starts where there is room
  among_section : Sound g.symbol g.count → (n : ℕ) → n < sections.count → (gaps : List Gap) → section_gaps g sections n (rows c m) ≡ accepted gaps → All (λ x. In (key_of x) room) gaps
  unfolding section_gaps
  among_section sound n h gaps e =
      let p = bind_inv (splitting_end g n (sections.head n) (sections.bytes n)) _ gaps e in
      among_from g.symbol g.count n (default_of g sections n) sound (default_good _ _) room (symbol_starts g sections (rows c m)) p.0 (sections.head n).address
      (λ q. section_starts g sections (rows c m) n h) (known_rows n p.0 room c m (split_starts g sections (rows c m))) gaps p.2

  among_of : Sound g.symbol g.count → (k n : ℕ) → n + k ≤ sections.count → (gaps : List Gap) → gaps_of g sections k n (rows c m) ≡ accepted gaps → All (λ x. In (key_of x) room) gaps
  unfolding gaps_of
  among_of sound zero n h gaps e = subst (All (λ x. In (key_of x) room)) (same_accepted e) none
  among_of sound (suc k) n h gaps e =
      let p = bind_inv (section_gaps g sections n (rows c m)) _ gaps e in
      let r = bind_inv (gaps_of g sections k (suc n) (rows c m)) (λ more. accepted (p.0 ++ more)) gaps p.2 in
      subst (All (λ x. In (key_of x) room)) (same_accepted r.2)
      (all_append (among_section sound n (omega arith) p.0 p.1) (among_of sound k (suc n) (omega arith) r.0 r.1))

  -- THEOREM: there are no more gaps than sections, starts and ends of splits, and symbols
  pub found_few : Sound g.symbol g.count → (gaps : List Gap) → found_gaps g sections (rows c m) ≡ accepted gaps → length gaps ≤ sections.count + 2 * m + g.count
  unfolding found_gaps
  found_few sound gaps e =
      let gathered = into_gathered [] room (gaps_of g sections sections.count 0 (rows c m)) gaps (gathered_none room) (among_of sound sections.count 0 (omega arith)) e in
      omega (arith, gathered_few room gaps gathered, length-starts g sections (rows c m), length-tabulate (row_at c) 0 m)

  -- the gaps of the sections from k on enter after those found as all
  pub record Searching (found₀ found : GapTable) (k : ℕ) : Type 0 where
    pub small : k ≤ sections.count
    pub lent : SameLent found₀ found
    pub gathered : Gathered room (found_in found)
    pub is : into (found_in found) (gaps_of g sections (sections.count - k) k (rows c m)) ≡ found_gaps g sections (rows c m)

  module _ (found₀ : GapTable) where
    pub search_start : (found : GapTable) → found.count ≡ 0 → SameLent found₀ found → Searching found₀ found 0
    unfolding found_gaps tabulate
    search_start found empty same = record {
      small = omega arith;
      lent = same;
      gathered = rw empty (gathered_none room);
      is = rw empty (ap (λ (k : ℕ). into [] (gaps_of g sections k 0 (rows c m))) (sub-zero sections.count));
    }

    module _ (found : GapTable) (k : ℕ) (s : Searching found₀ found k) where
      -- all sections are done
      pub search_done : sections.count ≤ k → accepted (found_in found) ≡ found_gaps g sections (rows c m)
      unfolding gaps_of
      search_done h =
          let e : sections.count - k ≡ 0 = omega arith in
          sym (ap (λ (j : ℕ). into (found_in found) (gaps_of g sections j k (rows c m))) e ∙ into-none (found_in found)) ∙ s.is

      module _ (h : k < sections.count) where
        pub search_space : sections.count + 2 * m + g.count ≤ found₀.room → SectionSpace g.symbol g.count k (sections.head k).address (rows c m) found
        search_space fits end = record {
          room = room;
          gathered = s.gathered;
          here = λ q. section_starts g sections (rows c m) k h;
          splits = split_starts g sections (rows c m);
          symbols = symbol_starts g sections (rows c m);
          fits = omega (arith, fits, s.lent.room, length-starts g sections (rows c m), length-tabulate (row_at c) 0 m);
        }

        next_is : into (found_in found) (section_gaps g sections k (rows c m) >>= λ gaps. gaps_of g sections (sections.count - (k + 1)) (k + 1) (rows c m) >>= λ more. accepted (gaps ++ more))
            ≡ found_gaps g sections (rows c m)
        unfolding gaps_of
        next_is =
            let e : sections.count - k ≡ suc (sections.count - (k + 1)) = omega arith in
            sym (ap (λ (j : ℕ). into (found_in found) (gaps_of g sections j k (rows c m))) e ∙ rw (← add-one k)) ∙ s.is

        pub search_refused : (x y z : ℕ) → refused x y z ≡ into (found_in found) (section_gaps g sections k (rows c m)) → refused x y z ≡ found_gaps g sections (rows c m)
        search_refused x y z e =
            sym (into_refused (found_in found) (section_gaps g sections k (rows c m)) (gaps_of g sections (sections.count - (k + 1)) (k + 1) (rows c m)) x y z (sym e)) ∙ next_is

        pub search_on : Sound g.symbol g.count → (found' : GapTable) → SameLent found found'
            → accepted (found_in found') ≡ into (found_in found) (section_gaps g sections k (rows c m))
            → Searching found₀ found' (k + 1)
        search_on sound found' same e = record {
          small = omega arith;
          lent = lent_still s.lent same;
          gathered =
              into_gathered (found_in found) room (section_gaps g sections k (rows c m)) (found_in found') s.gathered
              (λ gaps q. among_section sound k h gaps q) (sym e);
          is =
              sym (into_more (found_in found) (section_gaps g sections k (rows c m)) (gaps_of g sections (sections.count - (k + 1)) (k + 1) (rows c m)) (found_in found') (sym e))
              ∙ next_is;
        }
