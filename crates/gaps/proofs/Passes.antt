-- A turn of the search over a section's splits: the gaps before the next split enter, and those behind it are left. Assumes nothing.
use mathlib.Core.Path.{◌≡◌, sym, ap, subst, ◌∙◌}
use mathlib.Core.List.{List, [], ◌∷◌}
use mathlib.Core.Bool.{Bool, true, false, cond, ◌&&◌}
use Prim.Native.Nat.{ℕ, ◌+◌, ◌-◌, ◌≤◌, ◌<◌, zero-le}
use native.Mathlib.Omega.{arith}
use lib.Dec.{eqb, ltb}
use borrow.Author.Tests.{lt-ltb, le-ltb, le-leb}
use Rattle.std.specs.Prelude.{Option, unwrap_or}
use Rattle.lists.specs.Outcome.{accepted, refused}
use Rattle.lists.specs.Rows.{tabulate, keep_if}
use Rattle.lists.specs.Sort.{All, none, each}
use Rattle.lists.specs.Members.{In}
use Rattle.lists.proofs.Parts.{tabulate_all}
use Rattle.align.specs.Align.{good_align, bad_align}
use Rattle.obj.specs.declared.Symbol.{Symbol}
use Rattle.obj.specs.declared.Split.{Split}
use Rattle.symbol_order.specs.Order.{key}
use Rattle.symbols.specs.Sound.{Sound}
use Rattle.splits.specs.Columns.{Columns, row_at, rows}
use Rattle.splits.specs.Questions.{within, from_hit, FirstPlace, start_of}
use Rattle.splits.proofs.Next.{hit_next, next_small, start_there}
use Rattle.gap_columns.specs.Table.{found_in, SameLent}
use Rattle.gap_columns.specs.declared.gap_table.GapTable.{GapTable}
use Rattle.gap_columns.proofs.Lent.{lent_same, lent_still}
use Rattle.gaps.specs.Gaps.{end_after, gaps_to, gaps_before, gaps_from, below, into}
use Rattle.gaps.specs.Found.{Space}
use Rattle.gaps.proofs.Gathered.{into-none, into_gathered}
use Rattle.gaps.proofs.Starts.{Known, known_rows, among_before, after_among, after_hit, from_done, from_on, from_refused, from_none}

-- ---- the next split, if there is one

-- each address is in a range from 0 on
below_is : (n end : ℕ) → within n 0 end ≡ below n end
below_is n end = λ k s. eqb s.section n && (le-leb 0 s.start zero-le k && ltb s.start end)

pub first_below : (n end : ℕ) (c : Columns) (from m : ℕ) (r : Option ℕ) → FirstPlace (within n 0 end) c from m r → FirstPlace (below n end) c from m r
first_below n end c from m r = subst (λ (p : Split → Bool). FirstPlace p c from m r) (below_is n end)

-- ---- a turn

-- the gaps from `current` on, over the splits from place i on, enter after those found as all of the section after those that were there
pub record Walking (symbol : ℕ → Symbol) (count n least end start : ℕ) (c : Columns) (m : ℕ) (found₀ found : GapTable) (current i : ℕ) : Type 0 where
  pub small : i ≤ m
  pub lent : SameLent found₀ found
  pub space : Space symbol count n current end (rows c m) found
  pub known : All (Known n end space.room) (from_hit (below n end) c m i)
  pub is : into (found_in found) (gaps_from symbol count n least end current (from_hit (below n end) c m i))
      ≡ into (found_in found₀) (gaps_from symbol count n least end start (keep_if (below n end) (rows c m)))

-- room for the gaps up to an earlier start
pub space_before : (symbol : ℕ → Symbol) (count n current next end : ℕ) (l : List Split) (found : GapTable) → next ≤ end
    → Space symbol count n current end l found → Space symbol count n current next [] found
space_before symbol count n current next end l found h s = record {
  room = s.room;
  gathered = s.gathered;
  here = λ q. s.here (omega (arith, q, h));
  splits = none;
  symbols = s.symbols;
  fits = s.fits;
}

module _ (symbol : ℕ → Symbol) (count n least end start : ℕ) (c : Columns) (m : ℕ) (found₀ : GapTable) where
  -- the rows after place i that are below the splitting end
  abbrev later : ℕ → List Split
  later i = keep_if (below n end) (tabulate (row_at c) (i + 1) (m - (i + 1)))

  here_is : (i : ℕ) → i < m → from_hit (below n end) c m i ≡ row_at c i ∷ later i
  here_is i h = rw (lt-ltb i m h)

  pub walk_start : (next : Option ℕ) → FirstPlace (below n end) c 0 m next → Space symbol count n start end (rows c m) found₀
      → Walking symbol count n least end start c m found₀ found₀ start (unwrap_or next m)
  walk_start next first_hit s =
      let i = unwrap_or next m in
      let hit = hit_next (below n end) c m 0 next (omega arith) first_hit in
      let e : keep_if (below n end) (rows c m) ≡ from_hit (below n end) c m i = sym (ap (keep_if (below n end)) (tabulate_all (row_at c) m)) ∙ hit.is in
      record {
        small = hit.small;
        lent = lent_same;
        space = s;
        known = subst (All (Known n end s.room)) e (known_rows n end s.room c m s.splits);
        is = ap (λ (l : List Split). into (found_in found₀) (gaps_from symbol count n least end start l)) (sym e);
      }

  module _ (sound : Sound symbol count) (good : good_align least ≡ true) (found : GapTable) (current i : ℕ)
      (w : Walking symbol count n least end start c m found₀ found current i) where
    -- the splitting end is reached
    pub walk_done : end ≤ current → accepted (found_in found) ≡ into (found_in found₀) (gaps_from symbol count n least end start (keep_if (below n end) (rows c m)))
    walk_done h =
        sym (ap (into (found_in found)) (from_done symbol count n least sound good end current (from_hit (below n end) c m i) h) ∙ into-none (found_in found))
        ∙ w.is

    -- no split is left
    pub walk_last : m ≤ i → into (found_in found) (gaps_to symbol count n current end least)
        ≡ into (found_in found₀) (gaps_from symbol count n least end start (keep_if (below n end) (rows c m)))
    walk_last h =
        let e : from_hit (below n end) c m i ≡ [] = rw (le-ltb i m h) in
        ap (into (found_in found)) (sym (from_none symbol count n least end current) ∙ ap (gaps_from symbol count n least end current) (sym e)) ∙ w.is

    module _ (h : i < m) (s : Split) (row : s ≡ row_at c i) where
      -- the split is known, and so are those after it
      split_known : All (Known n end w.space.room) (s ∷ later i)
      split_known = subst (All (Known n end w.space.room)) (here_is i h ∙ ap (λ (x : Split). x ∷ later i) (sym row)) w.known

      first_known : Known n end w.space.room s
      first_known = go split_known
        where
          go : All (Known n end w.space.room) (s ∷ later i) → Known n end w.space.room s
          go (each k all) = k

      others_known : All (Known n end w.space.room) (later i)
      others_known = go split_known
        where
          go : All (Known n end w.space.room) (s ∷ later i) → All (Known n end w.space.room) (later i)
          go (each k all) = all

      pub walk_low : s.start < end
      walk_low = first_known.low

      pub walk_aligned : bad_align s.alignment ≡ false
      walk_aligned = first_known.aligned

      pub walk_room : Space symbol count n current s.start [] found
      walk_room = space_before symbol count n current s.start end (rows c m) found (omega (arith, walk_low)) w.space

      module _ (before : current < end) where
        next_is : into (found_in found) (gaps_from symbol count n least end current (s ∷ later i))
            ≡ into (found_in found₀) (gaps_from symbol count n least end start (keep_if (below n end) (rows c m)))
        next_is = ap (λ (l : List Split). into (found_in found) (gaps_from symbol count n least end current l)) (sym (here_is i h ∙ ap (λ (x : Split). x ∷ later i) (sym row))) ∙ w.is

        pub walk_refused : (x y z : ℕ) → refused x y z ≡ into (found_in found) (gaps_before symbol count n least current s)
            → refused x y z ≡ into (found_in found₀) (gaps_from symbol count n least end start (keep_if (below n end) (rows c m)))
        walk_refused x y z e = sym (from_refused symbol count n least sound good end current (found_in found) s (later i) before x y z (sym e)) ∙ next_is

        pub walk_on : (found' : GapTable) (current' : ℕ) (next : Option ℕ) → SameLent found found'
            → accepted (found_in found') ≡ into (found_in found) (gaps_before symbol count n least current s)
            → FirstPlace (below n end) c (i + 1) m next
            → current' ≡ cond (eqb s.end 0) (start_of c.starts end next) s.end
            → Walking symbol count n least end start c m found₀ found' current' (unwrap_or next m)
        walk_on found' current' next same e later_hit own =
            let room = w.space.room in
            let i' = unwrap_or next m in
            let hit = hit_next (below n end) c m (i + 1) next (omega (arith, h)) later_hit in
            let at = own ∙ ap (λ (a : ℕ). cond (eqb s.end 0) a s.end) (start_there c.starts end m next (next_small (below n end) c m (i + 1) next later_hit)) in
            let now : current' ≡ end_after end s (later i) = at ∙ sym (after_hit (below n end) c m i' end s) ∙ ap (end_after end s) (sym hit.is) in
            record {
              small = hit.small;
              lent = lent_still w.lent same;
              space = record {
                room = room;
                gathered =
                    into_gathered (found_in found) room (gaps_before symbol count n least current s) (found_in found') w.space.gathered
                    (among_before symbol count n least sound good room w.space.symbols current s walk_aligned (λ q. w.space.here before))
                    (sym e);
                here =
                    subst (λ (a : ℕ). a < end → In (key n a) room) (sym now)
                    (after_among symbol count n least sound good room w.space.symbols end s (later i) first_known others_known);
                splits = w.space.splits;
                symbols = w.space.symbols;
                fits = omega (arith, same.room, w.space.fits);
              };
              known = subst (All (Known n end room)) hit.is others_known;
              is =
                  ap (λ (a : ℕ). into (found_in found') (gaps_from symbol count n least end a (from_hit (below n end) c m i'))) now
                  ∙ ap (λ (l : List Split). into (found_in found') (gaps_from symbol count n least end (end_after end s (later i)) l)) (sym hit.is)
                  ∙ sym (from_on symbol count n least sound good end current (found_in found) s (later i) before (found_in found') (sym e))
                  ∙ next_is;
            }
