-- Rows of columns: the packed number gives its parts back, and what stores in the columns do to the rows. `row_of` stays shut, so that a row's equation is
-- its four numbers' equations. Assumes nothing.
use mathlib.Core.Path.{◌≡◌, refl, sym, ap, subst, ◌∙◌}
use mathlib.Core.List.{List, [], ◌∷◌, map}
use Prim.Native.Nat.{ℕ, ◌+◌, ◌*◌, ◌/◌, ◌%◌, ◌≤◌, ◌<◌}
use native.Mathlib.Omega.{arith}
use lib.ListN.{length, get_or, set, length-set}
use lib.Seq.{get_or-set_same, get_or-set_other}
use Rattle.lists.specs.Sort.{All, none, each}
use Rattle.lists.proofs.Rows.{tabulate-set}
use Rattle.obj.specs.declared.Split.{Split}
use Rattle.splits.specs.Columns.{alignment_of, Good, packed, section_in, rename_in, flags_in, origin_in, Columns, columns, row_of, row_at, rows, Long}
use Rattle.splits.specs.Table.{rows_in, Unchanged}
use Rattle.splits.specs.declared.split_table.SplitTable.{SplitTable}
use Rattle.splits.specs.Updates.{with_end}

-- ---- the packed number

-- every row's alignment is good
pub good_row : (start end unit rest : ℕ) → Good (row_of start end unit rest).alignment
unfolding row_of
good_row start end unit rest = record { bits = rest / 1099511627776 % 256; is = refl }

low16 : (a b : ℕ) → a < 65536 → (a + 65536 * b) % 65536 ≡ a
low16 a b h = omega arith

low8 : (a b : ℕ) → a < 256 → (a + 256 * b) % 256 ≡ a
low8 a b h = omega arith

-- a split is the row of its packed number
pub unpacked : (s : Split) (bits : ℕ) → s.section < 65536 → s.rename < 65536 → s.flags < 256 → bits < 18 → s.origin < 65536
    → alignment_of bits ≡ s.alignment → row_of s.start s.end s.unit (packed s.section s.rename s.flags bits s.origin) ≡ s
unfolding row_of
unpacked s bits a b c d f q =
    let r = packed s.section s.rename s.flags bits s.origin in
    let above16 : r / 65536 ≡ s.rename + 65536 * (s.flags + 256 * (bits + 256 * s.origin)) = omega arith in
    let above32 : r / 4294967296 ≡ s.flags + 256 * (bits + 256 * s.origin) = omega arith in
    let above40 : r / 1099511627776 ≡ bits + 256 * s.origin = omega arith in
    let above48 : r / 281474976710656 ≡ s.origin + 65536 * 0 = omega arith in
    let section-back : section_in r ≡ s.section = omega arith in
    let rename-back : rename_in r ≡ s.rename = ap (λ (x : ℕ). x % 65536) above16 ∙ low16 s.rename (s.flags + 256 * (bits + 256 * s.origin)) b in
    let flags-back : flags_in r ≡ s.flags = ap (λ (x : ℕ). x % 256) above32 ∙ low8 s.flags (bits + 256 * s.origin) c in
    let bits_back : r / 1099511627776 % 256 ≡ bits = ap (λ (x : ℕ). x % 256) above40 ∙ low8 bits s.origin (omega arith) in
    let origin-back : origin_in r ≡ s.origin = ap (λ (x : ℕ). x % 65536) above48 ∙ low16 s.origin 0 f in
    λ i. record {
      section = section-back i;
      start = s.start;
      end = s.end;
      unit = s.unit;
      alignment = (ap alignment_of bits_back ∙ q) i;
      flags = flags-back i;
      rename = rename-back i;
      origin = origin-back i;
    }

-- ---- the numbers that a row has in columns of its own
module _ (start end unit rest : ℕ) where
  pub row_end : (row_of start end unit rest).end ≡ end
  unfolding row_of
  row_end = refl

  pub row_unit : (row_of start end unit rest).unit ≡ unit
  unfolding row_of
  row_unit = refl

-- ---- four numbers stored at place k
module _ (a b c d : List ℕ) (k start end unit rest : ℕ) where
  abbrev pub stored : Columns
  stored = columns (set a k start) (set b k end) (set c k unit) (set d k rest)

  pub row_stored : k < length a → k < length b → k < length c → k < length d → row_at stored k ≡ row_of start end unit rest
  row_stored la lb lc ld =
      λ i. row_of (get_or-set_same a k start 0 la i) (get_or-set_same b k end 0 lb i) (get_or-set_same c k unit 0 lc i) (get_or-set_same d k rest 0 ld i)

  pub row_other : (j : ℕ) → (j ≡ k → ⊥) → row_at stored j ≡ row_at (columns a b c d) j
  row_other j h =
      λ i. row_of (get_or-set_other a k j start 0 h i) (get_or-set_other b k j end 0 h i) (get_or-set_other c k j unit 0 h i) (get_or-set_other d k j rest 0 h i)

-- ---- columns of the same lengths
pub record Same (c c₀ : Columns) : Type 0 where
  pub starts : length c.starts ≡ length c₀.starts
  pub ends : length c.ends ≡ length c₀.ends
  pub units : length c.units ≡ length c₀.units
  pub rest : length c.rest ≡ length c₀.rest

pub same : (c : Columns) → Same c c
same c = record { starts = refl; ends = refl; units = refl; rest = refl }

pub same_stored : (a b c d : List ℕ) (k start end unit rest : ℕ) (c₀ : Columns) → Same (columns a b c d) c₀ → Same (stored a b c d k start end unit rest) c₀
same_stored a b c d k start end unit rest c₀ s =
    record {
      starts = length-set a k start ∙ s.starts;
      ends = length-set b k end ∙ s.ends;
      units = length-set c k unit ∙ s.units;
      rest = length-set d k rest ∙ s.rest;
    }

-- rows that stood in columns stand in them after a store
pub long_stored : (a b c d : List ℕ) (k start end unit rest n : ℕ) → Long (columns a b c d) n → Long (stored a b c d k start end unit rest) n
long_stored a b c d k start end unit rest n h =
    record {
      starts = omega (arith, length-set a k start, h.starts);
      ends = omega (arith, length-set b k end, h.ends);
      units = omega (arith, length-set c k unit, h.units);
      rest = omega (arith, length-set d k rest, h.rest);
    }

-- a table that did not change has its rows
pub unchanged_rows : (t u : SplitTable) → Unchanged t u → rows_in u ≡ rows_in t
unchanged_rows t u h = λ i. rows (h.columns i) (h.count i)

-- rows that stood in columns of the same lengths stand in these
pub long_same : (c c₀ : Columns) (m n : ℕ) → Same c c₀ → m ≤ n → Long c₀ n → Long c m
long_same c c₀ m n s h l =
    record {
      starts = omega (arith, s.starts, l.starts);
      ends = omega (arith, s.ends, l.ends);
      units = omega (arith, s.units, l.units);
      rest = omega (arith, s.rest, l.rest);
    }

-- ---- an end stored at place k
with_end_lem : (start end unit rest new : ℕ) → row_of start new unit rest ≡ with_end new (row_of start end unit rest)
unfolding row_of
with_end_lem start end unit rest new = refl

pub end_stored : (a b c d : List ℕ) (k n new : ℕ) → k < length b → rows (columns a (set b k new) c d) n ≡ set (rows (columns a b c d) n) k (with_end new (row_at (columns a b c d) k))
end_stored a b c d k n new h =
    tabulate-set (row_at (columns a (set b k new) c d)) (row_at (columns a b c d)) _ k n
    (λ j q. other j (λ z. omega arith))
    (ap (λ (e : ℕ). row_of (get_or a k 0) e (get_or c k 0) (get_or d k 0)) (get_or-set_same b k new 0 h) ∙ with_end_lem (get_or a k 0) (get_or b k 0) (get_or c k 0) (get_or d k 0) new)
    (λ j q _. other j (λ z. omega arith))
  where
    other : (j : ℕ) → (j ≡ k → ⊥) → row_at (columns a (set b k new) c d) j ≡ row_at (columns a b c d) j
    other j z = ap (λ (e : ℕ). row_of (get_or a j 0) e (get_or c j 0) (get_or d j 0)) (get_or-set_other b k j new 0 z)

-- ---- tables that are the same but for their ends have the same origins
module _ (P : ℕ → Type 0) where
  origins_in : {l : List Split} → All (λ s. P s.origin) l → All (λ s. P s.origin) (map (with_end 0) l)
  origins_in none = none
  origins_in (each p q) = each p (origins_in q)

  origins_out : (l : List Split) → All (λ s. P s.origin) (map (with_end 0) l) → All (λ s. P s.origin) l
  origins_out [] none = none
  origins_out (s ∷ l) (each p q) = each p (origins_out l q)

  pub same_origins : (l m : List Split) → map (with_end 0) m ≡ map (with_end 0) l → All (λ s. P s.origin) l → All (λ s. P s.origin) m
  same_origins l m e q = origins_out m (subst (All (λ s. P s.origin)) (sym e) (origins_in q))

-- so many rows stand in columns of 1,024
pub rows_long : {starts ends units rest : List ℕ} {room : ℕ} → room ≤ 1024 → length starts ≡ 1024 → length ends ≡ 1024 → length units ≡ 1024 → length rest ≡ 1024
    → Long (columns starts ends units rest) room
rows_long h s e u r = record { starts = omega (arith, h, s); ends = omega (arith, h, e); units = omega (arith, h, u); rest = omega (arith, h, r) }
