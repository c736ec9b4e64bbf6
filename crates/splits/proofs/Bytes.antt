-- A split table as packed records: what was written is read, wherever the records stand, by the laws of obj; and a turn of the loop that
-- writes them. Assumes nothing.
use mathlib.Core.Path.{◌≡◌, refl, sym, ap, ◌∙◌}
use mathlib.Core.List.{List, [], ◌∷◌, ◌++◌, map, map-id}
use Prim.Native.Nat.{ℕ, zero, suc, ◌+◌, ◌-◌, ◌*◌, ◌/◌, ◌%◌, ◌≤◌, ◌<◌}
use native.Mathlib.Nat.{zero-add, le_of_suc-le-suc, not-suc-le-zero}
use native.Mathlib.Omega.{arith}
use lib.ListN.{length, get_or, length-append, get_or-append}
use lib.Seq.{sets, get_or-append-add}
use Rattle.lists.specs.Rows.{tabulate}
use Rattle.lists.proofs.Rows.{rest-cons, rest-none}
use Rattle.lists.proofs.Parts.{tabulate-map, tabulate_list}
use Rattle.lists.proofs.Stores.{sets-sets, get_or-sets_at}
use Rattle.obj.specs.Records.{split_at, stage_places, split_width}
use Rattle.obj.specs.Bytes.{split_bytes}
use Rattle.obj.specs.Laws.{length-split_bytes, split_same}
use Rattle.obj.proofs.Bytes.{split_back}
use Rattle.obj.specs.declared.Split.{Split}
use Rattle.splits.specs.Columns.{row_of}
use Rattle.splits.specs.Bytes.{table_bytes, Fits}
use Rattle.splits.proofs.Alignment.{alignment_small}

pub length-table_bytes : (l : List Split) → length (table_bytes l) ≡ split_width * length l
unfolding table_bytes
length-table_bytes [] = refl
length-table_bytes (s ∷ l) = length-append (split_bytes s) (table_bytes l) ∙ omega (arith, length-split_bytes s, length-table_bytes l)

-- ---- what was written is read back

-- the first of several records, and those after it
in_front : (s : Split) (r : List ℕ) → split_at (split_bytes s ++ r) 0 ≡ split_at (split_bytes s) 0
in_front s r =
    split_same (split_bytes s ++ r) (split_bytes s) 0 0
    (λ k h. rw zero-add (get_or-append (split_bytes s) r 0 k (omega (arith, length-split_bytes s))))

behind : (s : Split) (r : List ℕ) (at : ℕ) → split_at (split_bytes s ++ r) (split_width + at) ≡ split_at r at
behind s r at =
    split_same (split_bytes s ++ r) r (split_width + at) at
    (λ k h.
    ap (λ (m : ℕ). get_or (split_bytes s ++ r) m 0) (let e : split_width + at + k ≡ length (split_bytes s) + (at + k) = omega (arith, length-split_bytes s) in e)
    ∙ get_or-append-add (split_bytes s) r (at + k) 0)

table_back : (l : List Split) (k : ℕ) (d : Split) → k < length l → Fits (get_or l k d) → split_at (table_bytes l) (split_width * k) ≡ get_or l k d
unfolding table_bytes
table_back [] k d h f = absurd (not-suc-le-zero h)
table_back (s ∷ l) zero d h f = in_front s (table_bytes l) ∙ split_back s f.section f.start f.end f.unit f.alignment f.rename f.origin
table_back (s ∷ l) (suc k) d h f =
    ap (split_at (split_bytes s ++ table_bytes l)) (let e : split_width * suc k ≡ split_width + split_width * k = omega arith in e)
    ∙ behind s (table_bytes l) (split_width * k)
    ∙ table_back l k d (le_of_suc-le-suc h) f

module _ (out : List ℕ) (l : List Split) (room : split_width * length l ≤ length out) (d : Split) where
  -- record k of a table that was written at the front of a lent one is row k
  pub split_written : (k : ℕ) → k < length l → Fits (get_or l k d) → split_at (sets out 0 (table_bytes l)) (split_width * k) ≡ get_or l k d
  split_written k h f =
      split_same (sets out 0 (table_bytes l)) (table_bytes l) (split_width * k) (split_width * k)
      (λ j q.
      ap (λ (m : ℕ). get_or (sets out 0 (table_bytes l)) m 0) (sym (zero-add (split_width * k + j)))
      ∙ get_or-sets_at out 0 (table_bytes l) (split_width * k + j) 0 (omega (arith, length-table_bytes l)) (omega (arith, length-table_bytes l)))
      ∙ table_back l k d h f

  -- THEOREM: the records written, read as a stage table, are the rows
  pub splits_back : ((k : ℕ) → k < length l → Fits (get_or l k d)) → map (split_at (sets out 0 (table_bytes l))) (stage_places split_width (length l)) ≡ l
  unfolding stage_places
  splits_back fits =
      sym (tabulate-map (split_at (sets out 0 (table_bytes l))) (λ k. split_width * k) (λ k. split_at (sets out 0 (table_bytes l)) (split_width * k)) 0 (length l) (λ j m q. refl))
      ∙ tabulate_list (λ s. s) (λ k. split_at (sets out 0 (table_bytes l)) (split_width * k)) l d (λ k h. split_written k h (fits k h))
      ∙ map-id l

-- a row of columns fits, as their numbers do
pub row_fits : (start end unit rest : ℕ) → start < 4294967296 → end < 4294967296 → unit < 65536 → Fits (row_of start end unit rest)
unfolding row_of
row_fits start end unit rest a b c = record {
  section = omega arith;
  start = a;
  end = b;
  unit = c;
  alignment = omega (arith, alignment_small (rest / 1099511627776 % 256));
  flags = omega arith;
  rename = omega arith;
  origin = omega arith;
}

-- ---- a turn of the loop that writes the rows: one is written, and the rest follows it
module _ (out : List ℕ) (f : ℕ → Split) (n i : ℕ) where
  pub written_turn : i < n
      → sets (sets out (split_width * i) (split_bytes (f i))) (split_width * (i + 1)) (table_bytes (tabulate f (i + 1) (n - (i + 1))))
      ≡ sets out (split_width * i) (table_bytes (tabulate f i (n - i)))
  unfolding table_bytes
  written_turn h =
      sets-sets out (split_width * i) (split_bytes (f i)) (split_width * (i + 1)) (table_bytes (tabulate f (i + 1) (n - (i + 1)))) (omega (arith, length-split_bytes (f i)))
      ∙ ap (λ (l : List Split). sets out (split_width * i) (table_bytes l)) (sym (rest-cons f i n h))

  pub written_all : n ≤ i → sets out (split_width * i) (table_bytes (tabulate f i (n - i))) ≡ out
  unfolding table_bytes
  written_all h = rw (rest-none f i n h)
