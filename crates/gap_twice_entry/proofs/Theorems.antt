-- Two calls of the entry, by their bytes: the second takes from the outputs of the first what its counts say, and leaves every byte as it was.
-- Assumes nothing but document 02's premises.
use mathlib.Core.Path.{◌≡◌, sym, ap, ap₂, ◌∙◌}
use mathlib.Core.List.{List, [], ◌∷◌, ◌++◌}
use Prim.Native.Nat.{ℕ, ◌+◌, ◌-◌, ◌*◌, ◌/◌, ◌≤◌, ◌<◌}
use native.Mathlib.Omega.{arith}
use lib.ListN.{length, get_or, take, replicate}
use lib.Seq.{take_at, take_all, take-append-add}
use Rattle.lists.specs.Outcome.{accepted}
use Rattle.lists.specs.Tables.{laid}
use Rattle.fields.specs.Fields.{le16}
use Rattle.obj.specs.Answers.{outcome_word}
use Rattle.outputs.specs.Outputs.{halves, counts_of}
use Rattle.splits.specs.Bytes.{table_bytes}
use Rattle.splits.proofs.Bytes.{length-table_bytes}
use Rattle.stage_names.specs.StageNames.{flat, name_ends}
use Rattle.stage_names.proofs.Fits.{long_halves}
use Rattle.stage_splits.proofs.Laws.{room_low}
use Rattle.stage_gaps.proofs.Laws.{flat_bytes}
use Rattle.stage_gaps.specs.StageGaps.{filled_of, Laid}
use Rattle.gap_splits.specs.Entering.{Filled}
use Rattle.entry_create_gap_splits.specs.Entry.{gap_splits_of}
use Rattle.gap_twice.specs.Twice.{Premises, Needed}
use Rattle.obj.specs.Records.{split_width}
use Rattle.gap_twice_entry.specs.Calls.{Call, outcome, list_of, Left, ends_counted, splits_counted, again, Unchanged}
use Rattle.gap_twice_entry.proofs.Entry.{names_clean, rows_few, entry_again}
use Rattle.gap_twice_entry.proofs.Answers.{accepts}

-- the first call left these tables, and its counts are whole
module _ (c : Call) (r : Left c) (whole : 6 ≤ c.counts_size) (t : Filled) (e : outcome c ≡ accepted t) where
  laid_out : Laid t c.ends_size c.bytes_size c.size c.counts_size r.ends r.bytes r.splits r.counts
  laid_out = rw (ap filled_of e) at r.leaves.laid_out

  -- ---- how many they are

  abbrev three : List ℕ
  three = length t.names ∷ length (flat t.names) ∷ length t.rows ∷ []

  counts_whole : r.counts ≡ laid c.counts_size (halves three)
  unfolding counts_of
  counts_whole = laid_out.counted ∙ ap (λ (l : List ℕ). laid c.counts_size (halves l)) (take_all (c.counts_size / 2) three (omega arith))

  -- THEOREM: the counts tell how many names, bytes of names and splits there are
  pub counts_read : (le16 r.counts 0 ≡ length t.names) × (le16 r.counts 2 ≡ length (flat t.names)) × (le16 r.counts 4 ≡ length t.rows)
  unfolding halves
  counts_read =
      let names_few = (names_clean c t e).few in
      let bytes_few : length (flat t.names) < 65536 = omega (arith, flat_bytes t.names, (names_clean c t e).short) in
      let splits_few : length t.rows ≤ 1024 = omega (arith, rows_few c t e, room_low c.size) in
      rw counts_whole (omega arith, omega arith, omega arith)

  -- ---- the second call

  ends_are : ends_counted r.counts r.ends ≡ name_ends t.names
  ends_are = ap₂ (λ (n : ℕ) (l : List ℕ). take (2 * n) l) counts_read.0 laid_out.ends ∙ take_at (name_ends t.names) _ (2 * length t.names) (long_halves 0 t.names)

  splits_are : splits_counted r.counts r.splits ≡ table_bytes t.rows
  splits_are = ap₂ (λ (n : ℕ) (l : List ℕ). take (split_width * n) l) counts_read.2 laid_out.splits ∙ take_at (table_bytes t.rows) _ (split_width * length t.rows) (length-table_bytes t.rows)

  -- the name bytes that were counted, and some of the zeros behind them
  bytes_are : (m : ℕ) → le16 r.counts 2 ≤ m → take m r.bytes ≡ flat t.names ++ take (m - length (flat t.names)) (replicate (c.bytes_size - length (flat t.names)) 0)
  bytes_are m h =
      ap₂ take (let e : m ≡ length (flat t.names) + (m - length (flat t.names)) = omega (arith, counts_read.1) in e) laid_out.bytes
      ∙ take-append-add (flat t.names) (replicate (c.bytes_size - length (flat t.names)) 0) (m - length (flat t.names))

  again_accepted : ((i : ℕ) → get_or c.splits i 0 < 256) → Needed (list_of c) → (m : ℕ) → le16 r.counts 2 ≤ m → outcome (again c r m) ≡ accepted t
  again_accepted small needed m h =
      ap₂ (λ (l s : List ℕ). gap_splits_of l (take m r.bytes) c.sections c.places c.image c.symbols s c.ends_size c.bytes_size c.size) ends_are splits_are
      ∙ ap (λ (b : List ℕ). gap_splits_of (name_ends t.names) b c.sections c.places c.image c.symbols (table_bytes t.rows) c.ends_size c.bytes_size c.size) (bytes_are m h)
      ∙ entry_again c t e _ small needed c.ends_size c.bytes_size c.size (record { names = omega arith; bytes = omega arith; splits = omega arith })

  same_bytes : ((i : ℕ) → get_or c.splits i 0 < 256) → Needed (list_of c) → (m : ℕ) → le16 r.counts 2 ≤ m → (s : Left (again c r m)) → Unchanged c (again c r m) r s
  same_bytes small needed m h s =
      let a = again_accepted small needed m h in
      let l : Laid t c.ends_size c.bytes_size c.size c.counts_size s.ends s.bytes s.splits s.counts = rw (ap filled_of a) at s.leaves.laid_out in record {
        accepts = s.leaves.answered ∙ ap outcome_word a;
        ends = l.ends ∙ sym laid_out.ends;
        bytes = l.bytes ∙ sym laid_out.bytes;
        splits = l.splits ∙ sym laid_out.splits;
        counts = l.counted ∙ sym laid_out.counted;
      }

-- ---- whatever was lent to two calls of the entry

-- the lent split table is of bytes, as every table is; the first answered 0, and its counts are whole; the second was lent the name ends, name bytes and splits that were counted, or more of the name bytes
module _ (c : Call) (small : (i : ℕ) → get_or c.splits i 0 < 256) (r : Left c) (whole : 6 ≤ c.counts_size) (accepted-first : r.answer ≡ 0) (m : ℕ) (long : le16 r.counts 2 ≤ m) (s : Left (again c r m)) where
  -- THEOREM: the second answers 0 and leaves the same bytes, also where starts within a section are equal
  pub called_again : Needed (list_of c) → Unchanged c (again c r m) r s
  called_again needed = let a = accepts c r accepted-first in same_bytes c r whole a.0 a.1 small needed m long s

  -- THEOREM (document 02, (k), over the bytes of two calls): so it is under document 02's premises
  pub called_twice : Premises (list_of c) → Unchanged c (again c r m) r s
  called_twice premises = called_again (record { units = premises.units; forward = premises.forward })
