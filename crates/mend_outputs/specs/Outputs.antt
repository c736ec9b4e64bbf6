-- What `mend_splits` leaves in its three lent outputs, for every outcome. Document 02: "Here and later, lent bytes past an accepted output stay"; document 01: after a
-- refusal every output is zeros over its whole lent length. What is left in one output is `output_of` of crate kept_output, for each of the three.
use Rattle.std.specs.Prelude.{Result, ℕ, ◌/◌, ◌≡◌, List, [], ◌∷◌, length, take}
use Rattle.std.proofs.lemmas.List.Edits.{sets}
use Rattle.lists.specs.Outcome.{Outcome, accepted, refused}
use Rattle.obj.specs.Answers.{word, meaning, outcome_word}
use Rattle.obj.specs.Answers.{Answer}
use Rattle.std.specs.Prelude.{Ok, Err}
use Rattle.obj.specs.declared.Split.{Split}
use Rattle.outputs.specs.Outputs.{halves, store_counts}
use Rattle.splits.specs.Bytes.{table_bytes}
use Rattle.kept_output.specs.Kept.{output_of, kept_of}
use Rattle.mend.specs.Mend.{Mended}
use Rattle.obj.specs.declared.Refusal.{Refusal}
use Rattle.stage_splits.specs.StageSplits.{said}

-- the mended table's records
abbrev pub split_bytes : Mended → List ℕ
split_bytes m = table_bytes m.splits

-- "counts": splits, bytes of lines; as many as fit whole into `size` bytes
abbrev pub count_bytes : (size : ℕ) → Mended → List ℕ
count_bytes size m = halves (take (size / 2) (length m.splits ∷ length m.lines ∷ []))

-- what an outcome writes, if it was accepted
abbrev pub written : (Mended → List ℕ) → Outcome Mended → Outcome (List ℕ)
written f (accepted m) = accepted (f m)
written f (refused number section address) = refused number section address

-- the answer of the entry, and every byte of its outputs, before and after: what was written, and behind it what was lent; zeros after a refusal
pub record Leaves (o : Outcome Mended) (out lines counts : List ℕ) (answer : ℕ) (out' lines' counts' : List ℕ) : Type 0 where
  pub said : answer ≡ outcome_word o
  pub splits : out' ≡ output_of out (written split_bytes o)
  pub lined : lines' ≡ output_of lines (written (λ (m : Mended). m.lines) o)
  pub counted : counts' ≡ output_of counts (written (count_bytes (length counts)) o)

-- ---- inside

-- these stand in the outputs, and what was lent behind them
pub record Laid (out lines counts out' lines' counts' : List ℕ) (m : Mended) : Type 0 where
  pub splits : out' ≡ output_of out (accepted (split_bytes m))
  pub lined : lines' ≡ output_of lines (accepted m.lines)
  pub counted : counts' ≡ output_of counts (accepted (count_bytes (length counts) m))

-- what was answered, and what holds of an accepted value; after a refusal the outputs are still to be cleared
pub record Gives {A : Type 0} (o : Outcome A) (a : Answer) (P : A → Type 0) : Type 0 where
  pub answered : meaning a ≡ said o
  pub given : (x : A) → o ≡ accepted x → P x

-- the answer to a mending
abbrev pub as_answer : Result ℕ Refusal → Answer
as_answer (Ok size) = Ok tt
as_answer (Err r) = Err r

-- what was answered; the n rows, their number and that of the bytes of lines are stored if the mending was accepted
pub record Stores (r : Result ℕ Refusal) (l : List Split) (n : ℕ) (a : Answer) (out counts out' counts' : List ℕ) : Type 0 where
  pub answered : a ≡ as_answer r
  pub stored : (size : ℕ) → r ≡ Ok size → (out' ≡ sets out 0 (table_bytes l)) × (counts' ≡ store_counts 0 (n ∷ size ∷ []) counts)

-- the answer's word, and the outputs zeros if it is a refusal
pub record Finishes (a : Answer) (out lines counts : List ℕ) (answer : ℕ) (out' lines' counts' : List ℕ) : Type 0 where
  pub said : answer ≡ word a
  pub splits : out' ≡ kept_of out a
  pub lined : lines' ≡ kept_of lines a
  pub counted : counts' ≡ kept_of counts a
