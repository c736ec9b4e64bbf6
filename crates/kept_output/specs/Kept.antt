-- Outputs of the entries that document 02 adds: "Here and later, lent bytes past an accepted output stay." A refusal leaves zeros throughout. `size` has in eight
-- bytes, the lowest first, how many bytes the output before it holds; where fewer than eight are lent it isn't written (DECISIONS.md, 110). An entry's contract is
-- `Leaves` of its outcome; `settle` gives it `Settles`, from which the entry's own laws conclude.
use Rattle.std.specs.Prelude.{ℕ, ◌≡◌, List, ◌++◌, cond, leb, length, drop, replicate, Result, Ok, Err}
use Rattle.lists.specs.Outcome.{Outcome, accepted, refused}
use Rattle.fields.specs.Fields.{enc64}
use Rattle.obj.specs.Answers.{meaning, outcome_word}
use Rattle.obj.specs.declared.Refusal.{Refusal}

-- every byte of the output
abbrev pub output_of : (before : List ℕ) → Outcome (List ℕ) → List ℕ
output_of before (accepted bytes) = bytes ++ drop (length bytes) before
output_of before (refused number section address) = replicate (length before) 0

-- .. and of `size`
abbrev pub size_of : (before : List ℕ) → Outcome (List ℕ) → List ℕ
size_of before (accepted bytes) = cond (leb 8 (length before)) (enc64 (length bytes) ++ drop 8 before) before
size_of before (refused number section address) = replicate (length before) 0

-- the answer, every byte of the output and every byte of `size`
pub record Leaves (o : Outcome (List ℕ)) (out size : List ℕ) (answer : ℕ) (out' size' : List ℕ) : Type 0 where
  pub said : answer ≡ outcome_word o
  pub output : out' ≡ output_of out o
  pub sized : size' ≡ size_of size o

-- ---- inside: from an answer, with the output already written where it was accepted

-- the output: zeros after a refusal
abbrev pub kept_of : {A : Type 0} → (out : List ℕ) → Result A Refusal → List ℕ
kept_of out (Ok a) = out
kept_of out (Err r) = replicate (length out) 0

-- .. and `size`, where so many bytes were written
abbrev pub sized_of : (size : List ℕ) → Result ℕ Refusal → List ℕ
sized_of size (Ok value) = cond (leb 8 (length size)) (enc64 value ++ drop 8 size) size
sized_of size (Err r) = replicate (length size) 0

-- the answer's word, and both outputs
pub record Settles (a : Result ℕ Refusal) (out size : List ℕ) (answer : ℕ) (out' size' : List ℕ) : Type 0 where
  pub said : answer ≡ outcome_word (meaning a)
  pub output : out' ≡ kept_of out a
  pub sized : size' ≡ sized_of size a
