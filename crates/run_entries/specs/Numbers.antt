-- The numbers of a run's refusals: DECISIONS.md, 21. Of document 01's numbers a run gives none of 30 and 31 (only "with a start given"), 54, 62, 72 and 74; 61 is no refusal of
-- its outcome but an end of its own ("61 cycle, left in the unit table"). That it is so: `run-numbers`, `stage_numbers` and `never` of
-- proofs/Never.antt.
use Rattle.std.specs.Prelude.{ℕ, ◌≤◌, ◌≡◌, ◌≢◌}
use Rattle.obj.specs.Answers.{refusal_word}

-- a number that a stage of a run can give, by its place in document 01: none of a table check, "Tables", 1 to 8
pub data OfStages (number : ℕ) : Type 0 where
  -- 10 and 11, of several stages
  shared : 10 ≤ number → number ≤ 11 → OfStages number
  -- "Merge" and the gaps' names: 20 to 28
  merge : 20 ≤ number → number ≤ 28 → OfStages number
  -- "Gap": 40 to 42
  gap : 40 ≤ number → number ≤ 42 → OfStages number
  -- "Check": 50 to 53
  check : 50 ≤ number → number ≤ 53 → OfStages number
  -- "60 order number twice"
  twice : 60 ≤ number → number ≤ 60 → OfStages number
  -- "70 no split", "71 start isn't current"
  missing : 70 ≤ number → number ≤ 71 → OfStages number
  -- "73 nonzero byte there"
  nonzero : 73 ≤ number → number ≤ 73 → OfStages number
  -- "75 alignment misfits", "76 output table full" or "unit table shorter than the nodes"
  full : 75 ≤ number → number ≤ 76 → OfStages number

-- a number that a run can give: of the loader, "Tables", 1 to 8, or of a stage
pub data CanCome (number : ℕ) : Type 0 where
  loading : 1 ≤ number → number ≤ 8 → CanCome number
  staging : OfStages number → CanCome number

-- "54 an end falls ..", "62 edge from or to no node", "72 between-range outside section", "74 unit not listed": none of them
pub record NeverThese (number : ℕ) : Type 0 where
  pub fall : number ≢ 54
  pub edge : number ≢ 62
  pub outside : number ≢ 72
  pub unlisted : number ≢ 74

-- what the entry's word can be: 0, "61 cycle ..", or that of a refusal with a number that can come
pub data WordOf (word : ℕ) : Type 0 where
  whole : word ≡ 0 → WordOf word
  cycle : word ≡ refusal_word 61 0 0 → WordOf word
  refusal : (number section address : ℕ) → CanCome number → word ≡ refusal_word number section address → WordOf word
