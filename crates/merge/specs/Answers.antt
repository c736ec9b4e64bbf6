-- What the answers of the merge mean: a round's step is an outcome of `decide`, and what is merged is the rows that the columns then hold.
use Rattle.std.specs.Prelude.{ℕ, ◌≡◌, List, MatchResult, Result, Ok, Err}
use Rattle.lists.specs.Rows.{keep_if}
use Rattle.lists.specs.Outcome.{Outcome, accepted, refused}
use Rattle.obj.specs.declared.Refusal.{Refusal}
use Rattle.obj.specs.declared.Section.{Section}
use Rattle.obj.specs.Answers.{Answer}
use Rattle.obj.specs.declared.Split.{Split}
use Rattle.splits.specs.Columns.{Good}
use Rattle.splits.specs.Questions.{of_unit}
use Rattle.merge.specs.Merge.{Step, keep, push, join, given, on_own, decide}
use Rattle.merge.specs.declared.Step as steps
use Rattle.merge.specs.declared.Step.TheVariants.{Keep, Push, Join}

abbrev pub decided : Result steps.Step Refusal → Outcome Step
decided (Ok Keep) = accepted keep
decided (Ok Push) = accepted push
decided (Ok (Join joint)) = accepted (join joint)
decided (Err r) = refused r.number r.section r.address

-- a joint split that is handed on has an alignment that the columns can hold
abbrev pub HandsGood : Result steps.Step Refusal → Type 0
HandsGood (Ok Keep) = Unit {0}
HandsGood (Ok Push) = Unit {0}
HandsGood (Ok (Join joint)) = Good joint.alignment
HandsGood (Err r) = Unit {0}

-- where a round of s with these sections ends by 20 or 21, the refusal; where it doesn't, the splits of its unit decide, whatever the table
abbrev pub Begins : List Section → Split → Answer → Type 0
Begins sections s r =
    (room : ℕ) (rows : List Split) → MatchResult r
    (λ _. decide (given sections room) rows s ≡ on_own room rows s (keep_if (of_unit s.section s.unit) rows))
    (λ e. decide (given sections room) rows s ≡ refused e.number e.section e.address)

-- the rows that an answer leaves in the table, or its refusal
abbrev pub merged : Answer → List Split → Outcome (List Split)
merged (Ok _) rows = accepted rows
merged (Err r) rows = refused r.number r.section r.address
