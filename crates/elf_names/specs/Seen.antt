-- Offsets of a string table whose strings are among the names: what the loops over sections and symbols keep, so that no long name is read, hashed and compared for each of its
-- users. The names that are entered don't depend on it, only the time does.
use Rattle.std.specs.Prelude.{ℕ, ◌+◌, ◌<◌, ◌≡◌, List, true, length, eqb, Result}
use Rattle.lists.specs.Rows.{some}
use Rattle.lists.specs.Outcome.{Outcome, accepted}
use Rattle.obj.specs.declared.Refusal.{Refusal}
use Rattle.names.specs.Names.{number_of}
use Rattle.elf.specs.Strings.{string_at}
use Rattle.number_names.specs.Numbers.{Room}
use Rattle.number_names.specs.Tables.{EnteredBy, GoingBy}
use Rattle.number_names.specs.declared.table.NumberedNames.{NumberedNames}

-- each offset that stands in the column, as one more than it is, has its string among the names
abbrev pub Seen : (strings : List ℕ) → (names : List (List ℕ)) → (seen : List ℕ) → Type 0
Seen strings names seen = (at : ℕ) → some (λ k. eqb k (at + 1)) seen ≡ true → number_of names (string_at strings at) < length names

-- what entering a name gave, and that the column is right for the names after it
pub record EnteredSeen (o : Outcome (List (List ℕ))) (strings ends₀ bytes₀ : List ℕ) (t : NumberedNames) (seen : List ℕ) (r : Result (Unit {0}) Refusal) : Type 0 where
  pub entered : EnteredBy o ends₀ bytes₀ t r
  pub right : (names : List (List ℕ)) → o ≡ accepted names → Seen strings names seen

-- what is left to enter, and that the column is right for the names so far
pub record GoingSeen (room : Room) (left : ℕ → List (List ℕ)) (goal : Outcome (List (List ℕ))) (strings ends₀ bytes₀ : List ℕ) (t : NumberedNames) (seen : List ℕ) (i : ℕ) : Type 0 where
  pub going : GoingBy room left goal ends₀ bytes₀ t i
  pub right : Seen strings going.names seen
