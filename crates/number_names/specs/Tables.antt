-- The structs of this crate, as the definitions of `Numbers` speak of their columns.
use Rattle.std.specs.Prelude.{List, ℕ, ◌≡◌, Result}
use Rattle.lists.specs.Outcome.{Outcome}
use Rattle.lists.specs.Slices.{SameSlice}
use Rattle.obj.specs.declared.Refusal.{Refusal}
use Rattle.number_names.specs.Numbers.{Room, names_in, Held, Entered, Going}
use Rattle.number_names.specs.declared.table.KnownNames.{KnownNames}
use Rattle.number_names.specs.declared.table.NumberedNames.{NumberedNames}

-- the names that are known
abbrev pub listed : KnownNames → List (List ℕ)
listed k = names_in k.ends.now k.bytes.now

-- how much place the table has
abbrev pub room_of : NumberedNames → Room
room_of t = record { names = t.most.names; bytes = t.most.bytes }

-- the same columns are lent, of the same lengths, and there is as much place
pub record SameTable (before after : NumberedNames) : Type 0 where
  pub ends : SameSlice before.ends after.ends
  pub bytes : SameSlice before.bytes after.bytes
  pub heads : SameSlice before.heads after.heads
  pub chain : SameSlice before.chain after.chain
  pub room : room_of after ≡ room_of before

-- the table holds these names at the front, and behind them what was lent
abbrev pub HeldBy : (names : List (List ℕ)) → (ends₀ bytes₀ : List ℕ) → NumberedNames → Type 0
HeldBy names ends₀ bytes₀ t = Held names ends₀ bytes₀ t.ends.now t.bytes.now t.heads.now t.chain.now t.count.names t.count.used

-- what entering names gave, and the names that the table holds after it
abbrev pub EnteredBy : Outcome (List (List ℕ)) → (ends₀ bytes₀ : List ℕ) → NumberedNames → Result (Unit {0}) Refusal → Type 0
EnteredBy o ends₀ bytes₀ t r = Entered o ends₀ bytes₀ t.ends.now t.bytes.now t.heads.now t.chain.now t.count r

-- names that are left from place i on are entered, from those that the table holds: what that gives is what was to be given
abbrev pub GoingBy : Room → (left : ℕ → List (List ℕ)) → (goal : Outcome (List (List ℕ))) → (ends₀ bytes₀ : List ℕ) → NumberedNames → (i : ℕ) → Type 0
GoingBy room left goal ends₀ bytes₀ t i = Going room left goal ends₀ bytes₀ t.ends.now t.bytes.now t.heads.now t.chain.now i t.count
