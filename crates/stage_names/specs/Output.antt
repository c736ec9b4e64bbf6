-- The lent name table: the definitions of `StageNames` over the struct.
use Rattle.std.specs.Prelude.{ℕ, ◌≡◌, List, length}
use Rattle.stage_names.specs.declared.output.NameOutput.{NameOutput}
use Rattle.stage_names.specs.StageNames.{Fits, Put, Given}

abbrev pub FitsIn : (base more : List (List ℕ)) → NameOutput → Type 0
FitsIn base more o = Fits base more (length o.ends.now) (length o.bytes.now)

abbrev pub PutIn : List (List ℕ) → (first at : ℕ) → (before after : NameOutput) → ℕ → Type 0
PutIn names first at before after r = Put names first at before.ends.now before.bytes.now after.ends.now after.bytes.now r

abbrev pub GivenIn : List (List ℕ) → (before after : NameOutput) → ℕ → Type 0
GivenIn names before after r = Given names (length before.ends.now) (length before.bytes.now) after.ends.now after.bytes.now r

-- the same table is lent, of the same lengths
pub record SameLent (before after : NameOutput) : Type 0 where
  pub ends : after.ends.ghost_name ≡ before.ends.ghost_name
  pub bytes : after.bytes.ghost_name ≡ before.bytes.ghost_name
  pub ends_size : length after.ends.now ≡ length before.ends.now
  pub bytes_size : length after.bytes.now ≡ length before.bytes.now
