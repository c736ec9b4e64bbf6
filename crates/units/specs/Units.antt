-- The unit that takes a split's pieces: document 01, Walk, "Of units with one name the last takes the pieces."
use Rattle.std.specs.Prelude.{ℕ, suc, ◌≤◌, ◌<◌, ◌≡◌, List, [], ◌∷◌, map, cond, eqb, length, get_or}
use Rattle.obj.specs.Records.{unit_at, Held}

-- the names of the units of a table, by name number
abbrev pub unit_names : (b places : List ℕ) → List ℕ
unit_names b places = map (λ at. (unit_at b at).name) places

-- the last of these units that has the name, `found` if none has; the first of them is unit `number`
unfoldable pub last_named : (name found number : ℕ) → List ℕ → ℕ
last_named name found number [] = found
last_named name found number (u ∷ later) = last_named name (cond (eqb u name) number found) (suc number) later

-- the number of the unit that takes the pieces of splits with this unit name; how many units there are, if none is listed
unfoldable pub unit_of : (units : List ℕ) → (name : ℕ) → ℕ
unit_of units name = last_named name (length units) 0 units

-- ---- what is asked of the tables, and what is made of them

-- each unit's record can be read, and its name has a place in the column
pub record Listed (b places column : List ℕ) : Type 0 where
  pub few : length places ≤ 65535
  pub held : (k : ℕ) → k < length places → Held 8 b places k
  pub named : (k : ℕ) → k < length places → (unit_at b (get_or places k 0)).name < length column

-- the column has the number of the unit of each name
pub record Numbered (column units : List ℕ) : Type 0 where
  pub each : (name : ℕ) → name < length column → get_or column name 0 ≡ unit_of units name
