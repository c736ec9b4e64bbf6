-- The stage in lent columns: what its functions ask of the tables, and what they leave.
use Rattle.std.specs.Prelude.{ℕ, ◌*◌, ◌≤◌, ◌<◌, ◌≡◌, List, Result, Ok, Err, cond, length, get_or, eqb, ltb}
use Rattle.std.proofs.lemmas.List.Edits.{sets}
use Rattle.lists.specs.Rows.{some}
use Rattle.lists.specs.Sort.{All}
use Rattle.lists.specs.Outcome.{Outcome, accepted, refused}
use Rattle.obj.specs.Answers.{Answer, meaning}
use Rattle.obj.specs.declared.Refusal.{Refusal}
use Rattle.obj.specs.declared.Split.{Split}
use Rattle.obj.specs.declared.Unit as units
use Rattle.obj.specs.Nothing.{no_unit}
use Rattle.order_numbers.specs.Numbers.{Whole}
use Rattle.symbol_order.specs.Keys.{unit_of}
use Rattle.splits.specs.Columns.{Columns}
use Rattle.toposort.specs.Search.{End, all, cyclic, lost}
use Rattle.toposort.specs.Sorting as sorting
use Rattle.toposort.specs.declared.Unsorted.{Unsorted}
use Rattle.toposort.specs.declared.Unsorted.TheVariants as unsorted
use Rattle.toposort.specs.Sorting.{nodes_left}
use Rattle.link_graph.specs.Columns.{Splits, UnitsBelow}
use Rattle.link_graph.specs.Tables.{given_of, NamesBelow, Graphed}
use Rattle.link_graph.specs.declared.link_tables.LinkTables.{LinkTables}
use Rattle.link_graph.specs.declared.link_tables.LinkGraph.{LinkGraph}
use Rattle.order.specs.declared.Unlinked.{Unlinked}
use Rattle.order.specs.declared.Unlinked.TheVariants.{Refused, Cycle}
use Rattle.order.specs.Bytes.{units_bytes}
use Rattle.order.specs.LinkOrder.{first_record, hand_of, made_unit, records_of}

-- ---- answers

-- what the stage says: an order is accepted, "61 cycle" is refused at (0, 0) (a search never ends lost: toposort's `searched_right`)
abbrev pub said_of : Outcome End → Outcome (Unit {0})
said_of (accepted (all l)) = accepted tt
said_of (accepted (cyclic l)) = refused 61 0 0
said_of (accepted lost) = accepted tt
said_of (refused number section address) = refused number section address

-- how many unit records an answer leaves at the front of the unit table: those of the order or of the cycle, none after a refusal
abbrev pub kept : Result ℕ Unlinked → ℕ
kept (Ok n) = n
kept (Err (Cycle k)) = k
kept (Err (Refused r)) = 0

-- document 01's number, section and address where there is no order
abbrev pub refusal_of : Unlinked → Refusal
refusal_of (Cycle k) = record { number = 61; section = 0; address = 0 }
refusal_of (Refused r) = r

-- .. and for each case of the answer
abbrev pub answer_of : Result ℕ Unlinked → Answer
answer_of (Ok n) = Ok tt
answer_of (Err why) = Err (refusal_of why)

-- why the sort gives no order, said of the unit records
abbrev pub unlinked_of : Unsorted → Unlinked
unlinked_of (unsorted.Cycle k) = Cycle k
unlinked_of (unsorted.NoNode e) = Refused (sorting.refusal_of (unsorted.NoNode e))
unlinked_of unsorted.Short = Refused (sorting.refusal_of unsorted.Short)

-- 61 is the cycle's number alone
abbrev pub NotCycle : Result ℕ Unlinked → Type 0
NotCycle (Ok n) = Unit {0}
NotCycle (Err (Cycle k)) = Unit {0}
NotCycle (Err (Refused r)) = r.number ≡ 61 → ⊥

-- the answer says of the unit records what the sort says of the nodes
abbrev pub Says : Result ℕ Unsorted → Result ℕ Unlinked → Type 0
Says r a = (kept a ≡ sorting.kept r) × (answer_of a ≡ sorting.answer_of r) × NotCycle a

-- what the stage leaves: its answer, and the records of the order or the cycle at the front of the unit table
pub record Resolves (splits : List Split) (us : List units.Unit) (o : Outcome End) (r : Result ℕ Unlinked) (before after : List ℕ) : Type 0 where
  pub said : meaning (answer_of r) ≡ said_of o
  pub counted : kept r ≡ length (nodes_left o)
  pub front : after ≡ sets before 0 (units_bytes (records_of splits us (nodes_left o)))
  pub room : 8 * kept r ≤ length before
  pub few : kept r ≤ 1024
  pub other : NotCycle r

-- ---- the unit records

-- what a column by name has for a unit: the number of its first record; without one 65534 if it has a split made by hand, else 65535
unfoldable pub record_mark : List Split → List units.Unit → ℕ → ℕ
record_mark splits us v = cond (ltb (first_record us v) (length us)) (first_record us v) (cond (some (hand_of v) splits) 65534 65535)

-- the column has each unit's record
pub record Recorded (splits : List Split) (us : List units.Unit) (column : List ℕ) : Type 0 where
  pub marks : (v : ℕ) → v < length column → get_or column v 0 ≡ record_mark splits us v

-- the column while it is filled: units with a split made by hand are marked, and then those that have a record
pub record HandMarked (splits : List Split) (before after : List ℕ) : Type 0 where
  pub marks : (v : ℕ) → v < length before → get_or after v 0 ≡ cond (some (hand_of v) splits) 65534 (get_or before v 0)

pub record RecordMarked (us : List units.Unit) (before after : List ℕ) : Type 0 where
  pub marks : (v : ℕ) → v < length before → get_or after v 0 ≡ cond (ltb (first_record us v) (length us)) (first_record us v) (get_or before v 0)

-- the record that such a mark stands for
unfoldable pub record_by : List units.Unit → (mark unit : ℕ) → units.Unit
record_by us mark unit = cond (eqb mark 65535) (made_unit unit 1) (cond (eqb mark 65534) (made_unit unit 0) (get_or us mark no_unit))

-- .. that of a node
abbrev pub node_record : List units.Unit → (column nodes : List ℕ) → ℕ → units.Unit
node_record us column nodes v = record_by us (get_or column (get_or nodes v 0) 0) (get_or nodes v 0)

-- the units' records are there, and so is each that the column names
pub record Marks (unit_bytes unit_places column : List ℕ) : Type 0 where
  pub whole : Whole unit_bytes unit_places
  pub inside : (v : ℕ) → v < length column → get_or column v 0 < 65534 → get_or column v 0 < length unit_places

-- nodes that are there, with their units in the column, and room for their records
pub record Writable (nodes list column out : List ℕ) : Type 0 where
  pub inside : All (λ v. v < length nodes) list
  pub named : All (λ x. x < length column) nodes
  pub room : 8 * length list ≤ length out

-- ---- the stage

-- the sort is lent the graph, a table for the nodes and a column by name
pub record Sortable (t : LinkTables) (g : LinkGraph) (table : List ℕ) : Type 0 where
  pub graphed : Graphed (given_of t) g
  pub named : NamesBelow t (length g.column.now)
  pub table_long : 1024 ≤ length table

-- what the stage is lent: places for every unit by name, and for the units that have an order
pub record Lent (t : LinkTables) (numbers scratch : List ℕ) (g : LinkGraph) : Type 0 where
  pub named : NamesBelow t (length g.column.now)
  pub numbers_long : 1024 ≤ length numbers
  pub scratch_long : 1024 ≤ length scratch

-- ---- the stage with columns of its own: what the tables before leave

-- the splits' sections are there, and their units are names
pub record SplitsTaken (c : Columns) (n : ℕ) (heads head_places name_bytes name_places lengths : List ℕ) : Type 0 where
  pub given : Splits c n heads head_places name_bytes name_places lengths
  pub named : UnitsBelow c n 4096
  pub few : length lengths ≤ 4096

-- the units' records are there, and their names are names
pub record UnitsTaken (unit_bytes unit_places : List ℕ) : Type 0 where
  pub whole : Whole unit_bytes unit_places
  pub few : length unit_places ≤ 1024
  pub named : (k : ℕ) → k < length unit_places → (unit_of unit_bytes unit_places k).name < 4096
