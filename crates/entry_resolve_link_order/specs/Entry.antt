-- The entry `resolve_link_order` on its lent bytes: what it answers, and what is left in the unit table and in the counts, for every input. Document 01,
-- "Refused, by place": the tables, "stage tables by kind", each for 1, 2, then its kind's number; then the place Order.
-- The theorems about what it answers, over these bytes: proofs/Theorems.antt.
use Rattle.std.specs.Prelude.{ℕ, ◌*◌, ◌/◌, ◌≤◌, ◌<◌, ◌≡◌, List, [], ◌∷◌, map, ◌≢◌, length, get_or}
use Rattle.lists.specs.Rows.{tabulate}
use Rattle.lists.specs.Outcome.{Outcome, accepted, ◌>>◌}
use Rattle.lists.specs.Tables.{laid}
use Rattle.obj.specs.Answers.{outcome_word}
use Rattle.obj.specs.Records.{unit_at}
use Rattle.obj.specs.declared.Split.{Split}
use Rattle.obj.specs.declared.Unit as units
use Rattle.obj.specs.Nothing.{no_section, no_unit}
use Rattle.outputs.specs.Outputs.{counts_of}
use Rattle.names.specs.Fixed.{is_pointer_list}
use Rattle.tables.specs.Tables.{main_ceilings}
use Rattle.name_table.specs.NameTable.{name_in, names_check}
use Rattle.name_table.specs.Stored.{stage_lengths}
use Rattle.stage_tables.specs.StageTables.{stage_sections, stage_splits, stage_units, sections_check, splits_check, units_check}
use Rattle.toposort.specs.Search.{End}
use Rattle.toposort.specs.Sorting.{nodes_left}
use Rattle.link_graph.specs.Graph.{Given, nodes}
use Rattle.link_graph.specs.Joined.{InOrder, IsCycle}
use Rattle.order.specs.LinkOrder.{link_order, record_of, records_of}
use Rattle.order.specs.Bytes.{units_bytes}
use Rattle.order.specs.Columns.{said_of}

-- what the lent tables give the stage; "`.ctors` and `.dtors`" by the name of the section's head
abbrev pub given_in : (ends bytes sections splits us : List ℕ) → Given
given_in ends bytes sections splits us = record {
  splits = stage_splits splits;
  units = stage_units us;
  pointers = λ k. is_pointer_list (name_in ends bytes (get_or (stage_sections sections) k no_section).name);
}

-- what the entry gives for a unit table of `size` bytes
unfoldable pub resolve_of : (ends bytes sections splits us : List ℕ) → (size : ℕ) → Outcome End
resolve_of ends bytes sections splits us size = do
  -- "1 name"
  names_check main_ceilings.names ends bytes
  -- "2 section"
  sections_check main_ceilings.sections (stage_lengths ends bytes) sections
  -- "5 partial split"
  splits_check main_ceilings.splits (stage_lengths ends bytes) (stage_sections sections) splits
  -- "6 unit"
  units_check main_ceilings.units (stage_lengths ends bytes) us
  -- 60, 76 and the search, whose cycle is 61
  link_order (given_in ends bytes sections splits us) (size / 8)

-- the answer, and every byte of the two outputs: "61 cycle, left in the unit table, zeros after", all zeros after another refusal
pub record Leaves (splits : List Split) (us : List units.Unit) (o : Outcome End) (size counts_size answer : ℕ) (out counts : List ℕ) : Type 0 where
  pub said : answer ≡ outcome_word (said_of o)
  pub units : out ≡ laid size (units_bytes (records_of splits us (nodes_left o)))
  pub counted : counts ≡ counts_of counts_size (length (nodes_left o) ∷ [])

-- the first n records of a unit table, as a caller reads them, and their names
unfoldable pub units_read : List ℕ → ℕ → List units.Unit
units_read out n = tabulate (λ k. unit_at out (8 * k)) 0 n

abbrev pub names_read : List ℕ → ℕ → List ℕ
names_read out n = map (λ (u : units.Unit). u.name) (units_read out n)

-- the first n records of the unit table are the units' own, each "the first unit record of that name", else the made one; zeros follow
pub record Records (g : Given) (out : List ℕ) (n : ℕ) : Type 0 where
  pub own : (k : ℕ) → k < n → get_or (units_read out n) k no_unit ≡ record_of g.splits g.units (get_or (names_read out n) k 0)
  pub zeros : (j : ℕ) → 8 * n ≤ j → get_or out j 0 ≡ 0

-- an accepted unit table: the units that have splits, each once, and each before those that it is joined to; and their number
pub record Accepted (g : Given) (out counts : List ℕ) (counts_size : ℕ) : Type 0 where
  pub order : InOrder g (names_read out (length (nodes g.splits)))
  pub records : Records g out (length (nodes g.splits))
  pub counted : counts ≡ counts_of counts_size (length (nodes g.splits) ∷ [])

-- a unit table after 61: k units, each joined to the next and the last to the first, none twice; and their number
pub record Shown (g : Given) (out counts : List ℕ) (counts_size : ℕ) : Type 0 where
  pub k : ℕ
  pub cycle : IsCycle g (names_read out k)
  pub records : Records g out k
  pub counted : counts ≡ counts_of counts_size (k ∷ [])

-- tables that no check refuses, no order number twice, and room for all units
pub record Good (ends bytes sections splits us : List ℕ) (size : ℕ) : Type 0 where
  pub names : names_check main_ceilings.names ends bytes ≡ accepted tt
  pub heads : sections_check main_ceilings.sections (stage_lengths ends bytes) sections ≡ accepted tt
  pub table : splits_check main_ceilings.splits (stage_lengths ends bytes) (stage_sections sections) splits ≡ accepted tt
  pub records : units_check main_ceilings.units (stage_lengths ends bytes) us ≡ accepted tt
  pub numbers : (i j : ℕ) → i < j → j < length (stage_units us) → (get_or (stage_units us) i no_unit).has_order ≡ 1 → (get_or (stage_units us) j no_unit).has_order ≡ 1
      → (get_or (stage_units us) i no_unit).order ≢ (get_or (stage_units us) j no_unit).order
  pub room : 8 * length (nodes (stage_splits splits)) ≤ size
