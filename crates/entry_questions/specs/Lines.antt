-- Inside the entries: their definition from the symbols on, over what the tables before them leave, and what the functions are given, by the structs that hold
-- the tables.
use Rattle.std.specs.Prelude.{ℕ, ◌/◌, ◌<◌, List, length}
use Rattle.lists.specs.Outcome.{Outcome, ◌>>◌}
use Rattle.obj.specs.Records.{stage_places, Held, split_width}
use Rattle.obj.specs.declared.Section.{Section}
use Rattle.obj.specs.declared.Split.{Split}
use Rattle.obj.specs.declared.Table.{Table}
use Rattle.names.specs.declared.Names.{Names}
use Rattle.lent_tables.specs.declared.StageTables.{StageTables}
use Rattle.tables.specs.Tables.{main_ceilings}
use Rattle.tables.specs.Records as records
use Rattle.stage_tables.specs.StageTables.{symbols_check, splits_check}
use Rattle.sections.specs.Image.{image_of}
use Rattle.sections.specs.Sections.{Sections, Kept, Heads, sections_lent}
use Rattle.sections.specs.declared.Obj.{Obj}
use Rattle.entry_questions.specs.declared.Question.{Question}
use Rattle.entry_questions.specs.Entry.{question_of, answer_of, split_of, split_in}

-- ---- the definition, from one table on

-- from the symbols on, over names and sections that passed
unfoldable pub from_symbols : (name_bytes name_places name_lengths : List ℕ) → (heads : List Section) → Sections → (symbols splits : List ℕ) → Question → Outcome ℕ
from_symbols name_bytes name_places name_lengths heads sections symbols splits question = do
  symbols_check main_ceilings.symbols (length name_lengths) heads symbols
  splits_check main_ceilings.splits name_lengths heads splits
  question_of (image_of symbols (stage_places 20 (length symbols / 20)) name_bytes name_places name_lengths) sections (length splits / split_width) (split_in splits) question

abbrev pub from_symbols_in : Names → (heads image : Table) → StageTables → Question → Outcome ℕ
from_symbols_in n heads image t question =
    from_symbols n.bytes.now n.places.now n.lengths.now (records.sections_in heads.bytes.now heads.places.now) (sections_lent heads image) t.symbols.now t.splits.now question

-- the whole definition, of the tables that are lent together
abbrev pub answer_in : StageTables → Question → Outcome ℕ
answer_in t question = answer_of t.name_ends.now t.name_bytes.now t.sections.now t.section_places.now t.image.now t.symbols.now t.splits.now question

-- ---- what the functions are given

-- split k's record
abbrev pub split_at_in : (splits : Table) → ℕ → Split
split_at_in splits = split_of splits.bytes.now splits.places.now

-- the sections that passed, with their names and bytes; where no bytes are asked, with their names alone. `KeptIn` of sections says the first of an `Obj`, which there is
-- only once the symbols have passed: here are the parts that it is then made of.
abbrev pub KeptIn : (heads image : Table) → Names → Type 0
KeptIn heads image n = Kept heads.bytes.now heads.places.now image.bytes.now image.places.now n.places.now

abbrev pub HeadsIn : Obj → Type 0
HeadsIn o = Heads o.heads.bytes.now o.heads.places.now o.names.places.now

-- every split's section is there
pub record Homes (b places head_places : List ℕ) : Type 0 where
  pub held : (k : ℕ) → k < length places → Held split_width b places k
  pub home : (k : ℕ) → k < length places → (split_of b places k).section < length head_places

abbrev pub HomesIn : (splits heads : Table) → Type 0
HomesIn splits heads = Homes splits.bytes.now splits.places.now heads.places.now
