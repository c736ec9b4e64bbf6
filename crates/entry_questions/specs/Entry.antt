-- The entries `end_for_section` and `split_alignment` on their lent bytes: the tables in the order of their kinds, and then the question; what they
-- answer for every input, and every byte of the output.
use Rattle.std.specs.Prelude.{ℕ, ◌/◌, ◌≡◌, List, [], cond, length, get_or, leb}
use Rattle.lists.specs.Outcome.{Outcome, accepted, refused, refuse, ◌>>◌, ◌>>=◌}
use Rattle.lists.specs.Tables.{laid}
use Rattle.fields.specs.Fields.{enc32}
use Rattle.obj.specs.Answers.{outcome_word}
use Rattle.obj.specs.Records.{split_at, stage_places, split_width}
use Rattle.obj.specs.declared.Section.{Section}
use Rattle.obj.specs.declared.Split.{Split}
use Rattle.tables.specs.Tables.{main_ceilings}
use Rattle.tables.specs.Records.{image_places_of}
use Rattle.name_table.specs.NameTable.{names_check}
use Rattle.name_table.specs.Stored.{stage_lengths, name_starts}
use Rattle.stage_tables.specs.StageTables.{stage_sections, image_check, symbols_check, splits_check}
use Rattle.sections.specs.Image.{Image, image_of}
use Rattle.sections.specs.Sections.{Sections, sections_of}
use Rattle.sections.specs.Ends.{splitting_end}
use Rattle.sections.specs.Alignment.{alignment_from}
use Rattle.entry_questions.specs.declared.Question.{Question}
use Rattle.entry_questions.specs.declared.Question.TheVariants.{End, Alignment}

-- ---- the questions, of symbols, names and sections

-- "Splitting end (section, its start)"; a section that is not there is 20 (DECISIONS.md, 78)
unfoldable pub end_of : Image → Sections → (section : ℕ) → Outcome ℕ
end_of g sections section = do
  refuse 20 section 0 (leb sections.count section)
  splitting_end g section (sections.head section) (sections.bytes section)

-- "Alignment of a split", of the split of this number; a split that is not there is 20 at its number
unfoldable pub alignment_at : Image → (head : ℕ → Section) → (count : ℕ) → (split : ℕ → Split) → (which : ℕ) → Outcome ℕ
alignment_at g head count split which = do
  refuse 20 0 which (leb count which)
  chosen ← alignment_from g head (split which).start (split which)
  accepted chosen.value

unfoldable pub question_of : Image → Sections → (count : ℕ) → (split : ℕ → Split) → Question → Outcome ℕ
question_of g sections count split (End section) = end_of g sections section
question_of g sections count split (Alignment which) = alignment_at g sections.head count split which

-- ---- the entries

-- the tables as the questions see them
abbrev pub image_in : (ends bytes symbols : List ℕ) → Image
image_in ends bytes symbols =
    image_of symbols (stage_places 20 (length symbols / 20)) bytes (name_starts ends (length ends / 2)) (stage_lengths ends bytes)

abbrev pub sections_in : (sections places image : List ℕ) → Sections
sections_in sections places image = sections_of sections (stage_places 15 (length sections / 15)) image (image_places_of places)

-- split k of a table at places
abbrev pub split_of : (b places : List ℕ) → ℕ → Split
split_of b places k = split_at b (get_or places k 0)

abbrev pub split_in : (splits : List ℕ) → ℕ → Split
split_in splits = split_of splits (stage_places split_width (length splits / split_width))

-- the tables, "stage tables by kind", and then the question
unfoldable pub answer_of : (ends bytes sections places image symbols splits : List ℕ) → Question → Outcome ℕ
answer_of ends bytes sections places image symbols splits question = do
  -- "1 name"
  names_check main_ceilings.names ends bytes
  -- "2 section", with the places of the sections' bytes in the image
  image_check main_ceilings.sections (stage_lengths ends bytes) places (length image) sections
  -- "3 symbol"
  symbols_check main_ceilings.symbols (length ends / 2) (stage_sections sections) symbols
  -- "5 partial split"
  splits_check main_ceilings.splits (stage_lengths ends bytes) (stage_sections sections) splits
  question_of (image_in ends bytes symbols) (sections_in sections places image) (length splits / split_width) (split_in splits) question

-- `end_for_section` takes no splits: an empty table passes every check (`no_splits_pass` of stage_tables/proofs/Laws.antt), so it answers for the other tables and then
-- the end (`end_answer_lem`, a line for each)
abbrev pub end_answer : (ends bytes sections places image symbols : List ℕ) → (section : ℕ) → Outcome ℕ
end_answer ends bytes sections places image symbols section = answer_of ends bytes sections places image symbols [] (End section)

abbrev pub alignment_answer : (ends bytes sections places image symbols splits : List ℕ) → (which : ℕ) → Outcome ℕ
alignment_answer ends bytes sections places image symbols splits which =
    answer_of ends bytes sections places image symbols splits (Alignment which)

-- the number in four bytes, where they fit whole into the lent ones; zeros after a refusal
abbrev pub number_bytes : (size : ℕ) → Outcome ℕ → List ℕ
number_bytes size (accepted n) = cond (leb 4 size) (laid size (enc32 n)) (laid size [])
number_bytes size (refused number section address) = laid size []

-- the answer, and every byte of the output
pub record Leaves (o : Outcome ℕ) (size answer : ℕ) (out : List ℕ) : Type 0 where
  pub said : answer ≡ outcome_word o
  pub number : out ≡ number_bytes size o
