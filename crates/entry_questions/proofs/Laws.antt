-- The questions over tables that passed: what each of the code's answers is to the definition, and that the columns of the code ask what the lent tables do.
-- For readers of the contracts: `no_splits_pass` of stage_tables and `end_answer_lem` say what `end_for_section` answers without its empty split table. Assumes nothing.
use Prim.Native.Nat.{ℕ, ◌/◌, ◌<◌, ◌≤◌}
use mathlib.Core.Path.{◌≡◌, refl, sym, ap, ◌∙◌}
use mathlib.Core.List.{List}
use mathlib.Core.Bool.{Bool, true, false}
use borrow.Author.Tests.{le-leb, lt-leb, leb-false}
use lib.Dec.{leb}
use lib.ListN.{length, get_or}
use Rattle.lists.specs.Outcome.{Outcome, accepted, refused, ◌>>◌, ◌>>=◌}
use Rattle.lists.proofs.Outcomes.{fails, passes, then_goes}
use Rattle.obj.specs.Records.{stage_places, split_width}
use Rattle.obj.specs.declared.Section.{Section}
use Rattle.obj.specs.declared.Split.{Split}
use Rattle.obj.proofs.Laws.{length-stage_places}
use Rattle.tables.specs.Tables.{main_ceilings}
use Rattle.tables.specs.Records.{image_places_of}
use Rattle.tables.specs.Records as records
use Rattle.name_table.specs.NameTable.{names_check}
use Rattle.name_table.specs.Stored.{name_starts, stage_lengths}
use Rattle.name_table.proofs.Laws.{length-stage_lengths}
use Rattle.stage_tables.specs.StageTables.{stage_sections, image_check, symbols_check, splits_check}
use Rattle.stage_tables.proofs.Laws.{no_splits_pass}
use Rattle.sections.specs.Image.{Image, image_of}
use Rattle.sections.specs.Sections.{Sections, sections_of, head_of}
use Rattle.sections.specs.Ends.{splitting_end, end_meaning}
use Rattle.sections.specs.Alignment.{Chosen, chosen, alignment_from, alignment_meaning}
use Rattle.sections.specs.declared.Short.{Short}
use Rattle.sections.specs.declared.Alignment.{Alignment}
use Rattle.symbols.specs.declared.Backwards.{Backwards}
use Rattle.obj.specs.Answers.{meaning}
use Rattle.obj.specs.declared.Refusal.{Refusal}
use Rattle.std.specs.Prelude.{Result, Ok, Err, MatchResult}
use Rattle.std.specs.Result.{IsErrAnd}
use Rattle.std.proofs.lemmas.Result.{err_from_is_err_and}
use Rattle.sections.proofs.Laws.{bytes_as}
use Rattle.entry_questions.specs.declared.Question.{Question}
use Rattle.entry_questions.specs.declared.Question.TheVariants as questions
use Rattle.entry_questions.specs.Entry.{end_of, alignment_at, question_of, image_in, sections_in, split_in, split_of, answer_of, end_answer}
use Rattle.entry_questions.specs.Lines.{from_symbols}

-- ---- an error of a question on sections, handed on as a refusal
pub end_else : (n start : ℕ) (m : Result ℕ Short) (r : Result ℕ Refusal) {P : Short → Refusal → Type 0} → MatchResult m (λ x. r ≡ Ok x) (λ e. IsErrAnd r (P e))
    → ((e : Short) (d : Refusal) → P e d → d ≡ record { number = 10; section = n; address = start }) → end_meaning n start m ≡ meaning r
end_else n start (Ok x) r h is = sym (ap meaning h)
end_else n start (Err e) r h is = let p = err_from_is_err_and r h in sym (ap meaning (p.1 ∙ ap Err (is e p.0 p.2)))

-- the alignment that was chosen, or the refusal
abbrev pub chosen_of : Result Alignment Refusal → Outcome Chosen
chosen_of (Ok a) = accepted (chosen a)
chosen_of (Err d) = refused d.number d.section d.address

pub alignment_else : (n start : ℕ) (m : Result Alignment Backwards) (r : Result Alignment Refusal) {P : Backwards → Refusal → Type 0}
    → MatchResult m (λ x. r ≡ Ok x) (λ e. IsErrAnd r (P e))
    → ((e : Backwards) (d : Refusal) → P e d → d ≡ record { number = 11; section = n; address = start }) → alignment_meaning n start m ≡ chosen_of r
alignment_else n start (Ok x) r h is = sym (ap chosen_of h)
alignment_else n start (Err e) r h is = let p = err_from_is_err_and r h in sym (ap chosen_of (p.1 ∙ ap Err (is e p.0 p.2)))

-- ---- the splitting end
module _ (g : Image) (sections : Sections) (section : ℕ) where
  pub no_section : sections.count ≤ section → end_of g sections section ≡ refused 20 section 0
  unfolding end_of
  no_section h = fails 20 section 0 _ _ (le-leb _ _ h)

  pub end_there : section < sections.count → end_of g sections section ≡ splitting_end g section (sections.head section) (sections.bytes section)
  unfolding end_of
  end_there h = passes 20 section 0 _ _ (lt-leb _ _ h)

-- two columns that agree on the sections give the same end: of a section that is there its bytes, and 20 of one that is not
pub end_as : (g : Image) (heads head_places image I J : List ℕ) (section : ℕ) → ((n : ℕ) → n < length head_places → get_or I n 0 ≡ get_or J n 0)
    → end_of g (sections_of heads head_places image I) section ≡ end_of g (sections_of heads head_places image J) section
unfolding end_of
end_as g heads head_places image I J section same = go (leb (length head_places) section) refl
  where
    go : (t : Bool) → leb (length head_places) section ≡ t
        → end_of g (sections_of heads head_places image I) section ≡ end_of g (sections_of heads head_places image J) section
    go true e = fails 20 section 0 _ _ e ∙ sym (fails 20 section 0 _ _ e)
    go false e =
        passes 20 section 0 _ _ e
        ∙ ap (splitting_end g section (head_of heads head_places section)) (bytes_as image I J section (head_of heads head_places section) (same section (leb-false _ _ e)))
        ∙ sym (passes 20 section 0 _ _ e)

-- ---- the alignment of a split

module _ (g : Image) (head : ℕ → Section) (count : ℕ) (split : ℕ → Split) (which : ℕ) where
  pub no_split : count ≤ which → alignment_at g head count split which ≡ refused 20 0 which
  unfolding alignment_at
  no_split h = fails 20 0 which _ _ (le-leb _ _ h)

  -- the code's answer, for the split that it read
  module _ (h : which < count) {s : Split} (is : s ≡ split which) where
    alignment_found : (m : Outcome Chosen) → m ≡ alignment_from g head s.start s → (m >>= λ c. accepted c.value) ≡ alignment_at g head count split which
    unfolding alignment_at
    alignment_found m said =
        ap (λ (m : Outcome Chosen). m >>= λ c. accepted c.value) said
        ∙ ap (λ (x : Split). alignment_from g head x.start x >>= λ c. accepted c.value) is
        ∙ sym (passes 20 0 which _ _ (lt-leb _ _ h))

    pub alignment_given : (c : Chosen) → accepted c ≡ alignment_from g head s.start s → accepted c.value ≡ alignment_at g head count split which
    unfolding ◌>>=◌
    alignment_given c said = alignment_found (accepted c) said

    pub alignment_refused : (r : Result Alignment Refusal) {d : Refusal} → r ≡ Err d → chosen_of r ≡ alignment_from g head s.start s
        → refused d.number d.section d.address ≡ alignment_at g head count split which
    unfolding ◌>>=◌
    alignment_refused r {d} was said = alignment_found (refused d.number d.section d.address) (sym (ap chosen_of was) ∙ said)

-- ---- the question over the columns is that over the lent tables

-- symbols and splits that passed
pub question_as : (sections : Sections) (b splits name_bytes name_places name_lengths P S : List ℕ) (question : Question)
    → P ≡ stage_places 20 (length b / 20) → S ≡ stage_places split_width (length splits / split_width)
    → question_of (image_of b P name_bytes name_places name_lengths) sections (length S) (split_of splits S) question
    ≡ question_of (image_of b (stage_places 20 (length b / 20)) name_bytes name_places name_lengths) sections (length splits / split_width) (split_in splits) question
question_as sections b splits name_bytes name_places name_lengths P S question p s =
    (λ d. question_of (image_of b (p d) name_bytes name_places name_lengths) sections (length (s d)) (split_of splits (s d)) question)
    ∙ ap (λ (n : ℕ). question_of (image_of b (stage_places 20 (length b / 20)) name_bytes name_places name_lengths) sections n (split_in splits) question)
    (length-stage_places split_width (length splits / split_width))

-- .. and so is the definition from the symbols on
pub asked_as : (heads : List Section) (sections : Sections) (b splits name_bytes name_places name_lengths P S : List ℕ) (question : Question) {q : Question}
    → symbols_check 4096 (length name_lengths) heads b ≡ accepted tt → splits_check 1024 name_lengths heads splits ≡ accepted tt
    → P ≡ stage_places 20 (length b / 20) → S ≡ stage_places split_width (length splits / split_width) → question ≡ q
    → question_of (image_of b P name_bytes name_places name_lengths) sections (length S) (split_of splits S) q
    ≡ from_symbols name_bytes name_places name_lengths heads sections b splits question
unfolding from_symbols
asked_as heads sections b splits name_bytes name_places name_lengths P S question y l p s e =
    ap (question_of (image_of b P name_bytes name_places name_lengths) sections (length S) (split_of splits S)) (sym e)
    ∙ question_as sections b splits name_bytes name_places name_lengths P S question p s
    ∙ then_goes refl _ l
    ∙ then_goes refl _ y

-- names and sections that passed
module _ (ends bytes heads image places symbols splits : List ℕ) (question : Question) where
  -- the lines after the sections, with the question of these
  abbrev lines : (names : ℕ) → Sections → Outcome ℕ
  lines names sections =
      symbols_check 4096 names (stage_sections heads) symbols
      >> (splits_check 1024 (stage_lengths ends bytes) (stage_sections heads) splits
      >> question_of (image_in ends bytes symbols) sections (length splits / split_width) (split_in splits) question)

  pub symbols_as : (name_bytes name_places name_lengths head_places I : List ℕ)
      → name_bytes ≡ bytes → name_places ≡ name_starts ends (length ends / 2) → name_lengths ≡ stage_lengths ends bytes
      → head_places ≡ stage_places 15 (length heads / 15) → ((n : ℕ) → n < length heads / 15 → get_or I n 0 ≡ get_or (image_places_of places) n 0)
      → from_symbols name_bytes name_places name_lengths (records.sections_in heads head_places) (sections_of heads head_places image I) symbols splits question
      ≡ lines (length ends / 2) (sections_in heads places image)
  unfolding from_symbols question_of
  symbols_as name_bytes name_places name_lengths head_places I eb ep el there same =
      (λ d. from_symbols (eb d) (ep d) (el d) (records.sections_in heads (there d)) (sections_of heads (there d) image I) symbols splits question)
      ∙ ap (λ (m : Outcome ℕ). symbols_check 4096 (length (stage_lengths ends bytes)) (stage_sections heads) symbols >> (splits_check 1024 (stage_lengths ends bytes) (stage_sections heads) splits >> m)) (go question)
      ∙ ap (λ (n : ℕ). lines n (sections_in heads places image)) (length-stage_lengths ends bytes)
    where
      go : (q : Question)
          → question_of (image_in ends bytes symbols) (sections_of heads (stage_places 15 (length heads / 15)) image I) (length splits / split_width) (split_in splits) q
          ≡ question_of (image_in ends bytes symbols) (sections_in heads places image) (length splits / split_width) (split_in splits) q
      go (questions.End section) = end_as (image_in ends bytes symbols) heads (stage_places 15 (length heads / 15)) image I (image_places_of places) section (λ n k. same n (rw length-stage_places at k))
      go (questions.Alignment which) = refl

-- ---- `end_for_section` takes no splits

-- so it answers for names, sections with their bytes, symbols, and then the end
pub end_answer_lem : (ends bytes sections places image symbols : List ℕ) (section : ℕ)
    → end_answer ends bytes sections places image symbols section
    ≡ (do
      names_check main_ceilings.names ends bytes
      image_check main_ceilings.sections (stage_lengths ends bytes) places (length image) sections
      symbols_check main_ceilings.symbols (length ends / 2) (stage_sections sections) symbols
      end_of (image_in ends bytes symbols) (sections_in sections places image) section)
unfolding answer_of question_of
end_answer_lem ends bytes sections places image symbols section =
    let end = end_of (image_in ends bytes symbols) (sections_in sections places image) section in
    ap (λ (rest : Outcome ℕ). do
      names_check main_ceilings.names ends bytes
      image_check main_ceilings.sections (stage_lengths ends bytes) places (length image) sections
      symbols_check main_ceilings.symbols (length ends / 2) (stage_sections sections) symbols
      rest)
    (sym (then_goes refl end (no_splits_pass main_ceilings.splits (stage_lengths ends bytes) (stage_sections sections))))
