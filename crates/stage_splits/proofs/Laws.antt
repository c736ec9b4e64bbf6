-- The room of a stage's output, the table that was taken, and the way of an outcome through an entry: a refused line of its definition is the answer, one that
-- passed is passed over, and at the end the outputs are laid or cleared. Assumes nothing.
use Prim.Native.Nat.{ℕ, zero, suc, ◌*◌, ◌-◌, ◌/◌, ◌≤◌}
use mathlib.Core.Path.{◌≡◌, refl, sym, ap, subst, ◌∙◌}
use mathlib.Core.List.{List, [], ◌∷◌}
use mathlib.Core.Bool.{Bool, true, false, cond}
use native.Mathlib.Nat.{mul-div-le}
use native.Mathlib.Omega.{arith}
use borrow.Author.Tests.{ltb-true, ltb-false}
use lib.Dec.{ltb}
use lib.ListN.{length, take, replicate}
use Rattle.lists.specs.Outcome.{Outcome, accepted, refused, ◌>>◌}
use Rattle.lists.specs.Tables.{laid}
use Rattle.lists.proofs.Outcomes.{not_both, same_accepted}
use Rattle.align.specs.Align.{bad_align}
use Rattle.obj.specs.Answers.{word, meaning, outcome_word}
use Rattle.obj.specs.Answers.{Answer}
use Rattle.std.specs.Prelude.{Ok, Err}
use Rattle.std.proofs.lemmas.List.{get_or-map}
use Rattle.obj.specs.declared.Section.{Section}
use Rattle.obj.specs.declared.Split.{Split}
use Rattle.obj.specs.declared.Table.{Table}
use Rattle.obj.specs.Records.{split_at, stage_places, split_width, partial_width}
use Rattle.obj.proofs.Laws.{length-stage_places}
use Rattle.obj.specs.Nothing.{no_split}
use Rattle.tables.specs.Tables.{records_check, AllHeld}
use Rattle.tables.specs.Records.{partials_in, splits_in, partial_fault}
use Rattle.tables.proofs.Lookups.{held, partial_is}
use Rattle.tables.proofs.Laws.{partials_aligned, splits_partials}
use Rattle.stage_tables.specs.StageTables.{partials_check, splits_check, Taken as TakenTable}
use Rattle.stage_tables.proofs.Laws.{table_passed}
use Rattle.kept_output.specs.Kept.{kept_of}
use Rattle.outputs.specs.Outputs.{halves, counts_of}
use Rattle.splits.specs.Columns.{rows}
use Rattle.splits.specs.Bytes.{table_bytes, Loadable, Partials}
use Rattle.stage_splits.specs.StageSplits.{room_of, Leaves, Laid, Gives}

-- ---- the room
pub room_low : (size : ℕ) → room_of size ≤ 1024
unfolding room_of
room_low size = go (ltb (size / split_width) 1024) refl
  where
    go : (t : Bool) → ltb (size / split_width) 1024 ≡ t → cond t (size / split_width) 1024 ≤ 1024
    go true e = omega (arith, ltb-true (size / split_width) 1024 e)
    go false e = omega arith

pub room_fits : (size : ℕ) → split_width * room_of size ≤ size
unfolding room_of
room_fits size = go (ltb (size / split_width) 1024) refl
  where
    go : (t : Bool) → ltb (size / split_width) 1024 ≡ t → split_width * cond t (size / split_width) 1024 ≤ size
    go true e = mul-div-le size split_width
    go false e = omega (arith, ltb-false (size / split_width) 1024 e, mul-div-le size split_width)

-- ---- a table that was taken

-- partial splits without a fault, of which there are not too many, can be merged
partials_of : (lengths b places : List ℕ) → AllHeld partial_width b places → length places ≤ 65535
    → records_check (partial_fault lengths (partials_in b places)) (length places) ≡ accepted tt → Partials b places
partials_of lengths b places all few e = record {
  few = few;
  held = held all;
  aligned = λ k h.
      ap (λ (s : Split). bad_align s.alignment) (sym (partial_is b places k h)) ∙ partials_aligned lengths (partials_in b places) (length places) e k h;
}

-- splits without a fault can be kept in columns
loadable_of : (lengths b places : List ℕ) → AllHeld split_width b places → records_check (partial_fault lengths (splits_in b places)) (length places) ≡ accepted tt
    → Loadable b places
loadable_of lengths b places all e = record {
  held = held all;
  aligned = λ k h.
      ap (λ (s : Split). bad_align s.alignment) (sym (get_or-map (split_at b) places k 0 no_split h))
      ∙ partials_aligned lengths (splits_in b places) (length places) e k h;
}

module _ (ceiling : ℕ) (lengths b : List ℕ) {t : Table} where
  -- a partial list
  pub partials_mergeable : TakenTable (partials_check ceiling lengths b) partial_width b (Ok t) → ceiling ≤ 4096 → Partials t.bytes.now t.places.now
  partials_mergeable k few =
      let n = length b / partial_width in
      let passed = table_passed partial_width ceiling b _ (sym k.said) in
      let count = length-stage_places partial_width n in
      rw (k.table.bytes, k.table.places)
      (partials_of lengths b (stage_places partial_width n) (rw (k.table.bytes, k.table.places) at k.table.held) (omega (arith, passed.1, count))
      (ap (records_check (partial_fault lengths (partials_in b (stage_places partial_width n)))) count ∙ passed.2))

  -- a split table
  pub splits_loadable : (sections : List Section) → TakenTable (splits_check ceiling lengths sections b) split_width b (Ok t) → Loadable t.bytes.now t.places.now
  splits_loadable sections k =
      let n = length b / split_width in
      let passed = table_passed split_width ceiling b _ (sym k.said) in
      let count = length-stage_places split_width n in
      rw (k.table.bytes, k.table.places)
      (loadable_of lengths b (stage_places split_width n) (rw (k.table.bytes, k.table.places) at k.table.held)
      (ap (records_check (partial_fault lengths (splits_in b (stage_places split_width n)))) count
      ∙ splits_partials lengths sections (splits_in b (stage_places split_width n)) n passed.2))

-- ---- the counts
-- no rows, and a count of 0: zeros throughout
pub nothing-laid : (size : ℕ) → replicate size 0 ≡ laid size (table_bytes [])
unfolding table_bytes
nothing-laid size = ap (λ (k : ℕ). replicate {A = ℕ} k 0) (let e : size ≡ size - 0 = omega arith in e)

no_count : (size : ℕ) → replicate size 0 ≡ counts_of size (0 ∷ [])
unfolding counts_of halves
no_count size = go (size / 2) refl
  where
    two : 2 ≤ size → replicate {A = ℕ} size 0 ≡ 0 ∷ 0 ∷ replicate (size - 2) 0
    two h = ap (λ (k : ℕ). replicate {A = ℕ} k 0) (let e : size ≡ suc (suc (size - 2)) = omega arith in e)

    go : (n : ℕ) → size / 2 ≡ n → replicate size 0 ≡ laid size (halves (take n (0 ∷ [])))
    go zero e = ap (λ (k : ℕ). replicate {A = ℕ} k 0) (let e : size ≡ size - 0 = omega arith in e)
    go (suc zero) e = two (omega arith)
    go (suc (suc n)) e = two (omega arith)

-- ---- an outcome on its way through an entry
module _ {size counts_size : ℕ} {out counts : List ℕ} where
  -- a stage that was refused, and one whose rows were given
  pub gives_refused : {o : Outcome (List Split)} {number section address : ℕ} → refused number section address ≡ o
      → Gives o (Err (record { number = number; section = section; address = address })) size counts_size out counts
  gives_refused e = rw (sym e) (record { answered = refl; given = λ l z. absurd (not_both z) })

  pub gives_laid : {o : Outcome (List Split)} {l : List Split} → accepted l ≡ o → Laid l size counts_size out counts → Gives o (Ok tt) size counts_size out counts
  gives_laid {l = l} e d = rw (sym e) (record { answered = refl; given = λ m z. subst (λ (x : List Split). Laid x size counts_size out counts) (same_accepted z) d })

module _ {a : Answer} {size counts_size : ℕ} {out counts : List ℕ} where
  -- the same outcome, said otherwise
  pub gives_as : {o p : Outcome (List Split)} → o ≡ p → Gives o a size counts_size out counts → Gives p a size counts_size out counts
  gives_as e w = subst (λ (x : Outcome (List Split)). Gives x a size counts_size out counts) e w

  -- the same answer, said otherwise
  pub gives_said : {b : Answer} (o : Outcome (List Split)) → a ≡ b → Gives o a size counts_size out counts → Gives o b size counts_size out counts
  gives_said o e w = subst (λ (x : Answer). Gives o x size counts_size out counts) e w

  -- a refused line is the answer
  pub gives_stops : {m : Outcome (Unit {0})} (n : Outcome (List Split)) {number section address : ℕ} → meaning a ≡ m → meaning a ≡ refused number section address
      → Gives (m >> n) a size counts_size out counts
  unfolding ◌>>◌
  gives_stops n e f = let q = sym e ∙ f in rw q (record { answered = f; given = λ l z. absurd (not_both z) })

  -- a line that passed is passed over
  pub gives_goes : {m : Outcome (Unit {0})} {n : Outcome (List Split)} → m ≡ accepted tt → Gives n a size counts_size out counts → Gives (m >> n) a size counts_size out counts
  unfolding ◌>>◌
  gives_goes e w = rw e w

-- ---- at the end
module _ (o : Outcome (List Split)) (out counts : List ℕ) where
  -- an accepted outcome has its rows in the outputs
  pub leaves_accepted : {answer : ℕ} → answer ≡ word (Ok tt) → Gives o (Ok tt) (length out) (length counts) out counts
      → Leaves o (length out) (length counts) answer out counts
  leaves_accepted {answer} e w = go o w
    where
      go : (p : Outcome (List Split)) → Gives p (Ok tt) (length out) (length counts) out counts → Leaves p (length out) (length counts) answer out counts
      go (accepted l) v = let d = v.given l refl in record { said = e; splits = d.splits; counted = d.counted }
      go (refused number section address) v = absurd (not_both (sym v.answered))

  -- a refused one has none
  pub leaves_refused : {number section address answer : ℕ} {out' counts' : List ℕ} → answer ≡ word (Err (record { number = number; section = section; address = address }))
      → Gives o (Err (record { number = number; section = section; address = address })) (length out) (length counts) out counts → out' ≡ replicate (length out) 0 → counts' ≡ replicate (length counts) 0
      → Leaves o (length out) (length counts) answer out' counts'
  leaves_refused {number} {section} {address} {answer} {out'} {counts'} e w f g = go o w
    where
      go : (p : Outcome (List Split)) → Gives p (Err (record { number = number; section = section; address = address })) (length out) (length counts) out counts
          → Leaves p (length out) (length counts) answer out' counts'
      go (accepted l) v = absurd (not_both v.answered)
      go (refused n s d) v = record {
        said = e ∙ ap outcome_word v.answered;
        splits = f ∙ nothing-laid (length out);
        counted = g ∙ no_count (length counts);
      }

-- the end of an entry: the outputs are cleared if its answer is a refusal, and else they stay
pub leaves_cleared : (a : Answer) (o : Outcome (List Split)) (out counts : List ℕ) {answer : ℕ} {out' counts' : List ℕ} → answer ≡ word a
    → out' ≡ kept_of out a → counts' ≡ kept_of counts a
    → Gives o a (length out) (length counts) out counts → Leaves o (length out) (length counts) answer out' counts'
leaves_cleared (Ok u) o out counts {answer} e f g w = rw (f, g) (leaves_accepted o out counts e w)
leaves_cleared (Err r) o out counts e f g w = leaves_refused o out counts e w f g

-- `finish` after a function that gave its outputs: what was lent has its length still
pub finished : (o : Outcome (List Split)) {a : Answer} {size counts_size answer : ℕ} (out counts : List ℕ) {out' counts' : List ℕ} → length out ≡ size → length counts ≡ counts_size
    → Gives o a size counts_size out counts
    → ((p : Outcome (List Split)) → Gives p a (length out) (length counts) out counts → Leaves p (length out) (length counts) answer out' counts')
    → Leaves o size counts_size answer out' counts'
finished o {a} {size} {counts_size} {answer} out counts {out'} {counts'} e f w h =
    let there = subst (λ (m : ℕ). Gives o a m (length counts) out counts) (sym e) (subst (λ (n : ℕ). Gives o a size n out counts) (sym f) w) in
    subst (λ (m : ℕ). Leaves o m counts_size answer out' counts') e (subst (λ (n : ℕ). Leaves o (length out) n answer out' counts') f (h o there))
