-- T2, T3, T5 and T6 over the entry `split_obj`: of every call whose answer is 0, whatever was lent. Its definition accepted, so its tables passed and its walk
-- accepted; its output table holds the pieces, and its counts how many. Assumes nothing.
use Prim.Native.Nat.{ℕ, zero, suc, ◌-◌, ◌/◌, ◌≤◌, ◌<◌}
use mathlib.Core.Path.{◌≡◌, refl, sym, ap, ◌∙◌, subst}
use mathlib.Core.List.{List, [], ◌∷◌}
use mathlib.Core.Logic.{◌↔◌, ◌≢◌}
use mathlib.Core.Bool.{false}
use native.Mathlib.Omega.{arith}
use lib.ListN.{length, take}
use Rattle.lists.specs.Outcome.{Outcome, accepted, refused, ◌>>◌}
use Rattle.lists.specs.Sort.{All}
use Rattle.lists.specs.Tables.{laid}
use Rattle.lists.proofs.Binds.{after_goes}
use Rattle.lists.proofs.Outcomes.{then_both}
use Rattle.fields.specs.Fields.{le16}
use Rattle.fields.proofs.Laws.{round16}
use Rattle.outputs.specs.Outputs.{halves, counts_of}
use Rattle.obj.specs.Records.{stage_places}
use Rattle.obj.specs.declared.Split.{Split}
use Rattle.obj.proofs.Laws.{length-stage_places}
use Rattle.tables.specs.Records.{image_places_of}
use Rattle.name_table.specs.NameTable.{names_check}
use Rattle.name_table.specs.Stored.{stage_lengths}
use Rattle.stage_tables.specs.StageTables.{stage_sections, image_check, symbols_check, relocs_check, splits_check, units_check}
use Rattle.sections.specs.Alignment.{Chosen}
use Rattle.sections.proofs.Nobits.{nobits_bytes}
use Rattle.pieces.specs.declared.Piece.{Piece}
use Rattle.pieces.specs.Pieces.{pieces_in, piece_width}
use Rattle.walk.specs.Walk.{Output, start_in, end_in, splitting_end_in, alignment_in, halved, walk}
use Rattle.restore.specs.Restoring.{bytes_in, parts, byte_at, Plain, Checked, Restored}
use Rattle.restore.specs.Alignments.{Largest}
use Rattle.restore.specs.Misfits.{Comes, Misfit}
use Rattle.restore.specs.Nobits.{with_sections, as_data, Whole, Placed}
use Rattle.restore.proofs.Steps.{From}
use Rattle.restore.proofs.Walked.{pieces_room}
use Rattle.restore.proofs.Refusals.{Says, says_of, walk-numbers}
use Rattle.restore.proofs.Alignments as alignments
use Rattle.restore.proofs.Nobits as nobits
use Rattle.outputs.specs.Room.{room_for}
use Rattle.stage_walk.proofs.Room.{room_low}
use Rattle.entry_split_obj.specs.Entry.{split_obj_of, output_of}
use Rattle.splits.specs.Questions.{is_skipped}
use Rattle.restore_entry.specs.Tables.{input_in, Accepted, SameTables}
use Rattle.restore_entry.specs.Entry.{Call, outcome, lent, Checks, other_sections, SameBytes, AsData, Run, input, count, pieces_of}
use Rattle.restore_entry.proofs.Tables.{input_checked}
use Rattle.restore_entry.proofs.Images.{check_alike}
use Rattle.restore_entry.proofs.Answers.{Table, says_map, says_after, names_say, sections_say, symbols_say, relocs_say, splits_say, units_say, accepted_of}
use Rattle.restore_entry.proofs.Bytes as tables

-- ---- an accepted call

-- the lines of the definition
pub lines : (c : Call) (out : Output) → outcome c ≡ accepted out → Accepted (lent c) out
unfolding split_obj_of
lines c out e =
    let names = then_both _ _ _ e in
    let sections = then_both _ _ _ names.1 in
    let symbols = then_both _ _ _ sections.1 in
    let relocs = then_both _ _ _ symbols.1 in
    let splits = then_both _ _ _ relocs.1 in
    let units = then_both _ _ _ splits.1 in
    record { tables = record { of_sections = sections.0; of_symbols = symbols.0; of_splits = splits.0 }; walked = units.1 }

-- what holds of the numbers 1 to 8 and of the walk's refusals holds of the entry's
says : (P : (number section address : ℕ) → Type 0) → ((number section address : ℕ) → Table number section address → P number section address)
    → (c : Call) → Says P (walk (input_in (lent c))) → Says P (outcome c)
unfolding split_obj_of
says P f c walked =
    after _ _ (names_say _ c.ends c.bytes)
    (after _ _ (sections_say _ (stage_lengths c.ends c.bytes) c.places (length c.image) c.sections)
    (after _ _ (symbols_say _ (length c.ends / 2) (stage_sections c.sections) c.symbols)
    (after _ _ (relocs_say _ (stage_sections c.sections) (length c.symbols / 20) c.relocs)
    (after _ _ (splits_say _ (stage_lengths c.ends c.bytes) (stage_sections c.sections) c.splits)
    (after _ _ (units_say _ (stage_lengths c.ends c.bytes) c.units) walked)))))
  where
    after : (m : Outcome (Unit {0})) (o : Outcome Output) → Says Table m → Says P o → Says P (m >> o)
    after m o s q = says_after P m o (says_map f m s) q

-- no refusal has number 0
numbers : (c : Call) → Says (λ number section address. 0 < number) (outcome c)
numbers c = says (λ number section address. 0 < number) (λ number section address q. q.least) c (walk-numbers (input_in (lent c)))

-- the first count
first_count : (size k : ℕ) (l : List ℕ) → 2 ≤ size → k < 65536 → le16 (counts_of size (k ∷ l)) 0 ≡ k
unfolding counts_of halves
first_count size k l h q = go (size / 2) (omega arith)
  where
    go : (m : ℕ) → 1 ≤ m → le16 (laid size (halves (take m (k ∷ l)))) 0 ≡ k
    go zero z = absurd (omega arith)
    go (suc m) z = round16 k q

module _ (r : Run) where
  abbrev c : Call
  c = r.call

  abbrev o : Outcome Output
  o = outcome r.call

  done : (out : Output) × (o ≡ accepted out)
  done = accepted_of o (numbers c) (sym r.leaves.said)

  -- the definition accepts
  pub accepts : o ≡ accepted (output_of o)
  accepts = done.1 ∙ ap (λ (x : Outcome Output). accepted (output_of x)) (sym done.1)

  pub passed : Accepted (lent c) (output_of o)
  passed = lines c (output_of o) accepts

  -- THEOREM: the first two bytes of the counts say how many pieces there are
  pub counted : 2 ≤ c.sizes.counts → le16 r.counts 0 ≡ count r
  counted h =
      ap (λ (l : List ℕ). le16 l 0) r.leaves.left.counted
      ∙ first_count c.sizes.counts (count r) _ h (omega (arith, pieces_room (input r) (output_of o) passed.walked, room_low 1024 c.sizes.pieces piece_width))

  pub held_is : tables.held (lent c) (output_of o) passed c.sizes.pieces ≡ pieces_of r
  held_is = ap (λ (l : List ℕ). pieces_in l (count r)) (sym r.leaves.left.pieces_are)

  -- THEOREM T2: in every section that holds bytes and has no skipped and no common split anywhere in the lent table, the pieces that the output table holds, laid
  -- over zeros at their addresses, give the section's own byte at every address from its start on and below its splitting end, and each write lies inside
  pub restores : (n : ℕ) → Plain (input r) n → Restored (input r) (pieces_of r) n
  restores n plain = subst (λ (l : List Piece). Restored (input r) l n) held_is (tables.restores (lent c) (output_of o) passed c.sizes.pieces n plain)

  -- THEOREM T5: each piece has the largest alignment that fits its address, of those reached by halving from its split's
  pub pieces_aligned : All (λ p. (f : From (input r) p) × Largest f.chosen.value p.address p.alignment) (pieces_of r)
  pieces_aligned = subst (All (λ p. (f : From (input r) p) × Largest f.chosen.value p.address p.alignment)) held_is (tables.pieces_aligned (lent c) (output_of o) passed c.sizes.pieces)

  -- THEOREM T5: for each split that the walk comes to and doesn't skip, common ones included, there is an alignment that fits, and the largest is taken
  pub splits_aligned : (n : ℕ) → n < (input r).sections.count → (s : Split) (current : ℕ) (out : Output) → Comes (input r) n current s out → is_skipped s ≡ false
      → (a : Chosen) × (alignment_in (input r).image ((input r).sections.head n) n current s ≡ accepted a) × Largest a.value current (halved 16 a.value current)
  splits_aligned = alignments.splits_aligned (input r) (output_of o) (input_checked (lent c) passed.tables) passed.walked

  -- THEOREM T6: each piece's file offset is its section's, and as much more as its address lies behind the section's start, in sections of kind 3 as in all others
  pub pieces_placed : All (Placed (input r).sections) (output_of o).pieces
  pieces_placed = nobits.pieces_placed (input r) (output_of o) passed.walked

  -- THEOREM T6: a piece of a section of kind 3 has no bytes, and its size is its split's end less its start
  pub nobits_pieces : All (λ p. ((input r).sections.head p.section).kind ≡ 3
      → (bytes_in (input r).sections p ≡ []) × ((f : From (input r) p) × (p.size ≡ f.split.end - f.split.start))) (pieces_of r)
  nobits_pieces =
      subst (All (λ p. ((input r).sections.head p.section).kind ≡ 3 → (bytes_in (input r).sections p ≡ []) × ((f : From (input r) p) × (p.size ≡ f.split.end - f.split.start))))
      held_is (tables.nobits_pieces (lent c) (output_of o) passed c.sizes.pieces)

-- THEOREM T3: two such calls with the same splits and section heads, whose output tables hold pieces alike in count, order, section, address and bytes: in every
-- such section both have the same byte at every address from its start on and below both splitting ends
pub unique : (r s : Run) → SameTables (lent r.call) (lent s.call) → parts (input r).sections (pieces_of r) ≡ parts (input s).sections (pieces_of s)
    → (n : ℕ) → Plain (input r) n → (e f : ℕ) → splitting_end_in (input r).image (input r).sections n ≡ accepted e
    → splitting_end_in (input s).image (input s).sections n ≡ accepted f
    → (x : ℕ) → start_in (input r).sections n ≤ x → x < e → x < f → byte_at (input r).sections n x ≡ byte_at (input s).sections n x
unique r s same equal =
    tables.unique (lent r.call) (lent s.call) (output_of (outcome r.call)) (output_of (outcome s.call)) (passed r) (passed s) same
    r.call.sizes.pieces s.call.sizes.pieces
    (ap (parts (input r).sections) (held_is r) ∙ equal ∙ ap (parts (input s).sections) (sym (held_is s)))

-- ---- refusals of the walk

-- a refusal's number
same_number : {A : Type 0} {k n a number section address : ℕ} → ◌≡◌ {A = Outcome A} (refused k n a) (refused number section address) → k ≡ number
same_number e = cc

-- a refusal above 8 is none of this check: it passed, and what follows refuses
goes_on : {B : Type 0} (m : Outcome (Unit {0})) (o : Outcome B) (number section address : ℕ) → Says Table m → 8 < number → (m >> o) ≡ refused number section address
    → (m ≡ accepted tt) × (o ≡ refused number section address)
unfolding ◌>>◌
goes_on (accepted u) o number section address s h e = (refl, e)
goes_on (refused k n a) o number section address s h e =
    let q = s.most in
    let z : k ≡ number = same_number e in
    absurd (omega arith)

-- a refusal above 8 is the walk's, and the tables passed
pub walk_refused : (c : Call) (number section address : ℕ) → 8 < number → outcome c ≡ refused number section address
    → Checks c × (walk (input_in (lent c)) ≡ refused number section address)
unfolding split_obj_of
walk_refused c number section address h e =
    let names = goes_on _ _ _ _ _ (names_say _ c.ends c.bytes) h e in
    let sections = goes_on _ _ _ _ _ (sections_say _ (stage_lengths c.ends c.bytes) c.places (length c.image) c.sections) h names.1 in
    let symbols = goes_on _ _ _ _ _ (symbols_say _ (length c.ends / 2) (stage_sections c.sections) c.symbols) h sections.1 in
    let relocs = goes_on _ _ _ _ _ (relocs_say _ (stage_sections c.sections) (length c.symbols / 20) c.relocs) h symbols.1 in
    let splits = goes_on _ _ _ _ _ (splits_say _ (stage_lengths c.ends c.bytes) (stage_sections c.sections) c.splits) h relocs.1 in
    let units = goes_on _ _ _ _ _ (units_say _ (stage_lengths c.ends c.bytes) c.units) h splits.1 in (
      record { of_names = names.0; of_sections = sections.0; of_symbols = symbols.0; of_relocs = relocs.0; of_splits = splits.0; of_units = units.0 },
      units.1,
    )

-- where the tables pass, the outcome is the walk's
passed_walk : (c : Call) → Checks c → outcome c ≡ walk (input_in (lent c))
unfolding split_obj_of
passed_walk c k =
    after_goes _ _ k.of_names ∙ after_goes _ _ k.of_sections ∙ after_goes _ _ k.of_symbols
    ∙ after_goes _ _ k.of_relocs ∙ after_goes _ _ k.of_splits ∙ after_goes _ _ k.of_units

-- .. and give what the theorems over the walk ask
checks_checked : (c : Call) → Checks c → Checked (input_in (lent c))
checks_checked c k = input_checked (lent c) (record { of_sections = k.of_sections; of_symbols = k.of_symbols; of_splits = k.of_splits })

-- THEOREM T5: a call is refused with 75 at a place exactly if its tables pass and its walk comes to a split there, common ones included, for whose alignment none fits
pub misfit_exactly : (c : Call) (n address : ℕ) → (outcome c ≡ refused 75 n address) ↔ (Checks c × Misfit (input_in (lent c)) n address)
misfit_exactly c n address = (found, given)
  where
    found : outcome c ≡ refused 75 n address → Checks c × Misfit (input_in (lent c)) n address
    found e =
        let r = walk_refused c 75 n address (omega arith) e in
        (r.0, (alignments.misfit_exactly (input_in (lent c)) (checks_checked c r.0) n address).0 r.1)

    given : Checks c × Misfit (input_in (lent c)) n address → outcome c ≡ refused 75 n address
    given m = passed_walk c m.0 ∙ (alignments.misfit_exactly (input_in (lent c)) (checks_checked c m.0) n address).1 m.1

-- ---- sections of kind 3

-- THEOREM T6: a section of kind 3 ends at its address plus its size
pub nobits_ends : (c : Call) (n : ℕ) → ((input_in (lent c)).sections.head n).kind ≡ 3
    → splitting_end_in (input_in (lent c)).image (input_in (lent c)).sections n ≡ accepted (end_in (input_in (lent c)).sections n)
nobits_ends c = nobits.nobits_ends (input_in (lent c))

-- THEOREM T6: .. and no call is refused with 10 or 73 at it
pub nobits_never : (c : Call) (number n address : ℕ) → outcome c ≡ refused number n address → ((input_in (lent c)).sections.head n).kind ≡ 3
    → (number ≢ 10) × (number ≢ 73)
nobits_never c number n address e = says_of P (outcome c) number n address (says P table c (walked (walk (input_in (lent c))) refl)) e
  where
    P : (number section address : ℕ) → Type 0
    P k m a = ((input_in (lent c)).sections.head m).kind ≡ 3 → (k ≢ 10) × (k ≢ 73)

    table : (k m a : ℕ) → Table k m a → P k m a
    table k m a q z = let h = q.most in ((λ w. omega arith), (λ w. omega arith))

    walked : (o : Outcome Output) → walk (input_in (lent c)) ≡ o → Says P o
    walked (accepted out) q = tt
    walked (refused k m a) q =
        nobits.nobits_never (input_in (lent c)) (λ i h z. nobits_bytes i ((input_in (lent c)).sections.head i) z c.image (image_places_of c.places)) k m a q

-- THEOREM T6: two images of any lengths, with the places of the sections' bytes in them: where the sections of kinds 0 to 2 lie in both or in neither, and have the same
-- bytes in both, the outcomes are equal
pub images_alike : (c : Call) (places image : List ℕ)
    → ((n : ℕ) → n < (input_in (lent c)).sections.count → ((input_in (lent c)).sections.head n).kind ≢ 3 → SameBytes c (other_sections c c.sections places image) n)
    → outcome c ≡ outcome (other_sections c c.sections places image)
unfolding split_obj_of
images_alike c places image same = λ i.
    names_check 4096 c.ends c.bytes
    >> (check i
    >> (symbols_check 4096 (length c.ends / 2) (stage_sections c.sections) c.symbols
    >> (relocs_check 4096 (stage_sections c.sections) (length c.symbols / 20) c.relocs
    >> (splits_check 1024 (stage_lengths c.ends c.bytes) (stage_sections c.sections) c.splits
    >> (units_check 1024 (stage_lengths c.ends c.bytes) c.units
    >> walks i)))))
  where
    check : image_check 64 (stage_lengths c.ends c.bytes) c.places (length c.image) c.sections
        ≡ image_check 64 (stage_lengths c.ends c.bytes) places (length image) c.sections
    check =
        check_alike c.sections c.places c.image places image
        (λ k h d. (same k (rw (length-stage_places 15 (length c.sections / 15)) h) d).lies) 64 (stage_lengths c.ends c.bytes)

    walks : walk (input_in (lent c)) ≡ walk (input_in (lent (other_sections c c.sections places image)))
    walks =
        nobits.images_alike (input_in (lent c)) c.sections (stage_places 15 (length c.sections / 15)) c.image (image_places_of c.places) image (image_places_of places)
        (λ n h d. (same n h d).bytes)

-- THEOREM T6: two calls whose tables pass, the same but for a section that is of kind 3 in the first and data whose bytes are zeros in the second: where no reduction
-- lowers the splitting end of the latter, the outcomes are equal
pub resembles : (c : Call) (sections places image : List ℕ) → Checks c → Checks (other_sections c sections places image)
    → (n : ℕ) → ((input_in (lent c)).sections.head n).kind ≡ 3 → AsData c (other_sections c sections places image) n
    → Whole (input_in (lent c)).image (as_data (input_in (lent c)).sections n) n
    → outcome c ≡ outcome (other_sections c sections places image)
resembles c sections places image k j n is same whole =
    passed_walk c k
    ∙ nobits.resembles (input_in (lent c)) n is (nobits_bytes n ((input_in (lent c)).sections.head n) is c.image (image_places_of c.places)) whole
    ∙ nobits.walk_same (with_sections (input_in (lent c)) (as_data (input_in (lent c)).sections n)) (input_in (lent (other_sections c sections places image))).sections
    same.count (λ m h. (same.heads m h, same.bytes m h))
    ∙ sym (passed_walk (other_sections c sections places image) j)
