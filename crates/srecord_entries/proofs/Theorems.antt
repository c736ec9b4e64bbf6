-- The round trip over an accepted call, from the reader's theorem: the table checks say where sections end, and lent bytes are below 256. Assumes nothing.
use mathlib.Core.Path.{◌≡◌, refl, sym, ap, subst, ◌∙◌}
use mathlib.Core.List.Memᴰ
use mathlib.Core.List.{List, [], ◌∷◌, ◌++◌, Memᴰ}
use mathlib.Core.Logic.{◌⊎◌, inl, inr}
use mathlib.Core.Bool.{Bool, cond, false}
use Prim.Native.Nat.{ℕ, zero, suc, ◌+◌, ◌*◌, ◌-◌, ◌/◌, ◌≤◌, ◌<◌}
use native.Mathlib.Omega.{arith}
use native.Mathlib.Decide.{dec_lt}
use lib.Dec.{leb}
use lib.ListN.{length, get_or, take, drop, get_or-eq_default, length-take}
use lib.Seq.{get_or-take, get_or-drop, take_at}
use borrow.Author.Tests.{le-leb}
use Rattle.lists.specs.Outcome.{accepted}
use Rattle.lists.specs.Rows.{some}
use Rattle.lists.specs.Sort.{none, each}
use Rattle.lists.proofs.Binds.{bind_goes, after_goes}
use Rattle.lists.proofs.Outcomes.{then_both, then_inv, bind_inv, same_accepted}
use Rattle.fields.specs.Fields.{le32, le64, enc64}
use Rattle.fields.proofs.Laws.{round64}
use Rattle.obj.specs.Answers.{outcome_word}
use Rattle.obj.specs.declared.Section.{Section}
use Rattle.obj.specs.Parts.{Part}
use Rattle.stage_tables.specs.StageTables.{stage_sections}
use Rattle.stage_tables.proofs.Laws.{length_sections}
use Rattle.head_tables.specs.HeadTables.{head_tables}
use Rattle.join.specs.Join.{outside, differ, joined, held}
use Rattle.join.proofs.Sizes.{joined_reads}
use Rattle.join_pieces.proofs.Joining.{is_joined}
use Rattle.piece_records.specs.Records.{part_at, next_at, parts_at, parts_of}
use Rattle.kept_output.specs.Kept.{output_of, size_of}
use Rattle.srecords.specs.Lines.{lines_of, some_share, write_of, Ended}
use Rattle.srecords.specs.Reader.{ReadsBack}
use Rattle.srecords.proofs.Theorem.{Small, reads_back}
use Rattle.entry_join_pieces.specs.Entry.{join_pieces}
use Rattle.entry_write_srecords.specs.Entry.{write_srecords}
use Rattle.head_tables.proofs.Laws.{tables_few}
use Rattle.write_srecords.specs.Along.{room_along}
use Rattle.write_srecords.proofs.Laws.{room_is, section_ends}
use Rattle.entry_write_srecords.proofs.Laws.{tables_ended}
use Rattle.srecord_entries.specs.Entries.{Call, written, GivenBack}

-- ---- bytes of pieces

-- bytes of a part of bytes
part-below : (b : List ℕ) → ((i : ℕ) → get_or b i 0 < 256) → (n at i : ℕ) → get_or (take n (drop at b)) i 0 < 256
part-below b f n at i = go (dec_lt i n)
  where
    go : Dec (i < n) → get_or (take n (drop at b)) i 0 < 256
    go (yes h) = let z = get_or-take n (drop at b) i 0 h ∙ get_or-drop at b i 0 in let g = f (at + i) in omega arith
    go (no h) = let z : get_or (take n (drop at b)) i 0 ≡ 0 = get_or-eq_default (take n (drop at b)) 0 (let l = length-take n (drop at b) in omega arith) in omega arith

parts_below : (b : List ℕ) → ((i : ℕ) → get_or b i 0 < 256) → (n at : ℕ) → Small (parts_at n b at)
unfolding parts_at part_at
parts_below b f zero at p m = absurd (Memᴰ.not-nil m)
parts_below b f (suc n) at p m = go (parts_below b f n (next_at b at) p) (Memᴰ.cases_cons m)
  where
    go : (Memᴰ p (parts_at n b (next_at b at)) → (i : ℕ) → get_or p.bytes i 0 < 256) → (p ≡ part_at b at) ⊎ Memᴰ p (parts_at n b (next_at b at))
        → (i : ℕ) → get_or p.bytes i 0 < 256
    go later (inl e) i = subst (λ (q : Part). get_or q.bytes i 0 < 256) (sym e) (part-below b f (le32 b at - 6) (at + 12) i)
    go later (inr k) i = later k i

-- ---- how many bytes of lines there are

-- a section ends below 2 ^ 32, and its lines take at most four bytes for each of its bytes
room_most : (heads : List Section) → Ended heads → room_along heads ≤ 17179869184 * length heads
unfolding room_along
room_most [] none = omega arith
room_most (head ∷ later) (each h hs) = let e = section_ends head h in let r = room_most later hs in omega arith

-- ---- an accepted call

module _ (c : Call) where
  -- each line of the definition passed
  record Passed : Type 0 where
    tables : head_tables c.ends c.bytes c.sections ≡ accepted tt
    parts : List Part
    given : parts_of c.pieces ≡ accepted parts
    apart : some_share (stage_sections c.sections) ≡ false
    inside : some (outside (stage_sections c.sections)) parts ≡ false
    agree : differ parts ≡ false
    is : lines_of (stage_sections c.sections) parts ≡ c.text

  passed : Passed
  unfolding write_srecords write_of
  passed =
      let t = then_both _ _ _ c.accepts in
      let r = bind_inv _ _ _ t.1 in
      let a = then_inv _ _ _ _ _ _ r.2 in
      let b = then_inv _ _ _ _ _ _ a.1 in
      let d = then_inv _ _ _ _ _ _ b.1 in
      let e = then_inv _ _ _ _ _ _ d.1 in
      record { tables = t.0; parts = r.0; given = r.1; apart = a.0; inside = b.0; agree = d.0; is = same_accepted e.1 }

  -- the pieces' bytes are bytes
  small : Small passed.parts
  unfolding parts_of
  small =
      let r = bind_inv _ _ _ passed.given in
      subst Small (same_accepted r.2) (parts_below c.pieces c.called.small r.0 0)

  output_is : c.lines' ≡ c.text ++ drop (length c.text) c.lines
  output_is = c.called.leaves.output ∙ ap (output_of c.lines) c.accepts

  size_is : 8 ≤ length c.size → c.size' ≡ enc64 (length c.text) ++ drop 8 c.size
  size_is h =
      c.called.leaves.sized ∙ ap (size_of c.size) c.accepts
      ∙ ap (λ (t : Bool). cond t (enc64 (length c.text) ++ drop 8 c.size) c.size) (le-leb _ _ h)

  -- "64 sections": their number has eight bytes
  few : length c.text < 18446744073709551616
  few =
      let heads = stage_sections c.sections in
      let a = ap length (sym passed.is) ∙ room_is heads passed.parts in
      let b = room_most heads (tables_ended c.ends c.bytes c.sections passed.tables) in
      let n = tables_few c.ends c.bytes c.sections passed.tables in
      omega (arith, length_sections c.sections)

  written_is : written c ≡ lines_of (stage_sections c.sections) passed.parts
  written_is =
      ap (take (length c.text)) output_is
      ∙ take_at c.text (drop (length c.text) c.lines) (length c.text) refl
      ∙ sym passed.is

  reads : ReadsBack (written c) (stage_sections c.sections) passed.parts
  reads =
      subst (λ (t : List ℕ). ReadsBack t (stage_sections c.sections) passed.parts) (sym written_is)
      (reads_back (stage_sections c.sections) passed.parts (tables_ended c.ends c.bytes c.sections passed.tables) small passed.apart)

  joins_too : (room : ℕ) → held (stage_sections c.sections) ≤ room
      → join_pieces c.ends c.bytes c.sections c.pieces room ≡ accepted (joined (stage_sections c.sections) passed.parts)
  unfolding join_pieces
  joins_too room h =
      after_goes _ _ passed.tables
      ∙ bind_goes _ _ passed.parts passed.given
      ∙ is_joined (stage_sections c.sections) room passed.parts h passed.inside passed.agree

  -- THEOREM: a reader by the public definition accepts the lines of an accepted call, and gives back each section's joined bytes at its addresses and nothing else
  pub gives_back : GivenBack c
  gives_back = record {
    said = c.called.leaves.said ∙ ap outcome_word c.accepts;
    sized = λ h. ap (λ (l : List ℕ). le64 l 0) (size_is h) ∙ round64 (length c.text) few;
    parts = passed.parts;
    given = passed.given;
    back = reads;
    joins = joins_too;
    same = λ n x h.
        reads.own n x h
        ∙ ap (λ (b : ℕ). b ∷ []) (sym (joined_reads (stage_sections c.sections) passed.parts n x _ (record { holds = h.holds; low = h.low; high = h.high; place = refl })));
  }
