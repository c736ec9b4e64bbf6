-- The writer goes along the sections: what is left to write, and that it is still there to be read. Assumes nothing.
use Prim.Native.Nat.{ℕ, zero, suc, ◌+◌, ◌-◌, ◌≤◌, ◌<◌}
use mathlib.Core.Path.{◌≡◌, refl, sym, ap, ap₂, ◌∙◌}
use mathlib.Core.List.{List, [], ◌∷◌, ◌++◌, append_assoc, append-nil}
use native.Mathlib.Omega.{arith}
use native.Mathlib.Decide.{ℕ_discrete}
use lib.ListN.{length, get_or, take, drop, length-append, length-take, length-drop, drop_of_length-le}
use lib.Seq.{sets, sets-eq, length-sets, drop-drop, take-take, take_at, drop_at}
use Rattle.std.proofs.lemmas.List.{at_drop_more}
use Rattle.std.specs.List.{list_any, range_with_len}
use Rattle.lists.proofs.All.{all_at}
use Rattle.lists.proofs.Some.{some_turn, some-none}
use Rattle.lists.proofs.Stores.{sets-sets, drop-take, drop-sets}
use Rattle.obj.specs.declared.Section.{Section}
use Rattle.obj.specs.Parts.{Part}
use Rattle.join.specs.Join.{nowhere, outside, differ, joined_section, joined_from, joined, held_by, held}
use Rattle.join.proofs.Sizes.{joined_section-held, length-joined, held_by_is, held_by-none}
use Rattle.lists.specs.Rows.{some}
use Rattle.stage_tables.specs.StageTables.{stage_sections}
use Rattle.piece_records.specs.Records.{parts_at}
use mathlib.Core.Bool.{Bool, true, false, ◌||◌}
use borrow.Author.Tests.{lt-ltb, le-ltb}
use Rattle.lists.specs.Outcome.{accepted, refused}
use Rattle.lists.proofs.Outcomes.{fails, passes}
use Rattle.join.specs.Laying.{laid_over}
use Rattle.join_pieces.specs.Joins.{zeroed}
use Rattle.join_pieces.proofs.Joining.{laid_is}
use Rattle.srecords.specs.Lines.{S7, line_of, section_lines, lines_from, lines_of, share_address, some_share, write_of, Ended}
use Rattle.srecord_text.specs.Room.{lines_size, Fits}
use Rattle.srecord_text.proofs.Laws.{line-length, lines_length}
use Rattle.write_srecords.specs.Along.{lines_along, room_along, all_lines, Laying}

-- ---- the lines of the definition

along_from : (parts : List Part) (n : ℕ) (heads : List Section) → lines_along heads (joined_from parts n heads) ≡ lines_from parts n heads
unfolding lines_along lines_from joined_from
along_from parts n [] = refl
along_from parts n (head ∷ later) =
    ap₂ (λ (a b : List ℕ). section_lines head.address a ++ lines_along later b)
    (take_at (joined_section parts n head) (joined_from parts (suc n) later) (held_by head) (joined_section-held parts n head))
    (drop_at (joined_section parts n head) (joined_from parts (suc n) later) (held_by head) (joined_section-held parts n head))
    ∙ ap (λ (l : List ℕ). section_lines head.address (joined_section parts n head) ++ l) (along_from parts (suc n) later)

-- THEOREM: along the joined bytes they are the lines of (n)
pub along_is : (heads : List Section) (parts : List Part) → all_lines heads (joined heads parts) ≡ lines_of heads parts
unfolding lines_of
along_is heads parts = ap (λ (l : List ℕ). l ++ line_of S7 0 []) (along_from parts 0 heads)

-- ---- how long they are

along_length : (heads : List Section) (bytes : List ℕ) → held heads ≤ length bytes → length (lines_along heads bytes) ≡ room_along heads
unfolding lines_along room_along held
along_length [] bytes h = refl
along_length (head ∷ later) bytes h =
    let a = length-append (section_lines head.address (take (held_by head) bytes)) (lines_along later (drop (held_by head) bytes)) in
    let t : length (take (held_by head) bytes) ≡ held_by head = omega (arith, length-take (held_by head) bytes) in
    let b = lines_length head.address (take (held_by head) bytes) ∙ ap lines_size t in
    let ih = along_length later (drop (held_by head) bytes) (omega (arith, length-drop (held_by head) bytes)) in
    omega arith

-- THEOREM: the room that the lines of (n) take
pub room_is : (heads : List Section) (parts : List Part) → length (lines_of heads parts) ≡ room_along heads + 15
room_is heads parts =
    let j = length-joined heads parts in
    let a = length-append (lines_along heads (joined heads parts)) (line_of S7 0 []) in
    let b = along_length heads (joined heads parts) (omega arith) in
    let c = line-length S7 0 [] in
    ap length (sym (along_is heads parts)) ∙ (let z : length (all_lines heads (joined heads parts)) ≡ room_along heads + 15 = omega arith in z)

-- lines are longer than their data
pub longer : (heads : List Section) → held heads ≤ room_along heads
unfolding room_along held
longer [] = omega arith
longer (head ∷ later) = let h = longer later in omega arith

-- ---- a turn: the section at place k

pub held_turn : (heads : List Section) (k : ℕ) → k < length heads → held (drop k heads) ≡ held_by (get_or heads k nowhere) + held (drop (k + 1) heads)
unfolding held
held_turn heads k h = at_drop_more held heads k nowhere h

pub room_turn : (heads : List Section) (k : ℕ) → k < length heads → room_along (drop k heads) ≡ lines_size (held_by (get_or heads k nowhere)) + room_along (drop (k + 1) heads)
unfolding room_along
room_turn heads k h = at_drop_more room_along heads k nowhere h

lines_turn : (heads : List Section) (k : ℕ) (bytes : List ℕ) → k < length heads
    → lines_along (drop k heads) bytes
    ≡ section_lines (get_or heads k nowhere).address (take (held_by (get_or heads k nowhere)) bytes) ++ lines_along (drop (k + 1) heads) (drop (held_by (get_or heads k nowhere)) bytes)
unfolding lines_along
lines_turn heads k bytes h = at_drop_more (λ (l : List Section). lines_along l bytes) heads k nowhere h

none_left : (heads : List Section) (k : ℕ) (bytes : List ℕ) → length heads ≤ k → lines_along (drop k heads) bytes ≡ []
unfolding lines_along
none_left heads k bytes h = ap (λ (l : List Section). lines_along l bytes) (drop_of_length-le heads h)

-- a section's end, and its bytes
pub section_ends : (head : Section) → head.address + head.size ≤ 4294967296 → head.address + held_by head ≤ 4294967296
section_ends head h = go (ℕ_discrete head.kind 3)
  where
    go : Dec (head.kind ≡ 3) → head.address + held_by head ≤ 4294967296
    go (yes e) = let z = held_by-none head e in omega arith
    go (no d) = let z = held_by_is head d in omega arith

-- ---- the loop: the sections from k on are left; their bytes are read from `read` on, and their lines written from `at` on

module _ (heads : List Section) (out₀ : List ℕ) (from : ℕ) where
  abbrev pub left : (out : List ℕ) → (k read : ℕ) → List ℕ
  left out k read = take (held (drop k heads)) (drop read out)

  pub record Left (out : List ℕ) (k at read : ℕ) : Type 0 where
    pub few : k ≤ length heads
    pub long : length out ≡ length out₀
    pub there : read + held (drop k heads) ≤ length out₀
    pub behind : at + room_along (drop k heads) + 15 ≤ read + held (drop k heads)
    pub written : sets out at (all_lines (drop k heads) (left out k read)) ≡ sets out₀ 0 (all_lines heads (take (held heads) (drop from out₀)))

  pub left_start : from + held heads ≤ length out₀ → room_along heads + 15 ≤ from + held heads → Left out₀ 0 0 from
  left_start h b = record { few = omega arith; long = refl; there = h; behind = omega arith; written = refl }

  module _ (ended : Ended heads) (out : List ℕ) (k at read : ℕ) (l : Left out k at read) (more : k < length heads) where
    abbrev head : Section
    head = get_or heads k nowhere

    abbrev size : ℕ
    size = held_by head

    pub section_fits : Fits out at read size head.address
    section_fits =
        let a = held_turn heads k more in
        let b = room_turn heads k more in
        let c = longer (drop (k + 1) heads) in
        let d = l.there in
        let e = l.behind in
        let g = l.long in
        record { there = omega arith; behind = omega arith; high = section_ends head (all_at k nowhere ended more) }

    abbrev lines : List ℕ
    lines = section_lines head.address (take size (drop read out))

    lines_size_lem : length lines ≡ lines_size size
    lines_size_lem =
        let f = section_fits.there in
        lines_length head.address (take size (drop read out))
        ∙ ap lines_size (let z : length (take size (drop read out)) ≡ size = omega (arith, length-take size (drop read out), length-drop read out) in z)

    pub left_turn : (out' : List ℕ) → out' ≡ sets out at lines → Left out' (k + 1) (at + lines_size size) (read + size)
    left_turn out' e =
        let a = held_turn heads k more in
        let b = room_turn heads k more in
        let c = longer (drop (k + 1) heads) in
        let d = l.there in
        let g = l.behind in
        let f = section_fits.behind in
        let z = lines_size_lem in
        record {
          few = omega arith;
          long = ap length e ∙ length-sets out at lines ∙ l.long;
          there = omega arith;
          behind = omega arith;
          written =
              ap (λ (x : List ℕ). sets x (at + lines_size size) (all_lines (drop (k + 1) heads) (take (held (drop (k + 1) heads)) (drop (read + size) x)))) e
              ∙ ap (λ (y : List ℕ). sets (sets out at lines) (at + lines_size size) (all_lines (drop (k + 1) heads) (take (held (drop (k + 1) heads)) y)))
              (drop-sets out at lines (read + size) (omega arith))
              ∙ sets-sets out at lines (at + lines_size size) (all_lines (drop (k + 1) heads) (take (held (drop (k + 1) heads)) (drop (read + size) out))) (omega arith)
              ∙ ap (sets out at) (sym (split))
              ∙ l.written;
        }
      where
        first : take size (left out k read) ≡ take size (drop read out)
        first = take-take size (held (drop k heads)) (drop read out) (let a = held_turn heads k more in omega arith)

        later : drop size (left out k read) ≡ take (held (drop (k + 1) heads)) (drop (read + size) out)
        later =
            drop-take size (held (drop k heads)) (drop read out)
            ∙ ap₂ (λ (n : ℕ) (y : List ℕ). take n y) (let z : held (drop k heads) - size ≡ held (drop (k + 1) heads) = omega (arith, held_turn heads k more) in z) (drop-drop size read out)

        split : all_lines (drop k heads) (left out k read) ≡ lines ++ all_lines (drop (k + 1) heads) (take (held (drop (k + 1) heads)) (drop (read + size) out))
        split =
            ap (λ (x : List ℕ). x ++ line_of S7 0 [])
            (lines_turn heads k (left out k read) more
            ∙ ap₂ (λ (x y : List ℕ). section_lines head.address x ++ lines_along (drop (k + 1) heads) y) first later)
            ∙ append_assoc lines (lines_along (drop (k + 1) heads) (take (held (drop (k + 1) heads)) (drop (read + size) out))) (line_of S7 0 [])

  -- the last line ends it
  pub left_end : (out : List ℕ) (k at read : ℕ) → Left out k at read → length heads ≤ k → sets out at (line_of S7 0 []) ≡ sets out₀ 0 (all_lines heads (take (held heads) (drop from out₀)))
  left_end out k at read l h =
      ap (λ (x : List ℕ). sets out at (x ++ line_of S7 0 [])) (sym (none_left heads k (left out k read) h)) ∙ l.written

-- ---- 87, section by section

pub share_turn : (heads : List Section) (k : ℕ) → k < length heads
    → some_share (drop k heads) ≡ (some (share_address (get_or heads k nowhere)) (drop (k + 1) heads) || some_share (drop (k + 1) heads))
unfolding some_share
share_turn heads k h = at_drop_more some_share heads k nowhere h

pub share_none : (heads : List Section) (k : ℕ) → length heads ≤ k → some_share (drop k heads) ≡ false
unfolding some_share
share_none heads k h = ap some_share (drop_of_length-le heads h)

-- asked one place after another, from i on
module _ {A : Type 0} (test : A → Bool) (l : List A) (d : A) where
  pub some_places : (i n : ℕ) → i + n ≡ length l → list_any (λ j. test (get_or l j d)) (range_with_len i n) ≡ some test (drop i l)
  some_places i zero e = sym (some-none test l i (omega arith))
  some_places i (suc n) e = ap (λ (t : Bool). test (get_or l i d) || t) (some_places (i + 1) n (omega arith)) ∙ sym (some_turn test l i d (omega arith))

pub share_places : (heads : List Section) (i n : ℕ) → i + n ≡ length heads
    → list_any (λ k. some (share_address (get_or heads k nowhere)) (drop (k + 1) heads)) (range_with_len i n) ≡ some_share (drop i heads)
share_places heads i zero e = sym (share_none heads i (omega arith))
share_places heads i (suc n) e =
    ap (λ (t : Bool). some (share_address (get_or heads i nowhere)) (drop (i + 1) heads) || t) (share_places heads (i + 1) n (omega arith))
    ∙ sym (share_turn heads i (omega arith))

pub room_none : (heads : List Section) (k : ℕ) → length heads ≤ k → room_along (drop k heads) ≡ 0
unfolding room_along
room_none heads k h = ap room_along (drop_of_length-le heads h)

-- ---- the pieces laid at the end of the room, and the lines written over it

module _ {sections b : List ℕ} {n room : ℕ} {out : List ℕ} (w : Laying sections b n room out) {total : ℕ} (total_is : total ≡ held (stage_sections sections)) where
  abbrev heads : List Section
  heads = stage_sections sections

  abbrev parts : List Part
  parts = parts_at n b 0

  abbrev from : ℕ
  from = room - total

  pub total_fits : total ≤ room
  total_fits = let l = longer heads in omega arith

  -- the bytes that are lent for the joined ones
  abbrev lent : List ℕ
  lent = take (room - from) (drop from out)

  lent_length : length lent ≡ total
  lent_length = let t = total_fits in omega (arith, length-take (room - from) (drop from out), length-drop from out)

  pub lent_room : total ≤ length lent
  lent_room = let l = lent_length in omega arith

  module _ (laid : List ℕ) (is : laid ≡ laid_over heads parts (zeroed total lent)) where
    laid-joined : laid ≡ joined heads parts
    laid-joined =
        is
        ∙ laid_is heads parts lent total total_is lent_room w.all_in w.agree
        ∙ ap (λ (x : List ℕ). joined heads parts ++ x) (drop_of_length-le lent {i = length (joined heads parts)} (let l = lent_length in let j = length-joined heads parts in omega arith))
        ∙ append-nil (joined heads parts)

    laid_size : length laid ≡ total
    laid_size = ap length laid-joined ∙ length-joined heads parts ∙ sym total_is

    abbrev mid : List ℕ
    mid = take from out ++ (laid ++ drop (room - from) (drop from out))

    front_length : length (take from out) ≡ from
    front_length = let t = total_fits in omega (arith, length-take from out)

    pub mid_there : from + held heads ≤ length mid
    mid_there =
        let a = length-append (take from out) (laid ++ drop (room - from) (drop from out)) in
        let b = length-append laid (drop (room - from) (drop from out)) in
        let c = front_length in
        let d = laid_size in
        omega arith

    pub mid_behind : room_along heads + 15 ≤ from + held heads
    mid_behind = let t = total_fits in omega arith

    mid_read : take (held heads) (drop from mid) ≡ joined heads parts
    mid_read =
        ap (take (held heads)) (drop_at (take from out) (laid ++ drop (room - from) (drop from out)) from front_length)
        ∙ take_at laid (drop (room - from) (drop from out)) (held heads) (laid_size ∙ total_is)
        ∙ laid-joined

    mid_rest : drop room mid ≡ drop room out
    mid_rest =
        ap (drop room) (sym (append_assoc (take from out) laid (drop (room - from) (drop from out))))
        ∙ drop_at (take from out ++ laid) (drop (room - from) (drop from out)) room
        (let a = length-append (take from out) laid in let c = front_length in let d = laid_size in let t = total_fits in omega arith)
        ∙ drop-drop (room - from) from out
        ∙ ap (λ (k : ℕ). drop k out) (let t = total_fits in let z : from + (room - from) ≡ room = omega arith in z)

    pub lines_laid : sets mid 0 (all_lines heads (take (held heads) (drop from mid))) ≡ lines_of heads parts ++ drop room out
    lines_laid =
        ap (λ (x : List ℕ). sets mid 0 (all_lines heads x)) mid_read
        ∙ ap (sets mid 0) (along_is heads parts)
        ∙ sets-eq (lines_of heads parts) mid 0 (let r = room_is heads parts in let m = mid_there in let b = mid_behind in omega arith)
        ∙ ap (λ (k : ℕ). lines_of heads parts ++ drop k mid) (let r = room_is heads parts in let z : 0 + length (lines_of heads parts) ≡ room = omega arith in z)
        ∙ ap (λ (x : List ℕ). lines_of heads parts ++ x) mid_rest

-- ---- the first refusal

module _ (heads : List Section) (room : ℕ) (parts : List Part) where
  pub is_87 : some_share heads ≡ true → write_of heads room parts ≡ refused 87 0 0
  unfolding write_of
  is_87 e = fails 87 0 0 _ _ e

  pub is_82 : some_share heads ≡ false → some (outside heads) parts ≡ true → write_of heads room parts ≡ refused 82 0 0
  unfolding write_of
  is_82 s e = passes 87 0 0 _ _ s ∙ fails 82 0 0 _ _ e

  pub is_83 : some_share heads ≡ false → some (outside heads) parts ≡ false → differ parts ≡ true → write_of heads room parts ≡ refused 83 0 0
  unfolding write_of
  is_83 s e d = passes 87 0 0 _ _ s ∙ passes 82 0 0 _ _ e ∙ fails 83 0 0 _ _ d

  pub is_80 : some_share heads ≡ false → some (outside heads) parts ≡ false → differ parts ≡ false → room < room_along heads + 15 → write_of heads room parts ≡ refused 80 0 0
  unfolding write_of
  is_80 s e d h =
      passes 87 0 0 _ _ s ∙ passes 82 0 0 _ _ e ∙ passes 83 0 0 _ _ d
      ∙ fails 80 0 0 _ _ (lt-ltb room (length (lines_of heads parts)) (let r = room_is heads parts in omega arith))

  pub is_written : some_share heads ≡ false → some (outside heads) parts ≡ false → differ parts ≡ false → room_along heads + 15 ≤ room → write_of heads room parts ≡ accepted (lines_of heads parts)
  unfolding write_of
  is_written s e d h =
      passes 87 0 0 _ _ s ∙ passes 82 0 0 _ _ e ∙ passes 83 0 0 _ _ d
      ∙ passes 80 0 0 _ _ (le-ltb room (length (lines_of heads parts)) (let r = room_is heads parts in omega arith))
