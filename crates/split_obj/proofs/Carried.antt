-- The state of the walk's loops over the lent tables, and how a turn carries it on: what is left to walk from here gives what the whole gives. Assumes nothing.
use mathlib.Core.Path.{◌≡◌, sym, ap, subst, ◌∙◌}
use mathlib.Core.List.{List}
use mathlib.Core.Bool.{true, cond}
use mathlib.Core.Logic.{◌≢◌}
use Prim.Native.Nat.{ℕ, ◌+◌, ◌-◌, ◌%◌, ◌≤◌, ◌<◌, zero-le}
use Rattle.std.specs.Prelude.{Result, Err, Option, None, Some, unwrap_or}
use native.Mathlib.Omega.{arith}
use lib.Dec.{ltb}
use lib.ListN.{length, get_or}
use Rattle.lists.specs.Outcome.{Outcome, accepted, refused, ◌>>=◌}
use Rattle.obj.specs.declared.Refusal.{Refusal}
use Rattle.obj.specs.declared.Split.{Split}
use Rattle.sections.specs.Image.{image_of}
use Rattle.sections.specs.Sections.{sections_of}
use Rattle.splits.specs.Columns.{Columns, row_at, rows as rows_of}
use Rattle.splits.specs.Questions.{within, from_hit, Hit, FirstPlace, start_of}
use Rattle.splits.proofs.Next.{NextIn, hit_next, next_small, start_there}
use Rattle.relocs.specs.Relocs.{reloc_of}
use Rattle.units.specs.Units.{unit_names}
use Rattle.pieces.specs.declared.Counts.{Counts}
use Rattle.pieces.specs.declared.lent.PieceTables.{PieceTables}
use Rattle.walk.specs.declared.Target.{Target}
use Rattle.pieces.specs.Tables.{SameLent}
use Rattle.walk.specs.Walk.{Input, Output, start_in, splitting_end_in, halved, on_aligned, walk_splits, walk_sections}
use Rattle.walk.specs.Steps.{decide}
use Rattle.walk.specs.Giving.{input_of, output_of, gave_meaning, Besides}
use Rattle.split_obj.specs.Loop.{Tabled}
use Rattle.split_obj.proofs.Turns.{turn_fault, turn_skip, turn_misfit, turn_refused, turn_given, splits-none, section_short, section_starts, section_ends, sections_end}

-- ---- the input, of the lent tables
abbrev pub tables_input : (symbols symbol_places name_bytes name_places name_lengths heads head_places image image_places relocs reloc_places : List ℕ) (c : Columns) (rows : ℕ) (unit_table unit_places : List ℕ) (room : Counts) → Input
tables_input symbols symbol_places name_bytes name_places name_lengths heads head_places image image_places relocs reloc_places c rows unit_table unit_places room =
    input_of (image_of symbols symbol_places name_bytes name_places name_lengths) (sections_of heads head_places image image_places) (reloc_of relocs reloc_places) (length reloc_places) (rows_of c rows) (unit_names unit_table unit_places) room

-- ---- the state

-- what is left from section n on
pub record AtSection (t : Input) (whole : Outcome Output) (symbols relocs units last n : ℕ) (scratch part : List ℕ) (tables : PieceTables) : Type 0 where
  pub up : n ≤ last
  pub same : walk_sections t n (last - n) (output_of tables) ≡ whole
  pub tabled : Tabled symbols relocs units scratch part tables

-- what follows section n
abbrev pub after : Input → (last n : ℕ) → Output → Outcome Output
after t last n o = walk_sections t (n + 1) (last - (n + 1)) o

-- what is left from a split of section n on, and after the section
abbrev pub splits_left : Input → (last n low end : ℕ) → Columns → (rows current i : ℕ) → Output → Outcome Output
splits_left t last n low end c rows current i out = walk_splits t n end current out (from_hit (within n low end) c rows i) >>= after t last n

pub record AtSplit (t : Input) (whole : Outcome Output) (symbols relocs units last n low end : ℕ) (c : Columns) (rows current : ℕ) (i : Option ℕ) (scratch part : List ℕ) (tables : PieceTables) : Type 0 where
  pub next : NextIn (within n low end) c rows i
  pub same : splits_left t last n low end c rows current (unwrap_or i rows) (output_of tables) ≡ whole
  pub tabled : Tabled symbols relocs units scratch part tables

-- the split that comes next, where there is one
module _ {t : Input} {whole : Outcome Output} {symbols relocs units last n low end : ℕ} {c : Columns} {rows current : ℕ} {i : Option ℕ} {scratch part : List ℕ} {tables : PieceTables}
    (at : AtSplit t whole symbols relocs units last n low end c rows current i scratch part tables) {k : ℕ} (is : i ≡ Some k) where
  split_next : (k < rows) × (within n low end (row_at c k) ≡ true)
  split_next = subst (NextIn (within n low end) c rows) is at.next

  pub split_small : k < rows
  split_small = split_next.0

  pub split_passes : within n low end (row_at c k) ≡ true
  split_passes = split_next.1

  pub split_same : splits_left t last n low end c rows current k (output_of tables) ≡ whole
  split_same = subst (λ (o : Option ℕ). splits_left t last n low end c rows current (unwrap_or o rows) (output_of tables) ≡ whole) is at.same

-- .. and where there is none
pub no_place : {rows : ℕ} {i : Option ℕ} → i ≡ None → rows ≤ unwrap_or i rows
no_place {rows} {i} is = subst (λ (o : Option ℕ). rows ≤ unwrap_or o rows) (sym is) (omega arith)

-- ---- an answer
pub refused_at : (symbols : ℕ) (before : PieceTables) (scratch : List ℕ) (t : PieceTables) (r : Result (Unit {0}) Refusal) (e : Refusal) (whole : Outcome Output)
    → r ≡ Err e → refused e.number e.section e.address ≡ whole → SameLent before t
    → (gave_meaning t r ≡ whole) × Besides symbols scratch t r × SameLent before t
refused_at symbols before scratch t r e whole is q same =
    subst (λ (x : Result (Unit {0}) Refusal). (gave_meaning t x ≡ whole) × Besides symbols scratch t x × SameLent before t) (sym is) (q, tt, same)

-- ---- a section
module _ (t : Input) (n last : ℕ) (out : Output) (whole : Outcome Output) (same : walk_sections t n (last - n) out ≡ whole) where
  pub sections_done : n ≡ last → accepted out ≡ whole
  sections_done e = sym (sections_end t n last out e) ∙ same

  module _ (h : n < last) (low : ℕ) (is : low ≡ start_in t.sections n) where
    pub ends_short : (number section address : ℕ) → refused number section address ≡ splitting_end_in t.image t.sections n → refused number section address ≡ whole
    ends_short number section address d = sym (section_short t n last out h number section address (sym d)) ∙ same

    pub goes_section : (end : ℕ) → accepted end ≡ splitting_end_in t.image t.sections n → (c : Columns) (count : ℕ) (r : Option ℕ) → t.splits ≡ rows_of c count
        → FirstPlace (within n low end) c 0 count r → splits_left t last n low end c count low (unwrap_or r count) out ≡ whole
    goes_section end d c count r g first =
        sym (section_starts t n last out h low end (sym d) is c count (unwrap_or r count) g (hit_next (within n low end) c count 0 r zero-le first)) ∙ same

-- ---- a split
module _ (t : Input) (last n low end : ℕ) (c : Columns) (rows current i : ℕ) (out : Output) (whole : Outcome Output) (same : splits_left t last n low end c rows current i out ≡ whole) where
  pub section_done : (h : n < last) → end ≤ current → after t last n out ≡ whole
  section_done h q = sym (section_ends t n last out h end current (from_hit (within n low end) c rows i) out q) ∙ same

  module _ (h : current < end) where
    pub ends_none : rows ≤ i → refused 70 n current ≡ whole
    unfolding ◌>>=◌
    ends_none q = sym (ap (λ (m : Outcome Output). m >>= after t last n) (splits-none t n end current out (within n low end) c rows i h q)) ∙ same

-- a turn: the split s at place i comes next, and r is the one after it, if there is one, where `next` is the splitting end else
pub record Turn (t : Input) (last n low end : ℕ) (c : Columns) (rows current : ℕ) (out : Output) (whole : Outcome Output) (r : Option ℕ) (next : ℕ) (s : Split) : Type 0 where
  pub i : ℕ
  pub same : splits_left t last n low end c rows current i out ≡ whole
  pub before : current < end
  pub small : i < rows
  pub first : FirstPlace (within n low end) c (i + 1) rows r
  pub follows : next ≡ start_of c.starts end r
  pub is : s ≡ row_at c i

module _ {t : Input} {last n low end : ℕ} {c : Columns} {rows current : ℕ} {out : Output} {whole : Outcome Output} {r : Option ℕ} {next : ℕ} {s : Split}
    (turn : Turn t last n low end c rows current out whole r next s) where
  -- the place of the one after, or the number of rows
  abbrev j : ℕ
  j = unwrap_or r rows

  hit : Hit (within n low end) c rows (turn.i + 1) j
  hit = hit_next (within n low end) c rows (turn.i + 1) r (omega (arith, turn.small)) turn.first

  next_at : next ≡ cond (ltb j rows) (get_or c.starts j 0) end
  next_at = turn.follows ∙ start_there c.starts end rows r (next_small (within n low end) c rows (turn.i + 1) r turn.first)

  abbrev asked : Outcome (Option Target)
  asked = decide t.image t.sections t.units n current next s

  at_row : asked ≡ decide t.image t.sections t.units n current next (row_at c turn.i)
  at_row = ap (decide t.image t.sections t.units n current next) turn.is

  pub ends_fault : (x : Refusal) → refused x.number x.section x.address ≡ asked → refused x.number x.section x.address ≡ whole
  ends_fault x d =
      sym (turn_fault t n end current out (within n low end) c rows turn.i turn.before turn.small j next hit next_at (after t last n) x.number x.section x.address (d ∙ at_row))
      ∙ turn.same

  pub goes_skip : accepted None ≡ asked → splits_left t last n low end c rows next j out ≡ whole
  goes_skip d = sym (turn_skip t n end current out (within n low end) c rows turn.i turn.before turn.small j next hit next_at (after t last n) (d ∙ at_row)) ∙ turn.same

  module _ (unit alignment : ℕ) (d : accepted (Some (record { unit = unit; alignment = alignment })) ≡ asked) (a : ℕ) (half : halved 16 alignment current ≡ a) where
    pub ends_misfit : current % a ≢ 0 → refused 75 n current ≡ whole
    ends_misfit m =
        sym (turn_misfit t n end current out (within n low end) c rows turn.i turn.before turn.small j next hit next_at (after t last n) unit alignment (d ∙ at_row) a half m)
        ∙ turn.same

    -- what was given, at the split's own start
    module _ (starts : s.start ≡ current) where
      given_at : on_aligned t n current unit a (row_at c turn.i) out ≡ on_aligned t n s.start unit a s out
      given_at = λ k. on_aligned t n (sym starts k) unit a (sym turn.is k) out

      pub ends_refused : (x : Refusal) → on_aligned t n s.start unit a s out ≡ refused x.number x.section x.address → refused x.number x.section x.address ≡ whole
      ends_refused x g =
          sym (turn_refused t n end current out (within n low end) c rows turn.i turn.before turn.small j next hit next_at (after t last n) unit alignment (d ∙ at_row) a half x.number x.section x.address (given_at ∙ g))
          ∙ turn.same

      pub goes_given : (o : Output) → on_aligned t n s.start unit a s out ≡ accepted o → splits_left t last n low end c rows next j o ≡ whole
      goes_given o g =
          sym (turn_given t n end current out (within n low end) c rows turn.i turn.before turn.small j next hit next_at (after t last n) unit alignment (d ∙ at_row) a half o (given_at ∙ g))
          ∙ turn.same
