-- The steps one after another are the definition: a refusal ends it, and each stage goes on from the table before it. Assumes nothing.
use Prim.Native.Nat.{ℕ}
use mathlib.Core.Path.{◌≡◌, refl, sym, ap, ◌∙◌}
use mathlib.Core.List.{List, [], ◌++◌}
use lib.ListN.{length}
use Rattle.lists.specs.Outcome.{Outcome, accepted, refused, ◌>>=◌}
use Rattle.lists.proofs.Binds.{bind_goes, bind_stops, bind_assoc}
use Rattle.obj.specs.declared.Split.{Split}
use Rattle.names.specs.Names.{names_of}
use Rattle.tables.specs.Records.{sections_in, partials_in}
use Rattle.load.specs.Load.{Loaded, names_in}
use Rattle.loaded.specs.Tables.{image_from, byte_places}
use Rattle.sections.specs.Image.{Image}
use Rattle.sections.specs.Sections.{Sections, sections_of}
use Rattle.splits.specs.Columns.{rows}
use Rattle.merge.specs.Merge.{Given, given, merge_all}
use Rattle.common.specs.Sections.{bss_in}
use Rattle.obj.specs.Answers.{Answer}
use Rattle.std.specs.Prelude.{Ok, Err}
use Rattle.trim.specs.Steps.{seen}
use Rattle.gap_splits.specs.Entering.{Filled, Ceilings}
use Rattle.gap_splits.specs.Answers.{meant}
use Rattle.create_gap_splits.specs.Create.{gaps_filled}
use Rattle.run_merge.specs.Merging.{marked_in}
use Rattle.run_trim.specs.Checking.{checked_table}
use Rattle.run_splits.specs.Table.{merged, with_common, with_gaps, checked, split_table}

-- the gaps of a table that is given are found and enter it
abbrev pub filled_after : Image → Sections → Given → Ceilings → (names : List (List ℕ)) → Outcome (List Split) → Outcome Filled
filled_after image sections g room names table = table >>= λ rows. gaps_filled image sections g room (record { names = names; rows = rows })

-- the rows of a filled table are checked and trimmed
abbrev pub trimmed_after : (List Split → Outcome (List Split)) → Outcome Filled → Outcome Filled
trimmed_after check full = full >>= λ t. check t.rows >>= λ rows. accepted (record { names = t.names; rows = rows })

-- ---- all of them
module _ (file : List ℕ) (t : Loaded) (room : ℕ) (names : Ceilings) where
  abbrev pub marked_table : Outcome (List Split)
  marked_table =
      marked_in (bss_in file t.names t.lengths file t.sections) (merge_all (given (sections_in file t.sections) room) [] (partials_in file t.splits))

  -- `images` are the places of the sections' bytes
  abbrev pub gaps_with : (images : List ℕ) → Outcome (List Split) → Outcome Filled
  gaps_with images table =
      filled_after (image_from file t) (sections_of file t.sections file images) (given (sections_in file t.sections) room) names
      (names_of file t.names t.lengths (length t.names)) table

  abbrev pub trim_with : (images : List ℕ) → Outcome Filled → Outcome Filled
  trim_with images full = trimmed_after (checked_table (image_from file t) (sections_of file t.sections file images)) full

  table_of : trim_with (byte_places t.sections) (gaps_with (byte_places t.sections) marked_table) ≡ split_table file t room names
  unfolding split_table merged with_common with_gaps checked names_in
  table_of = bind_assoc _ _ _ ∙ bind_assoc _ _ _

  pub table_is : (images : List ℕ) → images ≡ byte_places t.sections → {x : Outcome (List Split)} {y z : Outcome Filled} → x ≡ marked_table → y ≡ gaps_with images x
      → z ≡ trim_with images y → z ≡ split_table file t room names
  table_is images p a b c =
      c ∙ ap (trim_with images) (b ∙ ap (gaps_with images) a) ∙ ap (λ (l : List ℕ). trim_with l (gaps_with l marked_table)) p ∙ table_of

  -- ---- where they end
  module _ (images : List ℕ) (p : images ≡ byte_places t.sections) where
    abbrev pub gaps_of : List Split → Outcome Filled
    gaps_of rows =
        gaps_filled (image_from file t) (sections_of file t.sections file images) (given (sections_in file t.sections) room) names
        (record { names = names_of file t.names t.lengths (length t.names); rows = rows })

    abbrev pub check_of : List Split → Outcome (List Split)
    check_of = checked_table (image_from file t) (sections_of file t.sections file images)

    -- the filling of the merged rows
    pub gaps_given : {rows : List Split} {full : Filled} → accepted rows ≡ marked_table → accepted full ≡ gaps_of rows → accepted full ≡ gaps_with images marked_table
    gaps_given e q = q ∙ sym (bind_goes _ _ _ refl) ∙ ap (gaps_with images) e

    -- the merge is refused
    pub merge_refused : {number section address : ℕ} → refused number section address ≡ marked_table → refused number section address ≡ split_table file t room names
    merge_refused e = table_is images p e (sym (bind_stops _ _ _ _ _ refl)) (sym (bind_stops _ _ _ _ _ refl))

    -- the filling of its rows is
    pub gaps_refused : {rows : List Split} {number section address : ℕ} → accepted rows ≡ marked_table → refused number section address ≡ gaps_of rows
        → refused number section address ≡ split_table file t room names
    gaps_refused e q = table_is images p e (q ∙ sym (bind_goes _ _ _ refl)) (sym (bind_stops _ _ _ _ _ refl))

    -- the check or the trim of those is
    pub trim_refused : {rows : List Split} {full : Filled} {number section address : ℕ} → accepted rows ≡ marked_table → accepted full ≡ gaps_of rows
        → refused number section address ≡ check_of full.rows → refused number section address ≡ split_table file t room names
    trim_refused {rows} {full} {number} {section} {address} e q h =
        table_is images p e (q ∙ sym (bind_goes _ _ _ refl)) (sym (bind_goes _ _ _ refl ∙ bind_stops (check_of full.rows) _ number section address (sym h)))

    -- none is
    pub all_accepted : {rows left : List Split} {full : Filled} → accepted rows ≡ marked_table → accepted full ≡ gaps_of rows → accepted left ≡ check_of full.rows
        → accepted (record { names = full.names; rows = left }) ≡ split_table file t room names
    all_accepted {rows} {left} {full} e q h =
        table_is images p e (q ∙ sym (bind_goes _ _ _ refl)) (sym (bind_goes _ _ _ refl ∙ bind_goes (check_of full.rows) _ left (sym h)))

    -- what the check and the trim answer is the answer, with the names of the filling
    pub ends_so : (base added : List (List ℕ)) {rows more : List Split} (left : List Split) (a : Answer) → accepted rows ≡ marked_table → accepted (record { names = base ++ added; rows = more }) ≡ gaps_of rows
        → seen a left ≡ check_of more → meant base added left a ≡ split_table file t room names
    ends_so base added left (Ok _) e q h = all_accepted e q h
    ends_so base added left (Err r) e q h = trim_refused e q h
