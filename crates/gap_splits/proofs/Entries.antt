-- A gap that enters, as the code does it: its unit is named, and then its split is merged. Assumes nothing.
use mathlib.Core.Path.{◌≡◌, sym, ap, ◌∙◌}
use mathlib.Core.List.{List, ◌++◌}
use Prim.Native.Nat.{ℕ}
use Rattle.lists.specs.Outcome.{accepted, refused}
use Rattle.lists.proofs.Binds.{bind_goes, bind_stops}
use Rattle.obj.specs.declared.Split.{Split}
use Rattle.splits.specs.Columns.{Good}
use Rattle.splits.proofs.Alignment.{alignment_none}
use Rattle.merge.specs.Merge.{Given, merge_one}
use Rattle.merge.specs.Answers.{merged}
use Rattle.std.specs.Prelude.{Option, None, Some, Ok, Err}
use Rattle.obj.specs.Answers.{Answer}
use Rattle.gap_columns.specs.Columns.{Gap}
use Rattle.gap_splits.specs.Entering.{Filled, Ceilings, named, gap_split, unit_name, entered}
use Rattle.gap_splits.specs.Answers.{Numbered, meant, merged_as, Enters}

module _ (section_name : ℕ → List ℕ) (g : Given) (room : Ceilings) (t : Filled) (x : Gap) where
  -- "28 name table full"
  pub entered_full : named room x.section x.start t.names (unit_name section_name g room x) ≡ refused 28 x.section x.start
      → entered section_name g room t x ≡ refused 28 x.section x.start
  unfolding entered
  entered_full e = bind_stops _ _ 28 x.section x.start e

  -- the split is merged
  pub entered_named : (names : List (List ℕ)) (unit : ℕ) → named room x.section x.start t.names (unit_name section_name g room x) ≡ accepted (record { names = names; number = unit })
      → entered section_name g room t x ≡ merged_as names (merge_one g t.rows (gap_split x unit))
  unfolding entered
  entered_named names unit e = bind_goes _ _ (record { names = names; number = unit }) e

pub numbered_when : {base before after : List (List ℕ)} {x : List ℕ} {room : Ceilings} {r s : Option ℕ} → r ≡ s → Numbered base before x room after r → Numbered base before x room after s
numbered_when e n = rw (sym e) n

module _ (section_name : ℕ → List ℕ) (g : Given) (room : Ceilings) (base before : List (List ℕ)) (old : List Split) (x : Gap) (after : List (List ℕ)) (rows : List Split) where
  abbrev t : Filled
  t = record { names = base ++ before; rows = old }

  abbrev name : List ℕ
  name = unit_name section_name g room x

  pub enters_full : {u : Option ℕ} → Numbered base before name room after u → u ≡ None
      → Enters (entered section_name g room t x) base before name after rows (Err (record { number = 28; section = x.section; address = x.start }))
  enters_full {u} n e = record {
    is = sym (entered_full section_name g room t x (sym ((numbered_when e n).is x.section x.start)));
    later = n.later;
  }

  -- its unit was named, and what became of its split is what became of the gap
  pub enters_merged : {u : Option ℕ} {r : Answer} {new : Split} (unit : ℕ) → Numbered base before name room after u → u ≡ Some unit
      → new ≡ gap_split x unit → merged r rows ≡ merge_one g old new
      → Enters (entered section_name g room t x) base before name after rows r
  enters_merged {u} {r} unit n e s q = record { is = of r (q ∙ ap (merge_one g old) s); later = n.later }
    where
      whole : entered section_name g room t x ≡ merged_as (base ++ after) (merge_one g old (gap_split x unit))
      whole = entered_named section_name g room t x (base ++ after) unit (sym ((numbered_when e n).is x.section x.start))

      of : (r : Answer) → merged r rows ≡ merge_one g old (gap_split x unit) → meant base after rows r ≡ entered section_name g room t x
      of (Ok _) m = sym (whole ∙ bind_goes _ _ rows (sym m))
      of (Err d) m = sym (whole ∙ bind_stops _ _ d.number d.section d.address (sym m))

-- a gap's split has no alignment, which the columns can hold
pub good_none : {s : Split} {x : Gap} {unit : ℕ} → s ≡ gap_split x unit → Good s.alignment
good_none e = rw e (record { bits = 0; is = alignment_none })
