-- `stage_walk::walk_columns` meets its contract. None is made yet: the columns beside the outputs hold zeros, and the walk of all sections is the whole walk.
-- Assumes nothing.
use mathlib.Core.Path.{◌≡◌, refl, sym, subst, ◌∙◌}
use Rattle.std.proofs.Common.{rules}
use Prim.Native.Nat.{ℕ, ◌-◌}
use native.Mathlib.Omega.{arith}
use lib.ListN.{length, replicate, length-replicate}
use Rattle.lists.proofs.Rows.{get_or_same}
use Rattle.sections.specs.Image.{image_in}
use Rattle.sections.specs.Sections.{sections_of}
use Rattle.relocs.specs.Relocs.{reloc_of}
use Rattle.splits.specs.Table.{rows_of}
use Rattle.units.specs.Units.{unit_names}
use Rattle.pieces.specs.Room.{Ceilings}
use Rattle.stage_walk.specs.Room.{within_ceilings}
use Rattle.walk.specs.Walk.{walk_sections}
use Rattle.walk.specs.Giving.{input_of, output_in}
use Rattle.stage_walk.specs.Lines.{none}
use Rattle.stage_walk.proofs.Room.{within_low}
use Rattle.stage_walk.proofs.Walked.{tabled_none, walked_all}
use Rattle.stage_walk.proofs.walk_columns.Goals as goal

pub walk_sections-walked-requires : goal.walk_sections-walked-requires
walk_sections-walked-requires c =
    let a = c.args in (
      c.requires.0,
      tabled_none (replicate 9216 0) (λ i. get_or_same 9216 i 0) (length a.obj.now.symbols.places.now) (length a.relocs.now.places.now) (length a.units.now.table.places.now) (replicate 4096 0) _ (search (rules, c.default-tables.ensures))
          (subst Ceilings (sym c.within_ceilings-tables.ensures) (within_low a.tables.now.room))
          (length-replicate {A = ℕ} 9216 0) c.requires.0.few_units (omega (arith, c.requires.0.few_relocs, length-replicate {A = ℕ} 4096 0)) c.requires.1,
      omega arith,
    )

pub returns : goal.returns
returns c =
    let a = c.args in
    let w = c.walk_sections-walked in
    let e = w.ensures.2 in
    let none_made : c.default-tables.result ≡ none = search (rules, c.default-tables.ensures) in
    let g = image_in a.obj.now in
    let sections = sections_of a.obj.now.heads.bytes.now a.obj.now.heads.places.now a.image.now.bytes.now a.image.now.places.now in
    let reloc = reloc_of a.relocs.now.bytes.now a.relocs.now.places.now in
    let units = unit_names a.units.now.table.bytes.now a.units.now.table.places.now in
    walked_all g sections reloc (length a.relocs.now.places.now) (rows_of a.splits.now) units (within_ceilings a.tables.now.room) a.tables.now _ a.tables.now.pieces.now a.tables.now.symbols.now a.tables.now.relocs.now w.result
    (w.ensures.0
    ∙ (λ d. walk_sections (input_of g sections reloc (length a.relocs.now.places.now) (rows_of a.splits.now) units (c.within_ceilings-tables.ensures d)) 0 (sections.count - 0)
    (output_in a.tables.now.pieces.now a.tables.now.symbols.now a.tables.now.relocs.now (none_made d))))
    (record { room = refl; pieces = e.pieces; symbols = e.symbols; relocs = e.relocs; pieces_size = e.pieces_size; symbols_size = e.symbols_size; relocs_size = e.relocs_size })
