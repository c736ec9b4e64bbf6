-- What later stages take of the split table: it is made of the loaded columns but those of relocations and units, and its rows lie in sections that are
-- there, under names within the ceiling. Assumes nothing.
use Prim.Native.Nat.{ℕ, ◌+◌, ◌≤◌}
use mathlib.Core.Path.{◌≡◌, refl, sym, ap, ◌∙◌}
use mathlib.Core.List.{List, [], ◌++◌}
use native.Mathlib.Omega.{arith}
use lib.ListN.{length, length-append}
use Rattle.lists.specs.Sort.{All}
use Rattle.lists.proofs.All.{all_map}
use Rattle.obj.specs.declared.Split.{Split}
use Rattle.load.specs.Load.{Loaded, names_in}
use Rattle.loaded.specs.Tables.{tables_with, Usable}
use Rattle.gap_splits.specs.Entering.{Ceilings}
use Rattle.gap_splits.specs.Answers as entering
use Rattle.std.specs.Prelude.{Ok}
use Rattle.obj.specs.Answers.{Answer}
use Rattle.run_splits.specs.Table.{merged, with_common, with_gaps, checked, split_table, Homed}
use Rattle.run_splits.proofs.Keeping.{table_homed}

-- relocations and units have no part in it
pub table_of_parts : (file : List ℕ) (t : Loaded) (room : ℕ) (names : Ceilings)
    → split_table file (tables_with t.names t.lengths t.sections t.symbols [] t.splits []) room names ≡ split_table file t room names
unfolding split_table merged with_common with_gaps checked names_in
table_of_parts file t room names = refl

-- more names
pub homed_more : {sections names more : ℕ} → names ≤ more → {s : Split} → Homed sections names s → Homed sections more s
homed_more h p = record { section = p.section; unit = omega (arith, h, p.unit); renamed = λ q. omega (arith, h, p.renamed q) }

-- THEOREM: the rows of a split table lie in sections that are there, and their units and renames are names
pub rows_homed : {file : List ℕ} {t : Loaded} (u : Usable file t) (room : ℕ) (names : Ceilings) (base more : List (List ℕ)) (rows : List Split) (a : Answer)
    → entering.meant base more rows a ≡ split_table file t room names → a ≡ Ok tt → length base + length more ≤ 4096
    → All (Homed (length t.sections) 4096) rows
rows_homed u room names base more rows a p accepts h =
    let few : length (base ++ more) ≤ 4096 = omega (arith, h, length-append base more) in
    all_map (λ s q. homed_more few q) (table_homed u room names (record { names = base ++ more; rows = rows }) (sym p ∙ ap (entering.meant base more rows) accepts))
