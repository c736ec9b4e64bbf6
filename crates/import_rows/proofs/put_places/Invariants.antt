-- `import_rows::put_places` meets its contract. Invariant: the places that are left are to be written behind those that are. Assumes nothing.
use mathlib.Core.List.{map}
use Prim.Native.Nat.{◌*◌}
use lib.ListN.{drop}
use Rattle.fields.specs.Fields.{enc32}
use Rattle.elf_file.specs.File.{header_of}
use Rattle.import_rows.specs.Rows.{place_of, places_table}
use Rattle.import_rows.proofs.Laws.{Writing}
use Rattle.import_rows.proofs.put_places.Given as goal

abbrev pub invariant-loop-i : goal.invariant-loop-i
invariant-loop-i l =
    Writing (map (λ p. enc32 p) (map (λ k. place_of (header_of l.headers k)) (drop l.i l.taken.numbers.now))) (places_table (map (λ k. place_of (header_of l.headers k)) l.taken.numbers.now)) l.initial.out l.out (4 * l.i)
