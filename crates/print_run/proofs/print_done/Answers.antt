-- The parts of the column of places are the tables that are listed, and the units lie one behind another.
use Rattle.std.specs.Prelude.{OnOk}
use Rattle.std.specs.Io.KnownBytes.{Appends}
use Rattle.std.proofs.Common.{ℕ, List, subst, arith}
use Rattle.listing.specs.Lent.{columns_of}
use Rattle.tables.proofs.Lookups.{places_front}
use Rattle.print_run.proofs.Lent.{readable_lent, listed_lent}
use Rattle.print_run.proofs.print_done.Goals as goal

pub print_lines-requires : goal.print_lines-requires
print_lines-requires g c = rw (c.part.ensures, c.part-2.ensures, c.part-3.ensures) (readable_lent c.requires _ (places_front _ _ _ _ (omega (arith, c.requires.few)) c.fill_places.ensures))

pub returns : goal.returns
returns g c =
    let a = c.args in
    subst (λ (text : List ℕ). OnOk c.print_lines.result (Appends (g.W.Write.contents a.out.now) (g.W.Write.contents c.print_lines.new.out) text))
    (listed_lent a.file.now a.places.now a.lengths.now a.units.now a.lists.now.pieces.now a.lists.now.symbols.now a.lists.now.relocs.now a.counts
    (columns_of a.added.now) a.n a.lists.now.made _ (places_front _ _ _ _ (omega (arith, c.requires.few)) c.fill_places.ensures))
    (rw (c.part.ensures, c.part-2.ensures, c.part-3.ensures) at c.print_lines.ensures)
