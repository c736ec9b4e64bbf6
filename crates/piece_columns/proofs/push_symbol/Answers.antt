-- `piece_columns::push_symbol` meets its contract: the entry is put behind the others in its table, and one more is made.
-- `push_piece` has the same record but for the table that grows: of a lemma for both, each equation of the record would be an argument.
use mathlib.Core.Path.{refl}
use native.Mathlib.Omega.{arith}
use Rattle.piece_columns.proofs.push_symbol.Goals as goal

pub put_chained-requires : goal.put_chained-requires
put_chained-requires c =
    let r = c.requires in (r.0, r.1, r.2, omega (arith, r.3, c.args.tables.now.fits.symbols_long), r.4)

pub returns : goal.returns
returns c =
    record {
      added = record {
        more = c.put_chained.ensures.more;
        one = refl;
        pieces = record { bytes = refl; made = refl };
        relocs = record { bytes = refl; made = refl };
        lent = record { room = refl; pieces = refl; symbols = refl; relocs = refl; pieces_size = refl; symbols_size = c.put_chained.auto.out; relocs_size = refl };
      };
      chained = c.put_chained.ensures.chained;
    }
