-- `piece_columns::push_piece` meets its contract: the piece is put behind the others in its table, and one more is made.
-- `push_symbol` has the same record but for the table that grows: of a lemma for both, each equation of the record would be an argument.
use mathlib.Core.Path.{refl}
use native.Mathlib.Omega.{arith}
use Rattle.piece_columns.proofs.push_piece.Goals as goal

pub put_counted-requires : goal.put_counted-requires
put_counted-requires c =
    let r = c.requires in (r.0, r.1, omega (arith, r.2, c.args.tables.now.fits.pieces_long), r.3)

pub returns : goal.returns
returns c =
    record {
      added = record {
        more = c.put_counted.ensures.more;
        one = refl;
        symbols = record { bytes = refl; made = refl };
        relocs = record { bytes = refl; made = refl };
        lent = record { room = refl; pieces = refl; symbols = refl; relocs = refl; pieces_size = c.put_counted.auto.out; symbols_size = refl; relocs_size = refl };
      };
      counted = c.put_counted.ensures.counted;
    }
