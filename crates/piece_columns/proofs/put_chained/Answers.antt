-- `piece_columns::put_chained` meets its contract: the entry is put behind the others, and at the front of its symbol's chain.
use native.Mathlib.Omega.{arith}
use lib.ListN.{length-set}
use Rattle.pieces.specs.Pieces.{symbols_in}
use Rattle.piece_columns.proofs.Chains.{pushed_symbol}
use Rattle.piece_columns.proofs.Regions.{in_lasts, length_prevs, pushed_both}
use Rattle.piece_columns.proofs.put_chained.Goals as goal

pub bounds-chains-i : goal.bounds-chains-i
bounds-chains-i c = rw c.from-i.ensures (in_lasts c.args.chains.now c.args.y.symbol c.requires.0).1

pub bounds-chains-k : goal.bounds-chains-k
bounds-chains-k c = omega (arith, c.requires.2, length_prevs c.args.chains.now)

pub bounds-chains-i-2 : goal.bounds-chains-i-2
bounds-chains-i-2 c = simp (length-set, c.from-i.ensures) (in_lasts c.args.chains.now c.args.y.symbol c.requires.0).1

pub returns : goal.returns
unfolding symbols_in
returns c =
    let a = c.args in
    rw c.from-i.ensures
    (pushed_both a.chains.now _ _ a.k a.y (in_lasts a.chains.now a.y.symbol c.requires.0).0
    (pushed_symbol _ _ _ a.y c.put_record.ensures _ _ c.requires.1 c.requires.0 c.requires.2 (omega (arith, c.requires.3, c.put_record.auto.out))))
