-- `listing::reading::piece_of` meets its contract: below the count it is read, else the default stands there. That the default's fields are zeros is found only where it stands alone.
-- Assumes nothing.
use mathlib.Core.Path.{◌≡◌, sym, ap, ◌∙◌}
use Rattle.std.proofs.Common.{rules}
use native.Mathlib.Nat.{zero-add}
use lib.ListN.{get_or-eq_default}
use Rattle.lists.specs.Rows.{tabulate}
use Rattle.lists.proofs.Rows.{length-tabulate, get_d_tabulate}
use Rattle.listing.specs.Cursor.{no_piece}
use Rattle.pieces.specs.Pieces.{pieces_in}
use Rattle.listing.specs.Lent.{piece_on}
use Rattle.listing.proofs.reading.piece_of.Goals as goal

pub returns-then-k-lists : goal.returns-then-k-lists
unfolding pieces_in
returns-then-k-lists c = let a = c.args in c.record_in.ensures ∙ sym (get_d_tabulate (piece_on a.lists.now) 0 a.lists.now.made.pieces a.k no_piece c.if-k-lists.true ∙ ap (piece_on a.lists.now) (zero-add a.k))

pub returns : goal.returns
unfolding pieces_in
returns c =
    let a = c.args in
    let zeros : c.default.result ≡ no_piece = search (rules, c.default.ensures) in
    rw zeros (sym (get_or-eq_default (tabulate (piece_on a.lists.now) 0 a.lists.now.made.pieces) no_piece (rw (length-tabulate (piece_on a.lists.now) 0 a.lists.now.made.pieces) c.if-k-lists.false)))
