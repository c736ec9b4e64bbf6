-- `listing::seek::seek_piece` meets its contract: the next piece of the unit, or its symbols.
use Rattle.std.proofs.Common.{rules, ℕ, ◌≡◌, true, false, Some, None}
use Rattle.std.proofs.lemmas.Iterator.{first_from_Range}
use Rattle.listing.specs.Cursor.{piece_is}
use Rattle.listing.proofs.Seeks.{sought_piece, pieces_passed}
use Rattle.pieces.specs.Pieces.{pieces_in}
use Rattle.listing.specs.Lent.{listed_symbols, listed_relocs, piece_on}
use Rattle.listing.proofs.seek.seek_piece.Goals as goal

pub returns-in-Some : goal.returns-in-Some
unfolding pieces_in
returns-in-Some c =
    let a = c.args in
    let p = λ (k : ℕ). piece_is a.here.now.unit (piece_on a.here.now.lists.now k) in
    sought_piece a.here.now.units a.here.now.unit a.at a.here.now.bytes (piece_on a.here.now.lists.now) a.here.now.lists.now.made.pieces (listed_symbols a.here.now.lists.now) (listed_relocs a.here.now.lists.now) (first_from_Range _ _ _ (Some c.in-Some.at) (λ k. p k ≡ true) (λ k. p k ≡ false) c.in-Some.ensures.ran (λ x q e. search rules) (λ x q e. search rules)) a.here.now.within

pub returns : goal.returns
unfolding pieces_in
returns c =
    let a = c.args in
    let p = λ (k : ℕ). piece_is a.here.now.unit (piece_on a.here.now.lists.now k) in
    pieces_passed a.here.now.units a.here.now.unit a.at a.here.now.bytes (piece_on a.here.now.lists.now) a.here.now.lists.now.made.pieces (listed_symbols a.here.now.lists.now) (listed_relocs a.here.now.lists.now) (first_from_Range _ _ _ None (λ k. p k ≡ true) (λ k. p k ≡ false) c.in_default.ensures.ran (λ x q e. search rules) (λ x q e. search rules)) c.seek_symbol.ensures
