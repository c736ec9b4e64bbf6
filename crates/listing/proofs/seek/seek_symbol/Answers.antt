-- `listing::seek::seek_symbol` meets its contract: the next symbol of the unit, or its relocations.
use Rattle.std.proofs.Common.{rules, ℕ, ◌≡◌, true, false, Some, None}
use Rattle.std.proofs.lemmas.Iterator.{first_from_Range}
use Rattle.listing.specs.Cursor.{symbol_is}
use Rattle.listing.proofs.Seeks.{sought_symbol, symbols_passed}
use Rattle.pieces.specs.Pieces.{symbols_in}
use Rattle.listing.specs.Lent.{listed_pieces, listed_symbols, listed_relocs, symbol_on}
use Rattle.listing.proofs.seek.seek_symbol.Goals as goal

pub returns-in-Some : goal.returns-in-Some
unfolding symbols_in
returns-in-Some c =
    let a = c.args in
    let p = λ (k : ℕ). symbol_is a.here.now.unit (symbol_on a.here.now.lists.now k) in
    sought_symbol a.here.now.units a.here.now.unit a.at a.here.now.bytes (listed_pieces a.here.now.lists.now) (symbol_on a.here.now.lists.now) a.here.now.lists.now.made.symbols (listed_relocs a.here.now.lists.now) (first_from_Range _ _ _ (Some c.in-Some.at) (λ k. p k ≡ true) (λ k. p k ≡ false) c.in-Some.ensures.ran (λ x q e. search rules) (λ x q e. search rules)) a.here.now.within

pub returns : goal.returns
unfolding symbols_in
returns c =
    let a = c.args in
    let p = λ (k : ℕ). symbol_is a.here.now.unit (symbol_on a.here.now.lists.now k) in
    symbols_passed a.here.now.units a.here.now.unit a.at a.here.now.bytes (listed_pieces a.here.now.lists.now) (symbol_on a.here.now.lists.now) a.here.now.lists.now.made.symbols (listed_relocs a.here.now.lists.now) (first_from_Range _ _ _ None (λ k. p k ≡ true) (λ k. p k ≡ false) c.in_default.ensures.ran (λ x q e. search rules) (λ x q e. search rules)) (c.seek_reloc.ensures (listed_symbols a.here.now.lists.now))
