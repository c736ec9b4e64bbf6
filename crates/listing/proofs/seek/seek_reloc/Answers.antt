-- `listing::seek::seek_reloc` meets its contract: the next relocation of the unit, or the next unit.
use Rattle.std.proofs.Common.{rules, ℕ, ◌≡◌, true, false, Some, None}
use Rattle.std.proofs.lemmas.Iterator.{first_from_Range}
use Rattle.listing.specs.Cursor.{reloc_is}
use Rattle.listing.proofs.Seeks.{sought_reloc, relocs_passed}
use Rattle.pieces.specs.Pieces.{relocs_in}
use Rattle.listing.specs.Lent.{listed_pieces, listed_relocs, reloc_on}
use Rattle.listing.proofs.seek.seek_reloc.Goals as goal

pub returns-in-Some : goal.returns-in-Some
unfolding relocs_in
returns-in-Some c =
    let a = c.args in
    let p = λ (k : ℕ). reloc_is (listed_pieces a.here.now.lists.now) a.here.now.unit (reloc_on a.here.now.lists.now k) in
    λ symbols. sought_reloc a.here.now.units a.here.now.unit a.at a.here.now.bytes (listed_pieces a.here.now.lists.now) (reloc_on a.here.now.lists.now) a.here.now.lists.now.made.relocs symbols (first_from_Range _ _ _ (Some c.in-Some.at) (λ k. p k ≡ true) (λ k. p k ≡ false) c.in-Some.ensures.ran (λ x q e. search rules) (λ x q e. search rules)) a.here.now.within

pub returns : goal.returns
unfolding relocs_in
returns c =
    let a = c.args in
    let p = λ (k : ℕ). reloc_is (listed_pieces a.here.now.lists.now) a.here.now.unit (reloc_on a.here.now.lists.now k) in
    λ symbols. relocs_passed a.here.now.units a.here.now.unit a.at a.here.now.bytes (listed_pieces a.here.now.lists.now) (reloc_on a.here.now.lists.now) a.here.now.lists.now.made.relocs symbols (first_from_Range _ _ _ None (λ k. p k ≡ true) (λ k. p k ≡ false) c.in_default.ensures.ran (λ x q e. search rules) (λ x q e. search rules)) (c.seek_unit.ensures (listed_pieces a.here.now.lists.now) symbols (listed_relocs a.here.now.lists.now))
