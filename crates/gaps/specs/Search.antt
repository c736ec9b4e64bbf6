-- What a search for the gaps of a section is of, and that it goes on with what it was lent.
use Rattle.std.specs.Prelude.{ℕ, ◌≡◌, length}
use Rattle.obj.specs.declared.Symbol.{Symbol}
use Rattle.symbol_order.specs.Order.{symbol_of}
use Rattle.gaps.specs.declared.gap_search.GapSection.{GapSection}
use Rattle.gaps.specs.declared.gap_search.GapSearch.{GapSearch}

-- symbol i
abbrev pub symbol_in : GapSection → ℕ → Symbol
symbol_in here = symbol_of here.symbols.bytes.now here.symbols.places.now

-- how many symbols there are
abbrev pub count_in : GapSection → ℕ
count_in here = length here.symbols.places.now

-- the same section, and the marks that were lent
pub record SameSearch (before after : GapSearch) : Type 0 where
  pub here : after.here ≡ before.here
  pub marks : after.marks.ghost_name ≡ before.marks.ghost_name
