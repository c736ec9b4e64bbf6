-- The names that are left from a section or a symbol on. Assumes nothing.
use mathlib.Core.Path.{◌≡◌, refl, sym, ap, ◌∙◌}
use mathlib.Core.List.{List, map}
use mathlib.Core.Bool.{Bool, true, false}
use Prim.Native.Nat.{ℕ, ◌+◌, ◌*◌, ◌-◌, ◌/◌, ◌≤◌, ◌<◌}
use lib.ListN.{length}
use Rattle.lists.specs.Rows.{tabulate, keep_if}
use Rattle.lists.specs.Outcome.{accepted, ◌>>=◌}
use Rattle.lists.proofs.Rows.{rest-cons, rest-none}
use Rattle.lists.proofs.FilterRows.{filter_hit, filter_miss, filter_none}
use Rattle.lists.proofs.Parts.{tabulate_all}
use Rattle.elf.specs.Elf.{symbol_entry_at}
use Rattle.elf.specs.Strings.{string_at}
use Rattle.elf.specs.declared.SectionHeader.{SectionHeader}
use Rattle.elf_file.specs.File.{count, header_of, allocated, taken, entries_of}
use Rattle.number_names.specs.Numbers.{Room, enter_name, enter_names}
use Rattle.number_names.proofs.Laws.{enter_cons, enter_nil}
use Rattle.elf_names.specs.Names.{section_names, symbol_names, enter_section}

-- ---- sections

module _ (headers strings : List ℕ) where
  -- the names of the allocated sections from section i on
  unfoldable pub sections_left : ℕ → List (List ℕ)
  sections_left i = map (λ k. string_at strings (header_of headers k).name) (keep_if (λ k. allocated (header_of headers k)) (tabulate (λ k. k) i (count headers - i)))

  pub sections_all : sections_left 0 ≡ section_names headers strings
  unfolding sections_left section_names taken
  sections_all =
      ap (λ (l : List ℕ). map (λ k. string_at strings (header_of headers k).name) (keep_if (λ k. allocated (header_of headers k)) l)) (tabulate_all (λ k. k) (count headers))

  module _ (room : Room) (names : List (List ℕ)) (i : ℕ) where
    pub sections_turn : i < count headers
        → enter_names room names (sections_left i) ≡ (enter_section room strings names (header_of headers i) >>= λ more. enter_names room more (sections_left (i + 1)))
    unfolding sections_left enter_section ◌>>=◌
    sections_turn h = go (allocated (header_of headers i)) refl
      where
        go : (t : Bool) → allocated (header_of headers i) ≡ t
            → enter_names room names (sections_left i) ≡ (enter_section room strings names (header_of headers i) >>= λ more. enter_names room more (sections_left (i + 1)))
        go true e =
            rw (filter_hit (λ k. allocated (header_of headers k)) (λ k. k) (count headers) i h e, e)
            (enter_cons room names _ _)
        go false e = rw (filter_miss (λ k. allocated (header_of headers k)) (λ k. k) (count headers) i h e, e)

    pub sections_done : count headers ≤ i → enter_names room names (sections_left i) ≡ accepted names
    unfolding sections_left
    sections_done h = rw (filter_none (λ k. allocated (header_of headers k)) (λ k. k) (count headers) i h) (enter_nil room names)

-- ---- symbols

module _ (table strings : List ℕ) where
  -- the names of the symbols from symbol i on
  unfoldable pub symbols_left : ℕ → List (List ℕ)
  symbols_left i = map (λ s. string_at strings s.name) (tabulate (λ k. symbol_entry_at table (16 * k)) i (length table / 16 - i))

  pub symbols_all : symbols_left 1 ≡ symbol_names table strings
  unfolding symbols_left symbol_names entries_of
  symbols_all = refl

  module _ (room : Room) (names : List (List ℕ)) (i : ℕ) where
    pub symbols_turn : i < length table / 16
        → enter_names room names (symbols_left i) ≡ (enter_name room names (string_at strings (symbol_entry_at table (16 * i)).name) >>= λ more. enter_names room more (symbols_left (i + 1)))
    unfolding symbols_left
    symbols_turn h = rw (rest-cons (λ k. symbol_entry_at table (16 * k)) i (length table / 16) h) (enter_cons room names _ _)

    pub symbols_done : length table / 16 ≤ i → enter_names room names (symbols_left i) ≡ accepted names
    unfolding symbols_left
    symbols_done h = rw (rest-none (λ k. symbol_entry_at table (16 * k)) i (length table / 16) h) (enter_nil room names)

-- ---- the name of one section

module _ (room : Room) (strings : List ℕ) (names : List (List ℕ)) {h want : SectionHeader} (eh : h ≡ want) where
  -- it is allocated
  pub section_taken : {r : Bool} → r ≡ allocated h → r ≡ true → enter_name room names (string_at strings h.name) ≡ enter_section room strings names want
  unfolding enter_section
  section_taken {r} er t =
      let yes : allocated want ≡ true = ap allocated (sym eh) ∙ sym er ∙ t in
      rw yes (ap (λ (s : SectionHeader). enter_name room names (string_at strings s.name)) eh)

  -- it is not
  pub section_left : {r : Bool} → r ≡ allocated h → r ≡ false → enter_section room strings names want ≡ accepted names
  unfolding enter_section
  section_left {r} er t = let no : allocated want ≡ false = ap allocated (sym eh) ∙ sym er ∙ t in rw no
