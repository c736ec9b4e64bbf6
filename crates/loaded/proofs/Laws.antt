-- What each stage asks of the tables, of a file that is usable: the records can be read, the names are there, ends and alignments are as they should be.
-- Assumes nothing.
use Prim.Native.Nat.{ℕ, ◌+◌, ◌<◌, ◌≤◌}
use mathlib.Core.Path.{◌≡◌, sym, ap, ◌∙◌}
use mathlib.Core.List.{List}
use native.Mathlib.Omega.{arith}
use lib.ListN.{length, get_or, length-map}
use Rattle.std.proofs.lemmas.List.{get_or-map}
use Rattle.align.specs.Align.{bad_align}
use Rattle.obj.specs.Records.{reloc_at}
use Rattle.obj.specs.declared.Split.{Split}
use Rattle.obj.specs.Nothing.{no_reloc}
use Rattle.names.specs.Names.{Named}
use Rattle.tables.specs.Tables.{AllHeld}
use Rattle.tables.specs.Records.{relocs_in}
use Rattle.tables.proofs.Lookups.{partial_is}
use Rattle.load.specs.Load.{Loaded}
use Rattle.load.proofs.Laws.{name_known, names-named, good_splits, held_sections, held_units}
use Rattle.symbol_order.specs.Order.{symbol_of, order_of, Whole, Room}
use Rattle.symbols.specs.Sound.{Sound}
use Rattle.sections.specs.Image.{SymbolNames, Tables}
use Rattle.sections.specs.Sections.{head_of, Kept, Heads}
use Rattle.splits.specs.Bytes.{Partials}
use Rattle.relocs.specs.Relocs as relocs
use Rattle.units.specs.Units.{Listed}
use Rattle.loaded.specs.Tables.{byte_places, Usable}

module _ {file : List ℕ} {t : Loaded} (u : Usable file t) where
  -- ---- how many
  pub few_names : length t.names ≤ 4096
  few_names = u.good.within.names

  pub few_sections : length t.sections ≤ 64
  few_sections = u.good.within.sections

  pub few_symbols : length t.symbols ≤ 4096
  few_symbols = u.good.within.symbols

  pub few_relocs : length t.relocations ≤ 4096
  few_relocs = u.good.within.relocations

  pub few_splits : length t.splits ≤ 1024
  few_splits = u.good.within.splits

  pub few_units : length t.units ≤ 1024
  few_units = u.good.within.units

  -- ---- names
  pub all_named : Named file t.names t.lengths (length t.names)
  all_named = names-named u.good

  pub measured : length t.lengths ≡ length t.names
  measured = u.good.names.measured

  -- ---- sections
  pub sections_held : AllHeld 15 file t.sections
  sections_held = held_sections u.good (omega arith)

  pub section_named : (k : ℕ) → k < length t.sections → (head_of file t.sections k).name < length t.names
  section_named k h = name_known u.good _ (u.good.sections.each k h).named

  pub section_below : (k : ℕ) → k < length t.sections → (head_of file t.sections k).address + (head_of file t.sections k).size ≤ 4026531840
  section_below k h = (u.good.sections.each k h).end

  -- the bytes of section k are behind its head
  place_is : (k : ℕ) → k < length t.sections → get_or (byte_places t.sections) k 0 ≡ get_or t.sections k 0 + 15
  place_is k h = get_or-map (λ place. place + 15) t.sections k 0 0 h

  pub sections_kept : Kept file t.sections file (byte_places t.sections) t.names
  sections_kept = record {
    few = few_sections;
    held = λ k h. record { there = h; inside = u.good.sections.held k h };
    named = section_named;
    below = section_below;
    lies = λ k h. record {
      there = λ q. omega (arith, h, length-map t.sections (λ place. place + 15));
      inside = λ q. rw (place_is k h) ((u.bytes.each k h).inside q);
    };
  }

  pub sections_heads : Heads file t.sections t.names
  sections_heads = record { held = λ k h. record { there = h; inside = u.good.sections.held k h }; named = section_named }

  -- what `image_places` is asked with
  pub places_small : (k : ℕ) → k < length t.sections → get_or t.sections k 0 + 15 ≤ 65536
  places_small k h = omega (arith, u.good.sections.held k h, u.small)

  -- ---- symbols
  pub symbols_whole : Whole file t.symbols
  symbols_whole = record { each = u.good.symbols.held }

  -- what `make_order` is lent
  pub order_room : (order scratch : List ℕ) → 4096 ≤ length order → 4096 ≤ length scratch → Room t.symbols order scratch
  order_room order scratch h k = record { few = omega (arith, few_symbols); ordered = omega (arith, few_symbols, h); worked = omega (arith, few_symbols, k) }

  pub symbol_names : SymbolNames file t.symbols file t.names t.lengths
  symbol_names = record { names = all_named; named = λ i h. (u.good.symbols.each i h).name }

  -- with the order that was made
  pub tables-ordered : (order : List ℕ) → order ≡ order_of (symbol_of file t.symbols) (length t.symbols) → Tables file t.symbols order file t.names t.lengths
  tables-ordered order e = record { symbols = record { whole = symbols_whole; is = e }; names = symbol_names }

  pub symbols_sound : Sound (symbol_of file t.symbols) (length t.symbols)
  symbols_sound = record { ends = λ i h. (u.good.symbols.each i h).end; aligned = λ i h. (u.good.symbols.each i h).aligned }

  -- ---- relocations
  pub relocs_whole : relocs.Whole file t.relocations
  relocs_whole = record { each = u.good.relocations.held }

  reloc_is : (i : ℕ) → i < length t.relocations → get_or (relocs_in file t.relocations) i no_reloc ≡ relocs.reloc_of file t.relocations i
  reloc_is i h = get_or-map (reloc_at file) t.relocations i 0 no_reloc h

  pub relocs_rising : relocs.Rising (relocs.reloc_of file t.relocations) (length t.relocations)
  relocs_rising = record { each = rises }
    where
      rises : (i j : ℕ) → i < j → j < length t.relocations → (relocs.reloc_of file t.relocations i).section ≡ (relocs.reloc_of file t.relocations j).section
          → (relocs.reloc_of file t.relocations i).address ≤ (relocs.reloc_of file t.relocations j).address
      rises i j h k e =
          let a = reloc_is i (omega (arith, h, k)) in
          let b = reloc_is j k in
          let low = u.good.rising.rise i j h (omega (arith, k, length-map t.relocations (reloc_at file))) (rw (a, b) e) in
          let lower : (relocs.reloc_of file t.relocations i).address < (relocs.reloc_of file t.relocations j).address = rw (a, b) at low in
          omega (arith, lower)

  -- ---- partial splits
  pub partials_mergeable : Partials file t.splits
  partials_mergeable = record {
    few = omega (arith, few_splits);
    held = λ k h. record { there = h; inside = u.good.splits.held k h };
    aligned = λ k h. ap (λ (s : Split). bad_align s.alignment) (sym (partial_is file t.splits k h)) ∙ (good_splits u.good k h).aligned;
  }

  -- ---- units
  pub units_held : AllHeld 8 file t.units
  units_held = held_units u.good (omega arith)

  pub units_listed : (column : List ℕ) → length t.names ≤ length column → Listed file t.units column
  units_listed column h = record {
    few = omega (arith, few_units);
    held = λ k q. record { there = q; inside = u.good.units.held k q };
    named = λ k q. omega (arith, h, name_known u.good _ (u.good.units.each k q).named);
  }
