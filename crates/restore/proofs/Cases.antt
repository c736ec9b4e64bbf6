-- Document 01's example: its section is restored, and what the theorems ask of an input holds of it.
use mathlib.Core.Path.{◌≡◌, refl}
use mathlib.Core.List.{List, [], ◌∷◌}
use Prim.Native.Nat.{ℕ, ◌+◌, ◌≤◌}
use native.Mathlib.Omega.{arith}
use lib.ListN.{get_or}
use Rattle.lists.specs.Outcome.{accepted, refuse, ◌>>=◌, ◌>>◌}
use Rattle.lists.specs.Rows.{tabulate, keep_if, some}
use Rattle.lists.specs.Sort.{none, each, sort_by, insert_key}
use Rattle.align.specs.Align.{bad_align}
use Rattle.names.specs.Fixed.{codes, spells, spells_one, is_linker_object, is_linker_label, is_vector_table_end, is_pointer_list, is_four_aligned}
use Rattle.symbol_order.specs.Order.{symbols_of}
use Rattle.symbols.specs.Ranges.{has_symbols, highest_of, highest_in}
use Rattle.sections.specs.Bytes.{all_zero}
use Rattle.sections.specs.Ends.{lowered, splitting_end}
use Rattle.sections.specs.Alignment.{default_alignment, larger, alignment_of}
use Rattle.pieces.specs.Questions.{count_of, has}
use Rattle.relocs.specs.Relocs.{relocs_of, has_relocs}
use Rattle.units.specs.Units.{last_named, unit_of}
use Rattle.walk.specs.Walk.{Input, Output, halved, passed_over, entry_of, add_symbol, add_symbols, add_relocs, piece_of, given, on_aligned, on_kept, on_split, walk_splits, walk_section, walk_sections, walk}
use Rattle.walk.proofs.Cases.{symbol, reloc, split, piece}
use Rattle.splits.specs.Questions.{next_start}
use Rattle.restore.specs.Restoring.{parts, laid_on, laid, Plain, Checked, Restored}
use Rattle.restore.proofs.Theorems.{restores}

-- "section 0 `.data`, address 0x1000, size 16, bytes 1 to 9 then seven zeros", with the gap's split and that of `b.c`
abbrev bytes : List ℕ
bytes = 1 ∷ 2 ∷ 3 ∷ 4 ∷ 5 ∷ 6 ∷ 7 ∷ 8 ∷ 9 ∷ 0 ∷ 0 ∷ 0 ∷ 0 ∷ 0 ∷ 0 ∷ 0 ∷ []

abbrev out : Output
out = record { pieces = piece 0 0 4096 8 8 0 65535 ∷ piece 1 0 4104 8 8 8 0 ∷ []; symbols = []; relocs = [] }

-- the names of walk/proofs/Cases.antt: 0 `.data`, 1 `auto_00_00001000_data`, 2 `b.c`
abbrev names : List (List ℕ)
names = codes ".data" ∷ codes "auto_00_00001000_data" ∷ codes "b.c" ∷ codes "_f_data" ∷ codes "gTRKInterruptVectorTableEnd" ∷ []

-- the first case of walk/proofs/Cases.antt, written out: another crate is not handed what `input_of` opens there
abbrev input : Input
input = record {
  image = record { symbol = λ i. get_or [] i (symbol 0 0 0 0 0); count = 0; name = λ k. get_or names k [] };
  sections = record {
    count = 1;
    head = λ n. record { name = 0; kind = 1; address = 4096; size = 16; offset = 0 };
    bytes = λ n. bytes;
  };
  reloc = λ i. get_or [] i (reloc 0);
  relocs = 0;
  splits = split 4096 4104 1 0 2 65535 ∷ split 4104 4112 2 0 0 0 ∷ [];
  units = 1 ∷ 2 ∷ [];
  room = record { pieces = 1024; symbols = 4096; relocs = 4096 };
}

accepts : walk input ≡ accepted out
unfolding refuse ◌>>=◌ ◌>>◌ codes spells spells_one is_linker_object is_linker_label is_vector_table_end is_pointer_list is_four_aligned tabulate keep_if some sort_by insert_key symbols_of has_symbols highest_of highest_in all_zero lowered splitting_end default_alignment larger alignment_of count_of has relocs_of has_relocs last_named unit_of halved passed_over entry_of add_symbol add_symbols add_relocs piece_of given on_aligned on_kept on_split next_start walk_splits walk_section walk_sections walk
accepts = refl

first_ends : 4104 ≤ 4096 + 16
first_ends = omega arith

second_ends : 4112 ≤ 4096 + 16
second_ends = omega arith

checked : Checked input
unfolding bad_align
checked = record {
  sized = λ n h d. refl;
  nobits = λ n h q. absurd (omega arith);
  sound = record { ends = λ i h. absurd (omega arith); aligned = λ i h. absurd (omega arith) };
  aligned = each refl (each refl none);
  ended = each first_ends (each second_ends none);
}

plain : Plain input 0
plain = record { listed = omega arith; holds = λ q. omega arith; splits = each (λ e. (refl, refl)) (each (λ e. (refl, refl)) none) }

-- THEOREM: it is restored
pub example_restored : Restored input out.pieces 0
example_restored = restores input out checked accepts 0 plain

-- .. and its pieces laid over zeros are its bytes
pub example_laid : laid 0 (input.sections.head 0) (parts input.sections out.pieces) ≡ bytes
unfolding laid_on
example_laid = refl
