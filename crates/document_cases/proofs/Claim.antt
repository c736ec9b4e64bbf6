-- The one claim over document 01's cases P1 to P8: each stage's definition answers what the table says.
-- Assumes nothing.
use mathlib.Core.Path.{◌≡◌, refl}
use mathlib.Core.List.{map}
use Rattle.lists.specs.Outcome.{refuse, ◌>>◌, ◌>>=◌}
use Rattle.lists.specs.Rows.{tabulate, keep_if, some}
use Rattle.lists.specs.Sort.{insert_key, sort_by}
use Rattle.align.specs.Align.{align_up}
use Rattle.names.specs.Fixed.{codes, spells, spells_one, is_pointer_list, is_four_aligned, is_linker_object, is_linker_label, is_vector_table_end}
use Rattle.symbol_order.specs.Order.{symbols_of}
use Rattle.symbols.specs.Ranges.{last_or, highest_of, highest_in, has_symbols}
use Rattle.sections.specs.Bytes.{all_zero}
use Rattle.sections.specs.Alignment.{default_alignment, larger, alignment_of}
use Rattle.sections.specs.Ends.{lowered, splitting_end}
use Rattle.toposort.specs.Search.{first, bad_edge, move_of, hops, climb, on_seen, on_move, on_state, run}
use Rattle.toposort.specs.Sorting.{sort_of}
use Rattle.validate.specs.Check.{end_of, validate_one, validate_from, validate}
use Rattle.gap_columns.specs.Columns.{placed, in_order}
use Rattle.gaps.specs.Gaps.{end_after, end_from, gap_end, gaps_up_to, gaps_before, gaps_from, section_gaps, gaps_of, into, found_gaps}
use Rattle.pieces.specs.Questions.{count_of, has}
use Rattle.relocs.specs.Relocs.{relocs_of, has_relocs}
use Rattle.units.specs.Units.{last_named, unit_of}
use Rattle.walk.specs.Walk.{halved, passed_over, entry_of, add_symbol, add_symbols, add_relocs, piece_of, given, on_aligned, on_kept, on_split, walk_splits, walk_section, walk_sections, walk}
use Rattle.splits.specs.Questions.{next_start}
use Rattle.document_cases.specs.Table.{Row, table, answered}

-- THEOREM: every row has its answer
pub cases_hold : map (λ (r : Row). answered r.asked) table ≡ map (λ (r : Row). r.answer) table
unfolding answered refuse ◌>>=◌ ◌>>◌ codes spells spells_one is_linker_object is_linker_label is_vector_table_end is_pointer_list is_four_aligned tabulate keep_if some sort_by insert_key symbols_of has_symbols last_or highest_of highest_in all_zero lowered splitting_end default_alignment larger alignment_of align_up sort_of first bad_edge move_of hops climb on_seen on_move on_state run end_of validate_one validate_from validate placed in_order end_after end_from gap_end gaps_up_to gaps_before gaps_from section_gaps gaps_of into found_gaps count_of has relocs_of has_relocs last_named unit_of halved passed_over entry_of add_symbol add_symbols add_relocs piece_of given on_aligned on_kept on_split next_start walk_splits walk_section walk_sections walk
cases_hold = refl
