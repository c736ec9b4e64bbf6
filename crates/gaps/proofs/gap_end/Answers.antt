-- The part is the gap's symbols, the gap ends after those passed, and their marks go again.
use Rattle.std.proofs.Common.{◌∙◌, refl}
use lib.ListN.{take}
use Rattle.symbols.proofs.Parts.{part_readable}
use Rattle.gaps.specs.Search.{symbol_in, count_in}
use Rattle.gaps.proofs.Marks.{all_clean, still_markable, readable_take, end_of_part}
use Rattle.gaps.proofs.gap_end.Goals as goal

pub stop_of-j-requires : goal.stop_of-j-requires
stop_of-j-requires c =
    let s = c.args.search.now in
    (part_readable _ _ _ s.here.ordered _ _ c.for_section_range-part.ensures, s.markable, s.clean)

pub end_at-end-requires : goal.end_at-end-requires
end_at-end-requires c =
    let s = c.args.search.now in
    let stopped = c.stop_of-j in (
      part_readable _ _ _ s.here.ordered _ _ c.for_section_range-part.ensures,
      still_markable (symbol_in s.here) (count_in s.here) s.marks.now stopped.new.marks s.markable stopped.auto.marks,
      stopped.ensures,
      c.requires,
    )

pub clear_marks-requires : goal.clear_marks-requires
clear_marks-requires c =
    let s = c.args.search.now in
    let stopped = c.stop_of-j in (
      readable_take _ _ _ stopped.result (part_readable _ _ _ s.here.ordered _ _ c.for_section_range-part.ensures),
      still_markable (symbol_in s.here) (count_in s.here) s.marks.now stopped.new.marks s.markable stopped.auto.marks,
    )

pub invariant_of-search : goal.invariant_of-search
invariant_of-search c =
    let s = c.args.search.now in
    let stopped = c.stop_of-j in
    let cleared = c.clear_marks in
    let part = c.for_section_range-part.result.now in
    record {
      markable = still_markable (symbol_in s.here) (count_in s.here) s.marks.now cleared.new.marks s.markable (cleared.auto.marks ∙ stopped.auto.marks);
      clean = all_clean (symbol_in s.here) (take stopped.result part) stopped.new.marks c.args.current part cleared.new.marks stopped.result refl stopped.ensures cleared.ensures;
    }

pub returns-clause-end : goal.returns-clause-end
returns-clause-end c = c.end_at-end.ensures ∙ end_of_part _ _ _ _ _ _ c.for_section_range-part.ensures
