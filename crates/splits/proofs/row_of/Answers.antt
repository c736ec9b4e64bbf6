-- `splits::row_of` meets its contract: each part of `rest` is cut out as the definition does it.
-- Assumes nothing.
use Rattle.splits.specs.Columns.{row_of, rename_in, origin_in}
use Rattle.splits.proofs.row_of.Goals as goal

pub returns : goal.returns
unfolding row_of
returns c =
    let a = c.args in
    λ i. record {
      section = c.section_of.ensures i;
      start = a.start;
      end = a.end;
      unit = a.unit;
      alignment = c.alignment_of.ensures i;
      flags = c.flags_of.ensures i;
      rename = rename_in a.rest;
      origin = origin_in a.rest;
    }
