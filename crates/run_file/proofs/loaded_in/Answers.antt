-- The parts of the columns are the tables that were loaded, and they are ready for the stages.
use mathlib.Core.Path.{refl}
use Rattle.run_file.proofs.Parts.{parts_are, parts_ready}
use Rattle.run_file.proofs.loaded_in.Goals as goal

pub returns : goal.returns
returns c =
    let q = c.requires in
    record {
      file_is = refl;
      tables_are = rw (c.part.ensures, c.part-2.ensures, c.part-3.ensures, c.part-4.ensures, c.part-5.ensures, c.part-6.ensures) (parts_are q);
      ready = λ index s. rw (s.heads, s.chain, c.part.ensures, c.part-2.ensures, c.part-3.ensures, c.part-4.ensures, c.part-5.ensures, c.part-6.ensures) (parts_ready q);
    }
