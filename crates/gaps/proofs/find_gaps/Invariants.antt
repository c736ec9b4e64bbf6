-- `gaps::find_gaps` meets its contract. Invariant (`Searching`): the gaps of the sections from k on enter after those found as all.
use Rattle.sections.specs.Image.{image_in}
use Rattle.sections.specs.Sections.{sections_of}
use Rattle.splits.specs.Table.{columns_of}
use Rattle.gaps.specs.Found.{Clean}
use Rattle.gaps.proofs.Sections.{Searching}
use Rattle.gaps.proofs.find_gaps.Given as goal

abbrev pub invariant-loop-k : goal.invariant-loop-k
invariant-loop-k l =
    record { holds : Searching (image_in l.obj) (sections_of l.obj.heads.bytes.now l.obj.heads.places.now l.image.bytes.now l.image.places.now) (columns_of l.splits) l.splits.count l.initial.found l.found l.k; clean : Clean l.marks }
