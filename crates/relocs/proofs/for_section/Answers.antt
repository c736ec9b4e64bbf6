-- `relocs::for_section`: the numbers of the relocations that pass are the section's.
use Rattle.std.proofs.Common.{rules}
use borrow.Author.Tests.{tests}
use lib.Dec.{eqb}
use Rattle.relocs.specs.Relocs.{reloc_of, relocs_of}
use Rattle.relocs.proofs.for_section.Goals as goal

pub returns : goal.returns
unfolding relocs_of
returns c =
    let t = c.args.table.now in
    record {
      small = c.numbered.ensures.small;
      is = c.numbered.ensures.is (λ i. eqb (reloc_of t.bytes.now t.places.now i).section c.args.section) (record { each = λ i r h e. search (rules, tests, e) });
    }
