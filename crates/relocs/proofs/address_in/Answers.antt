-- `relocs::address_in` meets its contract: the number that stands there is that of a relocation, so its record can be read.
use mathlib.Core.Path.{ap, ◌∙◌}
use Rattle.obj.specs.declared.Reloc.{Reloc}
use Rattle.relocs.specs.Relocs.{reloc_of}
use Rattle.relocs.proofs.Laws.{held_at}
use Rattle.relocs.proofs.address_in.Goals as goal

pub record-requires : goal.record-requires
record-requires c = held_at _ _ _ c.requires.1 _ _ c.requires.0 c.number.ensures

pub returns : goal.returns
returns c = ap (λ (r : Reloc). r.address) (c.record.ensures ∙ ap (reloc_of c.args.table.now.bytes.now c.args.table.now.places.now) c.number.ensures)
