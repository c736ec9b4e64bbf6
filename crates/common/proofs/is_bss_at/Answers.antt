-- `common::is_bss_at` meets its contract: the head's name, compared with `.bss`. Assumes nothing.
use mathlib.Core.Path.{ap, ◌∙◌}
use Rattle.obj.specs.declared.Section.{Section}
use Rattle.names.specs.Names.{name_at}
use Rattle.names.specs.Fixed.{is_bss}
use Rattle.common.specs.Sections.{bss_at}
use Rattle.common.proofs.is_bss_at.Goals as goal

pub returns : goal.returns
unfolding bss_at
returns c =
    let a = c.args in
    c.is_bss.ensures
    ∙ ap is_bss (c.name_at.ensures ∙ ap (λ (t : Section). name_at a.sections.now.names.bytes.now a.sections.now.names.places.now a.sections.now.names.lengths.now t.name) c.record-head.ensures)
