-- `sections::end_of` meets its contract: the head and the bytes of a section belong together.
use Rattle.sections.proofs.Kept.{kept_whole}
use Rattle.sections.proofs.end_of.Goals as goal

pub end_for_section-requires : goal.end_for_section-requires
end_for_section-requires c =
    let a = c.args in
    (c.requires.0, rw (c.section_bytes-bytes.ensures, c.record-head.ensures) (kept_whole _ _ _ _ _ c.requires.1 a.n c.requires.2))
