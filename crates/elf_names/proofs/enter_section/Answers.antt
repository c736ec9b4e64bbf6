-- The name of an allocated section is entered, that of another is not.
use Rattle.number_names.specs.Tables.{room_of}
use Rattle.number_names.proofs.Laws.{same_table}
use Rattle.elf_names.proofs.Laws.{section_taken, section_left}
use Rattle.elf_names.proofs.Seen.{seen_as, entered_so}
use Rattle.elf_names.proofs.enter_section.Goals as goal

pub returns-then-is_allocated : goal.returns-then-is_allocated
returns-then-is_allocated c = (
  c.enter_string.ensures.0,
  λ held ends₀ bytes₀ h s.
      let a = c.args in
      entered_so (section_taken (room_of a.names.now) a.strings.now held c.header_of-h.ensures c.is_allocated.ensures c.if-is_allocated.true)
      (c.enter_string.ensures.1 held ends₀ bytes₀ h s),
)

pub returns : goal.returns
returns c = (
  same_table,
  λ held ends₀ bytes₀ h s.
      let a = c.args in
      let same = section_left (room_of a.names.now) a.strings.now held c.header_of-h.ensures c.is_allocated.ensures c.if-is_allocated.false in
      record { entered = record { names = held; is = same; held = h }; right = seen_as a.strings.now a.seen.now held s same },
)
