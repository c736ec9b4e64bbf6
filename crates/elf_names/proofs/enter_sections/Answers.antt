-- Each turn enters one section's name, or finds no place for it.
use Rattle.std.proofs.Common.{arith, List, ℕ}
use Rattle.obj.proofs.Errors.{is_err}
use Rattle.elf_file.specs.File.{header_of}
use Rattle.number_names.specs.Numbers.{Room}
use Rattle.elf_names.specs.Names.{enter_section}
use Rattle.elf_names.proofs.Laws.{sections_all, sections_turn, sections_done}
use Rattle.elf_names.proofs.Loop.{entering_first, entering_on, entering_stops, entering_done}
use Rattle.elf_names.proofs.enter_sections.Goals as goal

pub loop-i-init : goal.loop-i-init
loop-i-init c = entering_first _ _ _ _ 0 (sections_all c.args.headers.now c.args.strings.now)

pub enter_section-requires : goal.enter_section-requires
enter_section-requires c = (omega arith, omega (arith, c.loop-i.invariant.sized))

pub returns-in_err-enter_section : goal.returns-in_err-enter_section
returns-in_err-enter_section c =
    rw (is_err _ c.from_residual.ensures.1)
    (entering_stops _ _ _ _ (λ (room : Room) (names : List (List ℕ)). enter_section room c.args.strings.now names (header_of c.args.headers.now c.loop-i.i)) c.loop-i.invariant
    (λ names. sections_turn _ _ _ names _ c.loop-i-test.true) c.enter_section.new.names c.enter_section.new.seen _ c.in_err-enter_section.ensures)

pub loop-i-preserved : goal.loop-i-preserved
loop-i-preserved c =
    entering_on _ _ _ _ (λ (room : Room) (names : List (List ℕ)). enter_section room c.args.strings.now names (header_of c.args.headers.now c.loop-i.i)) c.loop-i.invariant
    (λ names. sections_turn _ _ _ names _ c.loop-i-test.true) c.enter_section.new.names c.enter_section.new.seen c.in_ok-enter_section.ensures c.enter_section.auto.seen

pub returns : goal.returns
returns c = entering_done _ _ _ _ c.loop-i.invariant (λ names. sections_done _ _ _ names _ c.loop-i-test.false)
