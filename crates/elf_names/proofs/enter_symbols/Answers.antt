-- Each turn enters one symbol's name, or finds no place for it.
use Rattle.std.proofs.Common.{arith, List, ℕ}
use Rattle.obj.proofs.Errors.{is_err}
use Rattle.elf.specs.Strings.{string_at}
use Rattle.number_names.specs.Numbers.{Room, enter_name}
use Rattle.elf_names.proofs.Laws.{symbols_all, symbols_turn, symbols_done}
use Rattle.elf_names.proofs.Loop.{entering_first, entering_on, entering_stops, entering_done}
use Rattle.elf_names.proofs.enter_symbols.Goals as goal

pub loop-i-init : goal.loop-i-init
loop-i-init c = entering_first _ _ _ _ 1 (symbols_all c.args.table.now c.args.strings.now)

pub enter_string-requires : goal.enter_string-requires
enter_string-requires c = omega (arith, c.loop-i.invariant.sized)

pub returns-in_err-enter_string : goal.returns-in_err-enter_string
returns-in_err-enter_string c =
    rw (is_err _ c.from_residual.ensures.1)
    (entering_stops _ _ _ _ (λ (room : Room) (names : List (List ℕ)). enter_name room names (string_at c.args.strings.now c.record_in-s.result.name)) c.loop-i.invariant
    (λ names. rw c.record_in-s.ensures (symbols_turn _ _ _ names _ c.loop-i-test.true)) c.enter_string.new.names c.enter_string.new.seen _ c.in_err-enter_string.ensures)

pub loop-i-preserved : goal.loop-i-preserved
loop-i-preserved c =
    entering_on _ _ _ _ (λ (room : Room) (names : List (List ℕ)). enter_name room names (string_at c.args.strings.now c.record_in-s.result.name)) c.loop-i.invariant
    (λ names. rw c.record_in-s.ensures (symbols_turn _ _ _ names _ c.loop-i-test.true)) c.enter_string.new.names c.enter_string.new.seen c.in_ok-enter_string.ensures c.enter_string.auto.seen

pub returns : goal.returns
returns c = entering_done _ _ _ _ c.loop-i.invariant (λ names. symbols_done _ _ _ names _ c.loop-i-test.false)
