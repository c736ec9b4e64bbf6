-- `srecord_text::write_section` meets its contract. Invariant: `Left`, that writing the lines of what is left is writing all, and that it is still there to be read.
-- Assumes nothing.
use Rattle.std.proofs.Common.{◌≡◌, ◌+◌, ◌*◌, ℕ, subst, arith}
use Rattle.srecord_text.proofs.Laws.{Left, left_turn, left_end}
use Rattle.srecord_text.proofs.write_section.Goals as goal

pub loop-done-preserved : goal.loop-done-preserved
loop-done-preserved c =
    let l = c.loop-done in
    let a = c.args in
    let full : l.done + c.min-m.result ≡ l.done + 16 = omega (arith, c.min-m.ensures) in
    subst (λ (d : ℕ). Left a.out.now a.to a.from a.address a.size c.put_data.new.out d (l.at + (15 + 2 * c.min-m.result))) full
    (left_turn _ _ _ _ _ c.requires l.out l.done l.at c.min-m.result l.invariant c.loop-done-test.true (omega (arith, c.min-m.ensures)) _ c.put_data.ensures)

pub returns : goal.returns
returns c = let l = c.loop-done in left_end _ _ _ _ _ c.requires l.out l.done l.at l.invariant c.loop-done-test.false

-- the last line
pub returns-2 : goal.returns-2
returns-2 c =
    let l = c.loop-done in
    left_end _ _ _ _ _ c.requires c.put_data.new.out (l.done + c.min-m.result) (l.at + (15 + 2 * c.min-m.result))
    (left_turn _ _ _ _ _ c.requires l.out l.done l.at c.min-m.result l.invariant c.loop-done-test.true (omega (arith, c.min-m.ensures)) _ c.put_data.ensures)
    (omega (arith, c.min-m.ensures))
