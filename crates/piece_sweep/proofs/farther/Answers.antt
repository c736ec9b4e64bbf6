-- `piece_sweep::farther` meets its contract: in one section the one that ends later, else the second.
-- Assumes nothing.
use native.Mathlib.Omega.{arith}
use mathlib.Core.Path.{sym, ◌∙◌}
use Prim.Native.Nat.{◌≤◌, ◌<◌}
use Rattle.piece_records.specs.Records.{part_at}
use Rattle.piece_sweep.specs.Sweep.{end_of}
use Rattle.piece_sweep.proofs.Laws.{farther_stays, farther-beyond, farther_another}
use Rattle.piece_sweep.proofs.farther.Goals as goal

pub returns-then-f-p : goal.returns-then-f-p
returns-then-f-p c =
    let f = c.head_at-f.ensures in
    let g = c.head_at-p.ensures in
    let p = part_at c.args.b.now c.args.far in
    let q = part_at c.args.b.now c.args.at in
    record { is = sym (farther_another p q (λ e. c.if-f-p.true (f.section ∙ e ∙ sym g.section))); lies = c.requires.1 }

pub returns-then-end : goal.returns-then-end
returns-then-end c =
    let f = c.head_at-f.ensures in
    let g = c.head_at-p.ensures in
    let p = part_at c.args.b.now c.args.far in
    let q = part_at c.args.b.now c.args.at in
    let later : end_of p < end_of q = omega (arith, c.if-end.true, c.end.ensures, c.end-2.ensures, f.address, f.«length», g.address, g.«length») in
    record { is = sym (farther-beyond p q later); lies = c.requires.1 }

pub returns : goal.returns
returns c =
    let f = c.head_at-f.ensures in
    let g = c.head_at-p.ensures in
    let p = part_at c.args.b.now c.args.far in
    let q = part_at c.args.b.now c.args.at in
    let before : end_of q ≤ end_of p = omega (arith, c.if-end.false, c.end.ensures, c.end-2.ensures, f.address, f.«length», g.address, g.«length») in
    record { is = sym (farther_stays p q (sym f.section ∙ c.if-f-p.false ∙ g.section) before); lies = c.requires.0 }
