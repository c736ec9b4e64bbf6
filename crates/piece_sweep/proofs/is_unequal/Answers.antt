-- `piece_sweep::is_unequal` meets its contract. The pieces are of one section and lie somewhere together, or they don't differ.
-- Assumes nothing.
use native.Mathlib.Omega.{arith}
use mathlib.Core.Path.{sym, ap, ap₂, ◌∙◌}
use Prim.Native.Nat.{ℕ, ◌+◌, ◌≤◌, min, max}
use mathlib.Core.List.{List}
use mathlib.Core.Bool.{not}
use Rattle.names.specs.Names.{same_name}
use Rattle.piece_records.specs.Records.{part_at}
use Rattle.piece_sweep.specs.Overlap.{low_of, high_of, bytes_in}
use Rattle.piece_sweep.proofs.Laws.{apart_sections, apart_places, overlap_is}
use Rattle.piece_sweep.proofs.is_unequal.Goals as goal

pub returns-then-f-p : goal.returns-then-f-p
returns-then-f-p c =
    let a = c.args in
    let p = part_at a.b.now a.far in
    let q = part_at a.b.now a.at in
    let f = c.head_at-f.ensures in
    let g = c.head_at-p.ensures in
    sym (apart_sections p q (λ e. c.if-f-p.true (f.section ∙ e ∙ sym g.section)))

pub returns-then-high-low : goal.returns-then-high-low
returns-then-high-low c =
    let a = c.args in
    let p = part_at a.b.now a.far in
    let q = part_at a.b.now a.at in
    let f = c.head_at-f.ensures in
    let g = c.head_at-p.ensures in
    let low = c.max-low.ensures ∙ ap₂ (λ (x y : ℕ). max x y) f.address g.address in
    let high = c.min-high.ensures ∙ ap₂ (λ (x y : ℕ). min x y) (c.end.ensures ∙ ap₂ (λ (x y : ℕ). x + y) f.address f.«length») (c.end-2.ensures ∙ ap₂ (λ (x y : ℕ). x + y) g.address g.«length») in
    let t = c.if-high-low.true in
    sym (apart_places p q (let z : high_of p q ≤ low_of p q = omega (arith, low, high, t) in z))

pub returns : goal.returns
returns c =
    let a = c.args in
    let p = part_at a.b.now a.far in
    let q = part_at a.b.now a.at in
    let f = c.head_at-f.ensures in
    let g = c.head_at-p.ensures in
    let low = c.max-low.ensures ∙ ap₂ (λ (x y : ℕ). max x y) f.address g.address in
    let high = c.min-high.ensures ∙ ap₂ (λ (x y : ℕ). min x y) (c.end.ensures ∙ ap₂ (λ (x y : ℕ). x + y) f.address f.«length») (c.end-2.ensures ∙ ap₂ (λ (x y : ℕ). x + y) g.address g.«length») in
    ap not c.same.ensures
    ∙ ap₂ (λ (x y : List ℕ). not (same_name x y)) c.bytes_between.ensures c.bytes_between-2.ensures
    ∙ ap₂ (λ (x y : ℕ). not (same_name (bytes_in p x y) (bytes_in q x y))) low high
    ∙ overlap_is p q (sym f.section ∙ c.if-f-p.false ∙ g.section)
