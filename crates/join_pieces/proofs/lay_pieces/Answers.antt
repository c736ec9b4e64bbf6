-- `join_pieces::lay_pieces`: a turn lays the next piece.
use native.Mathlib.Omega.{arith}
use mathlib.Core.Path.{sym, ap, ap₂, ◌∙◌}
use mathlib.Core.List.{List}
use Prim.Native.Nat.{ℕ, ◌+◌, ◌-◌}
use lib.ListN.{length}
use lib.Seq.{sets}
use Rattle.obj.specs.Parts.{Part}
use Rattle.join.proofs.Sizes.{inside, spot-fits}
use Rattle.join.specs.Laying.{laid_over}
use Rattle.stage_tables.specs.StageTables.{stage_sections}
use Rattle.piece_records.specs.Records.{part_at, parts_at}
use Rattle.piece_records.proofs.Laws.{parts-start}
use Rattle.join_pieces.proofs.Laws.{laid_turn, laid_end}
use Rattle.join_pieces.proofs.Passing.{pass_start, pass_among, pass_turn}
use Rattle.join_pieces.proofs.lay_pieces.Goals as goal

pub loop-i-init : goal.loop-i-init
loop-i-init c = (
  pass_start _ _ c.args.pieces.now.whole,
  ap (λ (l : List Part). laid_over (stage_sections c.args.pieces.now.sections.now) l c.args.out.now) (parts-start _ _),
)

pub spot_of-requires : goal.spot_of-requires
spot_of-requires c = pass_among _ _ _ _ c.loop-i-test.true c.loop-i.invariant.0

pub bytes_at-requires : goal.bytes_at-requires
bytes_at-requires c = (pass_among _ _ _ _ c.loop-i-test.true c.loop-i.invariant.0).lying

pub put_bytes-requires : goal.put_bytes-requires
put_bytes-requires c =
    let a = c.args in
    let heads = stage_sections a.pieces.now.sections.now in
    let p = part_at a.pieces.now.bytes.now c.loop-i.at in
    let one = (pass_among _ _ _ _ c.loop-i-test.true c.loop-i.invariant.0).one _ a.pieces.now.inside in
    omega (arith, spot-fits heads p (inside heads p one), c.spot_of.ensures, ap length c.bytes_at.ensures, c.requires)

pub next_at-at-requires : goal.next_at-at-requires
next_at-at-requires c = let lying = (pass_among _ _ _ _ c.loop-i-test.true c.loop-i.invariant.0).lying in (lying.head, lying.payload)

pub loop-i-preserved : goal.loop-i-preserved
loop-i-preserved c =
    let l = c.loop-i in
    let a = c.args in
    let heads = stage_sections a.pieces.now.sections.now in
    let laid = c.put_bytes.ensures ∙ ap₂ (λ (k : ℕ) (x : List ℕ). sets l.out k x) c.spot_of.ensures c.bytes_at.ensures in (
      pass_turn _ _ _ _ c.loop-i-test.true l.invariant.0 _ c.next_at-at.ensures,
      ap₂ (λ (k : ℕ) (x : List ℕ). laid_over heads (parts_at (a.pieces.now.count - (l._i + 1)) a.pieces.now.bytes.now k) x) c.next_at-at.ensures laid
          ∙ sym (laid_turn heads a.pieces.now.bytes.now l.at l._i a.pieces.now.count l.out c.loop-i-test.true)
          ∙ l.invariant.1,
    )

pub returns : goal.returns
returns c = sym (laid_end _ _ _ _ _ _ c.loop-i-test.false) ∙ c.loop-i.invariant.1
