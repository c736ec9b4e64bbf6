use Rattle.std.proofs.Common.{sym, ap, ◌∙◌, arith, ℕ, ◌/◌}
use Rattle.names.specs.Index.{bucket_of}
use Rattle.names.proofs.Indexes.{hash_turn, hash_ended}
use Rattle.names.proofs.index.bucket_of.Goals as goal

pub loop-byte-preserved : goal.loop-byte-preserved
loop-byte-preserved c =
    let l = c.loop-byte in
    record { small = omega arith; rest = rw (c.from.ensures) (sym (hash_turn l.hash c.args.name.now l.byte-index c.loop-byte-test.true) ∙ l.invariant.rest) }

pub returns : goal.returns
unfolding bucket_of
returns c =
    record { is = ap (λ (h : ℕ). h / 524288) (sym (hash_ended _ _ _ c.loop-byte-test.false) ∙ c.loop-byte.invariant.rest); small = omega (arith, c.loop-byte.invariant.small) }
