-- The record is written behind the k that are there, and by the laws of its type it is read, and they are read as before.
use Rattle.std.proofs.Common.{ap, ◌∙◌, ◌+◌, ◌*◌, List, ℕ}
use lib.Seq.{sets}
use Rattle.obj.specs.Records.{records_in}
use Rattle.obj.proofs.Packed.{record_more}
use Rattle.obj.proofs.put_record.Goals as goal

pub returns : goal.returns
returns g c =
    let a = c.args in
    let bytes = g.R.Written.bytes a.r in
    let w = g.R.Record.WIDTH in
    let read = g.R.Record.stored in
    ap (λ (b : List ℕ). records_in w read b (a.k + 1)) (c.write.ensures.written ∙ ap (λ (n : ℕ). sets a.out.now (n * a.k) bytes) c.WIDTH.ensures)
    ∙ record_more w read g.met.R.Written.same a.out.now bytes a.k a.r (g.met.R.Written.long a.r) c.requires c.write.ensures.back
