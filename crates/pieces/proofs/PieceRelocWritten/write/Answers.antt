-- Each field is stored where the one before it ends, so the stores are one run; its fields have their widths.
use Rattle.std.proofs.Common.{rules, refl, ◌++◌, ◌+◌}
use Rattle.lists.proofs.Stores.{sets_then}
use Rattle.fields.specs.Fields.{enc16, enc32}
use Rattle.pieces.specs.Pieces.{reloc_bytes}
use Rattle.pieces.proofs.Laws.{reloc_back}
use Rattle.pieces.proofs.PieceRelocWritten.write.Goals as goal

pub returns-clause-written : goal.returns-clause-written
unfolding reloc_bytes
returns-clause-written c =
    let a = c.args in
    let r = a.self in
    let s-piece = enc16 r.piece in
    let s-relocation = s-piece ++ (enc16 r.relocation) in
    sets_then a.out.now a.at s-relocation (a.at + 4) (enc32 r.offset) c.put-3.ensures
    (sets_then a.out.now a.at s-piece (a.at + 2) (enc16 r.relocation) c.put-2.ensures c.put.ensures refl) refl

pub returns-clause-back : goal.returns-clause-back
returns-clause-back c = reloc_back c.args.self (search rules)
