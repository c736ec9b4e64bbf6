-- Each field is stored where the one before it ends, so the stores are one run; its fields have their widths.
use Rattle.std.proofs.Common.{rules, refl, ◌++◌, ◌+◌}
use Rattle.lists.proofs.Stores.{sets_then}
use Rattle.fields.specs.Fields.{enc16, enc32}
use Rattle.pieces.specs.Pieces.{symbol_bytes}
use Rattle.pieces.proofs.Laws.{symbol_back}
use Rattle.pieces.proofs.PieceSymbolWritten.write.Goals as goal

pub returns-clause-written : goal.returns-clause-written
unfolding symbol_bytes
returns-clause-written c =
    let a = c.args in
    let r = a.self in
    let s-unit = enc16 r.unit in
    let s-piece = s-unit ++ (enc16 r.piece) in
    let s-symbol = s-piece ++ (enc16 r.symbol) in
    let s-flags = s-symbol ++ (enc16 r.flags) in
    sets_then a.out.now a.at s-flags (a.at + 8) (enc32 r.address) c.put-5.ensures
    (sets_then a.out.now a.at s-symbol (a.at + 6) (enc16 r.flags) c.put-4.ensures
    (sets_then a.out.now a.at s-piece (a.at + 4) (enc16 r.symbol) c.put-3.ensures
    (sets_then a.out.now a.at s-unit (a.at + 2) (enc16 r.piece) c.put-2.ensures c.put.ensures refl) refl) refl) refl

pub returns-clause-back : goal.returns-clause-back
returns-clause-back c = symbol_back c.args.self (search rules)
