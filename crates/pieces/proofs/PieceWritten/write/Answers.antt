-- Each field is stored where the one before it ends, so the stores are one run; its fields have their widths.
use Rattle.std.proofs.Common.{rules, refl, ◌++◌, ◌+◌}
use Rattle.lists.proofs.Stores.{sets_then}
use Rattle.fields.specs.Fields.{enc16, enc32, enc64}
use Rattle.pieces.specs.Pieces.{piece_bytes, piece_head}
use Rattle.pieces.proofs.Laws.{piece_back}
use Rattle.pieces.proofs.PieceWritten.write.Goals as goal

pub returns-clause-written : goal.returns-clause-written
unfolding piece_bytes piece_head
returns-clause-written c =
    let a = c.args in
    let r = a.self in
    let s-unit = enc16 r.unit in
    let s-number = s-unit ++ (enc16 r.number) in
    let s-section = s-number ++ (enc16 r.section) in
    let s-name = s-section ++ (enc16 r.name) in
    let s-address = s-name ++ (enc32 r.address) in
    let s-size = s-address ++ (enc32 r.size) in
    let s-alignment = s-size ++ (enc32 r.alignment) in
    let s-offset = s-alignment ++ (enc64 r.offset) in
    sets_then a.out.now a.at s-offset (a.at + 28) (enc16 r.origin) c.put-9.ensures
    (sets_then a.out.now a.at s-alignment (a.at + 20) (enc64 r.offset) c.put-8.ensures
    (sets_then a.out.now a.at s-size (a.at + 16) (enc32 r.alignment) c.put-7.ensures
    (sets_then a.out.now a.at s-address (a.at + 12) (enc32 r.size) c.put-6.ensures
    (sets_then a.out.now a.at s-name (a.at + 8) (enc32 r.address) c.put-5.ensures
    (sets_then a.out.now a.at s-section (a.at + 6) (enc16 r.name) c.put-4.ensures
    (sets_then a.out.now a.at s-number (a.at + 4) (enc16 r.section) c.put-3.ensures
    (sets_then a.out.now a.at s-unit (a.at + 2) (enc16 r.number) c.put-2.ensures c.put.ensures refl) refl) refl) refl) refl) refl) refl) refl

pub returns-clause-back : goal.returns-clause-back
returns-clause-back c = piece_back c.args.self (search rules)
