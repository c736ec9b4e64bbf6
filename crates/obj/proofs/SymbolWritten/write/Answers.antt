-- Each field is stored where the one before it ends, so the stores are one run; its fields have their widths.
use Rattle.std.proofs.Common.{rules, refl, [], ◌∷◌, ◌++◌, ◌+◌}
use Rattle.lists.proofs.Stores.{sets_then}
use Rattle.fields.specs.Fields.{enc16, enc32}
use Rattle.obj.specs.Bytes.{symbol_record}
use Rattle.obj.proofs.Bytes.{symbol_back}
use Rattle.obj.proofs.SymbolWritten.write.Goals as goal

pub returns-clause-written : goal.returns-clause-written
unfolding symbol_record
returns-clause-written c =
    let a = c.args in
    let r = a.self in
    let s-name = enc16 r.name in
    let s-section = s-name ++ (enc16 r.section) in
    let s-address = s-section ++ (enc32 r.address) in
    let s-size = s-address ++ (enc32 r.size) in
    let s-size_known = s-size ++ (r.size_known ∷ []) in
    let s-kind = s-size_known ++ (r.kind ∷ []) in
    let s-flags = s-kind ++ (enc16 r.flags) in
    sets_then a.out.now a.at s-flags (a.at + 16) (enc32 r.alignment) c.put-8.ensures
    (sets_then a.out.now a.at s-kind (a.at + 14) (enc16 r.flags) c.put-7.ensures
    (sets_then a.out.now a.at s-size_known (a.at + 13) (r.kind ∷ []) c.put-6.ensures
    (sets_then a.out.now a.at s-size (a.at + 12) (r.size_known ∷ []) c.put-5.ensures
    (sets_then a.out.now a.at s-address (a.at + 8) (enc32 r.size) c.put-4.ensures
    (sets_then a.out.now a.at s-section (a.at + 4) (enc32 r.address) c.put-3.ensures
    (sets_then a.out.now a.at s-name (a.at + 2) (enc16 r.section) c.put-2.ensures c.put.ensures refl) refl) refl) refl) refl) refl) refl

pub returns-clause-back : goal.returns-clause-back
returns-clause-back c =
    symbol_back c.args.self (search rules) (search rules) (search rules) (search rules) (search rules) (search rules)
