-- Each field is stored where the one before it ends, so the stores are one run; its fields have their widths.
use Rattle.std.proofs.Common.{rules, refl, [], ◌∷◌, ◌++◌, ◌+◌}
use Rattle.lists.proofs.Stores.{sets_then}
use Rattle.fields.specs.Fields.{enc16, enc32}
use Rattle.obj.specs.Bytes.{section_record}
use Rattle.obj.proofs.Bytes.{section_back}
use Rattle.obj.proofs.SectionWritten.write.Goals as goal

pub returns-clause-written : goal.returns-clause-written
unfolding section_record
returns-clause-written c =
    let a = c.args in
    let r = a.self in
    let s-name = enc16 r.name in
    let s-kind = s-name ++ (r.kind ∷ []) in
    let s-address = s-kind ++ (enc32 r.address) in
    let s-size = s-address ++ (enc32 r.size) in
    sets_then a.out.now a.at s-size (a.at + 11) (enc32 r.offset) c.put-5.ensures
    (sets_then a.out.now a.at s-address (a.at + 7) (enc32 r.size) c.put-4.ensures
    (sets_then a.out.now a.at s-kind (a.at + 3) (enc32 r.address) c.put-3.ensures
    (sets_then a.out.now a.at s-name (a.at + 2) (r.kind ∷ []) c.put-2.ensures c.put.ensures refl) refl) refl) refl

pub returns-clause-back : goal.returns-clause-back
returns-clause-back c =
    section_back c.args.self (search rules) (search rules) (search rules) (search rules)
