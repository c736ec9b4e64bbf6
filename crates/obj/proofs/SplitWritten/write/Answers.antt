-- Each field is stored where the one before it ends, so the stores are one run; its fields have their widths.
use Rattle.std.proofs.Common.{rules, refl, [], ◌∷◌, ◌++◌, ◌+◌}
use Rattle.lists.proofs.Stores.{sets_then}
use Rattle.fields.specs.Fields.{enc16, enc32}
use Rattle.obj.specs.Bytes.{split_bytes, partial_bytes}
use Rattle.obj.proofs.Bytes.{split_back}
use Rattle.obj.proofs.SplitWritten.write.Goals as goal

pub returns-clause-written : goal.returns-clause-written
unfolding split_bytes partial_bytes
returns-clause-written c =
    let a = c.args in
    let r = a.self in
    let s-section = enc16 r.section in
    let s-start = s-section ++ (enc32 r.start) in
    let s-end = s-start ++ (enc32 r.end) in
    let s-unit = s-end ++ (enc16 r.unit) in
    let s-alignment = s-unit ++ (enc32 r.alignment) in
    let s-flags = s-alignment ++ (r.flags ∷ []) in
    let s-rename = s-flags ++ (enc16 r.rename) in
    sets_then a.out.now a.at s-rename (a.at + 19) (enc16 r.origin) c.put-8.ensures
    (sets_then a.out.now a.at s-flags (a.at + 17) (enc16 r.rename) c.put-7.ensures
    (sets_then a.out.now a.at s-alignment (a.at + 16) (r.flags ∷ []) c.put-6.ensures
    (sets_then a.out.now a.at s-unit (a.at + 12) (enc32 r.alignment) c.put-5.ensures
    (sets_then a.out.now a.at s-end (a.at + 10) (enc16 r.unit) c.put-4.ensures
    (sets_then a.out.now a.at s-start (a.at + 6) (enc32 r.end) c.put-3.ensures
    (sets_then a.out.now a.at s-section (a.at + 2) (enc32 r.start) c.put-2.ensures c.put.ensures refl) refl) refl) refl) refl) refl) refl

pub returns-clause-back : goal.returns-clause-back
returns-clause-back c =
    split_back c.args.self (search rules) (search rules) (search rules) (search rules) (search rules) (search rules) (search rules)
