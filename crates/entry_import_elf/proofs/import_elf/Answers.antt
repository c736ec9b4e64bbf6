-- The tables and their counts, or a refusal's word and zeros; the outputs are still those that were lent.
use Rattle.std.proofs.Common.{◌∙◌, sym, rules}
use Rattle.entry_import_elf.proofs.Laws.{leaves}
use Rattle.entry_import_elf.proofs.import_elf.Goals as goal

pub returns : goal.returns
returns c =
    let t = c.import_counted-a in
    let k = t.ensures.lent in
    let f = c.finish.ensures.lent in
    let e = c.finish.ensures.finishes in
    leaves t.result _ _ _ t.ensures.given k t.auto.name_ends t.auto.name_bytes e.0 e.1 e.2
    (search (rules, sym (f.sections ∙ k.sections)) ∙ e.3)
    (search (rules, sym (f.places ∙ k.places)) ∙ e.4)
    (search (rules, sym (f.symbols ∙ k.symbols)) ∙ e.5)
    e.6
