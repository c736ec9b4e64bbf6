-- `elf_file::symbol_table` meets its contract: the place that is found is the first, and the header there is its own. Assumes nothing.
use Rattle.std.proofs.Common.{rules, tests, arith, ◌≡◌, ◌≢◌}
use Rattle.std.proofs.lemmas.Iterator.{first_from_Range}
use Rattle.elf_file.specs.File.{header_of}
use Rattle.elf_file.proofs.Laws.{symbols_found}
use Rattle.elf_file.proofs.symbol_table.Goals as goal

pub returns-clause-header : goal.returns-clause-header
returns-clause-header c =
    let headers = c.args.headers.now in
    let found = first_from_Range _ _ _ c.find.result (λ k. (header_of headers k).kind ≡ 2) (λ k. (header_of headers k).kind ≢ 2) c.find.ensures.ran (λ x q k. grind (arith, tests)) (λ x q k. (search rules, grind (arith, tests))) in
    (symbols_found headers c.find.result c.map.result found c.map.ensures.cases (λ k h q. search rules)).0

pub returns-clause-there : goal.returns-clause-there
returns-clause-there c =
    let headers = c.args.headers.now in
    let found = first_from_Range _ _ _ c.find.result (λ k. (header_of headers k).kind ≡ 2) (λ k. (header_of headers k).kind ≢ 2) c.find.ensures.ran (λ x q k. grind (arith, tests)) (λ x q k. (search rules, grind (arith, tests))) in
    (symbols_found headers c.find.result c.map.result found c.map.ensures.cases (λ k h q. search rules)).1
