use Rattle.std.proofs.Common.{rules}
use Rattle.std.proofs.lemmas.Iterator.{YieldsList-from_range}
use Rattle.std.proofs.lemmas.Iterator.Search.{any_from_yields_List}
use mathlib.Core.Path.{◌≡◌, refl, ◌∙◌}
use mathlib.Core.Bool.{Bool, not}
use Prim.Native.Nat.{ℕ, ◌*◌, ◌-◌, ◌/◌}
use lib.Dec.{leb}
use lib.ListN.{length}
use Rattle.elf.specs.declared.SymbolEntry.{SymbolEntry}
use Rattle.elf.specs.Elf.{symbol_entry_at}
use Rattle.elf.specs.Strings.{ended_at}
use Rattle.elf_file.specs.File.{entries_of, names_cut}
use Rattle.elf_file.proofs.Laws.{not_ended, some_asked}
use Rattle.elf_file.proofs.names_cut.Goals as goal

pub returns : goal.returns
unfolding names_cut entries_of
returns c =
    let a = c.args in
    let n = length a.table.now / 16 in
    let cut : SymbolEntry → Bool = λ s. not (ended_at a.strings.now s.name) in
    let at : ℕ → SymbolEntry = λ k. symbol_entry_at a.table.now (16 * k) in
    let ended : (k : ℕ) → leb c.ended_below-limit.result k ≡ not (ended_at a.strings.now k) = λ k. not_ended a.strings.now c.ended_below-limit.result k c.ended_below-limit.ensures in
    any_from_yields_List (λ (k : ℕ). cut (at k)) _ _ _ c.any.ensures.ran (YieldsList-from_range 1 n (n - 1) refl refl) (λ x b q k. search (rules, ended)) ∙ some_asked cut at 1 (n - 1)
