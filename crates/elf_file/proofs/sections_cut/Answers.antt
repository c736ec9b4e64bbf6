use Rattle.std.proofs.Common.{rules}
use Rattle.std.proofs.lemmas.Iterator.{YieldsList-from_range}
use Rattle.std.proofs.lemmas.Iterator.Search.{any_from_yields_List}
use native.Mathlib.Omega.{arith}
use mathlib.Core.Path.{refl, ◌∙◌}
use Prim.Native.Nat.{ℕ, ◌/◌}
use lib.ListN.{length}
use Rattle.elf_file.specs.File.{header_of, section_cut, sections_cut}
use Rattle.elf_file.proofs.Laws.{some_asked}
use Rattle.elf_file.proofs.sections_cut.Goals as goal

pub returns : goal.returns
unfolding sections_cut
returns c =
    let a = c.args in
    let n = length a.headers.now / 40 in
    let cut = section_cut a.file a.strings.now in
    let at = header_of a.headers.now in
    any_from_yields_List (λ (k : ℕ). cut (at k)) _ _ _ c.any.ensures.ran (YieldsList-from_range 0 n n refl (omega arith)) (λ x b q k. search rules) ∙ some_asked cut at 0 n
