-- `load::keep_kind` meets its contract: a name, a relocation, or a place alone.
-- Assumes nothing.
use mathlib.Core.Path.{◌≡◌, refl, ap, ◌∙◌}
use native.Mathlib.Omega.{arith}
use Rattle.load.specs.Columns.{tables_in}
use Rattle.load.specs.Kinds.{code_of}
use Rattle.load.proofs.Numbers.{reloc_of}
use Rattle.load.proofs.Deciding.{kind_name}
use Rattle.load.proofs.Keeping.{counted, slot_low, reloc_fits, kept_reloc, kept-place}
use Rattle.load.proofs.Codes.{name_code, reloc_code}
use Rattle.load.proofs.keep_kind.Goals as goal

pub keep_name-requires : goal.keep_name-requires
keep_name-requires c =
    let a = c.args in
    (c.requires.0, c.requires.1, kind_name a.columns.now.most a.columns.now.file.now a.at a.len (tables_in a.columns.now.counts a.columns.now.places.now a.columns.now.lengths.now) (code_of a.kind) (ap code_of c.in-Name.is) ∙ c.requires.2)

pub keep_reloc-columns-requires : goal.keep_reloc-columns-requires
keep_reloc-columns-requires c =
    let a = c.args in
    (counted c.requires.1.tabled.allowed c.requires.1.tabled.few, omega (arith, c.requires.0, c.requires.1.tabled.small), reloc_fits a.columns.now.most a.columns.now.file.now a.at a.len a.columns.now.counts a.columns.now.places.now a.columns.now.lengths.now a.columns.now.heads.now a.columns.now.chain.now c.requires.1 c.requires.0 (reloc_of a.columns.now.most a.columns.now.file.now a.at a.len (tables_in a.columns.now.counts a.columns.now.places.now a.columns.now.lengths.now) (code_of a.kind) (ap code_of c.in-Relocation.is) c.requires.2))

pub returns-in-Relocation : goal.returns-in-Relocation
returns-in-Relocation c =
    let a = c.args in (
      record { file = refl; most = refl; places = refl; lengths = refl; heads = refl; chain = refl },
      kept_reloc a.columns.now.most a.columns.now.file.now a.at a.len a.columns.now.counts a.columns.now.places.now a.columns.now.lengths.now a.columns.now.heads.now a.columns.now.chain.now c.requires.1 c.requires.0 (reloc_of a.columns.now.most a.columns.now.file.now a.at a.len (tables_in a.columns.now.counts a.columns.now.places.now a.columns.now.lengths.now) (code_of a.kind) (ap code_of c.in-Relocation.is) c.requires.2) (ap code_of c.in-Relocation.is) c.keep_reloc-columns.ensures.0
          c.keep_reloc-columns.ensures.1,
    )

pub keep_place-columns-requires : goal.keep_place-columns-requires
keep_place-columns-requires c =
    let a = c.args in
    let few = counted c.requires.1.tabled.allowed c.requires.1.tabled.few in
    (few, omega (arith, c.requires.0, c.requires.1.tabled.small), omega (arith, slot_low (code_of a.kind) a.columns.now.counts few, c.requires.1.tabled.long_places))

pub returns-in_default : goal.returns-in_default
returns-in_default c =
    let a = c.args in
    let not1 : code_of a.kind ≡ 1 → ⊥ = λ e. c.in_default.not-Name (name_code a.kind e) in
    let not4 : code_of a.kind ≡ 4 → ⊥ = λ e. c.in_default.not-Relocation (reloc_code a.kind e) in (
      record { file = refl; most = refl; places = refl; lengths = refl; heads = refl; chain = refl },
      kept-place a.columns.now.most a.columns.now.file.now a.at a.len a.columns.now.counts a.columns.now.places.now a.columns.now.lengths.now a.columns.now.heads.now a.columns.now.chain.now c.requires.1 c.requires.0 (code_of a.kind) c.requires.2 not1 not4 c.keep_place-columns.ensures.0
          c.keep_place-columns.ensures.1,
    )
