-- `sections::end_for_section` meets its contract: the tests are the definition's, in its order, and what is left is the pass over the
-- section's symbols.
use mathlib.Core.Path.{◌≡◌, sym, ap, ◌∙◌}
use mathlib.Core.List.{List, reverse}
use mathlib.Core.Bool.{Bool, ◌&&◌, ◌||◌}
use Prim.Native.Nat.{ℕ, ◌+◌}
use lib.Dec.{eqb, ltb}
use Rattle.names.specs.Fixed.{is_pointer_list}
use Rattle.symbols.proofs.Parts.{section_readable}
use Rattle.sections.specs.Image.{Image, image_in}
use Rattle.sections.specs.Ends.{lowered, less_four}
use Rattle.sections.proofs.Laws.{end_whole, end_short, end_lowered}
use Rattle.sections.proofs.end_for_section.Goals as goal
use Rattle.sections.proofs.end_for_section.Goals.{After-is_pointer_list-list}

abbrev image : After-is_pointer_list-list → Image
image c = image_in c.args.obj.now

-- whether it is a list of pointers
listed : (c : After-is_pointer_list-list) → c.is_pointer_list-list.result ≡ is_pointer_list ((image c).name c.args.head.name)
listed c = c.is_pointer_list-list.ensures ∙ ap is_pointer_list (c.name_at.ensures ∙ ap (image c).name c.from-k.ensures)

pub returns-then-is_bss-head : goal.returns-then-is_bss-head
returns-then-is_bss-head c = end_whole _ _ _ _ (ap (λ (t : Bool). t || eqb c.args.head.size 0) (sym c.is_bss.ensures) ∙ c.if-is_bss-head.true)

pub returns-then-list-head : goal.returns-then-list-head
returns-then-list-head c =
    let a = (goal.at.returns-then-list-head c).After-is_pointer_list-list in
    end_short (image a) _ _ _ (ap (λ (t : Bool). t || eqb c.args.head.size 0) (sym c.is_bss.ensures) ∙ c.if-is_bss-head.false) (ap (λ (t : Bool). t && ltb c.args.head.size 4) (sym (listed a)) ∙ c.if-list-head.true)

pub lower-requires : goal.lower-requires
lower-requires c =
    let p = c.requires.0 in
    record { readable = section_readable _ _ _ p.symbols _ c.for_section-part.ensures; names = p.names }

pub returns : goal.returns
returns c =
    let s = c in
    let a = (goal.at.returns c).After-is_pointer_list-list in
    let g = image a in
    let h = s.args.head in
    end_lowered g s.args.section h s.args.bytes.now (ap (λ (t : Bool). t || eqb c.args.head.size 0) (sym c.is_bss.ensures) ∙ c.if-is_bss-head.false)
    (ap (λ (t : Bool). t && ltb h.size 4) (sym (listed a)) ∙ c.if-list-head.false)
    _
    (c.lower.ensures.is
    ∙ ap (λ (m : ℕ). lowered g m (reverse c.for_section-part.result.now)) (c.less_four-last.ensures ∙ ap (λ (t : Bool). less_four t s.args.bytes.now (h.address + h.size)) (listed a))
    ∙ ap (λ (l : List ℕ). lowered g (less_four (is_pointer_list (g.name h.name)) s.args.bytes.now (h.address + h.size)) (reverse l)) c.for_section-part.ensures)
