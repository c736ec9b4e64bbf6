-- `sections::section_bytes` meets its contract: the part from the section's place on, so long as its size says.
use native.Mathlib.Omega.{arith}
use mathlib.Core.Path.{◌≡◌, sym, ap, ◌∙◌}
use Prim.Native.Nat.{ℕ, ◌+◌, ◌-◌}
use lib.ListN.{take, drop, get_or}
use Rattle.sections.specs.Bytes.{bytes_of}
use Rattle.sections.proofs.section_bytes.Goals as goal

pub returns-then-is_bss : goal.returns-then-is_bss
unfolding bytes_of
returns-then-is_bss c = rw (sym c.is_bss.ensures ∙ c.if-is_bss.true)

pub returns : goal.returns
unfolding bytes_of
returns c =
    let a = c.args in
    rw (sym c.is_bss.ensures ∙ c.if-is_bss.false)
    (let e : get_or a.image.now.places.now a.n 0 + a.head.size - get_or a.image.now.places.now a.n 0 ≡ a.head.size = omega arith in
    ap (λ (m : ℕ). take m (drop (get_or a.image.now.places.now a.n 0) a.image.now.bytes.now)) e)
