-- A split may stand after itself, and after whatever one may stand after that it may stand after. Assumes nothing.
use mathlib.Core.Path.{◌≡◌}
use native.Mathlib.Omega.{arith}
use Rattle.obj.specs.declared.Split.{Split}
use Rattle.obj.specs.Order.{NotBelow}

pub not_below_itself : (s : Split) → NotBelow s s
not_below_itself s = record { sections = omega arith; starts = λ e. omega arith }

pub not_below_further : (a s t : Split) → NotBelow a s → NotBelow s t → NotBelow a t
not_below_further a s t p q =
    record {
      sections = omega (arith, p.sections, q.sections);
      starts = λ e.
          let first : a.section ≡ s.section = omega (arith, p.sections, q.sections) in
          let second : s.section ≡ t.section = omega (arith, p.sections, q.sections) in
          omega (arith, p.starts first, q.starts second);
    }
