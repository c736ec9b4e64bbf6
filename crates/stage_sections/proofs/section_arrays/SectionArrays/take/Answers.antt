-- `SectionArrays::take` meets its contract: of a table that passed the fronts of the arrays are the places. Assumes nothing.
use mathlib.Core.Path.{◌≡◌, refl, ap, ◌∙◌}
use Prim.Native.Nat.{ℕ}
use native.Mathlib.Omega.{arith}
use lib.ListN.{length, take}
use Rattle.obj.proofs.Errors.{is_err}
use Rattle.tables.specs.Records.{image_places_of}
use Rattle.stage_sections.proofs.section_arrays.SectionArrays.take.Goals as goal

pub returns-in_err-heads : goal.returns-in_err-heads
returns-in_err-heads c = rw (is_err _ c.from_residual.ensures.1) (record { said = c.in_err-heads.ensures.said; tables = tt })

pub returns : goal.returns
returns c =
    let k = c.in_ok-heads.ensures in
    let p = c.take_image_places-n in
    let long : length p.new.column ≡ 64 = omega arith in
    record {
      said = k.said;
      tables = record {
        heads = k.table;
        image_bytes = refl;
        image_places = p.ensures.is ∙ ap (λ (n : ℕ). take n (image_places_of c.args.section_places.now)) long;
      };
    }
