-- The entry's fields, one by one.
use Rattle.std.proofs.Common.{ℕ, ◌≡◌, ◌∙◌, Bool, true, false, cond, refl}
use mir.Val.{bool_byte}
use Rattle.import_rows.specs.Rows.{symbol_of}
use Rattle.import_rows.proofs.symbol_of.Goals as goal

as_one : (b : Bool) → ◌≡◌ {A = ℕ} (bool_byte b) (cond b 1 0)
as_one true = refl
as_one false = refl

pub returns : goal.returns
unfolding symbol_of
returns c =
    let s = c.args.s in
    λ z. record {
      name = c.name_number.ensures z;
      section = c.home_of.ensures z;
      address = s.value;
      size = s.size;
      size_known = (c.from.ensures ∙ as_one _) z;
      kind = c.symbol_kind.ensures z;
      flags = (c.from-2.ensures ∙ as_one _) z;
      alignment = 0;
    }
