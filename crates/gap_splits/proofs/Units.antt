-- The unit's name of a gap, as the code reads the section's name and writes the gap's. Assumes nothing.
use mathlib.Core.Path.{◌≡◌, sym, ap, ◌∙◌}
use mathlib.Core.List.{List}
use Prim.Native.Nat.{ℕ, ◌+◌, ◌≤◌, ◌<◌}
use native.Mathlib.Omega.{arith}
use lib.ListN.{length, get_or, take}
use Rattle.obj.specs.declared.Section.{Section}
use Rattle.obj.specs.Records.{section_at, Held}
use Rattle.names.specs.Names.{name_at}
use Rattle.names.specs.GapName.{gap_name, Written}
use Rattle.sections.specs.Sections.{head_of}
use Rattle.gap_splits.specs.Entering.{Ceilings}
use Rattle.gap_splits.specs.Answers.{section_names, Tables, Numbered}
use Rattle.std.specs.Prelude.{Option}

module _ (heads head_places name_bytes name_places name_lengths buckets chain : List ℕ) (t : Tables heads head_places name_bytes name_places name_lengths buckets chain) (n : ℕ) (here : n < length head_places) where
  pub head_held : {k : ℕ} → k ≡ n → Held 15 heads head_places k
  head_held e = rw e (t.sections.held n here)

  -- the number of the section's name
  pub name_number : {k j : ℕ} {h : Section} → k ≡ n → h ≡ section_at heads (get_or head_places k 0) → j ≡ h.name → j ≡ (head_of heads head_places n).name
  name_number e f g = g ∙ ap (λ (s : Section). s.name) f ∙ ap (λ (i : ℕ). (head_of heads head_places i).name) e

  pub name_held : {j : ℕ} → j ≡ (head_of heads head_places n).name → (j < length name_places) × (j < length name_lengths) × (get_or name_places j 0 + get_or name_lengths j 0 ≤ length name_bytes)
  name_held {j} e =
      let h : j < length name_places = omega (arith, e, t.sections.named n here) in
      (h, omega (arith, t.named.measured), t.named.inside j h)

  pub name_is : {j : ℕ} {x : List ℕ} → j ≡ (head_of heads head_places n).name → x ≡ name_at name_bytes name_places name_lengths j → x ≡ section_names heads head_places name_bytes name_places name_lengths n
  name_is e f = f ∙ ap (name_at name_bytes name_places name_lengths) e

  pub name_short : {x : List ℕ} → x ≡ section_names heads head_places name_bytes name_places name_lengths n → length x ≤ 64
  name_short e = rw e (t.short n here)

-- the name that was written
pub text_is : (section start : ℕ) {x name before out : List ℕ} {r : ℕ} → Written section start x before out r → x ≡ name → take r out ≡ gap_name section start name
text_is section start w e = w.text ∙ ap (gap_name section start) e

pub text_long : {section start : ℕ} {x before out : List ℕ} {r : ℕ} → Written section start x before out r → r ≡ length (take r out)
text_long w = w.long ∙ sym (ap length w.text)

pub numbered_as : {base before after : List (List ℕ)} {x y : List ℕ} {room : Ceilings} {r : Option ℕ} → x ≡ y → Numbered base before x room after r → Numbered base before y room after r
numbered_as e n = rw (sym e) n
