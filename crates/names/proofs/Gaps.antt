-- The name of a gap's unit: the dots at the front of a section's name, and the stores that write the name. Assumes nothing.
use mathlib.Core.Path.{◌≡◌, refl, sym, ap, ap₂, ◌∙◌}
use mathlib.Core.List.{List, [], ◌∷◌, ◌++◌}
use mathlib.Core.Bool.{Bool, true, false, cond}
use Prim.Native.Nat.{ℕ, zero, suc, ◌+◌, ◌-◌, ◌/◌, ◌%◌, ◌≤◌, ◌<◌, suc-le-suc}
use native.Mathlib.Nat.{le_of_suc-le-suc, not-suc-le-zero, zero-lt-suc}
use native.Mathlib.Omega.{arith}
use borrow.Author.Tests.{ne_eqb, eqb-false, ltb-false}
use lib.Dec.{eqb, ltb}
use Rattle.std.specs.Fmt.{decimal}
use Rattle.std.proofs.lemmas.Bool.{ltb-true, lt-ltb}
use Rattle.std.proofs.lemmas.Fmt.{decimal_digit}
use Rattle.std.proofs.lemmas.List.{take-append-drop}
use Rattle.std.proofs.lemmas.List.Edits.{sets-eq}
use Rattle.itoa.proofs.Decimal.{length_one, length_two, decimal_two}
use lib.ListN.{length, get_or, take, drop, length-drop}
use lib.Seq.{take_all, sets, length-sets}
use Rattle.lists.proofs.Stores.{sets_then, take-sets}
use Rattle.names.specs.Fixed.{codes}
use Rattle.names.specs.GapName.{without_dots, decimal2, hex8, gap_name, Written}

-- ---- the dots at the front of a name

-- a byte that is not another than a dot is one
is_dot : (b : ℕ) → ((b ≡ 46 → ⊥) → ⊥) → eqb b 46 ≡ true
is_dot b h = go (eqb b 46) refl
  where
    go : (t : Bool) → eqb b 46 ≡ t → t ≡ true
    go true e = refl
    go false e = absurd (h (eqb-false b 46 e))

-- a name without them, and a gap's name, are not longer
dots_short : (name : List ℕ) → length (without_dots name) ≤ length name
unfolding without_dots
dots_short [] = omega arith
dots_short (b ∷ name) = go (eqb b 46) (dots_short name)
  where
    go : (t : Bool) → length (without_dots name) ≤ length name → length (cond t (without_dots name) (b ∷ name)) ≤ length (b ∷ name)
    go true h = omega arith
    go false h = omega arith

pub gap_short : (section address : ℕ) (name : List ℕ) → length (gap_name section address name) ≤ 17 + length name
unfolding gap_name codes decimal2 hex8
gap_short section address name = omega (arith, dots_short name)

-- the first byte that is no dot stands at k
pub dots_found : (name : List ℕ) (k : ℕ) → k < length name → (get_or name k 0 ≡ 46 → ⊥) → ((j : ℕ) → j < k → (get_or name j 0 ≡ 46 → ⊥) → ⊥)
    → drop k name ≡ without_dots name
unfolding without_dots
dots_found [] k h e dots = absurd (not-suc-le-zero h)
dots_found (b ∷ name) zero h e dots = rw (ne_eqb b 46 e)
dots_found (b ∷ name) (suc k) h e dots =
    rw (is_dot b (dots 0 (zero-lt-suc _))) (dots_found name k (le_of_suc-le-suc h) e (λ j l. dots (suc j) (suc-le-suc l)))

-- .. or each byte is one
pub dots_all : (name : List ℕ) → ((j : ℕ) → j < length name → (get_or name j 0 ≡ 46 → ⊥) → ⊥) → drop (length name) name ≡ without_dots name
unfolding without_dots
dots_all [] dots = refl
dots_all (b ∷ name) dots = rw (is_dot b (dots 0 (zero-lt-suc _))) (dots_all name (λ j l. dots (suc j) (suc-le-suc l)))

-- a number below 100 has at most two digits
pub short-decimal : (section : ℕ) → section < 100 → length (decimal section) ≤ 7
short-decimal section h = go (ltb section 10) refl
  where
    go : (t : Bool) → ltb section 10 ≡ t → length (decimal section) ≤ 7
    go true e = omega (arith, length_one section (ltb-true section 10 e))
    go false e = omega (arith, length_two section (ltb-false section 10 e) h)

-- a number below 100, written so that it ends where two zeros do, is its two digits
pub two-digits : (section : ℕ) (out zeros new : List ℕ) (r : ℕ)
    → section < 100
    → 8 ≤ length out
    → zeros ≡ sets out 0 (codes "auto_00_")
    → r + length (decimal section) ≡ 7
    → drop r new ≡ decimal section ++ drop 7 zeros
    → take r new ≡ take r zeros
    → new ≡ sets out 0 (codes "auto_" ++ decimal2 section ++ codes "_")
unfolding codes decimal2
two-digits section out zeros new r h room ez el ed et = go (ltb section 10) refl
  where
    start : zeros ≡ codes "auto_00_" ++ drop 8 out
    start = ez ∙ sets-eq (codes "auto_00_") out 0 room

    whole : new ≡ take r zeros ++ (decimal section ++ drop 7 zeros)
    whole = sym (take-append-drop r new) ∙ ap₂ (λ (a b : List ℕ). a ++ b) et ed

    go : (t : Bool) → ltb section 10 ≡ t → new ≡ sets out 0 (codes "auto_" ++ decimal2 section ++ codes "_")
    go true e =
        let small = ltb-true section 10 e in
        let six : r ≡ 6 = omega (arith, length_one section small, el) in
        let tens : section / 10 % 10 ≡ 0 = omega (arith, small) in
        let ones : section % 10 ≡ section = omega (arith, small) in
        whole ∙ rw (six, start, decimal_digit section small) (rw (sets-eq (codes "auto_" ++ decimal2 section ++ codes "_") out 0 room, tens, ones, lt-ltb section 10 small) refl)
    go false e =
        let wide : 10 ≤ section = ltb-false section 10 e in
        let five : r ≡ 5 = omega (arith, length_two section wide h, el) in
        let tens : section / 10 % 10 ≡ section / 10 = omega (arith, h) in
        whole ∙ rw (five, start, decimal_two section wide h) (rw (sets-eq (codes "auto_" ++ decimal2 section ++ codes "_") out 0 room, tens, lt-ltb (section / 10) 10 (omega (arith, h)), lt-ltb (section % 10) 10 (omega arith)) refl)

-- three runs of stores, each behind the one before, are the name of a gap's unit
pub gap-written : (section address : ℕ) (name : List ℕ) {out first second third rest : List ℕ}
    → first ≡ sets out 0 (codes "auto_" ++ decimal2 section ++ codes "_")
    → second ≡ sets first 8 (hex8 address ++ codes "_")
    → rest ≡ without_dots name
    → third ≡ sets second 17 rest
    → length rest ≤ 64
    → 81 ≤ length out
    → Written section address name out third (17 + length rest)
unfolding gap_name codes decimal2 hex8
gap-written section address name {out} {first} {second} {third} {rest} e₁ e₂ q e₃ few room =
    record { long = long; few = omega arith; text = ap₂ take long all ∙ take-sets out (gap_name section address name) (omega (arith, long)); kept = ap length all ∙ simp length-sets }
  where
    start : List ℕ
    start = codes "auto_" ++ decimal2 section ++ codes "_"

    two : second ≡ sets out 0 (start ++ hex8 address ++ codes "_")
    two = sets_then out 0 start 8 (hex8 address ++ codes "_") e₂ e₁ refl

    all : third ≡ sets out 0 (gap_name section address name)
    all = sets_then out 0 (start ++ hex8 address ++ codes "_") 17 rest e₃ two refl ∙ ap (λ (l : List ℕ). sets out 0 (start ++ hex8 address ++ codes "_" ++ l)) q

    long : 17 + length rest ≡ length (gap_name section address name)
    long = let e = ap length q in omega arith

-- all that follows a place
pub part_to_end : (l : List ℕ) (i : ℕ) → take (length l - i) (drop i l) ≡ drop i l
part_to_end l i = take_all (length l - i) (drop i l) (simp length-drop (omega arith))
