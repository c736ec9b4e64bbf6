-- A text spelled is a text compared, code that asks `same` of several texts asks whether one of them is spelled, and only those of the
-- name's length need to be asked. Assumes nothing.
use mathlib.Core.Path.{◌≡◌, refl, sym, ap, ap₂, ◌∙◌}
use mathlib.Core.List.{List, [], ◌∷◌, map}
use mathlib.Core.Bool.{Bool, true, false, cond, ◌&&◌, ◌||◌}
use Prim.Native.Nat.{ℕ, ◌≤◌}
use Prim.Native.String.{String, [] as []ˢ, ◌∷◌ as ◌∷ˢ◌}
use Prim.Native.Char.{code}
use native.Mathlib.Omega.{arith}
use lib.Dec.{eqb, leb}
use lib.ListN.{length}
use borrow.Author.Tests.{eqb-false, leb-true}
use Rattle.std.proofs.lemmas.Bool.{and_parts}
use Rattle.lists.specs.Rows.{some, keep_if}
use Rattle.lists.proofs.Tests.{eqb_sym}
use Rattle.names.specs.Names.{same_name}
use Rattle.names.specs.Fixed.{codes, spells, spells_one, of_length, linker_labels, is_linker_label}
use Rattle.names.proofs.Laws.{other_lengths}

-- a name is compared with a text's bytes
pub spelled : (text : String) (name : List ℕ) → same_name name (codes text) ≡ spells text name
unfolding same_name codes spells
spelled []ˢ [] = refl
spelled []ˢ (b ∷ name) = refl
spelled (c ∷ˢ text) [] = refl
spelled (c ∷ˢ text) (b ∷ name) = ap₂ ◌&&◌ (eqb_sym b (code c)) (spelled text name)

-- .. with the bytes of several texts
pub spelled_one : (texts : List String) (name : List ℕ) → some (same_name name) (map codes texts) ≡ spells_one texts name
unfolding some spells_one
spelled_one [] name = refl
spelled_one (text ∷ texts) name = ap₂ ◌||◌ (spelled text name) (spelled_one texts name)

-- code that asks `same` of each text after the first, and joins the answers to the first's
unfoldable pub any_same : Bool → List String → List ℕ → Bool
any_same t [] name = t
any_same t (text ∷ texts) name = any_same (t || same_name name (codes text)) texts name

any_same_is : (t : Bool) (texts : List String) (name : List ℕ) → any_same t texts name ≡ (t || spells_one texts name)
unfolding any_same spells_one
any_same_is true [] name = refl
any_same_is false [] name = refl
any_same_is true (text ∷ texts) name = any_same_is true texts name
any_same_is false (text ∷ texts) name =
    any_same_is (same_name name (codes text)) texts name ∙ ap (λ (s : Bool). s || spells_one texts name) (spelled text name)

pub spelled_after : (text : String) (texts : List String) (name : List ℕ)
    → any_same (same_name name (codes text)) texts name ≡ spells_one (text ∷ texts) name
unfolding spells_one
spelled_after text texts name =
    any_same_is (same_name name (codes text)) texts name ∙ ap (λ (s : Bool). s || spells_one texts name) (spelled text name)

-- ---- by length

-- a name spells no text of another length
not_spelled : (text : String) (name : List ℕ) → (length (codes text) ≡ length name → ⊥) → spells text name ≡ false
not_spelled text name h = sym (spelled text name) ∙ other_lengths name (codes text) (λ e. h (sym e))

-- only the texts of the name's length need to be asked
pub by_length : (texts : List String) (name : List ℕ) (n : ℕ) → length name ≡ n → spells_one (of_length n texts) name ≡ spells_one texts name
unfolding spells_one of_length keep_if
by_length [] name n e = refl
by_length (text ∷ texts) name n e = go (eqb (length (codes text)) n) refl (by_length texts name n e)
  where
    go : (t : Bool) → eqb (length (codes text)) n ≡ t → spells_one (of_length n texts) name ≡ spells_one texts name
        → spells_one (cond t (text ∷ of_length n texts) (of_length n texts)) name ≡ (spells text name || spells_one texts name)
    go true q ih = ap (λ (s : Bool). spells text name || s) ih
    go false q ih = ih ∙ sym (rw (not_spelled text name (λ p. eqb-false (length (codes text)) n q (p ∙ e))))

-- so a name of n bytes is a linker label if it is one of those of n bytes
pub labelled : (name : List ℕ) (n : ℕ) {r : Bool} → r ≡ some (same_name name) (map codes (of_length n linker_labels)) → length name ≡ n
    → r ≡ is_linker_label name
unfolding is_linker_label
labelled name n e k = e ∙ spelled_one (of_length n linker_labels) name ∙ by_length linker_labels name n k

-- each text has from `least` to `most` bytes
unfoldable pub have_lengths : (least most : ℕ) → List String → Bool
have_lengths least most [] = true
have_lengths least most (text ∷ texts) = (leb least (length (codes text)) && leb (length (codes text)) most) && have_lengths least most texts

-- no text has the name's length
pub no_length : (least most : ℕ) (texts : List String) (name : List ℕ) → have_lengths least most texts ≡ true
    → (least ≤ length name → length name ≤ most → ⊥) → spells_one texts name ≡ false
unfolding have_lengths spells_one
no_length least most [] name e h = refl
no_length least most (text ∷ texts) name e h =
    let n = length (codes text) in
    let p = and_parts (leb least n && leb n most) (have_lengths least most texts) e in
    let q = and_parts (leb least n) (leb n most) p.0 in
    let low = leb-true least n q.0 in
    let high = leb-true n most q.1 in
    rw (not_spelled text name (λ k. h (omega arith) (omega arith))) (no_length least most texts name p.1 h)
