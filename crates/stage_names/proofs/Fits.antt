-- Names that fit, and names put one after another. Assumes nothing.
use mathlib.Core.Path.{◌≡◌, refl, sym, ap, ap₂, ◌∙◌}
use mathlib.Core.List.{List, [], ◌∷◌, ◌++◌, append_assoc}
use mathlib.Core.Bool.{true, false}
use Prim.Native.Nat.{ℕ, suc, ◌+◌, ◌-◌, ◌*◌, ◌/◌, ◌%◌, ◌≤◌, ◌<◌, zero-le}
use native.Mathlib.Omega.{arith}
use borrow.Author.Tests.{leb-false, lt-ltb, le-ltb, eq-eqb, ne_eqb}
use lib.ListN.{length, length-append}
use lib.Dec.{leb, ltb}
use lib.Seq.{sets, length-sets}
use Rattle.std.proofs.lemmas.Bool.{or_parts}
use Rattle.lists.specs.Outcome.{accepted, refused}
use native.Mathlib.Nat.{sub-zero}
use Rattle.lists.specs.Rows.{tabulate, clear_from, first_from}
use Rattle.lists.proofs.First.{first_here, first_on, first_end}
use Rattle.lists.proofs.Outcomes.{fails, passes}
use Rattle.lists.proofs.Rows.{rest-cons, rest-none}
use Rattle.lists.proofs.Stores.{sets-sets, sets_then}
use Rattle.obj.specs.Answers.{place}
use Rattle.names.specs.Names.{name_at, names_of}
use Rattle.fields.specs.Fields.{enc16}
use Rattle.outputs.specs.Outputs.{halves}
use Rattle.outputs.proofs.Laws.{length-halves, halves-append, laid-after}
use Rattle.name_table.specs.NameTable.{end_of}
use Rattle.stage_names.specs.StageNames.{beyond, first_beyond, fit_check, ends_from, flat, Put, Fits, Given}

-- a name that is not beyond is below the ceiling
pub not_beyond : (most most_bytes : ℕ) (ends : List ℕ) (k : ℕ) → beyond most most_bytes ends k ≡ false → k + 1 ≤ most
not_beyond most most_bytes ends k e = let q = or_parts (leb most k) (ltb most_bytes (end_of ends k)) e in omega (arith, leb-false most k q.0)

-- ---- names put one after another
module _ (x : List ℕ) (names : List (List ℕ)) where
  pub flat-cons : length (flat (x ∷ names)) ≡ length x + length (flat names)
  unfolding flat
  flat-cons = length-append x (flat names)

  -- a turn: the bytes of x, and then those of the others
  pub bytes_turn : (out : List ℕ) (at : ℕ) → sets (sets out at x) (at + length x) (flat names) ≡ sets out at (flat (x ∷ names))
  unfolding flat
  bytes_turn out at = sets-sets out at x (at + length x) (flat names) refl

  -- the end of x, and then those of the others
  pub ends_turn : (out : List ℕ) (k end : ℕ) {j next : ℕ} → next ≡ end + length x → j ≡ 2 * k + 2
      → sets (sets out (2 * k) (enc16 next)) j (halves (ends_from next names)) ≡ sets out (2 * k) (halves (ends_from end (x ∷ names)))
  unfolding ends_from halves
  ends_turn out k end {j} {next} e f =
      sets-sets out (2 * k) (enc16 next) j (halves (ends_from next names)) f
      ∙ ap (λ (m : ℕ). sets out (2 * k) (enc16 m ++ halves (ends_from m names))) e

-- nothing is left: both outputs stay
ends_none : (out : List ℕ) (k end : ℕ) → sets out k (halves (ends_from end [])) ≡ out
unfolding ends_from halves
ends_none out k end = refl

bytes_none : (out : List ℕ) (end : ℕ) → sets out end (flat []) ≡ out
unfolding flat
bytes_none out end = refl

flat-none : length (flat []) ≡ 0
unfolding flat
flat-none = refl

-- ---- the turns
module _ (b places lengths : List ℕ) (n first at : ℕ) (ends₀ bytes₀ : List ℕ) where
  abbrev left : ℕ → List (List ℕ)
  left i = tabulate (name_at b places lengths) i (n - i)

  pub record Putting (ends bytes : List ℕ) (end i : ℕ) : Type 0 where
    pub small : i ≤ n
    pub same_ends : length ends ≡ length ends₀
    pub same_bytes : length bytes ≡ length bytes₀
    pub sum : end + length (flat (left i)) ≡ at + length (flat (names_of b places lengths n))
    pub ended : sets ends (2 * (first + i)) (halves (ends_from end (left i))) ≡ sets ends₀ (2 * first) (halves (ends_from at (names_of b places lengths n)))
    pub filled : sets bytes end (flat (left i)) ≡ sets bytes₀ at (flat (names_of b places lengths n))

  all : left 0 ≡ names_of b places lengths n
  unfolding names_of
  all = ap (tabulate (name_at b places lengths) 0) (let e : n - 0 ≡ n = omega arith in e)

  pub putting_start : Putting ends₀ bytes₀ at 0
  putting_start = record {
    small = zero-le;
    same_ends = refl;
    same_bytes = refl;
    sum = ap (λ (l : List (List ℕ)). at + length (flat l)) all;
    ended = ap₂ (λ (k : ℕ) (l : List (List ℕ)). sets ends₀ k (halves (ends_from at l))) (let e : 2 * (first + 0) ≡ 2 * first = omega arith in e) all;
    filled = ap (λ (l : List (List ℕ)). sets bytes₀ at (flat l)) all;
  }

  module _ (ends bytes : List ℕ) (end i : ℕ) (p : Putting ends bytes end i) (h : i < n) where
    next : left i ≡ name_at b places lengths i ∷ left (i + 1)
    next = rest-cons (name_at b places lengths) i n h

    parts : end + (length (name_at b places lengths i) + length (flat (left (i + 1)))) ≡ at + length (flat (names_of b places lengths n))
    parts = ap (λ (k : ℕ). end + k) (sym (ap (λ (l : List (List ℕ)). length (flat l)) next ∙ flat-cons (name_at b places lengths i) (left (i + 1)))) ∙ p.sum

    -- name i fits
    pub name_fits : {x : List ℕ} → x ≡ name_at b places lengths i → end + length x ≤ at + length (flat (names_of b places lengths n))
    name_fits e = omega (arith, ap length e, parts)

    pub putting_turn : {x ends' bytes' : List ℕ} → x ≡ name_at b places lengths i → bytes' ≡ sets bytes end x → ends' ≡ sets ends (2 * (first + i)) (enc16 (end + length x))
        → Putting ends' bytes' (end + length x) (i + 1)
    putting_turn {x} {ends'} {bytes'} e f g = record {
      small = omega arith;
      same_ends = ap length g ∙ length-sets ends (2 * (first + i)) (enc16 (end + length x)) ∙ p.same_ends;
      same_bytes = ap length f ∙ length-sets bytes end x ∙ p.same_bytes;
      sum = omega (arith, ap length e, parts);
      ended = ap (λ (l : List ℕ). sets l (2 * (first + (i + 1))) (halves (ends_from (end + length x) (left (i + 1))))) g
          ∙ ends_turn x (left (i + 1)) ends (first + i) end refl (let z : 2 * (first + (i + 1)) ≡ 2 * (first + i) + 2 = omega arith in z)
          ∙ ap (λ (l : List (List ℕ)). sets ends (2 * (first + i)) (halves (ends_from end l))) list ∙ p.ended;
      filled = ap (λ (l : List ℕ). sets l (end + length x) (flat (left (i + 1)))) f
          ∙ bytes_turn x (left (i + 1)) bytes end
          ∙ ap (λ (l : List (List ℕ)). sets bytes end (flat l)) list ∙ p.filled;
    }
      where
        list : x ∷ left (i + 1) ≡ left i
        list = ap (λ (y : List ℕ). y ∷ left (i + 1)) e ∙ sym next

  pub putting_done : (ends bytes : List ℕ) (end i : ℕ) → Putting ends bytes end i → n ≤ i → Put (names_of b places lengths n) first at ends₀ bytes₀ ends bytes end
  putting_done ends bytes end i p h =
      let e = rest-none (name_at b places lengths) i n h in record {
        ended = sym (ap (λ (l : List (List ℕ)). sets ends (2 * (first + i)) (halves (ends_from end l))) e ∙ ends_none ends (2 * (first + i)) end) ∙ p.ended;
        filled = sym (ap (λ (l : List (List ℕ)). sets bytes end (flat l)) e ∙ bytes_none bytes end) ∙ p.filled;
        last = let z = ap (λ (l : List (List ℕ)). length (flat l)) e ∙ flat-none in omega (arith, z, p.sum);
      }

-- ---- the check
module _ (most most_bytes : ℕ) (ends : List ℕ) where
  abbrev n : ℕ
  n = length ends / 2

  abbrev none_left : ℕ → ℕ
  none_left i = first_from (beyond most most_bytes ends) i (n - i)

  -- no name before i is beyond: the first from i on is the first, and i is not above the ceiling
  pub record Fitting (i : ℕ) : Type 0 where
    pub low : i ≤ most
    pub same : none_left i ≡ first_beyond most most_bytes ends

  pub fitting : Fitting 0
  unfolding first_beyond
  fitting = record { low = zero-le; same = rw sub-zero }

  pub fits_on : {i : ℕ} → Fitting i → i < n → beyond most most_bytes ends i ≡ false → Fitting (i + 1)
  fits_on {i} g h e = record {
    low = not_beyond most most_bytes ends i e;
    same = sym (first_on (beyond most most_bytes ends) i n h e) ∙ g.same;
  }

  pub fit_cut : {address : ℕ} → (length ends % 2 ≡ 0 → ⊥) → address ≡ place n → refused 1 0 address ≡ fit_check most most_bytes ends
  unfolding fit_check
  fit_cut h e = ap (λ (k : ℕ). refused 1 0 k) e ∙ sym (fails 1 0 (place n) _ _ (rw (ne_eqb (length ends % 2) 0 h)))

  pub fit_beyond : {i : ℕ} → length ends % 2 ≡ 0 → Fitting i → i < n → beyond most most_bytes ends i ≡ true → refused 2 0 i ≡ fit_check most most_bytes ends
  unfolding fit_check
  fit_beyond {i} h g l b =
      let e = sym (first_here (beyond most most_bytes ends) i n l b) ∙ g.same in
      ap (λ (m : ℕ). refused 2 0 m) e
      ∙ sym (passes 1 0 (place n) _ _ (rw (eq-eqb (length ends % 2) 0 h)) ∙ fails 2 0 (first_beyond most most_bytes ends) _ _ (lt-ltb (first_beyond most most_bytes ends) n (omega (arith, e))))

  pub fit_all : {i : ℕ} → length ends % 2 ≡ 0 → Fitting i → n ≤ i → accepted tt ≡ fit_check most most_bytes ends
  unfolding fit_check
  fit_all {i} h g l =
      let e = sym (first_end (beyond most most_bytes ends) i n l) ∙ g.same in
      sym (passes 1 0 (place n) _ _ (rw (eq-eqb (length ends % 2) 0 h)) ∙ passes 2 0 (first_beyond most most_bytes ends) _ _ (le-ltb (first_beyond most most_bytes ends) n (omega (arith, e))))

-- ---- two lists of names, one behind the other

pub flat_append : (s t : List (List ℕ)) → flat (s ++ t) ≡ flat s ++ flat t
unfolding flat
flat_append [] t = refl
flat_append (x ∷ s) t = ap (λ (l : List ℕ). x ++ l) (flat_append s t) ∙ sym (append_assoc x (flat s) (flat t))

pub length_ends : (at : ℕ) (s : List (List ℕ)) → length (ends_from at s) ≡ length s
unfolding ends_from
length_ends at [] = refl
length_ends at (x ∷ s) = ap suc (length_ends (at + length x) s)

ends_append : (at : ℕ) (s t : List (List ℕ)) → ends_from at (s ++ t) ≡ ends_from at s ++ ends_from (at + length (flat s)) t
unfolding ends_from flat
ends_append at [] t = ap (λ (k : ℕ). ends_from k t) (let e : at ≡ at + 0 = omega arith in e)
ends_append at (x ∷ s) t =
    ap (λ (l : List ℕ). (at + length x) ∷ l)
    (ends_append (at + length x) s t ∙ ap (λ (k : ℕ). ends_from (at + length x) s ++ ends_from k t) (let e = length-append x (flat s) in let z : at + length x + length (flat s) ≡ at + length (x ++ flat s) = omega arith in z))

pub long_halves : (at : ℕ) (s : List (List ℕ)) → length (halves (ends_from at s)) ≡ 2 * length s
long_halves at s = length-halves (ends_from at s) ∙ ap (λ (k : ℕ). 2 * k) (length_ends at s)

module _ (base more : List (List ℕ)) (e₀ b₀ : List ℕ) (fits : Fits base more (length e₀) (length b₀)) where
  pub given-names : {e₁ b₁ e₂ b₂ e₃ b₃ : List ℕ} {n k r₁ r₂ : ℕ} → n ≡ length base → k ≡ length more → Put base 0 0 e₀ b₀ e₁ b₁ r₁ → Put more n r₁ e₁ b₁ e₂ b₂ r₂
      → e₃ ≡ clear_from 0 (2 * (n + k)) e₂ → b₃ ≡ clear_from 0 r₂ b₂ → Given (base ++ more) (length e₀) (length b₀) e₃ b₃ r₂
  given-names {e₁} {b₁} {e₂} {b₂} {e₃} {b₃} {n} {k} {r₁} {r₂} en ek p q f g = record {
    ends_laid = f ∙ ap (clear_from 0 (2 * (n + k))) ends ∙ laid-after e₀ (halves (ends_from 0 (base ++ more))) (2 * (n + k)) (omega (arith, long_halves 0 (base ++ more), length-append base more)) (omega (arith, long_halves 0 (base ++ more), length-append base more, fits.long_ends));
    bytes_laid = g ∙ ap (clear_from 0 r₂) bytes ∙ laid-after b₀ (flat (base ++ more)) r₂ count (omega (arith, whole, fits.long_bytes));
    count = count;
  }
    where
      start : r₁ ≡ length (flat base)
      start = omega (arith, p.last)

      whole : length (flat (base ++ more)) ≡ length (flat base) + length (flat more)
      whole = ap length (flat_append base more) ∙ length-append (flat base) (flat more)

      count : r₂ ≡ length (flat (base ++ more))
      count = omega (arith, q.last, start, whole)

      ends : e₂ ≡ sets e₀ 0 (halves (ends_from 0 (base ++ more)))
      ends =
          sets_then e₀ 0 (halves (ends_from 0 base)) (2 * n) (halves (ends_from r₁ more)) q.ended p.ended (omega (arith, long_halves 0 base, en))
          ∙ ap (sets e₀ 0) (sym (halves-append (ends_from 0 base) (ends_from r₁ more)) ∙ ap halves (ap (λ (m : ℕ). ends_from 0 base ++ ends_from m more) (let z : r₁ ≡ 0 + length (flat base) = omega (arith, start) in z) ∙ sym (ends_append 0 base more)))

      bytes : b₂ ≡ sets b₀ 0 (flat (base ++ more))
      bytes = sets_then b₀ 0 (flat base) r₁ (flat more) q.filled p.filled (omega (arith, start)) ∙ ap (sets b₀ 0) (sym (flat_append base more))
