-- Which refusals a walk can give: what holds of each refusal of a line holds of those of the chain, of a section's walk, and of the whole. Assumes nothing.
use Prim.Native.Nat.{ℕ, zero, suc, ◌+◌, ◌≤◌, ◌<◌}
use mathlib.Core.Path.{◌≡◌, refl, subst}
use mathlib.Core.List.{List, [], ◌∷◌}
use mathlib.Core.Logic.{◌≢◌}
use mathlib.Core.Bool.{Bool, true, false, cond, not, ◌&&◌, ◌||◌}
use native.Mathlib.Omega.{arith}
use lib.Dec.{eqb, ltb}
use borrow.Author.Tests.{eqb-true, eqb-false, ltb-true, not-false, not-true}
use Rattle.lists.specs.Outcome.{Outcome, accepted, refused, refuse, ◌>>=◌, ◌>>◌}
use Rattle.obj.specs.declared.Split.{Split}
use Rattle.names.specs.Fixed.{is_pointer_list}
use Rattle.symbols.specs.Ranges.{highest_in}
use Rattle.sections.specs.Ends.{lowered_end, less_four, splitting_end}
use Rattle.sections.specs.Alignment.{given as chosen, default_alignment, larger, alignment_of}
use Rattle.units.specs.Units.{unit_of}
use Rattle.walk.specs.Walk.{Input, Output, start_in, end_in, splitting_end_in, outside, nonzero, alignment_in, fits, halved, on_aligned, on_kept, on_split, walk_splits, walk_section, walk_sections, walk, nothing}
use Rattle.splits.specs.Questions.{is_skipped, next_start}
use Rattle.restore.specs.Misfits.{ToSection, at_first, section_past, ToSplit, at_start, split_past, Comes, Asked}

-- a refusal has the property, if there is one
abbrev pub Says : {A : Type 0} → (P : (number section address : ℕ) → Type 0) → Outcome A → Type 0
Says P (accepted a) = Unit {0}
Says P (refused number section address) = P number section address

module _ (P : (number section address : ℕ) → Type 0) where
  pub says_of : {A : Type 0} (o : Outcome A) (number section address : ℕ) → Says P o → o ≡ refused number section address → P number section address
  says_of {A} o number section address s e = subst (λ (x : Outcome A). Says P x) e s

  pub says_then : {B : Type 0} (number section address : ℕ) (t : Bool) (m : Outcome B) → (t ≡ true → P number section address) → (t ≡ false → Says P m)
      → Says P (refuse number section address t >> m)
  unfolding ◌>>◌ refuse
  says_then number section address true m f g = f refl
  says_then number section address false m f g = g refl

  pub says_bind : {A B : Type 0} (m : Outcome A) (f : A → Outcome B) → Says P m → ((a : A) → m ≡ accepted a → Says P (f a)) → Says P (m >>= f)
  unfolding ◌>>=◌
  says_bind (accepted a) f p g = g a refl
  says_bind (refused number section address) f p g = p

  -- ---- the walk
  module _ (t : Input) where
    -- what is asked of section n: its splitting end, 70, and each split
    pub record Line (n : ℕ) : Type 0 where
      pub end : Says P (splitting_end_in t.image t.sections n)
      pub missing : (current : ℕ) → P 70 n current
      pub split : (s : Split) (current : ℕ) (out : Output) (r : Comes t n current s out) → Says P (on_split t n current (next_start r.end r.later) s out)

    splits_say : (n : ℕ) → Line n → (end : ℕ) → splitting_end_in t.image t.sections n ≡ accepted end → (current : ℕ) (out : Output) (l : List Split)
        → ToSplit t n end current out l → Says P (walk_splits t n end current out l)
    unfolding walk_splits
    splits_say n h end ends current out [] q = says_then _ _ _ (ltb current end) _ (λ e. h.missing current) (λ e. tt)
    splits_say n h end ends current out (s ∷ later) q = go (ltb current end) refl (λ b o e. splits_say n h end ends (next_start end later) o later (split_past q b e))
      where
        next : ℕ
        next = next_start end later

        go : (b : Bool) → ltb current end ≡ b
            → (current < end → (o : Output) → on_split t n current next s out ≡ accepted o → Says P (walk_splits t n end next o later))
            → Says P (cond b (on_split t n current next s out >>= λ o. walk_splits t n end next o later) (accepted out))
        go true e ih =
            let below = ltb-true current end e in
            says_bind (on_split t n current next s out) _ (h.split s current out (record { end = end; ends = ends; later = later; left = q; below = below })) (ih below)
        go false e ih = tt

    section_says : (n : ℕ) → Line n → (out : Output) → ToSection t n out → Says P (walk_section t n out)
    unfolding walk_section
    section_says n h out q =
        says_bind (splitting_end_in t.image t.sections n) _ h.end (λ end e. splits_say n h end e (start_in t.sections n) out _ (at_start q))

    sections_say : (n more : ℕ) → ((m : ℕ) → n ≤ m → m < n + more → Line m) → (out : Output) → ToSection t n out → Says P (walk_sections t n more out)
    unfolding walk_sections
    sections_say n zero f out q = tt
    sections_say n (suc more) f out q =
        says_bind (walk_section t n out) _ (section_says n (f n (omega arith) (omega arith)) out q)
        (λ o e. sections_say (suc n) more (λ m a b. f m (omega arith) (omega arith)) o (section_past q e))

    pub walk_says : ((n : ℕ) → n < t.sections.count → Line n) → Says P (walk t)
    unfolding walk
    walk_says f = sections_say 0 t.sections.count (λ m a b. f m (omega arith)) nothing at_first

-- ---- the lines of a section that share a property
module _ (P : (number section address : ℕ) → Type 0) (t : Input) (n : ℕ)
    (others : (number address : ℕ) → 0 < number → number ≢ 10 → number ≢ 73 → number ≢ 75 → P number n address) where
  -- 11 of the alignment's range
  alignment_says : (start : ℕ) (s : Split) → Says P (alignment_in t.image (t.sections.head n) n start s)
  unfolding alignment_of highest_in
  alignment_says start s = go (not (eqb s.alignment 0))
    where
      go : (b : Bool) → Says P (cond b (accepted (record { value = s.alignment; reason = chosen })) (highest_in t.image.symbol t.image.count n start s.end >>= λ highest. accepted (larger (default_alignment (t.sections.head n) (t.image.name (t.sections.head n).name)) highest)))
      go true = tt
      go false =
          says_bind P (highest_in t.image.symbol t.image.count n start s.end) _
          (says_then P 11 n start _ _ (λ e. others 11 start (omega arith) (λ z. omega arith) (λ z. omega arith) (λ z. omega arith)) (λ e. tt)) (λ a e. tt)

  -- "10 `.ctors` or `.dtors` with 1 to 3 bytes"
  pub end_says : ((t.sections.head n).kind ≢ 3 → P 10 n (start_in t.sections n)) → Says P (splitting_end_in t.image t.sections n)
  unfolding splitting_end
  end_says f = go (eqb (t.sections.head n).kind 3) refl
    where
      rest : Outcome ℕ
      rest = accepted (lowered_end t.image n (less_four (is_pointer_list (t.image.name (t.sections.head n).name)) (t.sections.bytes n) (end_in t.sections n)))

      short : Bool
      short = is_pointer_list (t.image.name (t.sections.head n).name) && ltb (t.sections.head n).size 4

      sized : (t.sections.head n).kind ≢ 3 → (b : Bool) → Says P (cond b (accepted (end_in t.sections n)) (refuse 10 n (start_in t.sections n) short >> rest))
      sized d true = tt
      sized d false = says_then P 10 n (start_in t.sections n) short rest (λ e. f d) (λ e. tt)

      go : (b : Bool) → eqb (t.sections.head n).kind 3 ≡ b
          → Says P (cond (b || eqb (t.sections.head n).size 0) (accepted (end_in t.sections n)) (refuse 10 n (start_in t.sections n) short >> rest))
      go true e = tt
      go false e = sized (eqb-false _ _ e) (eqb (t.sections.head n).size 0)

  -- "73 nonzero byte there", "75 alignment misfits"
  pub split_says : (s : Split) (current next : ℕ) (out : Output)
      → ((ltb s.end next && nonzero t.sections n s.end next) ≡ true → P 73 n current)
      → ((a : Asked t n current next s) → fits (halved 16 a.chosen.value current) current ≡ false → P 75 n current)
      → Says P (on_split t n current next s out)
  unfolding on_split on_kept on_aligned
  split_says s current next out zeros misfit =
      line 71 (omega arith) (λ z. omega arith) (λ z. omega arith) (λ z. omega arith) _ _ (λ here.
      line 72 (omega arith) (λ z. omega arith) (λ z. omega arith) (λ z. omega arith) _ _ (λ inside.
      says_then P 73 n current _ _ zeros (λ f. go (is_skipped s) refl (eqb-true _ _ (not-false _ here)) inside f)))
    where
      line : (number : ℕ) → 0 < number → number ≢ 10 → number ≢ 73 → number ≢ 75 → (b : Bool) (m : Outcome Output) → (b ≡ false → Says P m) → Says P (refuse number n current b >> m)
      line number h a b c test m f = says_then P number n current test m (λ e. others number current h a b c) f

      aligned : (a : Asked t n current next s) → Says P (on_aligned t n current (unit_of t.units s.unit) (halved 16 a.chosen.value current) s out)
      aligned a =
          says_then P 75 n current _ _ (λ e. misfit a (not-true _ e)) (λ e.
          line 11 (omega arith) (λ z. omega arith) (λ z. omega arith) (λ z. omega arith) _ _ (λ e.
          line 11 (omega arith) (λ z. omega arith) (λ z. omega arith) (λ z. omega arith) _ _ (λ e.
          line 11 (omega arith) (λ z. omega arith) (λ z. omega arith) (λ z. omega arith) _ _ (λ e.
          line 76 (omega arith) (λ z. omega arith) (λ z. omega arith) (λ z. omega arith) _ _ (λ e. tt)))))

      go : (b : Bool) → is_skipped s ≡ b → s.start ≡ current → (ltb s.end next && outside t.sections n s.end next) ≡ false
          → (ltb s.end next && nonzero t.sections n s.end next) ≡ false → Says P (cond b (accepted out) (on_kept t n current s out))
      go true k here inside f = tt
      go false k here inside f =
          line 74 (omega arith) (λ z. omega arith) (λ z. omega arith) (λ z. omega arith) _ _ (λ e.
          says_bind P (alignment_in t.image (t.sections.head n) n current s) _ (alignment_says current s) (λ c is.
          aligned (record { here = here; inside = inside; zeros = f; kept = k; listed = eqb-false _ _ e; chosen = c; asked = is })))

-- THEOREM: no refusal of a walk has number 0
pub walk-numbers : (t : Input) → Says (λ number section address. 0 < number) (walk t)
walk-numbers t = walk_says P t (λ n b. line n)
  where
    P : (number section address : ℕ) → Type 0
    P number n a = 0 < number

    others : (n number a : ℕ) → 0 < number → number ≢ 10 → number ≢ 73 → number ≢ 75 → P number n a
    others n number a h x y z = h

    line : (n : ℕ) → Line P t n
    line n =
        record {
          end = end_says P t n (others n) (λ d. omega arith);
          missing = λ current. omega arith;
          split = λ s current out r. split_says P t n (others n) s current _ out (λ f. omega arith) (λ a f. omega arith);
        }
