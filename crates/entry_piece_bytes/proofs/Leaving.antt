-- From the answer to the word and the eight bytes: what is left in the lent output, for every length of it. Assumes nothing.
use Prim.Native.Nat.{ℕ, zero, suc, ◌-◌, ◌<◌, ◌≤◌}
use mathlib.Core.Path.{◌≡◌, sym, ap, ◌∙◌}
use mathlib.Core.List.{List, [], ◌++◌}
use native.Mathlib.Nat.{sub-zero, zero-add}
use borrow.Author.Tests.{le-leb, lt-leb}
use native.Mathlib.Omega.{arith}
use lib.ListN.{length, replicate, drop, length-replicate}
use lib.Seq.{sets, sets-eq}
use Rattle.lists.specs.Outcome.{accepted}
use Rattle.lists.specs.Rows.{clear_from}
use Rattle.lists.specs.Tables.{laid}
use Rattle.lists.proofs.Clear.{clear_all, cleared}
use Rattle.fields.specs.Fields.{enc32}
use Rattle.obj.specs.Answers.{word, outcome_word, meaning}
use Rattle.obj.specs.declared.Refusal.{Refusal}
use Rattle.std.specs.Prelude.{Result, Ok, Err}
use Rattle.entry_piece_bytes.specs.declared.Place.{Place}
use Rattle.entry_piece_bytes.specs.Entry.{place_bytes, Leaves}

-- the bytes of a place
abbrev pub both : Place → List ℕ
both p = enc32 p.offset ++ enc32 p.length

-- bytes at the front of a cleared output
front_laid : (n : ℕ) (bytes : List ℕ) → length bytes ≤ n → sets (replicate n 0) 0 bytes ≡ laid n bytes
front_laid n bytes h =
    sets-eq bytes (replicate n 0) 0 (rw (length-replicate {A = ℕ} n 0) (omega (arith, h)))
    ∙ ap (λ (l : List ℕ). bytes ++ l) (ap (λ (k : ℕ). drop {A = ℕ} k (replicate n 0)) (zero-add (length bytes)) ∙ fewer (length bytes) n)
  where
    fewer : (k m : ℕ) → drop {A = ℕ} k (replicate m 0) ≡ replicate (m - k) 0
    fewer zero m = ap (λ (j : ℕ). replicate j 0) (sym (sub-zero m))
    fewer (suc k) zero = ap (λ (j : ℕ). replicate j 0) (let e : 0 ≡ 0 - suc k = omega arith in e)
    fewer (suc k) (suc m) = fewer k m ∙ ap (λ (j : ℕ). replicate j 0) (let e : m - k ≡ suc m - suc k = omega arith in e)

module _ (r : Result Place Refusal) (out after : List ℕ) where
  -- a refusal leaves zeros
  pub refused_leaves : {answer : ℕ} {e : Refusal} → r ≡ Err e → answer ≡ word (Err e) → after ≡ clear_from 0 0 out → Leaves (meaning r) (length out) answer after
  refused_leaves is said q =
      record {
        said = said ∙ sym (ap (λ (x : Result Place Refusal). outcome_word (meaning x)) is);
        place = q ∙ cleared out ∙ sym (ap (λ (x : Result Place Refusal). place_bytes (length out) (meaning x)) is);
      }

  module _ {answer : ℕ} {p : Place} (is : r ≡ Ok p) (said : answer ≡ 0) where
    -- a place that fits is left
    pub put_leaves : 8 ≤ length out → after ≡ sets (clear_from 0 0 out) 0 (both p) → Leaves (meaning r) (length out) answer after
    put_leaves h q =
        record {
          said = said ∙ sym (ap (λ (x : Result Place Refusal). outcome_word (meaning x)) is);
          place =
              q
              ∙ ap (λ (l : List ℕ). sets l 0 (both p)) (clear_all 0 out)
              ∙ front_laid (length out) (both p) h
              ∙ sym (fits (length out) h)
              ∙ sym (ap (λ (x : Result Place Refusal). place_bytes (length out) (meaning x)) is);
        }
      where
        fits : (size : ℕ) → 8 ≤ size → place_bytes size (accepted p) ≡ laid size (both p)
        fits size k = rw (le-leb 8 size k)

    -- one that does not fit is not
    pub none_leaves : length out < 8 → after ≡ clear_from 0 0 out → Leaves (meaning r) (length out) answer after
    none_leaves h q =
        record {
          said = said ∙ sym (ap (λ (x : Result Place Refusal). outcome_word (meaning x)) is);
          place = q ∙ cleared out ∙ sym (short (length out) h) ∙ sym (ap (λ (x : Result Place Refusal). place_bytes (length out) (meaning x)) is);
        }
      where
        short : (size : ℕ) → size < 8 → place_bytes size (accepted p) ≡ laid size []
        short size k = rw (lt-leb 8 size k)
