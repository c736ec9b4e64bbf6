-- From the question's answer to the word and the four bytes: what is left in the lent output, for every length of it. Assumes nothing.
use Prim.Native.Nat.{ℕ, zero, suc, ◌-◌, ◌<◌, ◌≤◌}
use mathlib.Core.Path.{◌≡◌, sym, ap, ◌∙◌}
use mathlib.Core.List.{List, [], ◌∷◌}
use native.Mathlib.Omega.{arith}
use borrow.Author.Tests.{le-leb, lt-leb}
use lib.ListN.{length, replicate}
use lib.Seq.{sets}
use Rattle.lists.specs.Outcome.{accepted}
use Rattle.lists.specs.Rows.{clear_from}
use Rattle.lists.specs.Tables.{laid}
use Rattle.lists.proofs.Clear.{clear_all, cleared}
use Rattle.fields.specs.Fields.{enc32}
use Rattle.obj.specs.Answers.{word, outcome_word, meaning}
use Rattle.obj.specs.declared.Refusal.{Refusal}
use Rattle.std.specs.Prelude.{Result, Ok, Err}
use Rattle.entry_questions.specs.Entry.{number_bytes, Leaves}

-- four bytes at the front of a cleared output
four_laid : (n a b c d : ℕ) → 4 ≤ n → sets (replicate n 0) 0 (a ∷ b ∷ c ∷ d ∷ []) ≡ laid n (a ∷ b ∷ c ∷ d ∷ [])
four_laid zero a b c d h = absurd (omega (arith, h))
four_laid (suc zero) a b c d h = absurd (omega (arith, h))
four_laid (suc (suc zero)) a b c d h = absurd (omega (arith, h))
four_laid (suc (suc (suc zero))) a b c d h = absurd (omega (arith, h))
four_laid (suc (suc (suc (suc n)))) a b c d h =
    ap (λ (k : ℕ). a ∷ b ∷ c ∷ d ∷ replicate k 0) (let e : n ≡ suc (suc (suc (suc n))) - 4 = omega arith in e)

module _ (r : Result ℕ Refusal) (out after : List ℕ) where
  -- a refusal leaves zeros
  pub refused_leaves : {answer : ℕ} {e : Refusal} → r ≡ Err e → answer ≡ word (Err e) → after ≡ clear_from 0 0 out → Leaves (meaning r) (length out) answer after
  refused_leaves is said q =
      record {
        said = said ∙ sym (ap (λ (x : Result ℕ Refusal). outcome_word (meaning x)) is);
        number = q ∙ cleared out ∙ sym (ap (λ (x : Result ℕ Refusal). number_bytes (length out) (meaning x)) is);
      }

  module _ {answer n : ℕ} (is : r ≡ Ok n) (said : answer ≡ 0) where
    -- a number that fits is left
    pub put_leaves : 4 ≤ length out → after ≡ sets (clear_from 0 0 out) 0 (enc32 n) → Leaves (meaning r) (length out) answer after
    put_leaves h q =
        record {
          said = said ∙ sym (ap (λ (x : Result ℕ Refusal). outcome_word (meaning x)) is);
          number =
              q
              ∙ ap (λ (l : List ℕ). sets l 0 (enc32 n)) (clear_all 0 out)
              ∙ four_laid (length out) _ _ _ _ h
              ∙ sym (fits (length out) h)
              ∙ sym (ap (λ (x : Result ℕ Refusal). number_bytes (length out) (meaning x)) is);
        }
      where
        fits : (size : ℕ) → 4 ≤ size → number_bytes size (accepted n) ≡ laid size (enc32 n)
        fits size k = rw (le-leb 4 size k)

    -- one that does not fit is not
    pub none_leaves : length out < 4 → after ≡ clear_from 0 0 out → Leaves (meaning r) (length out) answer after
    none_leaves h q =
        record {
          said = said ∙ sym (ap (λ (x : Result ℕ Refusal). outcome_word (meaning x)) is);
          number = q ∙ cleared out ∙ sym (short (length out) h) ∙ sym (ap (λ (x : Result ℕ Refusal). number_bytes (length out) (meaning x)) is);
        }
      where
        short : (size : ℕ) → size < 4 → number_bytes size (accepted n) ≡ laid size []
        short size k = rw (lt-leb 4 size k)
