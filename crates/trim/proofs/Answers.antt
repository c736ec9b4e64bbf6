-- An answer with the value that was made, in a chain: a refusal ends it, an accepted value goes on. Assumes nothing.
use mathlib.Core.Path.{◌≡◌, sym, ap, ◌∙◌}
use Rattle.lists.specs.Outcome.{Outcome, ◌>>=◌}
use Rattle.lists.proofs.Binds.{bind_goes, bind_stops}
use Rattle.obj.specs.Answers.{Answer, meaning}
use Rattle.obj.specs.declared.Refusal.{Refusal}
use Prim.Native.Nat.{ℕ}
use Rattle.std.specs.Prelude.{Result, Ok, Err, MatchResult}
use Rattle.std.specs.Result.{IsErrAnd}
use Rattle.std.proofs.lemmas.Result.{err_from_is_err_and}
use Rattle.symbols.specs.declared.Backwards.{Backwards}
use Rattle.sections.specs.declared.Short.{Short}
use Rattle.sections.specs.Ends.{end_meaning}
use Rattle.trim.specs.Steps.{asked_meaning, seen}

module _ {A B : Type 0} (r : Answer) (x : A) (m : Outcome A) (f : A → Outcome B) (made : seen r x ≡ m) where
  pub seen-stops : (y : B) {d : Refusal} → r ≡ Err d → seen r y ≡ (m >>= f)
  seen-stops y {d} e =
      ap (λ (a : Answer). seen a y) e ∙ sym (bind_stops m f d.number d.section d.address (sym made ∙ ap (λ (a : Answer). seen a x) e))

  pub seen_goes : r ≡ Ok tt → (m >>= f) ≡ f x
  seen_goes e = bind_goes m f x (sym made ∙ ap (λ (a : Answer). seen a x) e)

-- ---- an error that is handed on as a refusal

-- a range that is asked backwards
pub asked_else : {A : Type 0} (n start : ℕ) (m : Result A Backwards) (r : Result A Refusal) {P : Backwards → Refusal → Type 0} → MatchResult m (λ x. r ≡ Ok x) (λ e. IsErrAnd r (P e))
    → ((e : Backwards) (d : Refusal) → P e d → d ≡ record { number = 11; section = n; address = start }) → asked_meaning n start m ≡ meaning r
asked_else n start (Ok x) r h is = sym (ap meaning h)
asked_else n start (Err e) r h is = let p = err_from_is_err_and r h in sym (ap meaning (p.1 ∙ ap Err (is e p.0 p.2)))

-- a section that is too short
pub end_else : (n start : ℕ) (m : Result ℕ Short) (r : Result ℕ Refusal) {P : Short → Refusal → Type 0} → MatchResult m (λ x. r ≡ Ok x) (λ e. IsErrAnd r (P e))
    → ((e : Short) (d : Refusal) → P e d → d ≡ record { number = 10; section = n; address = start }) → end_meaning n start m ≡ meaning r
end_else n start (Ok x) r h is = sym (ap meaning h)
end_else n start (Err e) r h is = let p = err_from_is_err_and r h in sym (ap meaning (p.1 ∙ ap Err (is e p.0 p.2)))
