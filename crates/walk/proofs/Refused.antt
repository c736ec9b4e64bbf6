-- What a `?` leaves of an answer whose error was made a refusal by `map_err`. Assumes nothing.
use mathlib.Core.Path.{◌≡◌, refl, sym, ap, subst, ◌∙◌}
use Rattle.std.specs.Prelude.{Result, Ok, Err}
use Rattle.std.specs.Result.{IsErrAnd, MatchResult}
use Rattle.std.proofs.lemmas.Result.{err_from_is_err_and}
use Rattle.obj.specs.declared.Refusal.{Refusal}

module _ {T E : Type 0} (known : Result T E → Type 0) (q : Refusal) where
  -- what is known of the answer, and of an error with its refusal
  abbrev pub Left : Result T Refusal → Type 0
  Left (Ok x) = known (Ok x)
  Left (Err d) = (e : E) × known (Err e) × (d ≡ q)

  pub left : (m : Result T E) (r : Result T Refusal) {P : E → Refusal → Type 0} → MatchResult m (λ x. r ≡ Ok x) (λ e. IsErrAnd r (P e))
      → ((e : E) (d : Refusal) → P e d → d ≡ q) → known m → Left r
  left (Ok x) r h is k = subst Left (sym h) k
  left (Err e) r h is k = let p = err_from_is_err_and r h in subst Left (sym (p.1 ∙ ap Err (is e p.0 p.2))) (e, k, refl)
