-- An error that is handed on as a refusal, by `map_err`: what the answer meant is what the refusal means. Assumes nothing.
use mathlib.Core.Path.{◌≡◌, sym, ap, ◌∙◌}
use Rattle.std.specs.Prelude.{Result, Ok, Err, MatchResult}
use Rattle.std.specs.Result.{IsErrAnd}
use Rattle.std.proofs.lemmas.Result.{err_from_is_err_and}
use Rattle.lists.specs.Outcome.{Outcome, accepted, refused}
use Rattle.obj.specs.Answers.{meaning}
use Rattle.obj.specs.declared.Refusal.{Refusal}

pub refused_else : {A E : Type 0} (said : Result A E → Outcome A) (m : Result A E) (r : Result A Refusal) {P : E → Refusal → Type 0} {q : Refusal} → MatchResult m (λ x. r ≡ Ok x) (λ e. IsErrAnd r (P e))
    → ((e : E) (d : Refusal) → P e d → d ≡ q) → ((x : A) → said (Ok x) ≡ accepted x) → ((e : E) → said (Err e) ≡ refused q.number q.section q.address) → said m ≡ meaning r
refused_else said (Ok x) r h is good bad = good x ∙ sym (ap meaning h)
refused_else said (Err e) r h is good bad = let p = err_from_is_err_and r h in bad e ∙ sym (ap meaning (p.1 ∙ ap Err (is e p.0 p.2)))
