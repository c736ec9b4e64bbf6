-- What leaves a function at a `?` whose callee answers with a refusal. Assumes nothing.
use Rattle.std.proofs.Common.{◌≡◌, ◌∙◌, ap, sym, ℕ, Result, Ok, Err}
use Rattle.std.specs.Result.{IsErrAnd}
use Rattle.obj.proofs.Errors.{is_err}
use Rattle.obj.specs.declared.Refusal.{Refusal}
use Rattle.order.specs.declared.Unlinked.{Unlinked}
use Rattle.order.specs.declared.Unlinked.TheVariants.{Refused}

-- a refusal as the stage answers it
abbrev pub as_unlinked : {T : Type 0} → Result T Refusal → Result ℕ Unlinked
as_unlinked (Ok x) = Ok 0
as_unlinked (Err r) = Err (Refused r)

pub refused_by : {T : Type 0} {e : Refusal} (r : Result ℕ Unlinked) (x : Result T Refusal) → IsErrAnd r (λ d. d ≡ Refused e) → x ≡ Err e → r ≡ as_unlinked x
refused_by r x given is = is_err _ given ∙ sym (ap as_unlinked is)

-- .. where the refusal is known
pub refused_as : {T : Type 0} {e d : Refusal} (r : Result ℕ Unlinked) (x : Result T Refusal) → IsErrAnd r (λ d. d ≡ Refused e) → x ≡ Err e → x ≡ Err d → r ≡ Err (Refused d)
refused_as r x given is known = refused_by r x given is ∙ ap as_unlinked known
