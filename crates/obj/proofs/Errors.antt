-- What leaves a function at a `?`: the callee's own refusal. Assumes nothing.
use Rattle.std.proofs.Common.{◌≡◌, ◌∙◌, ap, sym, Result, Err}
use Rattle.std.specs.Result.{IsErrAnd}
use Rattle.std.proofs.lemmas.Result.{err_from_is_err_and}

-- an answer that is known to be this error
pub is_err : {T E : Type 0} {e : E} (r : Result T E) → IsErrAnd r (λ d. d ≡ e) → r ≡ Err e
is_err r given = let p = err_from_is_err_and r given in p.1 ∙ ap Err p.2

-- .. and is the callee's
pub same_err : {T E : Type 0} {e : E} (r x : Result T E) → IsErrAnd r (λ d. d ≡ e) → x ≡ Err e → r ≡ x
same_err r x given is = is_err r given ∙ sym is
