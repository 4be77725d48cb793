-- What `ok_or` and a `?` hand on. Assumes nothing.
--     handed       the exit of a `?` whose error is known
--     missing      `ok_or` makes an error of nothing alone, and that error
use Rattle.std.proofs.Common.{◌≡◌, Option, Some, None, Result, Ok, Err, IsErrAnd, refl, ap, sym, ◌∙◌, subst}
use Rattle.std.specs.Option.{ok_or}
use Rattle.std.proofs.lemmas.Result.{err_from_is_err_and}

pub handed : {T E : Type 0} (P : Result T E → Type 0) (r : Result T E) (e : E) → IsErrAnd r (λ y. y ≡ e) → P (Err e) → P r
handed P r e h p = let w = err_from_is_err_and r h in subst P (sym (w.1 ∙ ap Err w.2)) p

pub missing : {X E : Type 0} (o : Option X) (e f : E) → Err f ≡ ok_or o e → (o ≡ None) × (f ≡ e)
missing (Some x) e f h = absurd (cc)
missing None e f h = (refl, cc)
