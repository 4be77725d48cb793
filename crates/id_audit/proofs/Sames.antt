-- Whether two answers are the same, as `==` says it. Assumes nothing.
use Rattle.std.proofs.Common.{◌≡◌, ℕ, Bool, true, false, Result, Ok, Err, sym, ap, eq-eqb}
use Rattle.std.specs.Result.{result_eq}
use Rattle.std.proofs.Math.Dec.{eqb}
use Rattle.std.proofs.lemmas.Bool.{eqb-true}
use Rattle.ranges.specs.declared.Error.{Error}
use Rattle.ranges.specs.contracts.ErrorPartialEq.TheImpl as error
use Rattle.ranges.proofs.Equalities.{error_same, error_other}

same : Result ℕ Error → Result ℕ Error → Bool
same x y = result_eq eqb (error.eq-value).it x y

pub answer_same : (x y : Result ℕ Error) → true ≡ result_eq eqb (error.eq-value).it x y → x ≡ y
answer_same (Ok i) (Ok j) h = ap Ok (eqb-true i j (sym h))
answer_same (Ok i) (Err e) h = cc (h)
answer_same (Err d) (Ok j) h = cc (h)
answer_same (Err d) (Err e) h = ap Err (error_same d e (sym h))

pub answer_other : (x y : Result ℕ Error) → false ≡ result_eq eqb (error.eq-value).it x y → x ≡ y → ⊥
answer_other (Ok i) (Ok j) h q = cc (h, eq-eqb i j (let e : i ≡ j = cc (q) in e))
answer_other (Ok i) (Err e) h q = cc (q)
answer_other (Err d) (Ok j) h q = cc (q)
answer_other (Err d) (Err e) h q = error_other d e (sym h) (cc (q))
