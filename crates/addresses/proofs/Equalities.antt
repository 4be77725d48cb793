-- What `==` says of answers, as the derive writes it: true where the two are the same, and only there.
--     answer_same, answer_other     what an `if a == b` knows of the two
-- Assumes nothing.
use Rattle.std.proofs.Common.{◌≡◌, true, false, ap, sym}
use Rattle.ranges.proofs.Equalities.{error_same, error_other, range_same, range_other}
use Rattle.addresses.specs.declared.Answer.{Answer}
use Rattle.addresses.specs.declared.Answer.TheVariants.{Granted, Freed, Refused}
use Rattle.addresses.specs.contracts.AnswerPartialEq.TheImpl as answer

pub answer_same : (a b : Answer) → true ≡ (answer.eq-value).it a b → a ≡ b
answer_same (Granted q) (Granted r) h = ap Granted (range_same q r (sym h))
answer_same (Granted q) (Freed r) h = cc (h)
answer_same (Granted q) (Refused e) h = cc (h)
answer_same (Freed q) (Granted r) h = cc (h)
answer_same (Freed q) (Freed r) h = ap Freed (range_same q r (sym h))
answer_same (Freed q) (Refused e) h = cc (h)
answer_same (Refused d) (Granted r) h = cc (h)
answer_same (Refused d) (Freed r) h = cc (h)
answer_same (Refused d) (Refused e) h = ap Refused (error_same d e (sym h))

pub answer_other : (a b : Answer) → false ≡ (answer.eq-value).it a b → a ≡ b → ⊥
answer_other (Granted q) (Granted r) h e = range_other q r (sym h) (cc (e))
answer_other (Granted q) (Freed r) h e = cc (e)
answer_other (Granted q) (Refused k) h e = cc (e)
answer_other (Freed q) (Granted r) h e = cc (e)
answer_other (Freed q) (Freed r) h e = range_other q r (sym h) (cc (e))
answer_other (Freed q) (Refused k) h e = cc (e)
answer_other (Refused d) (Granted r) h e = cc (e)
answer_other (Refused d) (Freed r) h e = cc (e)
answer_other (Refused d) (Refused k) h e = error_other d k (sym h) (cc (e))
