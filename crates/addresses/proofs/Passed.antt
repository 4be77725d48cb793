-- What `map_err` and `ok_or` hand on: an error told in other words, or made where there is nothing. Assumes nothing.
--     told          what is so of a result is so of it with its error told in other words
--     told_ok, told_err     which result it was
--     some_or, none_or      what `ok_or` made an error of where there is nothing
use Rattle.std.proofs.Common.{◌≡◌, Option, Some, None, Result, Ok, Err, MatchResult, IsErrAnd, sym, subst}
use Rattle.std.specs.Option.{SomeIff, ok_or}

-- y is x with its error told by f
abbrev pub Told : {T D E : Type 0} → (D → E) → Result T D → Result T E → Type 0
Told f x y = MatchResult x (λ v. y ≡ Ok v) (λ d. IsErrAnd y (λ e. e ≡ f d))

pub told : {T D E : Type 0} (P : Result T D → Type 0) (Q : Result T E → Type 0) (f : D → E) → ((v : T) → P (Ok v) → Q (Ok v)) → ((d : D) → P (Err d) → Q (Err (f d))) → (x : Result T D) (y : Result T E) → Told f x y → P x → Q y
told P Q f p q (Ok v) y t h = subst Q (sym t) (p v h)
told P Q f p q (Err d) (Ok v) t h = absurd t
told P Q f p q (Err d) (Err e) t h = subst (λ z. Q (Err z)) (sym t) (q d h)

pub told_ok : {T D E : Type 0} (P : Result T D → Type 0) (f : D → E) (x : Result T D) (y : Result T E) (v : T) → Told f x y → P x → y ≡ Ok v → P (Ok v)
told_ok P f (Ok w) y v t h e = subst (λ z. P (Ok z)) (cc (t, e)) h
told_ok P f (Err d) (Ok w) v t h e = absurd t
told_ok P f (Err d) (Err k) v t h e = absurd (cc e)

pub told_err : {T D E : Type 0} (P : Result T D → Type 0) (Q : E → Type 0) (f : D → E) → ((d : D) → P (Err d) → Q (f d)) → (x : Result T D) (y : Result T E) (e : E) → Told f x y → P x → y ≡ Err e → Q e
told_err P Q f q (Ok v) y e t h k = absurd (cc (t, k))
told_err P Q f q (Err d) (Ok v) e t h k = absurd t
told_err P Q f q (Err d) (Err w) e t h k = subst Q (cc (t, k)) (q d h)

pub some_or : {T E : Type 0} (o : Option T) (P : Type 0) (v w : T) (e : E) (y : Result T E) → SomeIff o P v → y ≡ ok_or o e → y ≡ Ok w → P × (w ≡ v)
some_or (Some x) P v w e y h k q = (h.0, cc (h.1, k, q))
some_or None P v w e y h k q = absurd (cc (k, q))

pub none_or : {T E : Type 0} (o : Option T) (P : Type 0) (v : T) (e f : E) (y : Result T E) → SomeIff o P v → y ≡ ok_or o e → y ≡ Err f → (¬ P) × (f ≡ e)
none_or (Some x) P v e f y h k q = absurd (cc (k, q))
none_or None P v e f y h k q = (h, cc (k, q))
