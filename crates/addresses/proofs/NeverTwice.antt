-- An address is not granted twice: between two grants that share an address there is a free of the first one's whole range.
--     never_twice           of any sequence of operations
--     calls_never_twice     of any calls on a block that `new` made
-- Assumes nothing.
use Rattle.std.proofs.Common.{◌≡◌, ℕ, List, [], ◌∷◌, ◌++◌, ap, subst, ⊎_elim, arith, Ok}
use mathlib.Core.List.{Memᴰ}
use Rattle.addresses.specs.declared.Answer.{Answer}
use Rattle.addresses.specs.declared.Answer.TheVariants.{Granted, Freed}
use Rattle.ranges.specs.Range.{In}
use Rattle.ranges.specs.declared.RangeInclusive.{RangeInclusive}
use Rattle.addresses.specs.Meaning.{granting}
use Rattle.addresses.proofs.Tiles.{insert_here}
use Rattle.addresses.specs.Operations.{Pool, next, fresh, Frees}
use Rattle.addresses.specs.Runs.{Operation, Allocate, Release, Does, Runs, Valid}
use Rattle.addresses.proofs.PoolLaws.{grants, next_valid}
use Rattle.addresses.specs.Contract.{Starts, Calls}
use Rattle.addresses.specs.NeverTwice.{NeverTwice}
use Rattle.addresses.proofs.HistoryLaws.{keeps}
use Rattle.addresses.proofs.CallLaws.{calls_run}

-- a range that is granted is not granted again, in part or as a whole
not_again : (p : Pool) (o : Operation) (q r : RangeInclusive) (x : ℕ) → Does p o (Granted r) → Memᴰ q p.state.granted → In x q → In x r → ⊥
unfolding Does Frees
not_again p (Allocate a) q r x d m i j =
    let g = grants p a r d in
    (g.fits.free x j.0 (omega (arith, g.some, ap (λ (y : RangeInclusive). y.end) g.range))).unheld q m i
not_again p (Release s) q r x d m i j = absurd d

-- from a pool in which q is granted on
freed_first : (p : Pool) (os : List Operation) (ys zs : List Answer) (z : Pool) (q r : RangeInclusive) (x : ℕ) → Valid p → Memᴰ q p.state.granted → Runs p os (ys ++ Granted r ∷ zs) z → In x q → In x r → Memᴰ (Freed q) ys
unfolding Runs
freed_first p [] [] zs z q r x v m w i j = absurd w
freed_first p [] (y ∷ ys) zs z q r x v m w i j = absurd w
freed_first p (o ∷ os) [] zs z q r x v m w i j = absurd (not_again p o q r x w.0 m i j)
freed_first p (o ∷ os) (y ∷ ys) zs z q r x v m w i j =
    ⊎_elim
    (λ (e : Freed q ≡ y). Memᴰ.head e)
    (λ (n : Memᴰ q (next p y).state.granted). Memᴰ.tail (freed_first (next p y) os ys zs z q r x (next_valid p o y v w.0) n w.1 i j))
    (keeps p o y q v w.0 m)

-- from any pool on
between : (p : Pool) (os : List Operation) (xs ys zs : List Answer) (z : Pool) (q r : RangeInclusive) (x : ℕ) → Valid p → Runs p os (xs ++ Granted q ∷ (ys ++ Granted r ∷ zs)) z → In x q → In x r → Memᴰ (Freed q) ys
unfolding Runs next granting
between p [] [] ys zs z q r x v w i j = absurd w
between p [] (a ∷ xs) ys zs z q r x v w i j = absurd w
between p (o ∷ os) [] ys zs z q r x v w i j = freed_first (next p (Granted q)) os ys zs z q r x (next_valid p o (Granted q) v w.0) (insert_here q p.state.granted) w.1 i j
between p (o ∷ os) (a ∷ xs) ys zs z q r x v w i j = between (next p a) os xs ys zs z q r x (next_valid p o a v w.0) w.1 i j

-- the theorem
pub never_twice : (p : Pool) (os : List Operation) (xs : List Answer) (z : Pool) → Valid p → Runs p os xs z → NeverTwice xs
unfolding NeverTwice
never_twice p os xs z v w before mid behind q r x e i j = between p os before mid behind z q r x v (subst (λ (ys : List Answer). Runs p os ys z) e w) i j

-- of calls on a block that `new` made
pub calls_never_twice : (base size limit : ℕ) (m n m' : List ℕ) (os : List Operation) (xs : List Answer) → Starts m base size limit (Ok tt) n → Calls n os xs m' → NeverTwice xs
unfolding Starts
calls_never_twice base size limit m n m' os xs s c =
    let r = calls_run n m' (fresh base size limit) os xs s.1 c in
    never_twice (fresh base size limit) os xs r.0 s.1.valid r.1
