-- What a caller of the address allocator's names learns from a number alone, of a block that holds a pool.
--     granted_zero, freed_zero        0: what was asked for is done, and the block holds the pool after it
--     grant_refused, free_refused     a reason's number: it is that reason, and block and out-parameter are as they were
--     left_done                       what is left is not refused, and the two numbers are right
-- Assumes nothing.
use Prim.Native.Nat.{ℕ}
use mathlib.Core.Path.{◌≡◌, sym, ◌∙◌, ap, subst}
use mathlib.Core.List.{List}
use native.Mathlib.Omega.{arith}
use Rattle.ranges.specs.declared.AllocPolicy.{AllocPolicy}
use Rattle.ranges.specs.declared.Constraint.{Constraint}
use Rattle.ranges.specs.declared.Error.{Error}
use Rattle.ranges.specs.declared.RangeInclusive.{RangeInclusive}
use Rattle.ranges.specs.Reasons.{number_of}
use Rattle.ranges.proofs.ReasonLaws.{number_one, number_some}
use Rattle.addresses.specs.declared.Answer.{Answer}
use Rattle.addresses.specs.declared.Answer.TheVariants.{Granted, Freed, Refused}
use Rattle.addresses.specs.Meaning.{window}
use Rattle.addresses.specs.Operations.{Pool, next, Allocates, Frees}
use Rattle.addresses.specs.Runs.{Allocate, Release, Does}
use Rattle.addresses.specs.Held.{Holds}
use Rattle.addresses.specs.Contract.{Performs, asking, returning}
use Rattle.left.specs.declared.Left.{Left}
use Rattle.std.proofs.Common.{Result, Ok, Err}
use Rattle.left.specs.Contract.{FreeAddresses, LargestFree, Tells}
use Rattle.rangekeeper.specs.Address as address

-- an answer that is refused has the number of its reason
refused_of : (x : Answer) (e : Error) → number_of e ≡ address.answer_number x → x ≡ Refused e
refused_of (Granted r) e q = absurd (omega (arith, q, number_some e))
refused_of (Freed r) e q = absurd (omega (arith, q, number_some e))
refused_of (Refused d) e q = ap Refused (number_one d e (sym q))

-- a request that is answered 0 is granted where *start says
granted_answer : (p : Pool) (q : Constraint) (old start : ℕ) (x : Answer) → 0 ≡ address.answer_number x → start ≡ address.granted_or old x → Does p (Allocate q) x → x ≡ Granted (window start q.size)
unfolding Does Allocates
granted_answer p q old start (Granted r) z s d = ap Granted (d.4 ∙ ap (λ (a : ℕ). window a q.size) (sym (ap (λ (y : RangeInclusive). y.start) d.4) ∙ sym s))
granted_answer p q old start (Freed r) z s d = absurd d
granted_answer p q old start (Refused e) z s d = absurd (omega (arith, z, number_some e))

pub granted_zero : (m m' : List ℕ) (old size align start : ℕ) (policy : AllocPolicy) (p : Pool) → address.Grants m old size align policy 0 m' start → Holds m p → Does p (asking size align policy) (Granted (window start size)) × Holds m' (next p (Granted (window start size)))
granted_zero m m' old size align start policy p g h =
    let w = g.done.right p h in
    let e = granted_answer p (record { size = size; align = align; policy = policy }) old start g.answer g.number g.out w.0 in
    (subst (Does p (asking size align policy)) e w.0, subst (λ (x : Answer). Holds m' (next p x)) e w.1)

pub grant_refused : (m m' : List ℕ) (old size align start : ℕ) (policy : AllocPolicy) (e : Error) → address.Grants m old size align policy (number_of e) m' start → (m' ≡ m) × (start ≡ old) × ((p : Pool) → Holds m p → Does p (asking size align policy) (Refused e))
grant_refused m m' old size align start policy e g =
    let q = refused_of g.answer e g.number in
    let w : Performs m (asking size align policy) (Refused e) m' = subst (λ (x : Answer). Performs m (asking size align policy) x m') q g.done in
    (w.kept, g.out ∙ ap (address.granted_or old) q, λ p h. (w.right p h).0)

-- a give-back that is answered 0 freed just that range
freed_answer : (p : Pool) (r : RangeInclusive) (x : Answer) → 0 ≡ address.answer_number x → Does p (Release r) x → x ≡ Freed r
unfolding Does Frees
freed_answer p r (Granted q) z d = absurd d
freed_answer p r (Freed q) z d = ap Freed d.2
freed_answer p r (Refused e) z d = absurd (omega (arith, z, number_some e))

pub freed_zero : (m m' : List ℕ) (s e : ℕ) (p : Pool) → address.Frees m s e 0 m' → Holds m p → Does p (returning s e) (Freed (record { start = s; end = e })) × Holds m' (next p (Freed (record { start = s; end = e })))
freed_zero m m' s e p f h =
    let w = f.done.right p h in
    let q = freed_answer p (record { start = s; end = e }) f.answer f.number w.0 in
    (subst (Does p (returning s e)) q w.0, subst (λ (x : Answer). Holds m' (next p x)) q w.1)

pub free_refused : (m m' : List ℕ) (s e : ℕ) (y : Error) → address.Frees m s e (number_of y) m' → (m' ≡ m) × ((p : Pool) → Holds m p → Does p (returning s e) (Refused y))
free_refused m m' s e y f =
    let q = refused_of f.answer y f.number in
    let w : Performs m (returning s e) (Refused y) m' = subst (λ (x : Answer). Performs m (returning s e) x m') q f.done in
    (w.kept, λ p h. (w.right p h).0)

-- what is left of a pool
pub left_done : (m : List ℕ) (a b r free largest : ℕ) (p : Pool) → address.Leaves m a b r free largest → Holds m p → (r ≡ 0) × FreeAddresses p.state free × LargestFree p.state largest
unfolding Tells
left_done m a b r free largest p g h = go g.answer g.number g.count g.size g.right
  where
    go : (x : Result Left Error) → r ≡ address.left_number x → free ≡ address.free_or a x → largest ≡ address.largest_or b x → Tells m x → (r ≡ 0) × FreeAddresses p.state free × LargestFree p.state largest
    go (Ok l) n c s t = (n, rw c (t p h).0, rw s (t p h).1)
    go (Err e) n c s t = absurd (t.1 p h)
