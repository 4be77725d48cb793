-- A copy with a larger limit than its source's answers as the source does, as long as the source's table is not full. From public contracts alone.
--     larger_does      in one pool: an answer that is not "no room" is the answer with a larger limit too
--     larger_runs      and so of any sequence of operations
--     copy_alike_until a copy with a larger limit gives the same answers to the same calls, if none of the source's is "no room"
-- Assumes nothing.
use Rattle.std.proofs.Common.{◌≡◌, ℕ, ◌≤◌, List, [], ◌∷◌, sym, refl, subst, arith, Ok}
use mathlib.Core.List.{Memᴰ}
use Rattle.ranges.specs.declared.Error.TheVariants.{Overflow, OutOfRange, AlreadyReleased, NeverAllocated, ResourceNotAvailable, InvalidRange, InvalidAlignment, UnalignedAddress, Underflow, InvalidSize, NoRoom, InvalidPolicy, NoState}
use Rattle.addresses.specs.declared.Answer.{Answer}
use Rattle.addresses.specs.declared.Answer.TheVariants.{Granted, Freed, Refused}
use Rattle.addresses.specs.Operations.{Pool, next, HasRoom, Allocates, Frees}
use Rattle.addresses.specs.Runs.{Operation, Allocate, Release, Does, Runs}
use Rattle.addresses.specs.Held.{Holds}
use Rattle.addresses.specs.Contract.{Calls}
use Rattle.addresses.proofs.PoolLaws.{next_same}
use Rattle.addresses.proofs.RunLaws.{runs_unique}
use Rattle.addresses.proofs.CallLaws.{calls_run}
use Rattle.copied.specs.Copy.{limited, Copies}

pub larger_does : (p : Pool) (limit : ℕ) (o : Operation) (x : Answer) → p.limit ≤ limit → (x ≡ Refused NoRoom → ⊥) → Does p o x → Does (limited p limit) o x
unfolding Does Allocates Frees HasRoom
larger_does p limit (Allocate q) (Granted r) l n d = (d.0, d.1, d.2, omega (arith, d.3), d.4)
larger_does p limit (Allocate q) (Refused NoRoom) l n d = absurd (n refl)
larger_does p limit (Allocate q) (Freed r) l n d = d
larger_does p limit (Allocate q) (Refused InvalidSize) l n d = d
larger_does p limit (Allocate q) (Refused InvalidAlignment) l n d = d
larger_does p limit (Allocate q) (Refused UnalignedAddress) l n d = d
larger_does p limit (Allocate q) (Refused Overflow) l n d = d
larger_does p limit (Allocate q) (Refused ResourceNotAvailable) l n d = d
larger_does p limit (Allocate q) (Refused OutOfRange) l n d = d
larger_does p limit (Allocate q) (Refused AlreadyReleased) l n d = d
larger_does p limit (Allocate q) (Refused NeverAllocated) l n d = d
larger_does p limit (Allocate q) (Refused InvalidRange) l n d = d
larger_does p limit (Allocate q) (Refused Underflow) l n d = d
larger_does p limit (Allocate q) (Refused InvalidPolicy) l n d = d
larger_does p limit (Allocate q) (Refused NoState) l n d = d
larger_does p limit (Release r) (Freed q) l n d = d
larger_does p limit (Release r) (Granted q) l n d = d
larger_does p limit (Release r) (Refused NoRoom) l n d = absurd (n refl)
larger_does p limit (Release r) (Refused InvalidRange) l n d = d
larger_does p limit (Release r) (Refused ResourceNotAvailable) l n d = d
larger_does p limit (Release r) (Refused Overflow) l n d = d
larger_does p limit (Release r) (Refused OutOfRange) l n d = d
larger_does p limit (Release r) (Refused AlreadyReleased) l n d = d
larger_does p limit (Release r) (Refused NeverAllocated) l n d = d
larger_does p limit (Release r) (Refused InvalidAlignment) l n d = d
larger_does p limit (Release r) (Refused UnalignedAddress) l n d = d
larger_does p limit (Release r) (Refused Underflow) l n d = d
larger_does p limit (Release r) (Refused InvalidSize) l n d = d
larger_does p limit (Release r) (Refused InvalidPolicy) l n d = d
larger_does p limit (Release r) (Refused NoState) l n d = d

-- the pool after an answer, with the larger limit
larger_next : (p : Pool) (limit : ℕ) (x : Answer) → limited (next p x) limit ≡ next (limited p limit) x
unfolding next
larger_next p limit (Granted r) = refl
larger_next p limit (Freed r) = refl
larger_next p limit (Refused e) = refl

pub larger_runs : (p z : Pool) (limit : ℕ) (os : List Operation) (xs : List Answer) → p.limit ≤ limit → (Memᴰ (Refused NoRoom) xs → ⊥) → Runs p os xs z → Runs (limited p limit) os xs (limited z limit)
unfolding Runs
larger_runs p z limit [] [] l n r = λ i. limited (r i) limit
larger_runs p z limit [] (x ∷ xs) l n r = absurd r
larger_runs p z limit (o ∷ os) [] l n r = absurd r
larger_runs p z limit (o ∷ os) (x ∷ xs) l n r = (
  larger_does p limit o x l (λ e. n (Memᴰ.head (sym e))) r.0,
  subst (λ (y : Pool). Runs y os xs (limited z limit)) (larger_next p limit x) (larger_runs (next p x) z limit os xs (omega (arith, (next_same p x).2)) (λ m. n (Memᴰ.tail m)) r.1),
)

pub copy_alike_until : (m n k m' k' : List ℕ) (p : Pool) (limit : ℕ) (os : List Operation) (xs ys : List Answer) → Holds m p → Copies m limit (Ok tt) n k → Calls m os xs m' → Calls k os ys k' → (Memᴰ (Refused NoRoom) xs → ⊥) → xs ≡ ys
unfolding Copies
copy_alike_until m n k m' k' p limit os xs ys h c a b full =
    let held = c.1 p h in
    let r = calls_run m m' p os xs h a in
    let s = calls_run k k' (limited p limit) os ys held.1 b in
    (runs_unique (limited p limit) os xs ys (limited r.0 limit) s.0 held.1.valid (larger_runs p r.0 limit os xs held.0.least full r.1) s.1).0
