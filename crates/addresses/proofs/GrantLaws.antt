-- Laws of a grant: what the table's answer to a cut, and to the searches before it, says of the pool.
--     grant_done, grant_refused       a cut, answer by answer
--     first_.., last_.., exact_..     where each policy's request is to start
--     placed_grants, placed_refused   a grant there, or the refusal, is what `allocate` is to answer
-- Assumes nothing.
use Rattle.std.proofs.Common.{◌≡◌, ℕ, ◌+◌, ◌-◌, ◌%◌, ◌^◌, ◌<◌, ◌≤◌, List, Result, Ok, Err, sym, refl, ◌∙◌, subst, arith}
use Rattle.ranges.specs.declared.AllocPolicy.{AllocPolicy}
use Rattle.ranges.specs.declared.AllocPolicy.TheVariants.{FirstMatch, LastMatch, ExactMatch}
use Rattle.ranges.specs.declared.Constraint.{Constraint}
use Rattle.ranges.specs.declared.Error.{Error}
use Rattle.ranges.specs.declared.Error.TheVariants.{Overflow, ResourceNotAvailable, NoRoom}
use Rattle.ranges.specs.declared.RangeInclusive.{RangeInclusive}
use Rattle.ranges.specs.Request.{Proper, MakesConstraint}
use Rattle.ranges.proofs.Powers.{power_pos}
use Rattle.table.specs.declared.ChangeError.{ChangeError}
use Rattle.table.specs.declared.ChangeError.TheVariants as change
use Rattle.table.specs.declared.PlaceError.{PlaceError}
use Rattle.table.specs.declared.PlaceError.TheVariants as place
use Rattle.table.specs.Contract as table
use Rattle.addresses.specs.declared.Answer.{Answer}
use Rattle.addresses.specs.declared.Answer.TheVariants.{Granted, Refused}
use Rattle.addresses.specs.Meaning.{window}
use Rattle.addresses.specs.Operations.{M, Pool, next, InOrder, Place, Chosen, Nowhere, Beyond, Allocates}
use Rattle.addresses.specs.Runs.{Does, Allocate, Valid}
use Rattle.addresses.specs.Held.{table_of, Holds}
use Rattle.addresses.specs.Contract.{Performs, asking}
use Rattle.addresses.specs.Steps.{why_no_place, why_unchanged, Cuts, Grants, PastTheEnd, Places}
use Rattle.addresses.proofs.MultipleLaws.{multiples}
use Rattle.addresses.proofs.Search.{lowest_some, lowest_none, highest_some, highest_none}
use Rattle.addresses.proofs.ComputedLaws.{chosen_place}
use Rattle.addresses.proofs.StepLaws.{open_clear, clear_open, clear_within, clear_end, cut_done, cut_full}

-- ---- a cut

module _ (m m' : List ℕ) (a size : ℕ) (s : 0 < size) where
  pub grant_done : (end : ℕ) → end ≡ (a + (size - 1)) % 2 ^ 64 → table.Cuts m a size 1 (Ok tt) m' → Grants m a size (Granted (record { start = a; end = end })) m'
  unfolding table.Cuts Cuts
  grant_done end q k = record { kept = tt; right = go }
    where
      go : (p : Pool) → Holds m p → Cuts p a size (Granted (record { start = a; end = end })) × Holds m' (next p (Granted (record { start = a; end = end })))
      go p h =
          let w = k.1 (table_of p) h.table in
          let f = open_clear p.state a size h.valid.sound s w.0 in
          let d = cut_done m' p a size h.valid s f w.1 in
          let r : ◌≡◌ {A = RangeInclusive} (record { start = a; end = end }) (window a size) = λ i. record { start = a; end = (q ∙ clear_end p a size h.valid s f) i } in
          ((f, d.0, r), subst (λ (y : RangeInclusive). Holds m' (next p (Granted y))) (sym r) d.1)

  pub grant_refused : (e : ChangeError) → table.Cuts m a size 1 (Err e) m' → Grants m a size (Refused (why_unchanged e)) m'
  unfolding table.Cuts Cuts next
  grant_refused change.Absent k =
      record {
        kept = k.0;
        right = λ p h. (λ f. k.2 (table_of p) h.table (clear_open p.state a size h.valid.sound s f), subst (λ (n : List ℕ). Holds n p) (sym k.0) h);
      }
  grant_refused change.Full k =
      record {
        kept = k.0;
        right = λ p h.
            let w = k.2 (table_of p) h.table in
            let f = open_clear p.state a size h.valid.sound s w.0 in
            ((f, cut_full p a size h.valid s f w.1), subst (λ (n : List ℕ). Holds n p) (sym k.0) h);
      }
  grant_refused change.Unfit k = absurd (k.1 (s, omega arith))
  grant_refused change.NoTable k = record { kept = k.0; right = λ p h. absurd (k.2 (table_of p) h.table) }

-- ---- the place that a policy chose

-- the request
abbrev request : ℕ → ℕ → AllocPolicy → Constraint
request size align w = record { size = size; align = align; policy = w }

-- a grant at a chosen place is what the request is to be answered
found_answer : (p : Pool) (size align a : ℕ) (w : AllocPolicy) (x : Answer) → Proper size align w → Chosen w (Place p (request size align w)) a → Cuts p a size x → Allocates p (request size align w) x
unfolding Cuts Allocates
found_answer p size align a w (Granted r) o c k = (o, a, c, k.1, k.2)
found_answer p size align a w (Refused NoRoom) o c k = (o, a, c, k.1)
found_answer p size align a w (Refused ResourceNotAvailable) o c k = absurd (k (chosen_place w (Place p (request size align w)) a c).free)
found_answer p size align a w _ o c k = absurd k

-- a policy that is known in a request
module _ (m : List ℕ) (q : Constraint) (w : AllocPolicy) (e : q.policy ≡ w) where
  order : InOrder q → Proper q.size q.align w
  order o = subst (Proper q.size q.align) e o

  of_policy : (x : Result ℕ Error) → Places m (request q.size q.align w) x → Places m q x
  of_policy x k = subst (λ (y : AllocPolicy). Places m (request q.size q.align y) x) (sym e) k

-- a place that the policy chose
chosen_places : (m : List ℕ) (size align : ℕ) (w : AllocPolicy) (a : ℕ) → Proper size align w → ((p : Pool) → Holds m p → Chosen w (Place p (request size align w)) a) → Places m (request size align w) (Ok a)
unfolding Places
chosen_places m size align w a o c p x h k = found_answer p size align a w x o (c p h) k

-- ---- first

module _ (m : List ℕ) (q : Constraint) (f : q.policy ≡ FirstMatch) (c : InOrder q) where
  o : Proper q.size q.align FirstMatch
  o = order m q FirstMatch f c

  pub first_found : (a : ℕ) → table.FindsLowest m q.size q.align (Ok a) → Places m q (Ok a)
  unfolding table.FindsLowest Chosen
  first_found a k = of_policy m q FirstMatch f (Ok a) (chosen_places m q.size q.align FirstMatch a o (λ p h. lowest_some p.state q.size (multiples q.align (power_pos q.align o.power)) a h.valid.sound o.some (k.1 (table_of p) h.table)))

  pub first_refused : (e : PlaceError) → table.FindsLowest m q.size q.align (Err e) → Places m q (Err (why_no_place e))
  unfolding table.FindsLowest Places Allocates Nowhere Beyond
  first_refused place.Nowhere k = of_policy m q FirstMatch f (Err ResourceNotAvailable) (λ p h. (o, lowest_none p.state q.size (multiples q.align (power_pos q.align o.power)) h.valid.sound o.some (k.1 (table_of p) h.table), λ z. z))
  first_refused place.Unfit k = absurd (k (o.some, o.power))
  first_refused place.NoTable k = λ p h. absurd (k.1 (table_of p) h.table)

-- ---- last

module _ (m : List ℕ) (q : Constraint) (f : q.policy ≡ LastMatch) (c : InOrder q) where
  o' : Proper q.size q.align LastMatch
  o' = order m q LastMatch f c

  pub last_found : (a : ℕ) → table.FindsHighest m q.size q.align (Ok a) → Places m q (Ok a)
  unfolding table.FindsHighest Chosen
  last_found a k = of_policy m q LastMatch f (Ok a) (chosen_places m q.size q.align LastMatch a o' (λ p h. highest_some p.state q.size (multiples q.align (power_pos q.align o'.power)) a h.valid.sound o'.some (k.1 (table_of p) h.table)))

  pub last_refused : (e : PlaceError) → table.FindsHighest m q.size q.align (Err e) → Places m q (Err (why_no_place e))
  unfolding table.FindsHighest Places Allocates Nowhere Beyond
  last_refused place.Nowhere k = of_policy m q LastMatch f (Err ResourceNotAvailable) (λ p h. (o', highest_none p.state q.size (multiples q.align (power_pos q.align o'.power)) h.valid.sound o'.some (k.1 (table_of p) h.table), λ z. z))
  last_refused place.Unfit k = absurd (k (o'.some, o'.power))
  last_refused place.NoTable k = λ p h. absurd (k.1 (table_of p) h.table)

-- ---- exact

-- a window that would end past the highest address fits nowhere
beyond_nowhere : (p : Pool) (size align a : ℕ) → Valid p → 0 < size → M < a + size - 1 → Place p (request size align (ExactMatch a)) a → ⊥
beyond_nowhere p size align a v s l f = omega (arith, clear_within p.state a size s f.free, v.below)

beyond_answer : (p : Pool) (size align a : ℕ) (e : Error) → Valid p → Proper size align (ExactMatch a) → M < a + size - 1 → PastTheEnd p a e → Allocates p (request size align (ExactMatch a)) (Refused e)
unfolding PastTheEnd Allocates Nowhere Beyond
beyond_answer p size align a Overflow v o l k = (o, beyond_nowhere p size align a v o.some l, (k, l))
beyond_answer p size align a ResourceNotAvailable v o l k = (o, beyond_nowhere p size align a v o.some l, λ b. k b.0)
beyond_answer p size align a _ v o l k = absurd k

pub exact_beyond : (m : List ℕ) (q : Constraint) (a : ℕ) (e : Error) → q.policy ≡ ExactMatch a → InOrder q → M < a + q.size - 1 → ((p : Pool) → Holds m p → PastTheEnd p a e) → Places m q (Err e)
unfolding Places
exact_beyond m q a e x o l f = of_policy m q (ExactMatch a) x (Err e) (λ p h. beyond_answer p q.size q.align a e h.valid (order m q (ExactMatch a) x o) l (f p h))

-- any other is granted where its addresses are free
exact_answer : (p : Pool) (size align a : ℕ) (x : Answer) → Proper size align (ExactMatch a) → a + size - 1 ≤ M → Cuts p a size x → Allocates p (request size align (ExactMatch a)) x
unfolding Cuts Allocates Nowhere Beyond Chosen
exact_answer p size align a (Granted r) o l k = (o, a, (refl, record { allowed = o.aligned; free = k.0 }), k.1, k.2)
exact_answer p size align a (Refused NoRoom) o l k = (o, a, (refl, record { allowed = o.aligned; free = k.0 }), k.1)
exact_answer p size align a (Refused ResourceNotAvailable) o l k = (o, λ f. k f.free, λ b. omega (arith, b.1))
exact_answer p size align a _ o l k = absurd k

pub exact_places : (m : List ℕ) (q : Constraint) (a : ℕ) → q.policy ≡ ExactMatch a → InOrder q → a + q.size - 1 ≤ M → Places m q (Ok a)
unfolding Places
exact_places m q a x o l = of_policy m q (ExactMatch a) x (Ok a) (λ p y h k. exact_answer p q.size q.align a y (order m q (ExactMatch a) x o) l k)

-- ---- what the request is answered

module _ (m : List ℕ) (size align : ℕ) (w : AllocPolicy) (q : Constraint) (c : MakesConstraint size align w (Ok q)) where
  -- it is the request that was made
  same : q ≡ request size align w
  same i = record { size = c.0 i; align = c.1 i; policy = c.2 i }

  pub placed_grants : (m' : List ℕ) (a : ℕ) (x : Answer) → Places m q (Ok a) → Grants m a q.size x m' → Performs m (asking size align w) x m'
  unfolding Places Does
  placed_grants m' a x k g = subst (λ (y : Constraint). Performs m (Allocate y) x m') same (record { kept = g.kept; right = λ p h. (k p x h (g.right p h).0, (g.right p h).1) })

  pub placed_refused : (e : Error) → Places m q (Err e) → Performs m (asking size align w) (Refused e) m
  unfolding Places Does next
  placed_refused e k = subst (λ (y : Constraint). Performs m (Allocate y) (Refused e) m) same (record { kept = refl; right = λ p h. (k p h, h) })
