-- Going back: what undoes a grant and what undoes a give-back.
--     grants_again     a range that was given back can be granted again, and the pool is then as it was
--     undo_grant       giving the granted range back leaves the pool before
--     undo_release     granting just the freed range leaves the pool before
-- Assumes nothing.
use Rattle.std.proofs.Common.{Ok}
use Prim.Native.Nat.{ℕ, suc, ◌+◌, ◌-◌, ◌≤◌, ◌<◌}
use mathlib.Core.Path.{◌≡◌, refl, sym, ap, subst}
use mathlib.Core.Logic.{inr, ⊎_elim}
use mathlib.Core.List.Memᴰ
use mathlib.Core.List.{List, [], ◌∷◌, Memᴰ}
use native.Mathlib.Omega.{arith}
use lib.ListN.{length}
use borrow.Author.Tests.{ne_eqb, eq-eqb, le-ltb, lt-ltb}
use Rattle.ranges.specs.declared.AllocPolicy.TheVariants.{ExactMatch}
use Rattle.ranges.specs.declared.Constraint.{Constraint}
use Rattle.ranges.specs.declared.Error.{Error}
use Rattle.ranges.specs.declared.RangeInclusive.{RangeInclusive}
use Rattle.ranges.specs.Range.{IsRange, Counts, MakesRange}
use Rattle.ranges.specs.Request.{Proper}
use Rattle.addresses.specs.declared.Answer.{Answer}
use Rattle.addresses.specs.declared.Answer.TheVariants.{Granted, Freed, Refused}
use Rattle.addresses.specs.Meaning.{State, Ordered, insert, remove, window, granting, releasing, row_of}
use Rattle.addresses.specs.Operations.{Pool, next, HasRoom, Allocates, Frees}
use Rattle.addresses.specs.Runs.{Operation, Allocate, Release, Valid, Does}
use Rattle.addresses.specs.Steps.{Clear}
use Rattle.addresses.specs.Exact.{Exactly}
use Rattle.addresses.specs.Held.{Holds}
use Rattle.addresses.specs.Contract.{Performs}
use Rattle.addresses.proofs.Room.{ordered_mem}
use Rattle.addresses.proofs.Tiles.{free_releasing}
use Rattle.addresses.proofs.ComputedLaws.{does_unique}
use Rattle.addresses.proofs.PoolLaws.{free_undoes, granted_range}
use Rattle.addresses.proofs.ExactLaws.{exactly_just}
use Rattle.pool_audit.specs.Verdicts.{size_of}
use Rattle.pool_audit.specs.Steps.{GrantsJust, Undoes}

-- a range that is taken out and put in again
insert_remove : (from top : ℕ) (rs : List RangeInclusive) (r : RangeInclusive) → Ordered from top rs → Memᴰ r rs → insert r (remove r.start rs) ≡ rs
unfolding Ordered insert remove
insert_remove from top [] r o m = absurd (Memᴰ.not-nil m)
insert_remove from top (q ∷ rs) r o m = ⊎_elim here (there (insert_remove (suc q.end) top rs r o.2)) (Memᴰ.cases_cons m)
  where
    first : (ys : List RangeInclusive) → Ordered (suc q.end) top ys → insert q ys ≡ q ∷ ys
    first [] w = refl
    first (y ∷ ys) w = rw (lt-ltb q.start y.start (omega (arith, o.1, w.0)))

    here : r ≡ q → insert r (remove r.start (q ∷ rs)) ≡ q ∷ rs
    here e = rw e (rw (eq-eqb q.start q.start refl) (first rs o.2))

    there : (Memᴰ r rs → insert r (remove r.start rs) ≡ rs) → Memᴰ r rs → insert r (remove r.start (q ∷ rs)) ≡ q ∷ rs
    there more n =
        let b = ordered_mem (suc q.end) top rs r o.2 n in
        rw (ne_eqb q.start r.start (λ e. omega (arith, b.0, o.1))) (rw (le-ltb r.start q.start (omega (arith, b.0, o.1))) (ap (λ (l : List RangeInclusive). q ∷ l) (more n)))

-- a request for just this range, with any start allowed, is in order
pub proper_just : (s e : ℕ) → Proper (e - s + 1) 1 (ExactMatch s)
proper_just s e = record { some = omega arith; power = (0, refl); aligned = (s, omega arith) }

-- as many addresses are asked for as the range has
pub just_size : (s e n : ℕ) (r : RangeInclusive) → MakesRange s e (Ok r) → Counts r n → n ≡ e - s + 1
just_size s e n r c k = (subst (λ (y : RangeInclusive). Counts y n) (λ i. record { start = c.0 i; end = c.1 i }) k).of_range c.2

module _ (p : Pool) (r : RangeInclusive) (v : Valid p) (m : Memᴰ r p.state.granted) where
  bounds : (p.state.base ≤ r.start) × (r.start ≤ r.end) × (r.end < p.state.top)
  bounds = ordered_mem p.state.base p.state.top p.state.granted r v.sound.ordered m

  the_window : r ≡ window r.start (size_of r)
  the_window = λ i. record { start = r.start; end = end_same i }
    where
      end_same : r.end ≡ r.start + size_of r - 1
      end_same = omega (arith, bounds)

  back : granting (releasing p.state r.start) r ≡ p.state
  unfolding granting releasing
  back = λ i. record { base = p.state.base; top = p.state.top; granted = insert_remove p.state.base p.state.top p.state.granted r v.sound.ordered m i }

  pub grants_back : next (next p (Freed r)) (Granted r) ≡ p
  unfolding next
  grants_back = λ i. record { state = back i; limit = p.limit }

  -- all of it is free
  clear_again : Clear (next p (Freed r)).state r.start (size_of r)
  unfolding next
  clear_again x l k = (free_releasing p.state r x v.sound m).1 (inr (l, omega (arith, bounds)))

  room_again : HasRoom (next p (Freed r)) r
  unfolding HasRoom next
  room_again = subst (λ (σ : State). length (row_of σ) ≤ p.limit) (sym back) v.room

  pub grants_again : Exactly (next p (Freed r)) r.start (size_of r) (Granted r)
  unfolding Exactly
  grants_again = (clear_again, subst (HasRoom (next p (Freed r))) the_window room_again, the_window)

-- giving the granted range back
pub undo_grant : (n m' : List ℕ) (p : Pool) (q : Constraint) (r : RangeInclusive) (x : Answer) → Valid p → Does p (Allocate q) (Granted r) → Holds n (next p (Granted r)) → Performs n (Release r) x m' → Holds m' p
undo_grant n m' p q r x v d h f =
    let u = free_undoes p q r v d in
    let w = f.right (next p (Granted r)) h in
    let e : x ≡ Freed r = does_unique (next p (Granted r)) (Release r) x (Freed r) h.valid.sound w.0 u.0 in
    subst (λ (y : Pool). Holds m' y) u.1 (subst (λ (y : Answer). Holds m' (next (next p (Granted r)) y)) e w.1)

-- granting just the freed range
pub undo_release : (n m' : List ℕ) (p : Pool) (r : RangeInclusive) (x : Answer) → Valid p → Memᴰ r p.state.granted → Holds n (next p (Freed r)) → GrantsJust n r.start r.end x m' → Holds m' p
unfolding Does
undo_release n m' p r x v m h g = ⊎_elim (λ w. absurd (w.1 (granted_range p r v m))) done (g (next p (Freed r)) h)
  where
    done : IsRange r.start r.end × Exactly (next p (Freed r)) r.start (size_of r) x × Holds m' (next (next p (Freed r)) x) → Holds m' p
    done w =
        let j = exactly_just (next p (Freed r)) (size_of r) 1 r.start h.valid (proper_just r.start r.end) in
        let e : x ≡ Granted r = does_unique (next p (Freed r)) (Allocate (record { size = size_of r; align = 1; policy = ExactMatch r.start })) x (Granted r) h.valid.sound ((j x).1 w.1) ((j (Granted r)).1 (grants_again p r v m)) in
        subst (λ (y : Pool). Holds m' y) (grants_back p r v m) (subst (λ (y : Answer). Holds m' (next (next p (Freed r)) y)) e w.2)

-- whatever the operation was
pub undo_any_grant : (n m' : List ℕ) (p : Pool) (o : Operation) (r : RangeInclusive) (x : Answer) → Valid p → Does p o (Granted r) → Holds n (next p (Granted r)) → Performs n (Release r) x m' → Holds m' p
unfolding Does Frees
undo_any_grant n m' p (Allocate q) r x v d h f = undo_grant n m' p q r x v d h f
undo_any_grant n m' p (Release q) r x v d h f = absurd d

pub undo_any_release : (n m' : List ℕ) (p : Pool) (o : Operation) (r : RangeInclusive) (x : Answer) → Valid p → Does p o (Freed r) → Holds n (next p (Freed r)) → GrantsJust n r.start r.end x m' → Holds m' p
unfolding Does Frees Allocates
undo_any_release n m' p (Allocate q) r x v d h g = absurd d
undo_any_release n m' p (Release q) r x v d h g = undo_release n m' p r x v (subst (λ (y : RangeInclusive). Memᴰ y p.state.granted) (sym d.2) d.1) h g

-- a refusal changed nothing
pub undo_refused : (m : List ℕ) (e : Error) → Undoes m (Refused e) m
unfolding next
undo_refused m e p o v d h = h
