-- What one step does to a pool.
--     makes_just, made_valid       `new` has one answer, and the pool that it makes is valid
--     next_valid, next_row         an operation keeps the pool valid, and the table after it is the one that is computed
--     free_undoes                  a give-back undoes a grant
--     fits_granted, no_room_full   nothing is refused that could be granted
-- Assumes nothing.
use Rattle.std.proofs.Common.{◌≡◌, ℕ, suc, ◌+◌, ◌-◌, ◌<◌, ◌≤◌, cond, eqb, leb, ◌⊎◌, ◌↔◌, length, sym, refl, ap, ◌∙◌, subst, inl, inr, ⊎_elim, arith, Result, Ok, Err}
use mathlib.Core.List.{Memᴰ}
use native.Mathlib.Decide.{dec_le}
use Rattle.table.specs.Row.{cut}
use Rattle.addresses.specs.declared.Answer.{Answer}
use Rattle.addresses.specs.declared.Answer.TheVariants.{Granted, Freed, Refused}
use Rattle.ranges.specs.Range.{IsRange}
use Rattle.ranges.specs.declared.AllocPolicy.{AllocPolicy}
use Rattle.ranges.specs.declared.AllocPolicy.TheVariants.{FirstMatch, LastMatch, ExactMatch}
use Rattle.ranges.specs.declared.Constraint.{Constraint}
use Rattle.ranges.specs.declared.Error.{Error}
use Rattle.ranges.specs.declared.Error.TheVariants.{Overflow, ResourceNotAvailable, InvalidAlignment, UnalignedAddress, Underflow, InvalidSize, NoRoom}
use Rattle.ranges.specs.declared.RangeInclusive.{RangeInclusive}
use Rattle.addresses.specs.Meaning.{Ordered, Sound, insert, window, granting, releasing, row_of}
use Rattle.addresses.proofs.Room.{ordered_mem}
use Rattle.addresses.proofs.Moves.{gap_some, cut_fits, granting_sound, melt_granted, releasing_sound}
use Rattle.addresses.proofs.RowLaws.{cut_length, melt_length, releasing_granting}
use Rattle.addresses.proofs.Tiles.{insert_here}
use Rattle.addresses.specs.Operations.{InOrder, M, Pool, next, Within, Lendable, fresh, Makes, Place, Nowhere, HasRoom, Allocates, Frees}
use Rattle.addresses.specs.Runs.{Operation, Allocate, Release, Does, Valid}
use Rattle.addresses.proofs.Computed.{both, row_after}
use Rattle.addresses.proofs.ComputedLaws.{Tells, tells_leb, tells_eqb, tells_both, tells_cond, pick_yes, pick_no, chosen_place}

-- ---- a pool is made

-- the answer of `new`, computed
unfoldable pub make : ℕ → ℕ → ℕ → Result Unit Error
make base size limit =
    cond (eqb size 0) (Err Underflow)
    (cond (both (leb size M) (leb (base + size - 1) M))
    (cond (both (leb 1 limit) (leb limit 4096)) (Ok tt) (Err NoRoom))
    (Err Overflow))

tells_within : (base size : ℕ) → Tells (Within base size) (both (leb size M) (leb (base + size - 1) M))
unfolding Within
tells_within base size = tells_both (tells_leb size M) (tells_leb (base + size - 1) M)

tells_lendable : (limit : ℕ) → Tells (Lendable limit) (both (leb 1 limit) (leb limit 4096))
unfolding Lendable
tells_lendable limit = tells_both (tells_leb 1 limit) (tells_leb limit 4096)

-- it is an answer, and the only one
pub makes : (base size limit : ℕ) → Makes base size limit (make base size limit)
unfolding make Makes
makes base size limit =
    tells_cond (Makes base size limit) (Err Underflow) _ (tells_eqb size 0) (λ z. z) λ n.
    let s : 0 < size = omega arith in
    tells_cond (Makes base size limit) _ (Err Overflow) (tells_within base size) (λ w.
    tells_cond (Makes base size limit) (Ok tt) (Err NoRoom) (tells_lendable limit) (λ l. (s, w, l)) (λ n'. (s, w, n')))
    (λ n'. (s, n'))

pub makes_only : (base size limit : ℕ) (x : Result Unit Error) → Makes base size limit x → make base size limit ≡ x
unfolding make Makes
makes_only base size limit (Err Underflow) d = pick_yes _ _ (tells_eqb size 0) d
makes_only base size limit (Err Overflow) d = pick_no _ _ (tells_eqb size 0) (λ z. omega (arith, d.0)) ∙ pick_no _ _ (tells_within base size) d.1
makes_only base size limit (Err NoRoom) d = pick_no _ _ (tells_eqb size 0) (λ z. omega (arith, d.0)) ∙ pick_yes _ _ (tells_within base size) d.1 ∙ pick_no _ _ (tells_lendable limit) d.2
makes_only base size limit (Ok tt) d = pick_no _ _ (tells_eqb size 0) (λ z. omega (arith, d.0)) ∙ pick_yes _ _ (tells_within base size) d.1 ∙ pick_yes _ _ (tells_lendable limit) d.2
makes_only base size limit _ d = absurd d

pub makes_just : (base size limit : ℕ) (x : Result Unit Error) → Makes base size limit x ↔ (x ≡ make base size limit)
makes_just base size limit x = (λ d. sym (makes_only base size limit x d), λ e. subst (Makes base size limit) (sym e) (makes base size limit))

-- a pool that is made is valid
pub made_valid : (base size limit : ℕ) → Makes base size limit (Ok tt) → Valid (fresh base size limit)
unfolding Makes Within Lendable row_of Ordered
made_valid base size limit d = go
  where
    row : length (row_of (fresh base size limit).state) ≡ 1
    row = ap length (gap_some base (base + size) (omega (arith, d.0)))

    go : Valid (fresh base size limit)
    go = record {
      sound = record { some = omega (arith, d.0); ordered = omega arith };
      below = omega (arith, d.1);
      within = omega (arith, d.1);
      room = omega (arith, row, d.2);
      most = omega (arith, d.2);
    }

-- ---- a step

-- a grant by its parts: the window fits where the range starts, and the range is the window
pub record Grants (p : Pool) (q : Constraint) (r : RangeInclusive) : Type 0 where
  pub some : 0 < q.size
  pub fits : Place p q r.start
  pub range : r ≡ window r.start q.size
  pub room : HasRoom p r

pub grants : (p : Pool) (q : Constraint) (r : RangeInclusive) → Allocates p q (Granted r) → Grants p q r
unfolding Allocates
grants p q r d = subst (Grants p q) (sym d.4) (record { some = d.0.some; fits = chosen_place q.policy (Place p q) d.1 d.2; range = refl; room = d.3 })

-- the pool's addresses and its limit stay
pub next_same : (p : Pool) (x : Answer) → ((next p x).state.base ≡ p.state.base) × ((next p x).state.top ≡ p.state.top) × ((next p x).limit ≡ p.limit)
unfolding next granting releasing
next_same p (Granted r) = (refl, refl, refl)
next_same p (Freed r) = (refl, refl, refl)
next_same p (Refused e) = (refl, refl, refl)

-- its ranges stay in order and apart
pub next_sound : (p : Pool) (o : Operation) (x : Answer) → Sound p.state → Does p o x → Sound (next p x).state
unfolding Does Allocates Frees next
next_sound p (Allocate q) (Granted r) s d =
    let g = grants p q r d in
    subst (λ (y : RangeInclusive). Sound (granting p.state y)) (sym g.range) (granting_sound p.state q.size r.start s g.some g.fits)
next_sound p (Allocate q) (Freed r) s d = absurd d
next_sound p (Allocate q) (Refused e) s d = s
next_sound p (Release r) (Granted q) s d = absurd d
next_sound p (Release r) (Freed q) s d = releasing_sound p.state q.start s
next_sound p (Release r) (Refused e) s d = s

-- its table stays within the limit
next_room : (p : Pool) (o : Operation) (x : Answer) → Sound p.state → length (row_of p.state) ≤ p.limit → Does p o x → length (row_of (next p x).state) ≤ p.limit
unfolding Does Allocates Frees next HasRoom
next_room p (Allocate q) (Granted r) s l d = (grants p q r d).room
next_room p (Allocate q) (Freed r) s l d = absurd d
next_room p (Allocate q) (Refused e) s l d = l
next_room p (Release r) (Granted q) s l d = absurd d
next_room p (Release r) (Freed q) s l d = rw d.2 (omega (arith, melt_length r.start (row_of p.state), ap length (melt_granted p.state r s d.1)))
next_room p (Release r) (Refused e) s l d = l

-- the theorem: a pool is valid after each answer
pub next_valid : (p : Pool) (o : Operation) (x : Answer) → Valid p → Does p o x → Valid (next p x)
next_valid p o x v d =
    let e = next_same p x in
    record {
      sound = next_sound p o x v.sound d;
      below = omega (arith, v.below);
      within = omega (arith, v.within);
      room = omega (arith, next_room p o x v.sound v.room d);
      most = omega (arith, v.most);
    }

-- the table after an answer is the one that is computed
grant_row : (p : Pool) (q : Constraint) (r : RangeInclusive) → Sound p.state → Grants p q r → row_of (granting p.state r) ≡ cut p.state.top r.start (suc r.end - r.start) 1 (row_of p.state)
grant_row p q r o g =
    let n : suc r.end - r.start ≡ q.size = omega (arith, g.some, ap (λ (x : RangeInclusive). x.end) g.range) in
    rw n (ap (λ (x : RangeInclusive). row_of (granting p.state x)) g.range ∙ sym (cut_fits p.state q.size r.start o g.some g.fits))

pub next_row : (p : Pool) (o : Operation) (x : Answer) → Sound p.state → Does p o x → row_of (next p x).state ≡ row_after p.state.top (row_of p.state) x
unfolding Does Allocates Frees next row_after
next_row p (Allocate q) (Granted r) s d = grant_row p q r s (grants p q r d)
next_row p (Allocate q) (Freed r) s d = absurd d
next_row p (Allocate q) (Refused e) s d = refl
next_row p (Release r) (Granted q) s d = absurd d
next_row p (Release r) (Freed q) s d = sym (rw d.2 (melt_granted p.state r s d.1))
next_row p (Release r) (Refused e) s d = refl

-- ---- a give-back undoes a grant

-- a pair that is granted is a range
pub granted_range : (p : Pool) (r : RangeInclusive) → Valid p → Memᴰ r p.state.granted → IsRange r.start r.end
granted_range p r v m = omega (arith, ordered_mem p.state.base p.state.top p.state.granted r v.sound.ordered m, v.within)

-- of 64-bit addresses, the pairs that are no range are those that are turned round, and (0, M)
pub no_range : (r : RangeInclusive) → r.end ≤ M → (¬ IsRange r.start r.end) ↔ ((r.end < r.start) ⊎ ((r.start ≡ 0) × (r.end ≡ M)))
no_range r h = (λ n. go (dec_le r.start r.end) n, ⊎_elim (λ l. λ w. omega arith) (λ e. λ w. omega arith))
  where
    go : Dec (r.start ≤ r.end) → (¬ IsRange r.start r.end) → (r.end < r.start) ⊎ ((r.start ≡ 0) × (r.end ≡ M))
    go (yes l) n =
        let k : ¬ (r.end < r.start + M) = λ k. n (l, omega arith) in
        inr (omega arith)
    go (no l) n = inl (omega arith)

-- the theorem: the range that was just granted can be given back, and the pool is then as it was before
pub free_undoes : (p : Pool) (q : Constraint) (r : RangeInclusive) → Valid p → Does p (Allocate q) (Granted r) → Does (next p (Granted r)) (Release r) (Freed r) × (next (next p (Granted r)) (Freed r) ≡ p)
unfolding Does Frees next granting
free_undoes p q r v d =
    let g = grants p q r d in
    let m : Memᴰ r (insert r p.state.granted) = insert_here r p.state.granted in
    let e : releasing (granting p.state r) r.start ≡ p.state = ap (λ (x : RangeInclusive). releasing (granting p.state x) r.start) g.range ∙ releasing_granting p.state q.size r.start v.sound g.some g.fits in
    ((granted_range (next p (Granted r)) r (next_valid p (Allocate q) (Granted r) v d) m, m, refl), λ i. record { state = e i; limit = p.limit })

-- ---- nothing is refused that could be granted

-- a policy admits any address, or the one that it names
unfoldable pub Admits : AllocPolicy → ℕ → Type 0
Admits FirstMatch a = Unit {0}
Admits LastMatch a = Unit {0}
Admits (ExactMatch at) a = a ≡ at

nowhere_place : (w : AllocPolicy) (P : ℕ → Type 0) (a : ℕ) → Nowhere w P → P a → Admits w a → ⊥
unfolding Nowhere Admits
nowhere_place FirstMatch P a n h m = n a h
nowhere_place LastMatch P a n h m = n a h
nowhere_place (ExactMatch at) P a n h m = n (subst P m h)

-- the theorem: where the range fits, it is granted, or the table has no room
pub fits_granted : (p : Pool) (q : Constraint) (a : ℕ) (x : Answer) → InOrder q → Place p q a → Admits q.policy a → Allocates p q x → ((r : RangeInclusive) × (x ≡ Granted r)) ⊎ (x ≡ Refused NoRoom)
unfolding Allocates
fits_granted p q a (Granted r) w h m d = inl (r, refl)
fits_granted p q a (Refused NoRoom) w h m d = inr refl
fits_granted p q a (Refused InvalidSize) w h m d = absurd (omega (arith, w.some))
fits_granted p q a (Refused InvalidAlignment) w h m d = absurd (d.1 w.power)
fits_granted p q a (Refused UnalignedAddress) w h m d = absurd (d.2 w.aligned)
fits_granted p q a (Refused Overflow) w h m d = absurd (nowhere_place q.policy (Place p q) a d.1 h m)
fits_granted p q a (Refused ResourceNotAvailable) w h m d = absurd (nowhere_place q.policy (Place p q) a d.1 h m)
fits_granted p q a _ w h m d = absurd d

-- which it has while two more ranges are within the limit
pub no_room_full : (p : Pool) (q : Constraint) → Sound p.state → Allocates p q (Refused NoRoom) → p.limit < length (row_of p.state) + 2
unfolding Allocates HasRoom
no_room_full p q s d =
    let e = cut_fits p.state q.size d.1 s d.0.some (chosen_place q.policy (Place p q) d.1 d.2) in
    omega (arith, d.3, ap length e, cut_length p.state.top d.1 q.size 1 (row_of p.state))
