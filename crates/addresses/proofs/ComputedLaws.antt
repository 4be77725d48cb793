-- There is just one answer to each operation of a pool, it is the one that is computed from the table, and the pool after it is valid again.
-- Assumes nothing.
use Rattle.std.proofs.Common.{◌≡◌, ℕ, suc, ◌+◌, ◌-◌, ◌/◌, ◌%◌, ◌^◌, ◌<◌, ◌≤◌, Bool, true, false, cond, eqb, ltb, leb, ◌⊎◌, ◌↔◌, List, [], ◌∷◌, ◌++◌, length, sym, refl, ap, ◌∙◌, subst, inl, inr, ⊎_elim, append-nil, div-add-mod', arith, ltb-false, eqb-true, leb-false, leb-true}
use mathlib.Core.List.Memᴰ
use mathlib.Core.List.{Memᴰ}
use mathlib.Core.Option.{Option, none, some}
use native.Mathlib.Nat.{mul-mod_left}
use borrow.Author.Tests.{eqb-false, lt-leb}
use Rattle.table.specs.Row.{Tile, past, lowest, highest, cut}
use Rattle.addresses.proofs.Places.{Answers}
use Rattle.addresses.specs.declared.Answer.{Answer}
use Rattle.addresses.specs.declared.Answer.TheVariants.{Granted, Freed, Refused}
use Rattle.ranges.specs.Align.{PowerOfTwo}
use Rattle.ranges.specs.Range.{IsRange}
use Rattle.ranges.specs.Request.{Aligned}
use Rattle.ranges.specs.declared.AllocPolicy.{AllocPolicy}
use Rattle.ranges.specs.declared.AllocPolicy.TheVariants.{FirstMatch, LastMatch, ExactMatch}
use Rattle.ranges.specs.declared.Constraint.{Constraint}
use Rattle.ranges.specs.declared.Error.TheVariants.{Overflow, ResourceNotAvailable, InvalidRange, InvalidAlignment, UnalignedAddress, InvalidSize, NoRoom}
use Rattle.ranges.specs.declared.RangeInclusive.{RangeInclusive}
use Rattle.addresses.specs.Meaning.{State, Free, Fits, Least, Greatest, Ordered, Sound, window, granting, gap, row_from, row_of}
use Rattle.addresses.proofs.Places.{Rule}
use Rattle.ranges.specs.Align.{Multiple}
use Rattle.addresses.proofs.MultipleLaws.{multiples}
use Rattle.addresses.proofs.Room.{Inside, Room, fits_room, room_fits}
use Rattle.addresses.proofs.Search.{lowest_fits, highest_fits}
use Rattle.addresses.proofs.Moves.{free, held, cut_fits}
use Rattle.addresses.proofs.RowLaws.{ranges, ranges_row, least_unique, greatest_unique}
use Rattle.addresses.specs.Operations.{InOrder, M, Pool, Place, Chosen, Nowhere, Beyond, HasRoom, Allocates, Frees}
use Rattle.addresses.specs.Runs.{Operation, Allocate, Release, Does}
use lib.Count.{ones}
use Rattle.ranges.proofs.Powers.{ones_power, power_ones, power_pos}
use Rattle.addresses.proofs.Computed.{both, either, is_power, is_aligned, is_open, is_beyond, place, grant, allocate, is_range, is_member, release, answer}

-- ---- tests and facts

-- a test tells whether P: it passed, and P holds, or it failed, and P does not
pub data Tells (P : Type 0) : Bool → Type 0 where
  passed : P → Tells P true
  failed : (¬ P) → Tells P false

-- the plain tests
pub tells_leb : (a b : ℕ) → Tells (a ≤ b) (leb a b)
tells_leb a b = go (leb a b) refl
  where
    go : (t : Bool) → leb a b ≡ t → Tells (a ≤ b) t
    go true e = passed (leb-true a b e)
    go false e = failed (λ h. omega (arith, leb-false a b e))

pub tells_eqb : (a b : ℕ) → Tells (a ≡ b) (eqb a b)
tells_eqb a b = go (eqb a b) refl
  where
    go : (t : Bool) → eqb a b ≡ t → Tells (a ≡ b) t
    go true e = passed (eqb-true a b e)
    go false e = failed (eqb-false a b e)

-- two tests, and one or the other
pub tells_both : {P Q : Type 0} {b c : Bool} → Tells P b → Tells Q c → Tells (P × Q) (both b c)
tells_both (passed p) (passed q) = passed (p, q)
tells_both (passed p) (failed q) = failed (λ w. q w.1)
tells_both (failed p) (passed q) = failed (λ w. p w.0)
tells_both (failed p) (failed q) = failed (λ w. p w.0)

pub tells_either : {P Q : Type 0} {b c : Bool} → Tells P b → Tells Q c → Tells (P ⊎ Q) (either b c)
tells_either (passed p) (passed q) = passed (inl p)
tells_either (passed p) (failed q) = passed (inl p)
tells_either (failed p) (passed q) = passed (inr q)
tells_either (failed p) (failed q) = failed (⊎_elim p q)

-- a test tells the same of what is the same
pub tells_iff : {P Q : Type 0} {b : Bool} → (P → Q) → (Q → P) → Tells P b → Tells Q b
tells_iff f g (passed p) = passed (f p)
tells_iff f g (failed n) = failed (λ q. n (g q))

-- what a choice by a test gives
pub tells_cond : {A P : Type 0} {b : Bool} (R : A → Type 0) (x y : A) → Tells P b → (P → R x) → ((¬ P) → R y) → R (cond b x y)
tells_cond R x y (passed p) f g = f p
tells_cond R x y (failed n) f g = g n

-- ---- the tests of a request

-- one set digit, and only then: a power of two
tells_power : (k : ℕ) → Tells (PowerOfTwo k) (is_power k)
unfolding is_power
tells_power k = tells_iff (ones_power k) (power_ones k) (tells_eqb (ones k) 1)

-- the rule of a request that is in order, and an address that it names
abbrev rule : (q : Constraint) → InOrder q → Rule
rule q w = multiples q.align (power_pos q.align w.power)

named : (q : Constraint) (w : InOrder q) (at : ℕ) → q.policy ≡ ExactMatch at → (rule q w).Ok at
named q w at e = subst (Aligned q.align) e w.aligned

tells_aligned : (k : ℕ) (w : AllocPolicy) → 0 < k → Tells (Aligned k w) (is_aligned k w)
unfolding is_aligned
tells_aligned k FirstMatch h = passed tt
tells_aligned k LastMatch h = passed tt
tells_aligned k (ExactMatch at) h =
    tells_iff
    (λ (z : at % k ≡ 0). (at / k, omega (arith, div-add-mod' at k)))
    (λ (w : Multiple k at). rw w.1 (mul-mod_left w.0 k))
    (tells_eqb (at % k) 0)

-- ---- the tests of a row

-- a gap in front of a row: the addresses lie in it or in the row
open_gap : (top a size from to : ℕ) (row : List Tile) → 0 < size → past row top ≡ to → is_open top a size (gap from to ++ row) ≡ either (both (leb from a) (leb (a + size) to)) (is_open top a size row)
unfolding is_open gap past
open_gap top a size from to row s h = go (ltb from to) refl (leb from a) refl
  where
    go : (b : Bool) → ltb from to ≡ b → (c : Bool) → leb from a ≡ c → is_open top a size (cond b (free from ∷ []) [] ++ row) ≡ either (both c (leb (a + size) to)) (is_open top a size row)
    go true e c t = rw (h, t)
    go false e true t = rw (lt-leb (a + size) to (omega (arith, ltb-false from to e, leb-true from a t)))
    go false e false t = refl

-- the addresses from an allowed start lie in one gap that ranges in order leave
tells_inside : (size : ℕ) (Ok : ℕ → Type 0) (from to a : ℕ) → Ok a → Tells (Inside size Ok from to a) (both (leb from a) (leb (a + size) to))
tells_inside size Ok from to a k =
    tells_iff
    (λ (w : (from ≤ a) × (a + size ≤ to)). record { allowed = k; above = w.0; below = w.1 })
    (λ (i : Inside size Ok from to a). (i.above, i.below))
    (tells_both (tells_leb from a) (tells_leb (a + size) to))

tells_room : (size : ℕ) (Ok : ℕ → Type 0) (from top : ℕ) (rs : List RangeInclusive) (a : ℕ) → 0 < size → Ok a → Ordered from top rs → Tells (Room size Ok from top rs a) (is_open top a size (row_from from top rs))
unfolding Room row_from Ordered past is_open
tells_room size Ok from top [] a s k o =
    rw (← append-nil (gap from top), open_gap top a size from top [] s refl)
    (tells_iff (⊎_elim (λ (i : Inside size Ok from top a). i) absurd) inl (tells_either (tells_inside size Ok from top a k) (failed (λ (z : ⊥). z))))
tells_room size Ok from top (r ∷ rs) a s k o =
    rw (open_gap top a size from r.start (held r.start ∷ row_from (suc r.end) top rs) s refl)
    (tells_either (tells_inside size Ok from r.start a k) (tells_room size Ok (suc r.end) top rs a s k o.2))

-- the window fits where it is named
pub tells_fits : (σ : State) (size : ℕ) (Ok : ℕ → Type 0) (a : ℕ) → Sound σ → 0 < size → Ok a → Tells (Fits σ size Ok a) (is_open σ.top a size (row_of σ))
unfolding row_of
tells_fits σ size Ok a o s k = tells_iff (room_fits σ size a o) (fits_room σ size a o s) (tells_room size Ok σ.base σ.top σ.granted a s k o.ordered)

-- an address is free
tells_free : (σ : State) (a : ℕ) → Sound σ → Tells (Free σ a) (is_open σ.top a 1 (row_of σ))
tells_free σ a o =
    tells_iff
    (λ (f : Fits σ 1 (λ x. Unit {0}) a). f.free a (omega arith) (omega arith))
    (λ (f : Free σ a). record { allowed = tt; free = λ x h l. subst (Free σ) (omega arith) f })
    (tells_fits σ 1 (λ x. Unit {0}) a o (omega arith) tt)

tells_beyond : (w : AllocPolicy) (σ : State) (size : ℕ) → Sound σ → Tells (Beyond w σ size) (is_beyond w σ.top size (row_of σ))
unfolding Beyond is_beyond
tells_beyond FirstMatch σ size o = failed (λ (z : ⊥). z)
tells_beyond LastMatch σ size o = failed (λ (z : ⊥). z)
tells_beyond (ExactMatch at) σ size o = tells_both (tells_free σ at o) (tells_leb (suc M) (at + size - 1))

-- ---- the place

-- what a search for the place may answer
unfoldable pub Found : AllocPolicy → (ℕ → Type 0) → Option ℕ → Type 0
unfolding Chosen Nowhere
Found w P (some a) = Chosen w P a
Found w P none = Nowhere w P

found : (w : AllocPolicy) (σ : State) (size : ℕ) (R : Rule) → Sound σ → 0 < size → ((at : ℕ) → w ≡ ExactMatch at → R.Ok at) → Found w (Fits σ size R.Ok) (place w σ.top size R.least R.greatest (row_of σ))
unfolding Found place Answers Chosen Nowhere
found FirstMatch σ size R o s al = go (lowest σ.top size R.least (row_of σ)) (lowest_fits σ size R o s)
  where
    go : (x : Option ℕ) → Answers Least (Fits σ size R.Ok) x → Found FirstMatch (Fits σ size R.Ok) x
    go (some a) w = w
    go none w = w
found LastMatch σ size R o s al = go (highest σ.top size R.greatest (row_of σ)) (highest_fits σ size R o s)
  where
    go : (x : Option ℕ) → Answers Greatest (Fits σ size R.Ok) x → Found LastMatch (Fits σ size R.Ok) x
    go (some a) w = w
    go none w = w
found (ExactMatch at) σ size R o s al = tells_cond (Found (ExactMatch at) (Fits σ size R.Ok)) (some at) none (tells_fits σ size R.Ok at o s (al at refl)) (λ f. (refl, f)) (λ n. n)

-- a chosen place is one
pub chosen_place : (w : AllocPolicy) (P : ℕ → Type 0) (a : ℕ) → Chosen w P a → P a
unfolding Chosen Least Greatest
chosen_place FirstMatch P a c = c.0
chosen_place LastMatch P a c = c.0
chosen_place (ExactMatch at) P a c = c.1

-- ---- there is an answer: the one that is computed from the table

granted : (p : Pool) (q : Constraint) (x : Option ℕ) → Sound p.state → InOrder q → Found q.policy (Place p q) x → Allocates p q (grant p.state.top p.limit (row_of p.state) q x)
unfolding Found grant Allocates
granted p q (some a) o w f =
    tells_cond (Allocates p q) (Granted (window a q.size)) (Refused NoRoom)
    (tells_leb (length (cut p.state.top a q.size 1 (row_of p.state))) p.limit)
    (λ l. (w, a, f, rw row at l, refl))
    (λ n. (w, a, f, rw row at n))
  where
    row : cut p.state.top a q.size 1 (row_of p.state) ≡ row_of (granting p.state (window a q.size))
    row = cut_fits p.state q.size a o w.some (chosen_place q.policy (Place p q) a f)
granted p q none o w f =
    tells_cond (Allocates p q) (Refused Overflow) (Refused ResourceNotAvailable)
    (tells_beyond q.policy p.state q.size o)
    (λ b. (w, f, b))
    (λ n. (w, f, n))

pub allocates : (p : Pool) (q : Constraint) → Sound p.state → Allocates p q (allocate p.state.top p.limit (row_of p.state) q)
unfolding allocate Allocates
allocates p q o =
    tells_cond (Allocates p q) (Refused InvalidSize) _ (tells_eqb q.size 0) (λ z. z) λ n.
    let s : 0 < q.size = omega arith in
    tells_cond (Allocates p q) _ (Refused InvalidAlignment) (tells_power q.align) (λ k.
    tells_cond (Allocates p q) _ (Refused UnalignedAddress) (tells_aligned q.align q.policy (power_pos q.align k)) (λ l.
    let w : InOrder q = record { some = s; power = k; aligned = l } in
    granted p q _ o w (found q.policy p.state q.size (rule q w) o s (named q w)))
    (λ n'. (s, k, n')))
    (λ n'. (s, n'))

-- the tests of a give-back
tells_range : (r : RangeInclusive) → Tells (IsRange r.start r.end) (is_range r)
unfolding is_range
tells_range r = tells_both (tells_leb r.start r.end) (tells_leb (suc (r.end - r.start + 1)) (2 ^ 64))

tells_member : (r : RangeInclusive) (rs : List RangeInclusive) → Tells (Memᴰ r rs) (is_member r rs)
unfolding is_member
tells_member r [] = failed Memᴰ.not-nil
tells_member r (q ∷ rs) =
    tells_iff
    (⊎_elim (λ (e : (r.start ≡ q.start) × (r.end ≡ q.end)). Memᴰ.head (λ i. record { start = e.0 i; end = e.1 i })) (λ (m : Memᴰ r rs). Memᴰ.tail m))
    (λ (m : Memᴰ r (q ∷ rs)). ⊎_elim (λ (e : r ≡ q). inl (ap (λ (x : RangeInclusive). x.start) e, ap (λ (x : RangeInclusive). x.end) e)) inr (Memᴰ.cases_cons m))
    (tells_either (tells_both (tells_eqb r.start q.start) (tells_eqb r.end q.end)) (tells_member r rs))

tells_granted : (σ : State) (r : RangeInclusive) → Sound σ → Tells (Memᴰ r σ.granted) (is_member r (ranges σ.top (row_of σ)))
unfolding row_of
tells_granted σ r o = rw (ranges_row σ.base σ.top σ.granted o.ordered) (tells_member r σ.granted)

pub frees : (p : Pool) (r : RangeInclusive) → Sound p.state → Frees p r (release p.state.top (row_of p.state) r)
unfolding release Frees
frees p r o =
    tells_cond (Frees p r) _ (Refused InvalidRange) (tells_range r)
    (λ i. tells_cond (Frees p r) (Freed r) (Refused ResourceNotAvailable) (tells_granted p.state r o) (λ m. (i, m, refl)) (λ n. (i, n)))
    (λ n. n)

-- the theorem, for both
pub does : (p : Pool) (o : Operation) → Sound p.state → Does p o (answer p.state.top p.limit (row_of p.state) o)
unfolding Does answer
does p (Allocate q) s = allocates p q s
does p (Release r) s = frees p r s

-- ---- there is no other answer

-- a choice by a test whose fact is known
pub pick_yes : {A P : Type 0} {b : Bool} (x y : A) → Tells P b → P → cond b x y ≡ x
pick_yes x y (passed p) h = refl
pick_yes x y (failed n) h = absurd (n h)

pub pick_no : {A P : Type 0} {b : Bool} (x y : A) → Tells P b → (¬ P) → cond b x y ≡ y
pick_no x y (passed p) h = absurd (h p)
pick_no x y (failed n) h = refl

-- a policy chooses one place at most, and none where there is nowhere
chosen_unique : (w : AllocPolicy) (P : ℕ → Type 0) (a b : ℕ) → Chosen w P a → Chosen w P b → a ≡ b
unfolding Chosen
chosen_unique FirstMatch P a b c d = least_unique P a b c d
chosen_unique LastMatch P a b c d = greatest_unique P a b c d
chosen_unique (ExactMatch at) P a b c d = c.0 ∙ sym d.0

nowhere_chosen : (w : AllocPolicy) (P : ℕ → Type 0) (a : ℕ) → Nowhere w P → Chosen w P a → ⊥
unfolding Chosen Nowhere Least Greatest
nowhere_chosen FirstMatch P a n c = n a c.0
nowhere_chosen LastMatch P a n c = n a c.0
nowhere_chosen (ExactMatch at) P a n c = n (subst P c.0 c.1)

found_some : (w : AllocPolicy) (P : ℕ → Type 0) (x : Option ℕ) (a : ℕ) → Found w P x → Chosen w P a → x ≡ some a
unfolding Found
found_some w P (some b) a f c = ap some (chosen_unique w P b a f c)
found_some w P none a f c = absurd (nowhere_chosen w P a f c)

found_none : (w : AllocPolicy) (P : ℕ → Type 0) (x : Option ℕ) → Found w P x → Nowhere w P → x ≡ none
unfolding Found
found_none w P (some b) f n = absurd (nowhere_chosen w P b n f)
found_none w P none f n = refl

-- a request that is in order is answered by its place
module _ (p : Pool) (q : Constraint) (o : Sound p.state) (w : InOrder q) where
  place_found : Found q.policy (Place p q) (place q.policy p.state.top q.size (rule q w).least (rule q w).greatest (row_of p.state))
  place_found = found q.policy p.state q.size (rule q w) o w.some (named q w)

  allocate_place : allocate p.state.top p.limit (row_of p.state) q ≡ grant p.state.top p.limit (row_of p.state) q (place q.policy p.state.top q.size (rule q w).least (rule q w).greatest (row_of p.state))
  unfolding allocate
  allocate_place =
      pick_no _ _ (tells_eqb q.size 0) (λ z. omega (arith, w.some))
      ∙ pick_yes _ _ (tells_power q.align) w.power
      ∙ pick_yes _ _ (tells_aligned q.align q.policy (power_pos q.align w.power)) w.aligned

  allocate_some : (a : ℕ) → Chosen q.policy (Place p q) a → allocate p.state.top p.limit (row_of p.state) q ≡ grant p.state.top p.limit (row_of p.state) q (some a)
  allocate_some a c = allocate_place ∙ ap (grant p.state.top p.limit (row_of p.state) q) (found_some q.policy (Place p q) _ a place_found c)

  allocate_none : Nowhere q.policy (Place p q) → allocate p.state.top p.limit (row_of p.state) q ≡ grant p.state.top p.limit (row_of p.state) q none
  allocate_none n = allocate_place ∙ ap (grant p.state.top p.limit (row_of p.state) q) (found_none q.policy (Place p q) _ place_found n)

  place_row : (a : ℕ) → Chosen q.policy (Place p q) a → cut p.state.top a q.size 1 (row_of p.state) ≡ row_of (granting p.state (window a q.size))
  place_row a c = cut_fits p.state q.size a o w.some (chosen_place q.policy (Place p q) a c)

pub allocates_only : (p : Pool) (q : Constraint) (x : Answer) → Sound p.state → Allocates p q x → allocate p.state.top p.limit (row_of p.state) q ≡ x
unfolding allocate grant Allocates HasRoom
allocates_only p q (Refused InvalidSize) o d = pick_yes _ _ (tells_eqb q.size 0) d
allocates_only p q (Refused InvalidAlignment) o d = pick_no _ _ (tells_eqb q.size 0) (λ z. omega (arith, d.0)) ∙ pick_no _ _ (tells_power q.align) d.1
allocates_only p q (Refused UnalignedAddress) o d =
    pick_no _ _ (tells_eqb q.size 0) (λ z. omega (arith, d.0))
    ∙ pick_yes _ _ (tells_power q.align) d.1
    ∙ pick_no _ _ (tells_aligned q.align q.policy (power_pos q.align d.1)) d.2
allocates_only p q (Refused Overflow) o d = allocate_none p q o d.0 d.1 ∙ pick_yes _ _ (tells_beyond q.policy p.state q.size o) d.2
allocates_only p q (Refused ResourceNotAvailable) o d = allocate_none p q o d.0 d.1 ∙ pick_no _ _ (tells_beyond q.policy p.state q.size o) d.2
allocates_only p q (Refused NoRoom) o d =
    allocate_some p q o d.0 d.1 d.2
    ∙ pick_no _ _ (tells_leb (length (cut p.state.top d.1 q.size 1 (row_of p.state))) p.limit) (rw (place_row p q o d.0 d.1 d.2) d.3)
allocates_only p q (Granted r) o d =
    allocate_some p q o d.0 d.1 d.2
    ∙ pick_yes _ _ (tells_leb (length (cut p.state.top d.1 q.size 1 (row_of p.state))) p.limit) (rw (place_row p q o d.0 d.1 d.2) d.3)
    ∙ ap Granted (sym d.4)
allocates_only p q _ o d = absurd d

pub frees_only : (p : Pool) (r : RangeInclusive) (x : Answer) → Sound p.state → Frees p r x → release p.state.top (row_of p.state) r ≡ x
unfolding release Frees
frees_only p r (Refused InvalidRange) o d = pick_no _ _ (tells_range r) d
frees_only p r (Refused ResourceNotAvailable) o d = pick_yes _ _ (tells_range r) d.0 ∙ pick_no _ _ (tells_granted p.state r o) d.1
frees_only p r (Freed q) o d = pick_yes _ _ (tells_range r) d.0 ∙ pick_yes _ _ (tells_granted p.state r o) d.1 ∙ ap Freed (sym d.2)
frees_only p r _ o d = absurd d

-- the theorem: what is computed from the table is an answer, and each answer is that
pub does_only : (p : Pool) (o : Operation) (x : Answer) → Sound p.state → Does p o x → answer p.state.top p.limit (row_of p.state) o ≡ x
unfolding Does answer
does_only p (Allocate q) x s d = allocates_only p q x s d
does_only p (Release r) x s d = frees_only p r x s d

pub does_just : (p : Pool) (o : Operation) (x : Answer) → Sound p.state → Does p o x ↔ (x ≡ answer p.state.top p.limit (row_of p.state) o)
does_just p o x s = (λ d. sym (does_only p o x s d), λ e. subst (Does p o) (sym e) (does p o s))

-- so two answers are the same
pub does_unique : (p : Pool) (o : Operation) (x y : Answer) → Sound p.state → Does p o x → Does p o y → x ≡ y
does_unique p o x y s d d' = sym (does_only p o x s d) ∙ does_only p o y s d'
