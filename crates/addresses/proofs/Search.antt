-- The two searches find the right address, by any rule of places: `lowest` the least at which a window fits, and `highest` the greatest.
-- Each answers for one gap, and `or` joins the answers of a gap and of what follows it. Assumes nothing.
use Rattle.std.proofs.Common.{◌≡◌, ℕ, suc, ◌+◌, ◌-◌, ◌<◌, ◌≤◌, Bool, true, false, cond, ltb, leb, ◌⊎◌, List, [], ◌∷◌, ◌++◌, refl, ◌∙◌, inl, inr, ⊎_elim, append-nil, arith, ltb-false, leb-false, leb-true}
use mathlib.Core.Logic.{⊎_swap}
use mathlib.Core.Option.{Option, none, some}
use borrow.Author.Tests.{lt-leb}
use Rattle.table.specs.Row.{Tile, past, or, lowest, at_least, highest_in, highest}
use Rattle.addresses.proofs.Places.{Answers}
use Rattle.ranges.specs.declared.RangeInclusive.{RangeInclusive}
use Rattle.addresses.specs.Meaning.{State, Fits, Least, Greatest, Ordered, Sound, gap, row_from, row_of}
use Rattle.addresses.proofs.Places.{Rule}
use Rattle.addresses.proofs.Room.{Inside, Room, room_within, fits_room, room_fits}

-- ---- answers, for the least and the greatest at once

-- a is the number that has P and stands in the order R before each other: `Least` and `Greatest` unfold to it
Best : (ℕ → ℕ → Type 0) → (ℕ → Type 0) → ℕ → Type 0
Best R P a = P a × ((b : ℕ) → P b → R a b)

-- the answer for P is one for Q, where P and Q are the same
answers_iff : (R : ℕ → ℕ → Type 0) (P Q : ℕ → Type 0) (o : Option ℕ) → ((a : ℕ) → P a → Q a) → ((a : ℕ) → Q a → P a) → Answers (Best R) P o → Answers (Best R) Q o
unfolding Answers Best
answers_iff R P Q none f g h = λ a q. h a (g a q)
answers_iff R P Q (some a) f g h = (f a h.0, λ b q. h.1 b (g b q))

-- what has P stands before what has Q: the answer for both is P's or else Q's
or_best : (R : ℕ → ℕ → Type 0) (P Q : ℕ → Type 0) (o o' : Option ℕ) → ((a b : ℕ) → P a → Q b → R a b) → Answers (Best R) P o → Answers (Best R) Q o' → Answers (Best R) (λ a. P a ⊎ Q a) (or o o')
unfolding Answers Best or
or_best R P Q (some a) o' before h h' = (inl h.0, λ b. ⊎_elim (h.1 b) (before a b h.0))
or_best R P Q none (some a) before h h' = (inr h'.0, λ b. ⊎_elim (λ (p : P b). absurd (h b p)) (h'.1 b))
or_best R P Q none none before h h' = λ b. ⊎_elim (h b) (h' b)

-- ---- one gap

-- the lowest place in the gap between `from` and `to`
lowest_in : ℕ → (ℕ → ℕ) → ℕ → ℕ → Option ℕ
lowest_in size least from to = cond (leb (least from + size) to) (some (least from)) none

-- it is the least place inside the gap, and `highest_in` the greatest
least_inside : (size : ℕ) (R : Rule) (from to : ℕ) → Answers Least (Inside size R.Ok from to) (lowest_in size R.least from to)
unfolding Answers Least lowest_in
least_inside size R from to = go (leb (R.least from + size) to) refl (R.least_right from)
  where
    go : (b : Bool) → leb (R.least from + size) to ≡ b → Least (λ a. R.Ok a × (from ≤ a)) (R.least from) → Answers Least (Inside size R.Ok from to) (cond b (some (R.least from)) none)
    go true e w = (record { allowed = w.0.0; above = w.0.1; below = leb-true (R.least from + size) to e }, λ b i. w.1 b (i.allowed, i.above))
    go false e w = λ a i. omega (arith, leb-false (R.least from + size) to e, w.1 a (i.allowed, i.above))

greatest_inside : (size : ℕ) (R : Rule) (from to : ℕ) → Answers Greatest (Inside size R.Ok from to) (highest_in size R.greatest from to)
unfolding Answers Greatest highest_in at_least
greatest_inside size R from to = go (leb (from + size) to) refl (R.greatest (to - size)) (R.greatest_right (to - size))
  where
    there : (c : ℕ) (b : Bool) → from + size ≤ to → leb from c ≡ b → Greatest (λ a. R.Ok a × (a ≤ to - size)) c → Answers Greatest (Inside size R.Ok from to) (cond b (some c) none)
    there c true l e w = (record { allowed = w.0.0; above = leb-true from c e; below = omega (arith, w.0.1) }, λ b i. w.1 b (i.allowed, omega arith))
    there c false l e w = λ a i. omega (arith, leb-false from c e, w.1 a (i.allowed, omega arith))

    go : (b : Bool) → leb (from + size) to ≡ b → (o : Option ℕ) → Answers Greatest (λ a. R.Ok a × (a ≤ to - size)) o → Answers Greatest (Inside size R.Ok from to) (cond b (at_least from o) none)
    go true e (some c) w = there c (leb from c) (leb-true (from + size) to e) refl w
    go true e none w = λ a i. w a (i.allowed, omega arith)
    go false e o w = λ a i. omega (arith, leb-false (from + size) to e)

-- ---- the whole row

-- a gap in front of a row: the search looks there first, or there last
lowest_gap : (top size : ℕ) (R : Rule) (from to : ℕ) (row : List Tile) → 0 < size → past row top ≡ to → lowest top size R.least (gap from to ++ row) ≡ or (lowest_in size R.least from to) (lowest top size R.least row)
unfolding lowest gap or lowest_in past Least
lowest_gap top size R from to row s h = go (ltb from to) refl
  where
    pick : (b : Bool) (o : Option ℕ) (a : ℕ) → cond b (some a) o ≡ or (cond b (some a) none) o
    pick true o a = refl
    pick false o a = refl

    go : (b : Bool) → ltb from to ≡ b → lowest top size R.least (cond b (record { start = from; tag = 0 } ∷ []) [] ++ row) ≡ or (cond (leb (R.least from + size) to) (some (R.least from)) none) (lowest top size R.least row)
    go true e = rw h (pick (leb (R.least from + size) to) (lowest top size R.least row) (R.least from))
    go false e = rw (lt-leb (R.least from + size) to (omega (arith, ltb-false from to e, (R.least_right from).0.1)))

-- nothing behind an answer changes it
or_none : (o : Option ℕ) → or o none ≡ o
unfolding or
or_none none = refl
or_none (some a) = refl

highest_gap : (top size : ℕ) (greatest : ℕ → Option ℕ) (from to : ℕ) (row : List Tile) → 0 < size → past row top ≡ to → highest top size greatest (gap from to ++ row) ≡ or (highest top size greatest row) (highest_in size greatest from to)
unfolding highest gap past
highest_gap top size greatest from to row s h = go (ltb from to) refl
  where
    go : (b : Bool) → ltb from to ≡ b → highest top size greatest (cond b (record { start = from; tag = 0 } ∷ []) [] ++ row) ≡ or (highest top size greatest row) (highest_in size greatest from to)
    go true e = rw h
    go false e =
        let n : highest_in size greatest from to ≡ none = rw (lt-leb (from + size) to (omega (arith, ltb-false from to e)), highest_in) in
        rw (n, or_none)

-- a gap that is the whole row
lowest_last : (top size : ℕ) (R : Rule) (from : ℕ) → 0 < size → lowest top size R.least (gap from top) ≡ lowest_in size R.least from top
unfolding past lowest
lowest_last top size R from s = rw append-nil at (lowest_gap top size R from top [] s refl) ∙ or_none (lowest_in size R.least from top)

highest_last : (top size : ℕ) (greatest : ℕ → Option ℕ) (from : ℕ) → 0 < size → highest top size greatest (gap from top) ≡ highest_in size greatest from top
unfolding past highest or
highest_last top size greatest from s = rw append-nil at (highest_gap top size greatest from top [] s refl)

-- the searches answer for the gaps that any ranges in order leave
room_least : (size : ℕ) (R : Rule) (from top : ℕ) (rs : List RangeInclusive) → 0 < size → Ordered from top rs → Answers Least (Room size R.Ok from top rs) (lowest top size R.least (row_from from top rs))
unfolding row_from Room Ordered past lowest Least Best
room_least size R from top [] s o = rw (lowest_last top size R from s) (least_inside size R from top)
room_least size R from top (r ∷ rs) s o =
    let g : Tile = record { start = r.start; tag = 1 } in
    rw (lowest_gap top size R from r.start (g ∷ row_from (suc r.end) top rs) s refl)
    (or_best ◌≤◌ (Inside size R.Ok from r.start) (Room size R.Ok (suc r.end) top rs) (lowest_in size R.least from r.start) (lowest top size R.least (row_from (suc r.end) top rs))
    (λ a b i w. omega (arith, room_within size R.Ok (suc r.end) top rs b o.2 w))
    (least_inside size R from r.start)
    (room_least size R (suc r.end) top rs s o.2))

room_greatest : (size : ℕ) (R : Rule) (from top : ℕ) (rs : List RangeInclusive) → 0 < size → Ordered from top rs → Answers Greatest (Room size R.Ok from top rs) (highest top size R.greatest (row_from from top rs))
unfolding row_from Room Ordered past highest Greatest Best
room_greatest size R from top [] s o = rw (highest_last top size R.greatest from s) (greatest_inside size R from top)
room_greatest size R from top (r ∷ rs) s o =
    let g : Tile = record { start = r.start; tag = 1 } in
    let here : ℕ → Type 0 = Inside size R.Ok from r.start in
    let there : ℕ → Type 0 = Room size R.Ok (suc r.end) top rs in
    let next : Option ℕ = highest top size R.greatest (row_from (suc r.end) top rs) in
    rw (highest_gap top size R.greatest from r.start (g ∷ row_from (suc r.end) top rs) s refl, or_none next)
    (answers_iff (λ a b. b ≤ a) (λ a. there a ⊎ here a) (λ a. here a ⊎ there a) (or next (highest_in size R.greatest from r.start)) (λ a. ⊎_swap) (λ a. ⊎_swap)
    (or_best (λ a b. b ≤ a) there here next (highest_in size R.greatest from r.start)
    (λ a b w i. omega (arith, room_within size R.Ok (suc r.end) top rs a o.2 w))
    (room_greatest size R (suc r.end) top rs s o.2)
    (greatest_inside size R from r.start)))

-- ---- the theorems

-- the search from below answers the least address at which a window fits, or nothing where none fits
pub lowest_fits : (σ : State) (size : ℕ) (R : Rule) → Sound σ → 0 < size → Answers Least (Fits σ size R.Ok) (lowest σ.top size R.least (row_of σ))
unfolding row_of Least Best
lowest_fits σ size R o s =
    answers_iff ◌≤◌ (Room size R.Ok σ.base σ.top σ.granted) (Fits σ size R.Ok) (lowest σ.top size R.least (row_of σ))
    (λ a. room_fits σ size a o) (λ a. fits_room σ size a o s)
    (room_least size R σ.base σ.top σ.granted s o.ordered)

-- and the search from above the greatest
pub highest_fits : (σ : State) (size : ℕ) (R : Rule) → Sound σ → 0 < size → Answers Greatest (Fits σ size R.Ok) (highest σ.top size R.greatest (row_of σ))
unfolding row_of Greatest Best
highest_fits σ size R o s =
    answers_iff (λ a b. b ≤ a) (Room size R.Ok σ.base σ.top σ.granted) (Fits σ size R.Ok) (highest σ.top size R.greatest (row_of σ))
    (λ a. room_fits σ size a o) (λ a. fits_room σ size a o s)
    (room_greatest size R σ.base σ.top σ.granted s o.ordered)

-- the same by what the search gave
pub lowest_some : (σ : State) (size : ℕ) (R : Rule) (a : ℕ) → Sound σ → 0 < size → lowest σ.top size R.least (row_of σ) ≡ some a → Least (Fits σ size R.Ok) a
unfolding Answers
lowest_some σ size R a o s e = rw e at (lowest_fits σ size R o s)

pub lowest_none : (σ : State) (size : ℕ) (R : Rule) → Sound σ → 0 < size → lowest σ.top size R.least (row_of σ) ≡ none → (a : ℕ) → Fits σ size R.Ok a → ⊥
unfolding Answers
lowest_none σ size R o s e = rw e at (lowest_fits σ size R o s)

pub highest_some : (σ : State) (size : ℕ) (R : Rule) (a : ℕ) → Sound σ → 0 < size → highest σ.top size R.greatest (row_of σ) ≡ some a → Greatest (Fits σ size R.Ok) a
unfolding Answers
highest_some σ size R a o s e = rw e at (highest_fits σ size R o s)

pub highest_none : (σ : State) (size : ℕ) (R : Rule) → Sound σ → 0 < size → highest σ.top size R.greatest (row_of σ) ≡ none → (a : ℕ) → Fits σ size R.Ok a → ⊥
unfolding Answers
highest_none σ size R o s e = rw e at (highest_fits σ size R o s)
