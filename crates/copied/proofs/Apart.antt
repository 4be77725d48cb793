-- Two blocks, the one a copy of the other: they answer alike, and neither feels what is done to the other. From public contracts alone.
--     apart          of calls on two blocks in any order, those on one get the answers that they would get with no other block there
--     untouched      so a block of which nothing is asked keeps its words, whatever is done to the other
--     copy_alike     a copy with the source's limit gives to the same calls the same answers, whatever is done to the other in between
-- Assumes nothing.
use Rattle.std.proofs.Common.{◌≡◌, ℕ, List, [], ◌∷◌, sym, refl, subst, Ok}
use Rattle.addresses.specs.declared.Answer.{Answer}
use Rattle.addresses.specs.Operations.{Pool}
use Rattle.addresses.specs.Runs.{Operation}
use Rattle.addresses.specs.Held.{Holds}
use Rattle.addresses.specs.Contract.{Calls}
use Rattle.addresses.proofs.CallLaws.{Alike, calls_alike}
use Rattle.copied.specs.Copy.{limited, Copies}
use Rattle.copied.specs.Two.{Event, One, Other, Happen, asked, answered, asked_other, answered_other}

pub apart : (m n m' n' : List ℕ) (es : List Event) → Happen m n es m' n' → Calls m (asked es) (answered es) m' × Calls n (asked_other es) (answered_other es) n'
unfolding Happen Calls asked answered asked_other answered_other
apart m n m' n' [] h = h
apart m n m' n' (One o x ∷ es) h = let w = apart h.0 n m' n' es h.2 in ((h.0, h.1, w.0), w.1)
apart m n m' n' (Other o x ∷ es) h = let w = apart m h.0 m' n' es h.2 in (w.0, (h.0, h.1, w.1))

-- calls on the one block alone leave the other word for word as it was
pub untouched : (m n m' n' : List ℕ) (es : List Event) → Happen m n es m' n' → asked es ≡ [] → m' ≡ m
unfolding Calls
untouched m n m' n' es h e = go (answered es) (subst (λ (os : List Operation). Calls m os (answered es) m') e (apart m n m' n' es h).0)
  where
    go : (xs : List Answer) → Calls m [] xs m' → m' ≡ m
    go [] c = c
    go (x ∷ xs) c = absurd c

pub untouched_other : (m n m' n' : List ℕ) (es : List Event) → Happen m n es m' n' → asked_other es ≡ [] → n' ≡ n
unfolding Calls
untouched_other m n m' n' es h e = go (answered_other es) (subst (λ (os : List Operation). Calls n os (answered_other es) n') e (apart m n m' n' es h).1)
  where
    go : (xs : List Answer) → Calls n [] xs n' → n' ≡ n
    go [] c = c
    go (x ∷ xs) c = absurd c

pub copy_alike : (m n k m' k' : List ℕ) (p : Pool) (es : List Event) → Holds m p → Copies m p.limit (Ok tt) n k → Happen m k es m' k' → asked es ≡ asked_other es → answered es ≡ answered_other es
unfolding Copies
copy_alike m n k m' k' p es h c w e =
    let a = apart m k m' k' es w in
    let held : Holds k (limited p p.limit) = (c.1 p h).1 in
    let same : Alike p (limited p p.limit) = record { base = refl; top = refl; limit = refl; granted = λ r. (λ i. i, λ i. i) } in
    calls_alike m k m' k' p (limited p p.limit) (asked es) (answered es) (answered_other es) h held same a.0
    (subst (λ (os : List Operation). Calls k os (answered_other es) k') (sym e) a.1)
