-- What a caller of the id allocator's names learns from a number alone, of a block that holds a state.
--     id_zero, id_freed_zero           0: what was asked for is done, and the block holds the state after it
--     id_refused, id_free_refused      a reason's number: it is that reason, and block and out-parameter are as they were
-- Assumes nothing.
use Rattle.std.proofs.Common.{Result, Ok, Err}
use Prim.Native.Nat.{ℕ}
use mathlib.Core.Path.{◌≡◌, sym, ◌∙◌, ap, subst}
use mathlib.Core.List.{List}
use native.Mathlib.Omega.{arith}
use Rattle.ranges.specs.declared.Error.{Error}
use Rattle.ranges.specs.Reasons.{number_of}
use Rattle.ranges.proofs.ReasonLaws.{number_one, number_some}
use Rattle.ids.specs.State.{State}
use Rattle.ids.specs.Runs.{Allocate, Release, Does, after}
use Rattle.ids.specs.Held.{Holds}
use Rattle.ids.specs.Contract.{Performs}
use Rattle.rangekeeper_ids.specs.Id as id

-- an answer that is refused has the number of its reason
refused_of : (x : Result ℕ Error) (e : Error) → number_of e ≡ id.answer_number x → x ≡ Err e
refused_of (Ok i) e q = absurd (omega (arith, q, number_some e))
refused_of (Err d) e q = ap Err (number_one d e (sym q))

-- a request that is answered 0 is granted the id that the out-parameter holds
id_answer : (old i : ℕ) (x : Result ℕ Error) → 0 ≡ id.answer_number x → i ≡ id.id_or old x → x ≡ Ok i
id_answer old i (Ok j) z s = ap Ok (sym s)
id_answer old i (Err e) z s = absurd (omega (arith, z, number_some e))

pub id_zero : (m m' : List ℕ) (old i : ℕ) (s : State) → id.Allocates m old 0 m' i → Holds m s → Does s Allocate (Ok i) × Holds m' (after s Allocate (Ok i))
id_zero m m' old i s a h =
    let w = a.done.right s h in
    let e = id_answer old i a.answer a.number a.out in
    (subst (Does s Allocate) e w.0, subst (λ (x : Result ℕ Error). Holds m' (after s Allocate x)) e w.1)

pub id_refused : (m m' : List ℕ) (old i : ℕ) (e : Error) → id.Allocates m old (number_of e) m' i → (m' ≡ m) × (i ≡ old) × ((s : State) → Holds m s → Does s Allocate (Err e))
id_refused m m' old i e a =
    let q = refused_of a.answer e a.number in
    let w : Performs m Allocate (Err e) m' = subst (λ (x : Result ℕ Error). Performs m Allocate x m') q a.done in
    (w.kept, a.out ∙ ap (id.id_or old) q, λ s h. (w.right s h).0)

-- a give-back that is answered 0 freed that id
freed_answer : (s : State) (i : ℕ) (x : Result ℕ Error) → 0 ≡ id.answer_number x → Does s (Release i) x → x ≡ Ok i
freed_answer s i (Ok j) z d = ap Ok d.0
freed_answer s i (Err e) z d = absurd (omega (arith, z, number_some e))

pub id_freed_zero : (m m' : List ℕ) (i : ℕ) (s : State) → id.Frees m i 0 m' → Holds m s → Does s (Release i) (Ok i) × Holds m' (after s (Release i) (Ok i))
id_freed_zero m m' i s f h =
    let w = f.done.right s h in
    let e = freed_answer s i f.answer f.number w.0 in
    (subst (Does s (Release i)) e w.0, subst (λ (x : Result ℕ Error). Holds m' (after s (Release i) x)) e w.1)

pub id_free_refused : (m m' : List ℕ) (i : ℕ) (e : Error) → id.Frees m i (number_of e) m' → (m' ≡ m) × ((s : State) → Holds m s → Does s (Release i) (Err e))
id_free_refused m m' i e f =
    let q = refused_of f.answer e f.number in
    let w : Performs m (Release i) (Err e) m' = subst (λ (x : Result ℕ Error). Performs m (Release i) x m') q f.done in
    (w.kept, λ s h. (w.right s h).0)
