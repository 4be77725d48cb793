-- What `header` says of a block, and `find` then of the free ids: what the proofs of the public functions share.
--     none_held, none_got    a block without a header holds no state
--     head_of, head_got      the header of a block that has one
--     head_low, head_high, head_next, head_last     a state that the block holds has the header's words
--     head_no_free           where no bit is zero, no id is free
-- Assumes nothing.
use Rattle.std.proofs.Common.{Option, Some, None, Result, Ok, Err}
use mathlib.Core.Path.{◌≡◌, ap, ap₂, ◌∙◌, subst}
use mathlib.Core.List.{List}
use Prim.Native.Nat.{ℕ, ◌-◌, ◌<◌}
use native.Mathlib.Omega.{arith}
use lib.ListN.{length}
use borrow.Rule.Slice.PartMut.{mid_of}
use Rattle.bits.specs.Bits.{Summed, Lowest}
use Rattle.std.specs.Result.{result_ok}
use Rattle.ranges.specs.declared.Error.{Error}
use Rattle.ids.specs.declared.Header.{Header}
use Rattle.ids.specs.State.{State, Free}
use Rattle.ids.specs.Layout.{HeadOf, Heads, Laid}
use Rattle.ids.proofs.States.{no_free, found}

pub none_held : (m : List ℕ) (r : Option Header) → r ≡ None → Heads m r → (s : State) → Laid m s → ⊥
none_held m r q b s h = subst (Heads m) q b h.long (rw (h.low, h.high) h.head)

pub head_of : (m : List ℕ) (r : Option Header) (h : Header) → r ≡ Some h → Heads m r → HeadOf m h
head_of m r h q b = subst (Heads m) q b

-- the same where the code passes its absence on as an error
pub none_got : (m : List ℕ) (r : Option Header) (x : Result Header Error) (e : Error) → r ≡ result_ok x → x ≡ Err e → Heads m r → (s : State) → Laid m s → ⊥
none_got m r x e p q = none_held m r (p ∙ ap result_ok q)

pub head_got : (m : List ℕ) (r : Option Header) (x : Result Header Error) (h : Header) → r ≡ result_ok x → x ≡ Ok h → Heads m r → HeadOf m h
head_got m r x h p q = head_of m r h (p ∙ ap result_ok q)

module _ (m : List ℕ) (h : Header) (d : HeadOf m h) where
  module _ (s : State) (l : Laid m s) where
    pub head_low : h.low ≡ s.low
    head_low = d.low ∙ l.low

    pub head_high : h.high ≡ s.high
    head_high = d.high ∙ l.high

    pub head_next : h.next ≡ s.next
    head_next = d.next ∙ l.next

    -- the last bit of a state that the block holds
    pub head_last : h.last ≡ s.high - s.low
    head_last = d.last ∙ ap₂ (λ (a b : ℕ). a - b) head_high head_low

    -- `find` finds no zero bit: every id is granted
    pub head_no_free : (i : ℕ)
        → ((e : ℕ) → Summed e (mid_of 4 (length m - 4) m) h.last → Lowest (mid_of 4 (length m - 4) m) h.last i)
        → h.last < i → (j : ℕ) → Free s j → ⊥
    head_no_free i f lt = no_free m s l i (found m s l h.last i head_last f) (omega (arith, head_last, lt))
