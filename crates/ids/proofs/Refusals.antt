-- Refusals that change nothing: a block that holds no state at all.
-- Assumes nothing.
use Rattle.std.proofs.Common.{Option, None, Err}
use mathlib.Core.Path.{◌≡◌, refl}
use mathlib.Core.List.{List}
use Prim.Native.Nat.{ℕ}
use Rattle.ranges.specs.declared.Error.{Error}
use Rattle.ids.specs.declared.Header.{Header}
use Rattle.ids.specs.State.{State}
use Rattle.ids.specs.Runs.{Operation}
use Rattle.ids.specs.Layout.{Heads, Laid, Holds}
use Rattle.ids.specs.Contract.{Performs}
use Rattle.ids.proofs.LastBits.{none_held}

-- a block that holds no state may refuse anything for any reason
pub no_state : {m : List ℕ} {o : Operation} {e : Error} → ((s : State) → Laid m s → ⊥) → Performs m o (Err e) m
unfolding Holds
no_state f = record { kept = refl; right = λ s h. absurd (f s h) }

-- so a block without a header may
pub no_header : {m : List ℕ} {o : Operation} {e : Error} (r : Option Header) → r ≡ None → Heads m r → Performs m o (Err e) m
no_header {m} r q b = no_state (none_held m r q b)
