-- How the steps of `load` end, from the contracts of what is called. Assumes nothing.
--     wrong_at, tests_fine, wrong_one          what a test's answer says
--     wrong_frame, wrong_words      the two refusals of the bytes
--     remade_short, remade          the block is too short; it holds the pool
use Rattle.std.proofs.Common.{◌≡◌, ℕ, ◌+◌, ◌-◌, ◌*◌, ◌/◌, ◌^◌, ◌<◌, List, [], refl, subst, inl, inr, ⊎_elim, true, false, Result, Ok, Err, is_err, arith}
use Rattle.octets.specs.Octets.{word}
use Rattle.frame.specs.declared.Flaw.{Flaw}
use Rattle.frame.specs.declared.Fault.{Fault}
use Rattle.frame.specs.declared.LoadError.TheVariants as load
use Rattle.frame.specs.Frame.{Frame, Opens}
use Rattle.frame.proofs.FrameLaws.{flawed_none}
use Rattle.ranges.specs.declared.Error.{Error}
use Rattle.ranges.specs.declared.Error.TheVariants.{Overflow, OutOfRange, AlreadyReleased, NeverAllocated, ResourceNotAvailable, InvalidRange, InvalidAlignment, UnalignedAddress, Underflow, InvalidSize, NoRoom, InvalidPolicy, NoState}
use Rattle.addresses.specs.Operations.{Pool, Makes, Within, Lendable}
use Rattle.addresses.specs.Held.{Holds}
use Rattle.addresses.specs.Contract.{Starts}
use Rattle.saved.specs.Format.{kind, size}
use Rattle.loaded.specs.Misfits.{Misfit}
use Rattle.loaded.specs.Contract.{Begins, Loads}
use Rattle.loaded.specs.Steps.{Good, AllGood, Sensible, Tests, Fills, empty}
use Rattle.loaded.proofs.RowLaws.{pool_at, sensible_pool, pool_sensible}

-- a fault, by its parts
pub wrong_at : (w : ℕ → ℕ) (r : Fault) (P : Type 0) (f : Flaw) (at : ℕ) → r.flaw ≡ f → r.place ≡ at → (P → ⊥) × Misfit w f at → Tests w (Err r) P
unfolding Tests
wrong_at w r P f at p q t = (t.0, rw (p, q) t.1)

pub tests_fine : (w : ℕ → ℕ) (P : Type 0) → Tests w (Ok tt) P → P
unfolding Tests
tests_fine w P t = t

-- one that is not stands among all
pub wrong_one : (w : ℕ → ℕ) (last n i : ℕ) (f : Fault) → i < n → Tests w (Err f) (Good w last (7 + 2 * i) (n - i - 1)) → Tests w (Err f) (AllGood w last 7 n)
unfolding Tests
wrong_one w last n i f l t = (λ g. t.0 (g i (n - i - 1) (omega arith)), t.1)

pub wrong_frame : (bs m : List ℕ) (f : Fault) → Opens bs kind (Err f) → Loads bs m (Err (load.Bad f)) m
unfolding Opens Loads
wrong_frame bs m f n = (refl, inl n, λ p v g. flawed_none bs kind f.flaw f.place _ _ _ _ n g.frame)

pub wrong_words : (bs m : List ℕ) (base last limit words : ℕ) (f : Fault) → Frame kind base last limit words bs → Tests (word bs) (Err f) (Sensible (word bs) base last limit words) → Loads bs m (Err (load.Bad f)) m
unfolding Tests Loads
wrong_words bs m base last limit words f r n = (refl, inr n.1, λ p v g. n.0 (pool_sensible bs base last limit words p r v g))

-- a pool of sensible numbers is made, if the block is long enough
not_unfit : (base size limit : ℕ) (e : Error) → Makes base size limit (Ok tt) → Makes base size limit (Err e) → ⊥
unfolding Makes
not_unfit base size limit Underflow r u = omega (arith, r.0, u)
not_unfit base size limit Overflow r u = u.1 r.1
not_unfit base size limit NoRoom r u = u.2 r.2
not_unfit base size limit OutOfRange r u = u
not_unfit base size limit AlreadyReleased r u = u
not_unfit base size limit NeverAllocated r u = u
not_unfit base size limit ResourceNotAvailable r u = u
not_unfit base size limit InvalidRange r u = u
not_unfit base size limit InvalidAlignment r u = u
not_unfit base size limit UnalignedAddress r u = u
not_unfit base size limit InvalidSize r u = u
not_unfit base size limit InvalidPolicy r u = u
not_unfit base size limit NoState r u = u

module _ (bs m : List ℕ) (base last limit words : ℕ) (below : last < 2 ^ 64) (f : Frame kind base last limit words bs) (s : Sensible (word bs) base last limit words) where
  makes : Makes base (last - base + 1) limit (Ok tt)
  unfolding Makes Within Lendable
  makes = (omega arith, (omega (arith, s.within), omega (arith, s.order)), (omega (arith, s.some, s.room), s.most))

  begins : Begins bs (64 + 8 * words) (pool_at (word bs) base last limit s.count)
  begins = sensible_pool bs base last limit words below f s

  pub remade_short : (m' : List ℕ) (x : Result (Unit {0}) Error) → Starts m base (last - base + 1) limit x m' → true ≡ is_err x → Loads bs m (Err load.NoRoom) m'
  unfolding Starts Loads
  remade_short m' (Ok _) w b = absurd (cc)
  remade_short m' (Err e) w b = (w.0, pool_at (word bs) base last limit s.count, record { message = begins.message; valid = begins.valid; taken = refl }, ⊎_elim (λ u. absurd (not_unfit base (last - base + 1) limit e makes u)) (λ u. u.2) w.1)

  pub remade : (m' n : List ℕ) (x : Result (Unit {0}) Error) → Starts m base (last - base + 1) limit x m' → false ≡ is_err x → Fills (word bs) last (words / 2) m' n → Loads bs m (Ok (64 + 8 * words)) n
  unfolding Starts Loads
  remade m' n (Err e) w b fills = absurd (cc)
  remade m' n (Ok _) w b fills =
      let p : Pool = pool_at (word bs) base last limit s.count in
      let top : base + (last - base + 1) ≡ last + 1 = omega (arith, s.order) in
      let held : Holds m' (empty p) = subst (λ (y : ℕ). Holds m' (record { state = record { base = base; top = y; granted = [] }; limit = limit })) top w.1 in
      (p, begins, fills p begins.valid begins.message.row (omega (arith, begins.taken)) refl held)
