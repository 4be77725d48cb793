-- A worked run of the definition: three ids, every kind of answer but "overflow"; and that, on the last two ids of all.
use Rattle.std.specs.Prelude.{◌≡◌, refl, true, [], ◌∷◌, ℕ, suc, ◌≤◌, ◌<◌, Ok, Err}
use Rattle.std.proofs.Common.{ap, inl, inr, arith, lt_of_not-le}
use Rattle.ranges.specs.declared.Error.{Error}
use Rattle.ids.specs.State.{State, Free, fresh, grant, release}
use Rattle.ids.specs.Runs.{event, Runs}
use Rattle.ids.specs.Runs.Operation.{Allocate, Release}

-- a free id is none that is granted
other : (s : State) (i j : ℕ) → s.granted i ≡ true → Free s j → j ≡ i → ⊥
other s i j g f e = let z : ◌≡◌ {A = ℕ} 0 1 = cc (g, f.1, ap s.granted e) in omega arith

-- from i on, and not i: past i
past : (i j : ℕ) → i ≤ j → (j ≡ i → ⊥) → suc i ≤ j
past i j h n = let l : i < j = lt_of_not-le (λ (k : j ≤ i). n (omega arith)) in omega arith

-- the ids 5 to 7
small : (t : State) × Runs (fresh 5 7)
    (event Allocate (Ok 5) ∷ event Allocate (Ok 6) ∷ event (Release 5) (Ok 5) ∷ event (Release 5) (Err Error.AlreadyReleased)
    ∷ event (Release 7) (Err Error.NeverAllocated) ∷ event (Release 8) (Err Error.OutOfRange) ∷ event Allocate (Ok 5)
    ∷ event Allocate (Ok 7) ∷ event Allocate (Err Error.ResourceNotAvailable) ∷ []) t
unfolding Runs
small =
    let s0 = fresh 5 7 in
    let s1 = grant s0 5 in
    let s2 = grant s1 6 in
    let s3 = release s2 5 in
    let s4 = grant s3 5 in
    let s5 = grant s4 7 in (
      s5,
      (
        (((omega arith, omega arith), refl), λ j f. f.0.0),
        (
          (((omega arith, omega arith), refl), λ j f. past 5 j f.0.0 (other s1 5 j refl f)),
          (
            (refl, (omega arith, omega arith), omega arith, refl),
            (
              (inr (inr (refl, (omega arith, omega arith), omega arith, refl))),
              (
                (inr (inl (refl, (omega arith, omega arith), omega arith))),
                (
                  (inl (refl, λ w. omega (arith, w.1))),
                  (
                    (((omega arith, omega arith), refl), λ j f. f.0.0),
                    (
                      (((omega arith, omega arith), refl), λ j f. past 6 j (past 5 j f.0.0 (other s4 5 j refl f)) (other s4 6 j refl f)),
                      (
                        ((λ j f. let k = past 7 j (past 6 j (past 5 j f.0.0 (other s5 5 j refl f)) (other s5 6 j refl f)) (other s5 7 j refl f) in omega (arith, f.0.1)), refl),
                        refl,
                      ),
                    ),
                  ),
                ),
              ),
            ),
          ),
        ),
      ),
    )

-- the last two of the 32-bit numbers
last : (t : State) × Runs (fresh 0xffff_fffe 0xffff_ffff)
    (event Allocate (Ok 0xffff_fffe) ∷ event Allocate (Ok 0xffff_ffff) ∷ event Allocate (Err Error.Overflow) ∷ []) t
unfolding Runs
last =
    let s1 = grant (fresh 0xffff_fffe 0xffff_ffff) 0xffff_fffe in
    let s2 = grant s1 0xffff_ffff in (
      s2,
      (
        (((omega arith, omega arith), refl), λ j f. f.0.0),
        (
          (((omega arith, omega arith), refl), λ j f. past 0xffff_fffe j f.0.0 (other s1 0xffff_fffe j refl f)),
          (
            ((λ j f. let k = past 0xffff_ffff j (past 0xffff_fffe j f.0.0 (other s2 0xffff_fffe j refl f)) (other s2 0xffff_ffff j refl f) in omega (arith, f.0.1)), refl),
            refl,
          ),
        ),
      ),
    )
