-- `loaded_ids::examine` meets its contract: each test is a field of `Sensible`.
use Rattle.std.proofs.Common.{refl, inl, inr, arith}
use Rattle.loaded_ids.specs.Misfits.{Misfit}
use Rattle.loaded_ids.proofs.LoadLaws.{wrong_at, tests_both}
use Rattle.octets.specs.Octets.{word}
use Rattle.loaded_ids.specs.Steps.{AllGood}
use Rattle.loaded_ids.proofs.examine.Goals as goal
use Rattle.loaded_ids.proofs.examine.Goals.{then-high-low-via-then-high-low, then-high-low-via-else-high-low+then-high-gt4294967295, then-next-low-via-then-next-low, then-next-low-via-else-next-low+then-high-next}

pub returns-then-high-low : goal.returns-then-high-low
unfolding Misfit
returns-then-high-low c =
    let f = c.requires in
    let a = c.at.ensures in
    wrong_at _ _ _ _ _ a.flaw a.place (elim c.then-high-low.branch [
      | then-high-low-via-then-high-low w ↦ (λ s. omega (arith, s.order), inl (refl, inl (omega (arith, f.first, f.second))))
      | then-high-low-via-else-high-low+then-high-gt4294967295 w ↦ (λ s. omega (arith, s.small), inl (refl, inr (omega (arith, f.second))))
    ])

pub returns-then-next-low : goal.returns-then-next-low
unfolding Misfit
returns-then-next-low c =
    let f = c.requires in
    let a = c.at-then-next-low.ensures in
    wrong_at _ _ _ _ _ a.flaw a.place (elim c.then-next-low.branch [
      | then-next-low-via-then-next-low w ↦ (λ s. omega (arith, s.from), inr (refl, inl (omega (arith, f.first, f.third))))
      | then-next-low-via-else-next-low+then-high-next w ↦ (λ s. omega (arith, s.to), inr (refl, inr (omega (arith, f.second, f.third))))
    ])

pub returns : goal.returns
returns c =
    let a = c.args.opened in
    tests_both _ _ (AllGood (word c.args.bs.now) a.first a.third a.words) _ (λ g. record { order = omega arith; small = omega arith; from = omega arith; to = omega arith; ids = g }) (λ s. s.ids) c.all_freed.ensures
