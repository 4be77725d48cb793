-- `addresses::new` meets its contract: the refusals by the tests that led there, and the rest by what the table says.
use Rattle.std.proofs.Common.{◌≡◌, ℕ, ◌+◌, ◌-◌, Result, refl, subst, inl, arith, rules}
use Rattle.std.proofs.lemmas.Result.{err_from_is_err_and}
use Rattle.ranges.specs.declared.Error.{Error}
use Rattle.table.specs.declared.MakeError.{MakeError}
use Rattle.table.specs.Contract as table
use Rattle.addresses.specs.Operations.{Within, Makes}
use Rattle.addresses.specs.Contract.{Starts}
use Rattle.addresses.proofs.Passed.{told, some_or, none_or}
use Rattle.addresses.proofs.RequestLaws.{starts_done, starts_refused}
use Rattle.addresses.proofs.new.Goals as goal

pub returns-in_err-more : goal.returns-in_err-more
unfolding Starts Makes
returns-in_err-more c =
    let f = c in
    let k = none_or _ _ _ _ _ f.ok_or.result f.checked_sub.ensures f.ok_or.ensures.value f.in_err-more.was in
    let p = err_from_is_err_and f.from_residual.result f.from_residual.ensures.1 in
    rw (p.1, p.2, k.1) (refl, inl (omega (arith, k.0)))

pub returns-in_err-last : goal.returns-in_err-last
unfolding Starts Makes Within
returns-in_err-last c =
    let f = c in
    let s = some_or _ _ _ _ _ f.ok_or.result f.checked_sub.ensures f.ok_or.ensures.value f.in_ok-more.was in
    let k = none_or _ _ _ _ _ f.ok_or-2.result f.checked_add.ensures f.ok_or-2.ensures.value f.in_err-last.was in
    let p = err_from_is_err_and f.from_residual-in_err-last.result f.from_residual-in_err-last.ensures.1 in
    rw (p.1, p.2, k.1) (refl, inl (omega (arith, s.0), λ w. k.0 (omega (arith, s.0, s.1, w.1))))

pub returns : goal.returns
unfolding Within
returns c =
    let f = c in
    let s = some_or _ _ _ _ _ f.ok_or.result f.checked_sub.ensures f.ok_or.ensures.value f.in_ok-more.was in
    let k = some_or _ _ _ _ _ f.ok_or-2.result f.checked_add.ensures f.ok_or-2.ensures.value f.in_ok-last.was in
    let e : f.in_ok-last.last ≡ f.args.base + (f.args.size - 1) = rw (k.1, s.1) refl in
    told
    (λ (x : Result Unit MakeError). table.Makes f.args.mem.now f.args.base (f.args.base + (f.args.size - 1)) f.args.limit x f.make.new.mem)
    (λ (y : Result Unit Error). Starts f.args.mem.now f.args.base f.args.size f.args.limit y f.make.new.mem)
    (λ _. Error.NoRoom)
    (λ _. starts_done _ _ f.args.base f.args.size f.args.limit s.0 (omega (arith, s.0), omega (arith, s.0, s.1, k.0)))
    (starts_refused _ _ f.args.base f.args.size f.args.limit s.0 (omega (arith, s.0), omega (arith, s.0, s.1, k.0)))
    f.make.result f.map_err.result (search rules)
    (subst (λ (n : ℕ). table.Makes f.args.mem.now f.args.base n f.args.limit f.make.result f.make.new.mem) e f.make.ensures)
