-- `both::two` meets its contract: each of its three answers from what the pools answer.
use Rattle.std.proofs.Common.{Result, Err}
use Rattle.std.proofs.lemmas.Result.{err_from_is_err_and}
use Rattle.ranges.specs.declared.Error.{Error}
use Rattle.ranges.specs.declared.RangeInclusive.{RangeInclusive}
use Rattle.addresses.proofs.Passed.{told_ok, told_err}
use Rattle.both.specs.declared.PairError.{PairError}
use Rattle.both.specs.declared.PairError.TheVariants.{First}
use Rattle.both.specs.Both.{Asks, Pairs}
use Rattle.both.proofs.BothLaws.{pair_one, pair_both, pair_two}
use Rattle.both.proofs.two.Goals as goal

pub returns-in_err-r : goal.returns-in_err-r
returns-in_err-r c =
    let f = c in
    let p = err_from_is_err_and f.from_residual.result f.from_residual.ensures.1 in
    rw (p.1, p.2) (told_err
    (λ (x : Result RangeInclusive Error). Asks f.args.a.now f.args.q x f.ask.new.mem)
    (λ (e : PairError). Pairs f.args.a.now f.args.q f.args.b.now f.args.w (Err e) f.ask.new.mem f.args.b.now)
    First
    (pair_one _ _ _ f.args.q f.args.w)
    f.ask.result f.map_err.result _ f.map_err.ensures.cases f.ask.ensures f.in_err-r.was)

pub returns-in-Ok : goal.returns-in-Ok
returns-in-Ok c =
    let f = c in
    let d = told_ok (λ (x : Result RangeInclusive Error). Asks f.args.a.now f.args.q x f.ask.new.mem) First f.ask.result f.map_err.result _ f.map_err.ensures.cases f.ask.ensures f.in_ok-r.was in
    pair_both f.args.a.now f.args.b.now f.ask.new.mem f.args.q f.args.w f.in_ok-r.r d _ f.in-Ok.s f.in-Ok.ensures

pub returns-in-Err : goal.returns-in-Err
returns-in-Err c =
    let f = c in
    let d = told_ok (λ (x : Result RangeInclusive Error). Asks f.args.a.now f.args.q x f.ask.new.mem) First f.ask.result f.map_err.result _ f.map_err.ensures.cases f.ask.ensures f.in_ok-r.was in
    pair_two f.args.a.now f.args.b.now f.ask.new.mem f.args.q f.args.w f.in_ok-r.r d _ f.in-Err.e f.in-Err.ensures _ f.give_back.ensures
