-- `addresses::grant` meets its contract: answer by answer, what the cut says of the pool.
use Rattle.std.proofs.Common.{Result, refl}
use Rattle.std.proofs.lemmas.Result.{err_from_is_err_and}
use Rattle.ranges.specs.declared.Error.{Error}
use Rattle.table.specs.declared.ChangeError.{ChangeError}
use Rattle.table.specs.Contract as table
use Rattle.addresses.specs.declared.Answer.TheVariants.{Refused}
use Rattle.addresses.specs.Steps.{why_unchanged, Grants}
use Rattle.addresses.proofs.Passed.{told_ok, told_err}
use Rattle.addresses.proofs.GrantLaws.{grant_done, grant_refused}
use Rattle.addresses.proofs.grant.Goals as goal

pub returns-in_err-map_err : goal.returns-in_err-map_err
returns-in_err-map_err c =
    let f = c in
    let p = err_from_is_err_and f.from_residual.result f.from_residual.ensures.1 in
    rw (p.1, p.2) (told_err
    (λ (x : Result Unit ChangeError). table.Cuts f.args.mem.now f.args.a f.args.size 1 x f.cut.new.mem)
    (λ (e : Error). Grants f.args.mem.now f.args.a f.args.size (Refused e) f.cut.new.mem)
    why_unchanged
    (grant_refused _ _ f.args.a f.args.size f.requires)
    f.cut.result f.map_err.result _ f.map_err.ensures.cases f.cut.ensures f.in_err-map_err.was)

pub returns : goal.returns
returns c =
    let f = c in
    grant_done _ _ f.args.a f.args.size f.requires _ refl (told_ok
    (λ (x : Result Unit ChangeError). table.Cuts f.args.mem.now f.args.a f.args.size 1 x f.cut.new.mem)
    why_unchanged f.cut.result f.map_err.result _ f.map_err.ensures.cases f.cut.ensures f.in_ok-map_err.was)
