-- `both::three` meets its contract: what `two` answers, and then `ids::allocate`.
use Rattle.std.proofs.lemmas.Result.{err_from_is_err_and}
use Rattle.both.proofs.BothLaws.{triple_refused, triple_all, triple_three}
use Rattle.both.proofs.three.Goals as goal

pub returns-in_err-x : goal.returns-in_err-x
returns-in_err-x c =
    let f = c in
    let p = err_from_is_err_and f.from_residual.result f.from_residual.ensures.1 in
    rw (p.1, p.2) (triple_refused f.args.a.now f.args.b.now f.args.c.now f.two.new.a f.two.new.b f.args.q f.args.w _ f.in_err-x.ensures)

pub returns-in-Ok : goal.returns-in-Ok
returns-in-Ok c =
    let f = c in
    triple_all f.args.a.now f.args.b.now f.args.c.now f.two.new.a f.two.new.b f.args.q f.args.w f.in_ok-x.x f.in_ok-x.y f.in_ok-x.ensures _ f.in-Ok.i f.in-Ok.ensures

pub returns-in-Err : goal.returns-in-Err
returns-in-Err c =
    let f = c in
    triple_three f.args.a.now f.args.b.now f.args.c.now f.two.new.a f.two.new.b f.args.q f.args.w f.in_ok-x.x f.in_ok-x.y f.in_ok-x.ensures _ f.in-Err.e f.in-Err.ensures _ _ f.give_back.ensures f.give_back-in-Err.ensures
