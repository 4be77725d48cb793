-- `addresses::allocate` meets its contract: a request that is not in order by its reason, any other by where it is to start.
use Rattle.std.proofs.lemmas.Result.{err_from_is_err_and}
use Rattle.addresses.proofs.RequestLaws.{request_refused}
use Rattle.addresses.proofs.GrantLaws.{placed_grants, placed_refused}
use Rattle.addresses.proofs.allocate.Goals as goal

pub returns-in_err-q : goal.returns-in_err-q
returns-in_err-q c = let f = c in let p = err_from_is_err_and f.from_residual.result f.from_residual.ensures.1 in rw (p.1, p.2) (request_refused f.args.mem.now f.args.size f.args.align f.args.policy _ f.in_err-q.ensures)

pub returns-in_err-a : goal.returns-in_err-a
returns-in_err-a c = let f = c in let p = err_from_is_err_and f.from_residual-in_err-a.result f.from_residual-in_err-a.ensures.1 in rw (p.1, p.2) (placed_refused f.args.mem.now f.args.size f.args.align f.args.policy f.in_ok-q.q f.in_ok-q.ensures _ f.in_err-a.ensures)

pub returns : goal.returns
returns c = let f = c in placed_grants f.args.mem.now f.args.size f.args.align f.args.policy f.in_ok-q.q f.in_ok-q.ensures f.grant.new.mem f.in_ok-a.a _ f.in_ok-a.ensures f.grant.ensures
