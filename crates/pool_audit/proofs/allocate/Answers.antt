-- `pool_audit::allocate` meets its contract: the operation, then the verdict.
use Rattle.std.proofs.Common.{sym, subst}
use Rattle.addresses.specs.declared.Answer.{Answer}
use Rattle.addresses.specs.Contract.{asking, Performs}
use Rattle.pool_audit.proofs.Claimed.{audited}
use Rattle.pool_audit.proofs.allocate.Goals as goal

pub returns : goal.returns
returns c =
    let f = c in
    audited f.args.mem.now f.allocate.new.mem f.settle.new.mem _ f.granted-answer.result f.args.claim f.settle.result
    (subst (λ (x : Answer). Performs f.args.mem.now (asking f.args.size f.args.align f.args.policy) x f.allocate.new.mem) (sym f.granted-answer.ensures) f.allocate.ensures)
    f.settle.ensures
