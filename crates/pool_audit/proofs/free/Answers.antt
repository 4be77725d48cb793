-- `pool_audit::free` meets its contract: the operation, then the verdict.
use Rattle.std.proofs.Common.{sym, subst}
use Rattle.addresses.specs.declared.Answer.{Answer}
use Rattle.addresses.specs.Contract.{returning, Performs}
use Rattle.pool_audit.proofs.Claimed.{audited}
use Rattle.pool_audit.proofs.free.Goals as goal

pub returns : goal.returns
returns c =
    let f = c in
    audited f.args.mem.now f.free.new.mem f.settle.new.mem _ f.freed-answer.result f.args.claim f.settle.result
    (subst (λ (x : Answer). Performs f.args.mem.now (returning f.args.start f.args.end) x f.free.new.mem) (sym f.freed-answer.ensures) f.free.ensures)
    f.settle.ensures
