-- `pool_audit::undo` meets its contract: by the laws of going back.
use Rattle.std.proofs.Common.{sym, subst}
use Rattle.addresses.specs.declared.Answer.{Answer}
use Rattle.addresses.specs.Contract.{granted, freed}
use Rattle.pool_audit.specs.Steps.{Undoes}
use Rattle.pool_audit.proofs.Back.{undo_any_grant, undo_any_release, undo_refused}
use Rattle.pool_audit.proofs.undo.Goals as goal

pub returns-in-Granted : goal.returns-in-Granted
returns-in-Granted c = subst (λ (x : Answer). Undoes c.args.mem.now x c.free.new.mem) (sym c.in-Granted.is) (λ p o v d h. undo_any_grant c.args.mem.now c.free.new.mem p o _ (freed c.free.result) v d h c.free.ensures)

pub returns-in-Freed : goal.returns-in-Freed
returns-in-Freed c = subst (λ (x : Answer). Undoes c.args.mem.now x c.grant_just.new.mem) (sym c.in-Freed.is) (λ p o v d h. undo_any_release c.args.mem.now c.grant_just.new.mem p o _ (granted c.grant_just.result) v d h c.grant_just.ensures)

pub returns-in-Refused : goal.returns-in-Refused
returns-in-Refused c = subst (λ (x : Answer). Undoes c.args.mem.now x c.args.mem.now) (sym c.in-Refused.is) (undo_refused c.args.mem.now _)
