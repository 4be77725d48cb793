-- `pool_audit::grant_just` meets its contract: a pair that is no range is refused; of any other the exact request is in order.
use Rattle.std.proofs.Common.{◌+◌, ◌-◌, ℕ, inr, subst}
use Rattle.ranges.specs.declared.AllocPolicy.TheVariants.{ExactMatch}
use Rattle.addresses.specs.Contract.{granted, asking, Performs}
use Rattle.addresses.proofs.ExactLaws.{exact_called}
use Rattle.pool_audit.proofs.Back.{proper_just, just_size}
use Rattle.pool_audit.proofs.grant_just.Goals as goal

pub returns : goal.returns
returns c =
    let f = c in
    let w = f.in_ok-range.ensures in
    let s = f.args.r.start in
    let e = f.args.r.end in
    let n = just_size s e f.len.result f.in_ok-range.range w f.len.ensures in
    let k = subst (λ (y : ℕ). Performs f.args.mem.now (asking (e - s + 1) 1 (ExactMatch y)) (granted f.allocate.result) f.allocate.new.mem) w.0 (subst (λ (y : ℕ). Performs f.args.mem.now (asking y 1 (ExactMatch f.in_ok-range.range.start)) (granted f.allocate.result) f.allocate.new.mem) n f.allocate.ensures) in
    λ p h. inr (w.2, exact_called f.args.mem.now f.allocate.new.mem p _ 1 s _ h (proper_just s e) k, (k.right p h).1)
