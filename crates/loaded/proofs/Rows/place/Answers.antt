-- `loaded::Rows::place` meets its contract: a free range is passed by, a granted one is asked for.
use Rattle.std.proofs.Common.{◌≡◌, ℕ, ◌+◌, ◌-◌, ◌%◌, ◌^◌, ◌<◌, sym, refl, ◌∙◌, subst, arith}
use Rattle.addresses.specs.Contract.{Performs, asking, granted}
use Rattle.ranges.specs.declared.AllocPolicy.TheVariants.{ExactMatch}
use Rattle.loaded.proofs.Rows.place.Goals as goal

pub returns-then-get-eq0 : goal.returns-then-get-eq0
returns-then-get-eq0 c = record { free = λ z. refl; granted = λ z. absurd (z (sym (c.get.ensures (omega arith)) ∙ c.if-get-eq0.true)) }

-- a difference that wraps
back : (e s : ℕ) → e < 2 ^ 64 → s < 2 ^ 64 → ((e + (2 ^ 64 - s)) % 2 ^ 64 + s) % 2 ^ 64 ≡ e
back e s p q = omega arith

pub returns : goal.returns
returns c = record {
  free = λ z. absurd (c.if-get-eq0.false (c.get.ensures (omega arith) ∙ z));
  granted = λ z.
      let s = c.get-start in
      let e = c.next_start-next in
      let a = c.allocate in
      let size : ℕ = (e.result + (2 ^ 64 - s.result)) % 2 ^ 64 in
      (size, e.result, omega arith, e.ensures, subst (λ (x : ℕ). (size + x) % 2 ^ 64 ≡ e.result) (s.ensures (omega arith)) (back e.result s.result e.type_inv s.type_inv), granted a.result, subst (λ (x : ℕ). Performs c.args.mem.now (asking size 1 (ExactMatch x)) (granted a.result) a.new.mem) (s.ensures (omega arith)) a.ensures);
}
