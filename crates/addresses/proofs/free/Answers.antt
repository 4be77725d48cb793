-- `addresses::free` meets its contract: what stands at the first address is just the range, or the range is not granted.
use Rattle.std.proofs.Common.{◌≡◌, Result, sym, subst}
use Rattle.std.proofs.lemmas.Result.{err_from_is_err_and}
use Rattle.ranges.specs.declared.Error.{Error}
use Rattle.ranges.specs.declared.RangeInclusive.{RangeInclusive}
use Rattle.table.specs.declared.ChangeError.{ChangeError}
use Rattle.table.specs.Contract as table
use Rattle.addresses.specs.declared.Answer.TheVariants.{Freed, Refused}
use Rattle.addresses.specs.Contract.{Performs, returning}
use Rattle.addresses.specs.Steps.{why_unchanged, why_not_there}
use Rattle.addresses.proofs.Passed.{told_ok, told_err}
use Rattle.addresses.proofs.RequestLaws.{pair_refused}
use Rattle.addresses.proofs.ReleaseLaws.{free_absent, free_tile, other_start, other_end, melt_frees, melt_refused}
use Rattle.addresses.proofs.free.Goals as goal
use Rattle.addresses.proofs.free.Goals.{then-stands-eq0-via-then-stands-eq0, then-stands-eq0-via-else-stands-eq0+then-stands-start, then-stands-eq0-via-else-stands-eq0+else-stands-start+then-stands-end}

pub returns-in_err-r : goal.returns-in_err-r
returns-in_err-r c = let f = c in let p = err_from_is_err_and f.from_residual.result f.from_residual.ensures.1 in rw (p.1, p.2) (pair_refused f.args.mem.now f.args.start f.args.end _ f.in_err-r.ensures)

pub returns-in_err-stands : goal.returns-in_err-stands
returns-in_err-stands c =
    let f = c in
    let m = f.args.mem.now in
    let p = err_from_is_err_and f.from_residual-in_err-stands.result f.from_residual-in_err-stands.ensures.1 in
    rw (p.1, p.2) (told_err
    (table.Shows m f.args.start)
    (λ (e : Error). Performs m (returning f.args.start f.args.end) (Refused e) m)
    why_not_there
    (free_absent m f.args.start f.args.end f.in_ok-r.ensures.2)
    f.at.result f.map_err.result _ f.map_err.ensures.cases f.at.ensures f.in_err-stands.was)

pub returns-then-stands-eq0 : goal.returns-then-stands-eq0
returns-then-stands-eq0 c =
    let f = c in
    let m = f.args.mem.now in
    let k = told_ok (table.Shows m f.args.start) why_not_there f.at.result f.map_err.result _ f.map_err.ensures.cases f.at.ensures f.in_ok-stands.was in
    elim f.then-stands-eq0.branch [
      | then-stands-eq0-via-then-stands-eq0 w ↦ free_tile m f.args.start f.args.end f.in_ok-r.ensures.2 f.in_ok-stands.stands k w.if-stands-eq0.true
      | then-stands-eq0-via-else-stands-eq0+then-stands-start w ↦ other_start m f.args.start f.args.end f.in_ok-r.ensures.2 f.in_ok-stands.stands k w.if-stands-eq0.false w.if-stands-start.true
      | then-stands-eq0-via-else-stands-eq0+else-stands-start+then-stands-end w ↦ other_end m f.args.start f.args.end f.in_ok-r.ensures.2 f.in_ok-stands.stands k w.if-stands-eq0.false w.if-stands-end.true
    ]

pub returns-in_err-map_err : goal.returns-in_err-map_err
returns-in_err-map_err c =
    let f = c in
    let m = f.args.mem.now in
    let k = told_ok (table.Shows m f.args.start) why_not_there f.at.result f.map_err.result _ f.map_err.ensures.cases f.at.ensures f.in_ok-stands.was in
    let p = err_from_is_err_and f.from_residual-in_err-map_err.result f.from_residual-in_err-map_err.ensures.1 in
    rw (p.1, p.2) (told_err
    (λ (x : Result Unit ChangeError). table.Melts m f.args.start x f.melt.new.mem)
    (λ (e : Error). Performs m (returning f.args.start f.args.end) (Refused e) f.melt.new.mem)
    why_unchanged
    (melt_refused m f.args.start f.args.end f.in_ok-r.ensures.2 f.in_ok-stands.stands k f.if-stands-eq0.false f.if-stands-start.false f.if-stands-end.false f.melt.new.mem)
    f.melt.result f.map_err-2.result _ f.map_err-2.ensures.cases f.melt.ensures f.in_err-map_err.was)

pub returns : goal.returns
returns c =
    let f = c in
    let m = f.args.mem.now in
    let r = f.in_ok-r.ensures in
    let k = told_ok (table.Shows m f.args.start) why_not_there f.at.result f.map_err.result _ f.map_err.ensures.cases f.at.ensures f.in_ok-stands.was in
    let q = told_ok (λ (x : Result Unit ChangeError). table.Melts m f.args.start x f.melt.new.mem) why_unchanged f.melt.result f.map_err-2.result _ f.map_err-2.ensures.cases f.melt.ensures f.in_ok-map_err.was in
    let e : ◌≡◌ {A = RangeInclusive} f.in_ok-r.r (record { start = f.args.start; end = f.args.end }) = λ i. record { start = r.0 i; end = r.1 i } in
    subst (λ (x : RangeInclusive). Performs m (returning f.args.start f.args.end) (Freed x) f.melt.new.mem) (sym e) (melt_frees m f.args.start f.args.end r.2 f.in_ok-stands.stands k f.if-stands-eq0.false f.if-stands-start.false f.if-stands-end.false f.melt.new.mem q)
