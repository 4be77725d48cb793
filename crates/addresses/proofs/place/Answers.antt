-- `addresses::place` meets its contract: by what the table finds, and of an exact request by its end.
use Rattle.std.proofs.Common.{arith}
use Rattle.table.specs.Contract as table
use Rattle.addresses.specs.Steps.{why_no_place, Places}
use Rattle.addresses.proofs.Passed.{told}
use Rattle.addresses.proofs.GrantLaws.{first_found, first_refused, last_found, last_refused, exact_beyond, exact_places}
use Rattle.addresses.proofs.place.Goals as goal

pub returns-in-FirstMatch : goal.returns-in-FirstMatch
returns-in-FirstMatch c =
    let f = c in
    let m = f.args.mem.now in
    let q = f.args.q in
    told (table.FindsLowest m q.size q.align) (Places m q) why_no_place (first_found m q f.in-FirstMatch.is f.requires) (first_refused m q f.in-FirstMatch.is f.requires) f.lowest.result f.map_err.result f.map_err.ensures.cases f.lowest.ensures

pub returns-in-LastMatch : goal.returns-in-LastMatch
returns-in-LastMatch c =
    let f = c in
    let m = f.args.mem.now in
    let q = f.args.q in
    told (table.FindsHighest m q.size q.align) (Places m q) why_no_place (last_found m q f.in-LastMatch.is f.requires) (last_refused m q f.in-LastMatch.is f.requires) f.highest.result f.map_err-in-LastMatch.result f.map_err-in-LastMatch.ensures.cases f.highest.ensures

pub returns-in-Some : goal.returns-in-Some
returns-in-Some c = let f = c in exact_places f.args.mem.now f.args.q _ f.in-ExactMatch.is f.requires (omega (arith, f.requires.some, f.in-Some.ensures))

pub returns-in-None : goal.returns-in-None
returns-in-None c = let f = c in exact_beyond f.args.mem.now f.args.q _ _ f.in-ExactMatch.is f.requires (omega (arith, f.requires.some, f.in-None.ensures)) f.past_the_end.ensures
