-- `places::Row::low_at` meets its contract.
use Rattle.places.proofs.Searches.{taken_low, free_low}
use Rattle.places.proofs.Row.low_at.Goals as goal

pub returns-in_err-s : goal.returns-in_err-s
returns-in_err-s c =
    let a = c.args in
    let r = a.self.now in
    rw c.from_residual.ensures (taken_low r.starts.now r.tags.now r.last a.more a.mask a.i c.in_err-s.ensures)

pub returns : goal.returns
returns c =
    let a = c.args in
    let r = a.self.now in
    free_low r.starts.now r.tags.now r.last a.more a.mask a.i _ _ c.fits_low.result c.in_ok-s.ensures c.fits_low.ensures
