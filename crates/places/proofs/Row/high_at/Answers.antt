-- `places::Row::high_at` meets its contract.
use Rattle.places.proofs.Searches.{taken_high, free_high}
use Rattle.places.proofs.Row.high_at.Goals as goal

pub returns-in_err-s : goal.returns-in_err-s
returns-in_err-s c =
    let a = c.args in
    let r = a.self.now in
    rw c.from_residual.ensures (taken_high r.starts.now r.tags.now r.last a.more a.mask a.i c.in_err-s.ensures)

pub returns : goal.returns
returns c =
    let a = c.args in
    let r = a.self.now in
    free_high r.starts.now r.tags.now r.last a.more a.mask a.i _ _ c.fits_high.result c.in_ok-s.ensures c.fits_high.ensures
