use Rattle.chart_records.proofs.LengthNeeds.{for_fits}
use Rattle.chart_records.proofs.lengths.fits.Goals as goal

pub loop-at-init : goal.loop-at-init
loop-at-init c = search for_fits

pub returns-then-left-long : goal.returns-then-left-long
returns-then-left-long c = search for_fits

pub loop-at-smaller : goal.loop-at-smaller
loop-at-smaller c = search for_fits

pub loop-at-preserved : goal.loop-at-preserved
loop-at-preserved c = search for_fits

pub returns : goal.returns
returns c = search for_fits
