use Rattle.lines_places.proofs.FoundLaws.{uli_low, found_is}
use Rattle.lines_places.proofs.found.find.Goals as goal

pub number_on-requires-2-clause-before_bound : goal.number_on-requires-2-clause-before_bound
number_on-requires-2-clause-before_bound c = uli_low c.args.file.now c.args.at c.start_at-uli.result _ c.start_at-uli.ensures c.in_ok-first.ensures

pub returns : goal.returns
returns c =
    found_is c.args.file.now c.args.at c.start_at-uli.result _ c.start_at-uli.ensures c.in_ok-first.ensures c.start_at-date.result _ c.start_at-date.ensures
    c.in_ok-number.ensures _ c.start_at-vaccine.ensures
