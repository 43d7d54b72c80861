use Rattle.book.proofs.DayLaws.{for_in_force}
use Rattle.book.proofs.days.in_force.Goals as goal

pub overflow_sub-end : goal.overflow_sub-end
overflow_sub-end c = search for_in_force

pub overflow_sub-end-then-kind-eq-VACCINE : goal.overflow_sub-end-then-kind-eq-VACCINE
overflow_sub-end-then-kind-eq-VACCINE c = search for_in_force

pub eight_digits-requires : goal.eight_digits-requires
eight_digits-requires c = search for_in_force

pub returns-then-day-eight_digits : goal.returns-then-day-eight_digits
returns-then-day-eight_digits c = search for_in_force

pub lasts-requires : goal.lasts-requires
lasts-requires c = search for_in_force

pub returns-then-kind-eq-VACCINE : goal.returns-then-kind-eq-VACCINE
returns-then-kind-eq-VACCINE c = search for_in_force

pub lasts-requires-2 : goal.lasts-requires-2
lasts-requires-2 c = search for_in_force

pub returns : goal.returns
returns c = search for_in_force
