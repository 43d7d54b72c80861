use Rattle.book.proofs.DayLaws.{for_look_up}
use Rattle.book.proofs.days.look_up.Goals as goal

pub returns-then-kind-gt8 : goal.returns-then-kind-gt8
returns-then-kind-gt8 c = search for_look_up

pub returns-then-kind-eq-VACCINE : goal.returns-then-kind-eq-VACCINE
returns-then-kind-eq-VACCINE c = search for_look_up

pub returns : goal.returns
returns c = search for_look_up
