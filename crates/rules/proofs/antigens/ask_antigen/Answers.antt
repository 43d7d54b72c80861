use Rattle.rules.proofs.AgainNeeds.{for_ask_antigen}
use Rattle.rules.proofs.antigens.ask_antigen.Goals as goal

pub returns-then-here-clause-antigen_asked : goal.returns-then-here-clause-antigen_asked
returns-then-here-clause-antigen_asked c = search for_ask_antigen

pub returns-then-l-le-FEW_LINES-clause-antigen_asked :
    goal.returns-then-l-le-FEW_LINES-clause-antigen_asked
returns-then-l-le-FEW_LINES-clause-antigen_asked c = search for_ask_antigen

pub antigen_found-found-requires-clause-at_value : goal.antigen_found-found-requires-clause-at_value
antigen_found-found-requires-clause-at_value c = search for_ask_antigen

pub returns-clause-antigen_asked : goal.returns-clause-antigen_asked
returns-clause-antigen_asked c = search for_ask_antigen
