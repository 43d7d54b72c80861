use Rattle.book.proofs.FormLaws.{for_forms}
use Rattle.book.proofs.forms.body_ok.Goals as goal

pub slice_bounds-code_ok-end : goal.slice_bounds-code_ok-end
slice_bounds-code_ok-end c = search for_forms

pub code_ok-requires : goal.code_ok-requires
code_ok-requires c = search for_forms

pub slice_bounds-dates_ok-count : goal.slice_bounds-dates_ok-count
slice_bounds-dates_ok-count c = search for_forms

pub slice_bounds-dates_ok-start : goal.slice_bounds-dates_ok-start
slice_bounds-dates_ok-start c = search for_forms

pub dates_ok-requires : goal.dates_ok-requires
dates_ok-requires c = search for_forms

pub returns-then-code_ok : goal.returns-then-code_ok
returns-then-code_ok c = search for_forms

pub returns-else-code_ok : goal.returns-else-code_ok
returns-else-code_ok c = search for_forms
