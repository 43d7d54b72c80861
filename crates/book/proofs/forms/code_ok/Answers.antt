use Rattle.book.proofs.FormLaws.{for_forms}
use Rattle.book.proofs.forms.code_ok.Goals as goal

pub slice_bounds-first_ok-end : goal.slice_bounds-first_ok-end
slice_bounds-first_ok-end c = search for_forms

pub slice_bounds-second_ok-count : goal.slice_bounds-second_ok-count
slice_bounds-second_ok-count c = search for_forms

pub slice_bounds-second_ok-start : goal.slice_bounds-second_ok-start
slice_bounds-second_ok-start c = search for_forms

pub returns-then-first_ok : goal.returns-then-first_ok
returns-then-first_ok c = search for_forms

pub returns-else-first_ok : goal.returns-else-first_ok
returns-else-first_ok c = search for_forms
