use Rattle.rules_forms.proofs.ClassNeeds.{for_byte}
use Rattle.rules_forms.proofs.classes.is_lot_byte.Goals as goal

pub returns-then-is_letter_or_digit : goal.returns-then-is_letter_or_digit
returns-then-is_letter_or_digit c = search for_byte

pub returns-else-is_letter_or_digit : goal.returns-else-is_letter_or_digit
returns-else-is_letter_or_digit c = search for_byte
