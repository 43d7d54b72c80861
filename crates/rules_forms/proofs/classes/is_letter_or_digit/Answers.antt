use Rattle.rules_forms.proofs.ClassNeeds.{for_byte}
use Rattle.rules_forms.proofs.classes.is_letter_or_digit.Goals as goal

pub returns-then-is_letter : goal.returns-then-is_letter
returns-then-is_letter c = search for_byte

pub returns-else-is_letter : goal.returns-else-is_letter
returns-else-is_letter c = search for_byte
