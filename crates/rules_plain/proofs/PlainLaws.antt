-- The rules by texts: what they are of a line and its IP.
-- Assumes nothing.
use mathlib.Core.Path.{◌≡◌}
use mathlib.Core.Bool.{not, cond, ◌&&◌}
use Rattle.house.specs.Text.{same}
use Rattle.lines.specs.Records.{Rec, IP}
use Rattle.rules_definitions.specs.Forms.{text, is_sound}
use Rattle.rules_plain.specs.PlainFields.{rule6_by}
use Rattle.rules_forms.proofs.SoundLaws.{ip_3}

pub rule6_uli_later : (l ip : Rec) → rule6_by (text l 3) (text ip 3) ≡ cond (is_sound IP ip 3 && not (same (text l 3) (text ip 3))) 6 0
unfolding rule6_by
rule6_uli_later l ip = rw (ip_3 ip)
