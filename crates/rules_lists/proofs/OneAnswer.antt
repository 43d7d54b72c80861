-- No second answer meets the contract of a public function: each contract is an equation with what a definition gives.
-- Assumes nothing.
use mathlib.Core.Path.{◌≡◌, sym, ◌∙◌}
use mathlib.Core.List.{List}
use Prim.Native.Nat.{ℕ}
use lib.ListN.{length}
use Rattle.house.specs.Over.{over}
use Rattle.house.specs.Text.{Text, any}
use Rattle.lines.specs.Records.{recs}
use Rattle.rules_definitions.specs.Rules.{counts_sound, sets_differ}
use Rattle.rules_lists.specs.Among.{antigen_is, lot_is}
use Rattle.rules_lists.specs.Entries.{entries_in}

abbrev One : {A : Type 0} → A → Type 0
One {A} x = (r q : A) → r ≡ x → q ≡ x → r ≡ q

one : {A : Type 0} (x : A) → One x
one x r q e f = e ∙ sym f

rule12_any_antigen : (t since : Text) → One (any (antigen_is t) (recs since))
rule12_any_antigen t since = one _

rule13_sets_differ : (own first : Text) → One (sets_differ (recs own) (recs first))
rule13_sets_differ own first = one _

rule13_counts_sound : (t : Text) → One (counts_sound (recs t))
rule13_counts_sound t = one _

rule14_any_lot : (t block : Text) → One (any (lot_is t) (recs block))
rule14_any_lot t block = one _

gather_count : (file : Text) (from to what : ℕ) → One (length (entries_in what file from to))
gather_count file from to what = one _

gather_room : (file : Text) (from to what : ℕ) (room : List ℕ) → One (over (entries_in what file from to) room)
gather_room file from to what room = one _
