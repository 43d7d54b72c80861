-- What each need of `four_sound` asks, and what it says of a line.
-- Assumes nothing.
use mathlib.Core.Path.{◌≡◌}
use mathlib.Core.Bool.{Bool, true, false, ◌&&◌}
use borrow.Author.Rules.{rules}
use Rattle.house.specs.Text.{Text}
use Rattle.dates.specs.Dates.{is_date}
use Rattle.lines.specs.Records.{Rec, II, is_kind}
use Rattle.rules_definitions.specs.Forms.{text, is_uli, is_type, is_code}
use Rattle.rules_definitions.specs.Blocks.{is_in_block}
use Rattle.rules_forms.proofs.SoundLaws.{ii_3, ii_4, ii_6, ii_8}
use Rattle.rules_walk.specs.Firsts.{sound_four}

module _ (t u v w : Text) (a : Bool) (p : a ≡ is_uli t) where
  pub four_3 : a ≡ false → false ≡ sound_four t u v w
  unfolding sound_four
  four_3 e = rw (← p, e)

  module _ (e : a ≡ true) (b : Bool) (q : b ≡ is_type u) where
    pub four_4 : b ≡ false → false ≡ sound_four t u v w
    unfolding sound_four
    four_4 k = rw (← p, e, ← q, k)

    module _ (k : b ≡ true) (c : Bool) (o : c ≡ is_date v) where
      pub four_6 : c ≡ false → false ≡ sound_four t u v w
      unfolding sound_four
      four_6 l = rw (← p, e, ← q, k, ← o, l)

      pub four_8 : c ≡ true → (d : Bool) → d ≡ is_code w → d ≡ sound_four t u v w
      unfolding sound_four
      four_8 l d z = rw (← p, e, ← q, k, ← o, l, ← z)

pub ruleset for_four_sound = (rules, four_3, four_4, four_6, four_8)

-- a line is in a block exactly if it is an II and these are sound
pub block_four : (l : Rec) → is_in_block l ≡ (is_kind II l && sound_four (text l 3) (text l 4) (text l 6) (text l 8))
unfolding is_in_block sound_four
block_four l = rw (ii_3 l, ii_4 l, ii_6 l, ii_8 l)
