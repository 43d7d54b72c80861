-- Rules 12 and 14 by a field's text.
-- Assumes nothing.
use mathlib.Core.Path.{◌≡◌, refl}
use mathlib.Core.Bool.{Bool, true, false, cond, ◌&&◌, ◌||◌}
use mathlib.Core.List.{List, [], ◌∷◌}
use Rattle.house.specs.Text.{Text, any, those}
use Rattle.lines.specs.Records.{Rec, II, is_kind}
use Rattle.rules_definitions.specs.Forms.{text}
use Rattle.rules_definitions.specs.Rules.{same_antigen, same_lot}
use Rattle.rules_lists.specs.Among.{antigen_is, lot_is}

pub antigens_are : (l : Rec) (t : Text) (ps : List Rec) → t ≡ text l 4 → any (antigen_is t) ps ≡ any (same_antigen l) ps
unfolding antigen_is same_antigen
antigens_are l t ps d = rw d

lots_of_lem : (l : Rec) (ps : List Rec) → any (lot_is (text l 15)) ps ≡ any (same_lot l) (those (is_kind II) ps)
unfolding lot_is same_lot
lots_of_lem l [] = refl
lots_of_lem l (p ∷ ps) = go (is_kind II p) (lots_of_lem l ps)
  where
    go : (b : Bool) → any (lot_is (text l 15)) ps ≡ any (same_lot l) (those (is_kind II) ps)
        → (b && same_lot l p) || any (lot_is (text l 15)) ps ≡ any (same_lot l) (cond b (p ∷ those (is_kind II) ps) (those (is_kind II) ps))
    go true r = rw r
    go false r = r

module _ (l : Rec) (t : Text) (ps : List Rec) (d : t ≡ text l 15) where
  pub lots_are : any (lot_is t) ps ≡ any (same_lot l) (those (is_kind II) ps)
  lots_are = rw d (lots_of_lem l ps)
