-- When each field is sound, by its form.
-- Assumes nothing.
use mathlib.Core.Path.{◌≡◌, refl, sym}
use mathlib.Core.Bool.{Bool, true, false, not, cond, ◌&&◌}
use mathlib.Core.List.{[], ◌∷◌}
use Prim.Native.Nat.{ℕ}
use Rattle.house.specs.Text.{Text, is_empty, order_of, same, run}
use Rattle.dates.specs.Dates.{is_date}
use Rattle.lines.specs.Records.{Rec, IP, II, IE, IN, IA}
use Rattle.rules_definitions.specs.Forms.{text, count_form, is_number, is_uli, is_type, is_code, is_site_text, is_method_text, is_reason, is_dosage, is_dosage_type, is_manufacturer, is_lot, is_reason_not, table, form_of, is_judged, is_relaxed, is_optional, is_missing, is_misformed, is_sound, is_given}

-- Of any field that is judged: an empty one is sound if it is optional, any other if it is of its form
module _ (k : ℕ) (l : Rec) (f : ℕ) where
  pub sound_by : is_judged k f ≡ true → is_sound k l f ≡ cond (is_empty (text l f)) (is_optional k l f) (form_of k f (text l f))
  unfolding is_sound is_missing is_misformed
  sound_by j = rw j (go (is_optional k l f) (is_empty (text l f)) (form_of k f (text l f)))
    where
      go : (o e x : Bool) → not (not o && e) && not (not x && not e) ≡ cond e o x
      go true true true = refl
      go true true false = refl
      go true false true = refl
      go true false false = refl
      go false true true = refl
      go false true false = refl
      go false false true = refl
      go false false false = refl

  -- a mandatory one is sound exactly if it is of its form, which no empty text is
  pub sound_form : is_judged k f ≡ true → is_optional k l f ≡ false → form_of k f [] ≡ false → is_sound k l f ≡ form_of k f (text l f)
  sound_form j o e = rw (sound_by j, o) (go (text l f))
    where
      go : (t : Text) → cond (is_empty t) false (form_of k f t) ≡ form_of k f t
      go [] = sym e
      go (b ∷ t) = refl

  -- a field is given exactly if it is not empty and of its form
  pub given_by : is_given k l f ≡ not (is_empty (text l f)) && form_of k f (text l f)
  unfolding is_given is_sound is_missing is_misformed
  given_by = go (is_judged k f && not (is_optional k l f)) (is_empty (text l f)) (form_of k f (text l f))
    where
      go : (a e x : Bool) → not (a && e) && not (not x && not e) && not e ≡ not e && x
      go true true x = refl
      go true false true = refl
      go true false false = refl
      go false true true = refl
      go false true false = refl
      go false false true = refl
      go false false false = refl

-- The mandatory fields
module _ (l : Rec) where
  pub ip_2 : is_sound IP l 2 ≡ is_number (text l 2)
  unfolding is_judged is_optional form_of table is_number run count_form
  ip_2 = sound_form IP l 2 refl refl refl

  pub ip_3 : is_sound IP l 3 ≡ is_uli (text l 3)
  unfolding is_judged is_optional form_of table is_uli run
  ip_3 = sound_form IP l 3 refl refl refl

  pub ip_25 : is_sound IP l 25 ≡ is_date (text l 25)
  unfolding is_judged is_optional form_of table is_date
  ip_25 = sound_form IP l 25 refl refl refl

  pub ii_2 : is_sound II l 2 ≡ is_number (text l 2)
  unfolding is_judged is_optional form_of table is_number run count_form
  ii_2 = sound_form II l 2 refl refl refl

  pub ii_3 : is_sound II l 3 ≡ is_uli (text l 3)
  unfolding is_judged is_optional form_of table is_uli run
  ii_3 = sound_form II l 3 refl refl refl

  pub ii_4 : is_sound II l 4 ≡ is_type (text l 4)
  unfolding is_judged is_optional form_of table is_type same order_of
  ii_4 = sound_form II l 4 refl refl refl

  pub ii_6 : is_sound II l 6 ≡ is_date (text l 6)
  unfolding is_judged is_optional form_of table is_date
  ii_6 = sound_form II l 6 refl refl refl

  pub ii_8 : is_sound II l 8 ≡ is_code (text l 8)
  unfolding is_judged is_optional form_of table is_code run
  ii_8 = sound_form II l 8 refl refl refl

  pub ie_2 : is_sound IE l 2 ≡ is_number (text l 2)
  unfolding is_judged is_optional form_of table is_number run count_form
  ie_2 = sound_form IE l 2 refl refl refl

  pub ie_3 : is_sound IE l 3 ≡ is_uli (text l 3)
  unfolding is_judged is_optional form_of table is_uli run
  ie_3 = sound_form IE l 3 refl refl refl

  pub ie_4 : is_sound IE l 4 ≡ is_code (text l 4)
  unfolding is_judged is_optional form_of table is_code run
  ie_4 = sound_form IE l 4 refl refl refl

  pub in_2 : is_sound IN l 2 ≡ is_number (text l 2)
  unfolding is_judged is_optional form_of table is_number run count_form
  in_2 = sound_form IN l 2 refl refl refl

  pub in_3 : is_sound IN l 3 ≡ is_uli (text l 3)
  unfolding is_judged is_optional form_of table is_uli run
  in_3 = sound_form IN l 3 refl refl refl

  pub in_5 : is_sound IN l 5 ≡ is_date (text l 5)
  unfolding is_judged is_optional form_of table is_date
  in_5 = sound_form IN l 5 refl refl refl

  pub in_6 : is_sound IN l 6 ≡ is_reason_not (text l 6)
  unfolding is_judged is_optional form_of table is_reason_not run
  in_6 = sound_form IN l 6 refl refl refl

  pub ia_2 : is_sound IA l 2 ≡ is_number (text l 2)
  unfolding is_judged is_optional form_of table is_number run count_form
  ia_2 = sound_form IA l 2 refl refl refl

  pub ia_3 : is_sound IA l 3 ≡ is_uli (text l 3)
  unfolding is_judged is_optional form_of table is_uli run
  ia_3 = sound_form IA l 3 refl refl refl

  pub ia_4 : is_sound IA l 4 ≡ is_code (text l 4)
  unfolding is_judged is_optional form_of table is_code run
  ia_4 = sound_form IA l 4 refl refl refl

  -- The fields that a relaxed event may leave empty
  pub ii_9 : is_sound II l 9 ≡ cond (is_empty (text l 9)) (is_relaxed l) (is_site_text (text l 9))
  unfolding is_judged is_optional form_of table
  ii_9 = sound_by II l 9 refl

  pub ii_10 : is_sound II l 10 ≡ cond (is_empty (text l 10)) (is_relaxed l) (is_method_text (text l 10))
  unfolding is_judged is_optional form_of table
  ii_10 = sound_by II l 10 refl

  pub ii_11 : is_sound II l 11 ≡ cond (is_empty (text l 11)) (is_relaxed l) (is_reason (text l 11))
  unfolding is_judged is_optional form_of table
  ii_11 = sound_by II l 11 refl

  pub ii_12 : is_sound II l 12 ≡ cond (is_empty (text l 12)) (is_relaxed l) (is_dosage (text l 12))
  unfolding is_judged is_optional form_of table
  ii_12 = sound_by II l 12 refl

  pub ii_13 : is_sound II l 13 ≡ cond (is_empty (text l 13)) (is_relaxed l) (is_dosage_type (text l 13))
  unfolding is_judged is_optional form_of table
  ii_13 = sound_by II l 13 refl

  pub ii_14 : is_sound II l 14 ≡ cond (is_empty (text l 14)) (is_relaxed l) (is_manufacturer (text l 14))
  unfolding is_judged is_optional form_of table
  ii_14 = sound_by II l 14 refl

  pub ii_15 : is_sound II l 15 ≡ cond (is_empty (text l 15)) (is_relaxed l) (is_lot (text l 15))
  unfolding is_judged is_optional form_of table
  ii_15 = sound_by II l 15 refl
