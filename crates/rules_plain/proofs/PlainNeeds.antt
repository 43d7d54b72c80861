-- What each need of the functions on fields that ask neither book nor ledger asks.
-- Assumes nothing.
use mathlib.Core.Path.{◌≡◌, refl, sym, ◌∙◌, subst}
use mathlib.Core.Bool.{Bool, true, false, not, cond, ◌&&◌, and-false}
use mathlib.Core.List.{[], ◌∷◌}
use Prim.Native.Nat.{ℕ, ◌≤◌, ◌<◌}
use native.Mathlib.Omega.{arith}
use borrow.Author.Rules.{rules}
use borrow.Author.Tests.{eq-eqb, ne_eqb, eqb-true, eqb-false, lt-ltb, le-ltb, ltb-true, le-leb, lt-leb, leb-true}
use lib.Dec.{eqb, ltb, leb}
use lib.ListN.{length}
use Rattle.dates.specs.declared.Date.{Date}
use Rattle.house.specs.Text.{Text, is_empty, same, within, run, is_digit, number}
use Rattle.dates.specs.Dates.{is_date, dated_of}
use Rattle.house.proofs.Small.{clash, both}
use Rattle.dates.proofs.DateLaws.{dated_true, dated_false}
use Rattle.lines.specs.Records.{IP, II, IN}
use Rattle.rules_definitions.specs.Forms.{count_form, form_of, table, is_number, is_uli, is_judged}
use Rattle.rules_forms.specs.TextLeaves.{value_of}
use Rattle.rules_forms.specs.FieldLeaves.{optional_in, lowest_in}
use Rattle.rules_forms.proofs.ClassLaws.{within_yes, within_low, within_high, run_all, run_parts, run_least}
use Rattle.rules_plain.specs.PlainFields.{rule7_by, rule6_by, rule8_today_by, rule8_day_by, rule8_by, rule3_by}
use Rattle.std.proofs.Common.{Option, Some, None}

-- the lowest rule: 1 or 2, or a later one where neither is broken
module _ (k : ℕ) (x : Bool) (f : ℕ) (t : Text) (later r : ℕ) (e : r ≡ lowest_in k x f t 0) where
  pub rule_broken : (r ≡ 0 → ⊥) → r ≡ lowest_in k x f t later
  unfolding lowest_in
  rule_broken n = go (is_judged k f && not (optional_in k x f) && is_empty t) (not (form_of k f t) && not (is_empty t)) e
    where
      go : (a b : Bool) → r ≡ cond a 1 (cond b 2 0) → r ≡ cond a 1 (cond b 2 later)
      go true b h = h
      go false true h = h
      go false false h = absurd (n h)

  pub rule_later : (q : ℕ) → r ≡ 0 → q ≡ later → q ≡ lowest_in k x f t later
  unfolding lowest_in
  rule_later q z h = go (is_judged k f && not (optional_in k x f) && is_empty t) (not (form_of k f t) && not (is_empty t)) (sym e ∙ z)
    where
      go : (a b : Bool) → ◌≡◌ {A = ℕ} (cond a 1 (cond b 2 0)) 0 → q ≡ cond a 1 (cond b 2 later)
      go true b g = absurd (omega arith)
      go false true g = absurd (omega arith)
      go false false g = h

pub ruleset for_rule = (rules, rule_broken, rule_later)

-- rule7_number, field2_number
module _ (n place : ℕ) where
  pub number_right : n ≡ place → 0 ≡ rule7_by n place
  unfolding rule7_by
  number_right e = rw (eq-eqb n place e)

  pub number_wrong : (n ≡ place → ⊥) → 7 ≡ rule7_by n place
  unfolding rule7_by
  number_wrong e = rw (ne_eqb n place e)

-- is_numbered
module _ (k : ℕ) where
  pub numbered_kind : 3 ≤ k → k < 8 → true ≡ within 3 7 k
  numbered_kind a b = rw (within_yes 3 7 k a (omega arith))

  pub numbered_below : k < 3 → false ≡ within 3 7 k
  numbered_below h = rw (within_low 3 7 k h)

  pub numbered_above : 8 ≤ k → false ≡ within 3 7 k
  numbered_above h = rw (within_high 3 7 k (omega arith))

pub ruleset for_is_numbered = (rules, numbered_kind, numbered_below, numbered_above)

-- is_number
module _ (t : Text) (n : ℕ) where
  pub number_short : length t ≤ 5 → ltb 0 n ≡ leb (length t) 5 && ltb 0 n
  number_short h = rw (le-leb (length t) 5 h)

  pub number_long : 5 < length t → false ≡ leb (length t) 5 && ltb 0 n
  number_long h = rw (lt-leb (length t) 5 h)

pub ruleset for_is_number = (rules, number_short, number_long)

-- field2_number, field3_uli: what holds of each kind that is numbered holds of them all
numbered_each : (P : ℕ → Type 0) → P 3 → P 4 → P 5 → P 6 → P 7 → (k : ℕ) → within 3 7 k ≡ true → P k
numbered_each P three four five six seven k h = go (eqb k 3) refl (eqb k 4) refl (eqb k 5) refl (eqb k 6) refl
  where
    low : 3 ≤ k
    low = leb-true 3 k (both (leb 3 k) (leb k 7) h).0

    high : k ≤ 7
    high = leb-true k 7 (both (leb 3 k) (leb k 7) h).1

    go : (a : Bool) → eqb k 3 ≡ a → (b : Bool) → eqb k 4 ≡ b → (c : Bool) → eqb k 5 ≡ c → (d : Bool) → eqb k 6 ≡ d → P k
    go true e b f c g d i = subst P (sym (eqb-true k 3 e)) three
    go false e true f c g d i = subst P (sym (eqb-true k 4 f)) four
    go false e false f true g d i = subst P (sym (eqb-true k 5 g)) five
    go false e false f false g true i = subst P (sym (eqb-true k 6 i)) six
    go false e false f false g false i =
        let is-seven : 7 ≡ k = omega (arith, low, high, eqb-false k 3 e, eqb-false k 4 f, eqb-false k 5 g, eqb-false k 6 i) in subst P is-seven seven

-- a text that is there, and of its field's form, breaks neither rule 1 nor rule 2
later_alone : (k f : ℕ) (t : Text) (later : ℕ) → form_of k f t ≡ true → is_empty t ≡ false → later ≡ lowest_in k false f t later
unfolding lowest_in
later_alone k f t later h e = rw (h, e, and-false (is_judged k f && not (optional_in k false f)))

-- field2_number: five digits at most that are above 0
number_form : (t : Text) (k : ℕ) → within 3 7 k ≡ true → form_of k 2 t ≡ is_number t
unfolding form_of table
number_form t = numbered_each (λ (k : ℕ). form_of k 2 t ≡ is_number t) refl refl refl refl refl

value_number : (t : Text) → length t ≤ 5 → 0 < value_of t → is_number t ≡ true
unfolding value_of is_number count_form
value_number t h v = go (run 1 9 is_digit t) refl v
  where
    go : (x : Bool) → run 1 9 is_digit t ≡ x → 0 < cond x (number t) 0 → run 1 5 is_digit t && ltb 0 (number t) ≡ true
    go true e w =
        let r : true ≡ run 1 5 is_digit t = run_all t 1 5 is_digit true (run_least t 1 9 is_digit e) h (sym (run_parts t 1 9 is_digit e).1) in
        rw (← r, lt-ltb 0 (number t) w)
    go false e w = absurd (omega arith)

value_filled : (t : Text) → 0 < value_of t → is_empty t ≡ false
unfolding value_of run
value_filled [] v = absurd (omega arith)
value_filled (b ∷ t) v = refl

module _ (k : ℕ) (t : Text) (n place q : ℕ) (e : n ≡ value_of t) (x y : Bool) (g : x ≡ within 3 7 k) (h : x ≡ true) (i : y ≡ leb (length t) 5 && ltb 0 n) (j : y ≡ true) where
  pub numbered : q ≡ rule7_by n place → q ≡ lowest_in k false 2 t (rule7_by (value_of t) place)
  numbered f =
      let r = both (leb (length t) 5) (ltb 0 n) (sym i ∙ j) in
      let v : 0 < value_of t = subst (λ (m : ℕ). 0 < m) e (ltb-true 0 n r.1) in
      f ∙ rw (← e) (later_alone k 2 t (rule7_by n place) (number_form t k (sym g ∙ h) ∙ value_number t (leb-true (length t) 5 r.0) v) (value_filled t v))

-- field3_uli
uli_form : (t : Text) (k : ℕ) → within 3 7 k ≡ true → form_of k 3 t ≡ is_uli t
unfolding form_of table
uli_form t = numbered_each (λ (k : ℕ). form_of k 3 t ≡ is_uli t) refl refl refl refl refl

uli_filled : (t : Text) → is_uli t ≡ true → is_empty t ≡ false
unfolding is_uli run
uli_filled [] h = sym h
uli_filled (b ∷ t) h = refl

module _ (k : ℕ) (t : Text) (later q : ℕ) (x y : Bool) (g : x ≡ within 3 7 k) (h : x ≡ true) (i : y ≡ is_uli t) (j : y ≡ true) where
  pub uli_later : q ≡ later → q ≡ lowest_in k false 3 t later
  uli_later f = f ∙ later_alone k 3 t later (uli_form t k (sym g ∙ h) ∙ sym i ∙ j) (uli_filled t (sym i ∙ j))

pub ruleset for_field3_uli = (rules, uli_later, rule_broken, rule_later)

pub number_by : (t : Text) (n place q : ℕ) → n ≡ value_of t → q ≡ rule7_by n place → q ≡ rule7_by (value_of t) place
number_by t n place q e h = rw (← e) h

pub ruleset for_rule7_number = (rules, number_right, number_wrong)

pub ruleset for_field2_number = (rules, numbered, rule_broken, rule_later, number_by)

-- rule6_uli
module _ (t u : Text) (y : Bool) (g : y ≡ same t u) where
  pub uli_same : y ≡ true → 0 ≡ rule6_by t u
  unfolding rule6_by
  uli_same k = rw (← g, k) (go (is_uli u))
    where
      go : (z : Bool) → ◌≡◌ {A = ℕ} 0 (cond (z && false) 6 0)
      go true = refl
      go false = refl

  module _ (h : y ≡ false) (x : Bool) (e : x ≡ is_uli u) where
    pub uli_unsound : x ≡ false → 0 ≡ rule6_by t u
    unfolding rule6_by
    uli_unsound k = rw (← e, k)

    pub uli_other : x ≡ true → 6 ≡ rule6_by t u
    unfolding rule6_by
    uli_other k = rw (← e, k, ← g, h)

pub ruleset for_rule6_uli = (rules, uli_unsound, uli_same, uli_other)

-- rule8_day
module _ (n today born : ℕ) where
  pub day_after : today < n → 8 ≡ rule8_day_by n today born
  unfolding rule8_day_by
  day_after k = rw (lt-ltb today n k)

  module _ (k : n ≤ today) where
    pub day_before : n < born → 8 ≡ rule8_day_by n today born
    unfolding rule8_day_by
    day_before m = rw (le-ltb today n k, lt-ltb n born m)

    pub day_right : born ≤ n → 0 ≡ rule8_day_by n today born
    unfolding rule8_day_by
    day_right m = rw (le-ltb today n k, le-ltb n born m)

pub ruleset for_rule8_day = (rules, day_after, day_before, day_right)

-- ip25_birth, date_field: a mandatory field whose form is a date
dated : (k f : ℕ) (t : Text) (later : ℕ) → form_of k f t ≡ is_date t → is_date t ≡ true → lowest_in k false f t later ≡ later
unfolding lowest_in is_date
dated k f [] later e h = clash (cc)
dated k f (b ∷ t) later e h = rw (e, h) (go (is_judged k f && not (optional_in k false f)))
  where
    go : (a : Bool) → cond (a && false) 1 later ≡ later
    go true = refl
    go false = refl

module _ (t : Text) (d : Option Date) (e : d ≡ dated_of t) where
  module _ (x : Date) (h : d ≡ Some x) where
    day_is : number t ≡ x.number
    unfolding dated_of
    day_is = go (is_date t) (sym e ∙ h)
      where
        go : (b : Bool) → cond b (Some (record { number = number t })) None ≡ Some x → number t ≡ x.number
        go true k = cc
        go false k = clash (cc)

    is_dated_lem : is_date t ≡ true
    is_dated_lem = dated_true t x (sym e ∙ h)

    module _ (today : ℕ) where
      birth : lowest_in IP false 25 t (rule8_today_by t today) ≡ cond (ltb today x.number) 8 0
      unfolding form_of table rule8_today_by
      birth = dated IP 25 t (rule8_today_by t today) refl is_dated_lem ∙ rw (is_dated_lem, day_is)

      pub birth_after : today < x.number → 8 ≡ lowest_in IP false 25 t (rule8_today_by t today)
      birth_after k = sym (birth ∙ rw (lt-ltb today x.number k))

      pub birth_right : x.number ≤ today → 0 ≡ lowest_in IP false 25 t (rule8_today_by t today)
      birth_right k = sym (birth ∙ rw (le-ltb today x.number k))

      module _ (born r : ℕ) (g : r ≡ rule8_day_by x.number today born) where
        rule_8 : rule8_by t today born ≡ r
        unfolding rule8_by rule8_day_by
        rule_8 = rw (is_dated_lem, day_is) (sym g)

        pub date_day : (k f : ℕ) → form_of k f t ≡ is_date t → r ≡ lowest_in k false f t (rule8_by t today born)
        date_day k f p = sym (dated k f t (rule8_by t today born) p is_dated_lem ∙ rule_8)

  module _ (h : d ≡ None) (today r : ℕ) where
    pub birth_none : r ≡ lowest_in IP false 25 t 0 → r ≡ lowest_in IP false 25 t (rule8_today_by t today)
    unfolding rule8_today_by
    birth_none q = rw (dated_false t (sym e ∙ h)) q

    module _ (k f born : ℕ) where
      pub date_none : r ≡ lowest_in k false f t 0 → r ≡ lowest_in k false f t (rule8_by t today born)
      unfolding rule8_by
      date_none q = rw (dated_false t (sym e ∙ h)) q

pub ruleset for_birth = (rules, birth_after, birth_right, birth_none)

pub ii6_form : (t : Text) → form_of II 6 t ≡ is_date t
unfolding form_of table
ii6_form t = refl

pub in5_form : (t : Text) → form_of IN 5 t ≡ is_date t
unfolding form_of table
in5_form t = refl

pub ruleset for_date = (rules, date_day, date_none)

-- rule3_version
module _ (t : Text) (x : Bool) (e : x ≡ same t (55 ∷ 46 ∷ 50 ∷ [])) where
  pub version_right : x ≡ true → 0 ≡ rule3_by t
  unfolding rule3_by
  version_right h = rw (← e, h)

  pub version_wrong : x ≡ false → 3 ≡ rule3_by t
  unfolding rule3_by
  version_wrong h = rw (← e, h)

pub ruleset for_rule3_version = (rules, version_right, version_wrong)
