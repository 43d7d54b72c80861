-- What the rules read: rule 15 alone reads whether an earlier block names the event, rules 16 to 18 alone whether it is live, and none
-- asks the ledger itself. This is the one law that looks at every rule's test, and names each.
-- Assumes nothing.
use mathlib.Core.Path.{◌≡◌, refl}
use mathlib.Core.Bool.{Bool, true, false, cond}
use mathlib.Core.List.{List, [], ◌∷◌, ◌++◌}
use Prim.Native.Nat.{ℕ, ◌≤◌}
use native.Mathlib.Omega.{arith}
use lib.ListN.{length}
use Rattle.house.specs.Text.{those}
use Rattle.house.proofs.Small.{clash}
use Rattle.ledger.specs.Ledger.{Event}
use Rattle.rules_definitions.specs.Seen.{Setting, Seen}
use Rattle.rules_definitions.specs.Codes.{is_known, allows_ended, is_in_force, day_is_sound, record_day, pair_in}
use Rattle.rules_definitions.specs.Rules.{Numbered, numbered, rule1, rule2, rule3, rule4, rule5, rule6, rule7, rule8, rule9, rule10, rule11, rule12, rule13, rule14, rule15_places, rule15, ledger_places, rule16, rule17, rule18, after_today, before_birth, rules, rules_in, rules_of, broken_by}

-- what is seen, with another answer to both
abbrev pub told : Bool → Bool → Seen → Seen
told repeated live v =
    record {
      place = v.place;
      line = v.line;
      ip = v.ip;
      head = v.head;
      antigens = v.antigens;
      in_block = v.in_block;
      block = v.block;
      not_first = v.not_first;
      own = v.own;
      first = v.first;
      repeated = repeated;
      live = live;
    }

-- what a file is judged by, over another ledger
abbrev pub over_ledger : (Event → Bool) → Setting → Setting
over_ledger live s = record { profile = s.profile; today = s.today; known = s.known; in_force_lem = s.in_force_lem; ended = s.ended; live = live }

abbrev pub Each : (Numbered → Type 0) → List Numbered → Type 0
Each P [] = Unit {0}
Each P (x ∷ xs) = P x × Each P xs

-- what holds of each rule that says the same of both, and of rules 15 to 18, holds of all
module _ (s : Setting) (other : Event → Bool) (v : Seen) (repeated live : Bool) (f : ℕ) (P : Numbered → Type 0) where
  pub each_rule : ((x : Numbered) → x.broken s v f ≡ x.broken (over_ledger other s) (told repeated live v) f → P x)
      → P (numbered 15 rule15_places rule15) → P (numbered 16 ledger_places rule16) → P (numbered 17 ledger_places rule17) → P (numbered 18 ledger_places rule18)
      → Each P (rules_of s)
  unfolding rules_of rules_in rules rule1 rule2 rule3 rule4 rule5 rule6 rule7 rule8 rule9 rule10 rule11 rule12 rule13 rule14 is_known allows_ended is_in_force after_today before_birth day_is_sound record_day pair_in
  each_rule g a b c d =
      (g _ refl, (g _ refl, (g _ refl, (g _ refl, (g _ refl, (g _ refl, (g _ refl, (g _ refl, (g _ refl, (g _ refl, (g _ refl, (g _ refl, (g _ refl, (g _ refl, (a, (b, (c, (d, tt))))))))))))))))))

module _ (s r : Setting) (v w : Seen) (f : ℕ) (p : Numbered → Bool) where
  -- rules that say the same of two are broken at both
  pub same_broken : (xs : List Numbered) → Each (λ (x : Numbered). x.broken s v f ≡ x.broken r w f) xs → broken_by s v f (those p xs) ≡ broken_by r w f (those p xs)
  same_broken [] h = refl
  same_broken (x ∷ xs) h = go (p x) (same_broken xs h.1)
    where
      go : (b : Bool) → broken_by s v f (those p xs) ≡ broken_by r w f (those p xs) → broken_by s v f (cond b (x ∷ those p xs) (those p xs)) ≡ broken_by r w f (cond b (x ∷ those p xs) (those p xs))
      go true e = rw (h.0, e)
      go false e = e

  -- rules that are broken at the second where they are at the first are no fewer there
  pub fewer_broken : (xs : List Numbered) → Each (λ (x : Numbered). x.broken s v f ≡ true → x.broken r w f ≡ true) xs → length (broken_by s v f (those p xs)) ≤ length (broken_by r w f (those p xs))
  fewer_broken [] h = omega arith
  fewer_broken (x ∷ xs) h = go (p x) (fewer_broken xs h.1)
    where
      go : (b : Bool) → length (broken_by s v f (those p xs)) ≤ length (broken_by r w f (those p xs))
          → length (broken_by s v f (cond b (x ∷ those p xs) (those p xs))) ≤ length (broken_by r w f (cond b (x ∷ those p xs) (those p xs)))
      go true e = here (x.broken s v f) (x.broken r w f) h.0 e
        where
          here : (a b : Bool) → (a ≡ true → b ≡ true) → length (broken_by s v f (those p xs)) ≤ length (broken_by r w f (those p xs))
              → length (cond a (x.number ∷ []) [] ++ broken_by s v f (those p xs)) ≤ length (cond b (x.number ∷ []) [] ++ broken_by r w f (those p xs))
          here true true i e = omega arith
          here true false i e = let z = i refl in clash (cc)
          here false true i e = omega arith
          here false false i e = e
      go false e = e
