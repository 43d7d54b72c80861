-- What each need of the functions on an II's and an IE's later rules asks.
-- Assumes nothing.
use mathlib.Core.Path.{◌≡◌}
use mathlib.Core.Bool.{Bool, true, false, cond, ◌&&◌}
use mathlib.Core.List.{[], ◌∷◌}
use Prim.Native.Nat.{ℕ}
use borrow.Author.Rules.{rules}
use Rattle.house.specs.Text.{Text, same}
use Rattle.rules_fields.specs.Fields.{rules4and5_of, rules16to18_at}
use Rattle.rules_fields.proofs.CodeNeeds.{low_broken, code_empty, code_given}

-- a rule of tests that are asked one after the other
module _ (u v : Bool) (n : ℕ) (x : Bool) (e : x ≡ u) where
  pub asked_no : x ≡ false → 0 ≡ cond (u && v) n 0
  asked_no h = rw (← e, h)

  module _ (h : x ≡ true) (y : Bool) (f : y ≡ v) where
    pub asked_not : y ≡ false → 0 ≡ cond (u && v) n 0
    asked_not k = rw (← e, h, ← f, k)

    pub asked_yes : y ≡ true → n ≡ cond (u && v) n 0
    asked_yes k = rw (← e, h, ← f, k)

-- the second being known already
module _ (u v : Bool) (n : ℕ) (x : Bool) (e : x ≡ u) (h : x ≡ true) where
  pub asked_none : v ≡ false → 0 ≡ cond (u && v) n 0
  asked_none k = rw (← e, h, k)

  pub asked_more : v ≡ true → n ≡ cond (u && v) n 0
  asked_more k = rw (← e, h, k)

-- listed_field
module _ (known : Bool) where
  pub listed_known : (x : Bool) → x ≡ known → x ≡ true → 0 ≡ rules4and5_of false known false
  unfolding rules4and5_of
  listed_known x e h = rw (← e, h)

  pub listed_unknown : (x : Bool) → x ≡ known → x ≡ false → 4 ≡ rules4and5_of false known false
  unfolding rules4and5_of
  listed_unknown x e h = rw (← e, h)

pub ruleset for_listed = (rules, low_broken, code_empty, code_given, listed_known, listed_unknown)

-- rule9_if, rule10_partner_missing
pub ruleset for_asked = (rules, asked_no, asked_not, asked_yes, asked_more, asked_none)

-- rules16_to_18
module _ (inb live : Bool) (t : Text) where
  pub ledger_out : inb ≡ false → 0 ≡ rules16to18_at inb t live
  unfolding rules16to18_at
  ledger_out h = rw h

  module _ (h : inb ≡ true) where
    module _ (l : live ≡ true) (x : Bool) (e : x ≡ same t (65 ∷ [])) where
      pub rule16_add : x ≡ true → 16 ≡ rules16to18_at inb t live
      unfolding rules16to18_at
      rule16_add k = rw (h, l, ← e, k)

      pub ledger_live : x ≡ false → 0 ≡ rules16to18_at inb t live
      unfolding rules16to18_at
      ledger_live k = rw (h, l, ← e, k)

    module _ (l : live ≡ false) (x : Bool) (e : x ≡ same t (67 ∷ [])) where
      pub rule17_change : x ≡ true → 17 ≡ rules16to18_at inb t live
      unfolding rules16to18_at
      rule17_change k = rw (h, l, ← e, k)

      module _ (k : x ≡ false) (y : Bool) (f : y ≡ same t (68 ∷ [])) where
        pub rule18_delete : y ≡ true → 18 ≡ rules16to18_at inb t live
        unfolding rules16to18_at
        rule18_delete m = rw (h, l, ← e, k, ← f, m)

        pub ledger_other : y ≡ false → 0 ≡ rules16to18_at inb t live
        unfolding rules16to18_at
        ledger_other m = rw (h, l, ← e, k, ← f, m)

pub ruleset for_ledger = (rules, ledger_out, rule16_add, ledger_live, rule17_change, rule18_delete, ledger_other)
