-- The later rules of an II and an IE, each at its field.
-- Assumes nothing.
use mathlib.Core.Path.{◌≡◌, refl}
use mathlib.Core.Bool.{Bool, true, false, not, cond, ◌&&◌, ◌||◌}
use mathlib.Core.List.{List, [], ◌∷◌, ◌++◌, reverse, reverse-cons}
use Prim.Native.Nat.{suc, ◌+◌}
use native.Mathlib.Omega.{arith}
use Rattle.house.specs.Text.{any, all, how_many}
use Rattle.house.proofs.Members.{count_append}
use Rattle.lines.specs.Records.{Rec, II, IE}
use Rattle.rules_definitions.specs.Forms.{text, is_sound, is_given, is_relaxed}
use Rattle.rules_definitions.specs.Seen.{Setting, Seen}
use Rattle.rules_definitions.specs.Codes.{book_kind, code_in, is_known, day_is_sound, is_in_force, pair_kind, pair_in}
use Rattle.rules_definitions.specs.Rules.{rule9, rule10, rule11, rule12, rule13, rule15, partner_of, site_wrong, method_wrong, lacks, same_antigen, same_count, all_in, counts_sound, sets_differ}

-- A LIST BACKWARDS HAS THE SAME ELEMENTS

any_snoc : {A : Type 0} (p : A → Bool) (xs : List A) (y : A) → any p (xs ++ (y ∷ [])) ≡ p y || any p xs
any_snoc p [] y = refl
any_snoc p (x ∷ xs) y = rw (any_snoc p xs y) (swap (p x) (p y) (any p xs))
  where
    swap : (a b c : Bool) → a || (b || c) ≡ b || (a || c)
    swap true true c = refl
    swap true false c = refl
    swap false b c = refl

pub any_reverse : {A : Type 0} (p : A → Bool) (xs : List A) → any p (reverse xs) ≡ any p xs
any_reverse p [] = refl
any_reverse p (x ∷ xs) = rw (reverse-cons, any_snoc p (reverse xs) x, any_reverse p xs)

all_snoc : {A : Type 0} (p : A → Bool) (xs : List A) (y : A) → all p (xs ++ (y ∷ [])) ≡ p y && all p xs
all_snoc p [] y = refl
all_snoc p (x ∷ xs) y = rw (all_snoc p xs y) (swap (p x) (p y) (all p xs))
  where
    swap : (a b c : Bool) → a && (b && c) ≡ b && (a && c)
    swap true b c = refl
    swap false true c = refl
    swap false false c = refl

pub all_reverse : {A : Type 0} (p : A → Bool) (xs : List A) → all p (reverse xs) ≡ all p xs
all_reverse p [] = refl
all_reverse p (x ∷ xs) = rw (reverse-cons, all_snoc p (reverse xs) x, all_reverse p xs)

pub count_reverse : {A : Type 0} (p : A → Bool) (xs : List A) → how_many p (reverse xs) ≡ how_many p xs
count_reverse p [] = refl
count_reverse p (x ∷ xs) = rw (reverse-cons, count_append p (reverse xs) (x ∷ []), count_reverse p xs) (go (p x))
  where
    go : (b : Bool) → how_many p xs + cond b 1 0 ≡ cond b (suc (how_many p xs)) (how_many p xs)
    go true = omega arith
    go false = omega arith

-- THE RULES

module _ (s : Setting) (v : Seen) where
  abbrev L : Rec
  L = v.line

  pub rule9_ii9 : rule9 s v 9 ≡ site_wrong (text L 9) (text L 10) && (is_given II L 9 && is_given II L 10)
  unfolding rule9
  rule9_ii9 = refl

  pub rule9_ii10 : rule9 s v 10 ≡ method_wrong (text L 9) (text L 10) && (is_given II L 9 && is_given II L 10)
  unfolding rule9
  rule9_ii10 = refl

  pub rule10_ii9 : rule10 s v 9 ≡ lacks L 9 10 && is_relaxed L
  unfolding rule10 partner_of
  rule10_ii9 = refl

  pub rule10_ii10 : rule10 s v 10 ≡ lacks L 10 9 && is_relaxed L
  unfolding rule10 partner_of
  rule10_ii10 = refl

  pub rule10_ii12 : rule10 s v 12 ≡ lacks L 12 13 && is_relaxed L
  unfolding rule10 partner_of
  rule10_ii12 = refl

  pub rule10_ii13 : rule10 s v 13 ≡ lacks L 13 12 && is_relaxed L
  unfolding rule10 partner_of
  rule10_ii13 = refl

  pub rule13_ii8 : rule13 s v 8 ≡ v.not_first && (counts_sound v.own && (counts_sound v.first && sets_differ v.own v.first))
  unfolding rule13
  rule13_ii8 = refl

  pub rule15_ii8 : rule15 s v 8 ≡ v.repeated
  unfolding rule15
  rule15_ii8 = refl

  module _ (k : v.line.kind ≡ II) where
    pub rule11_ii11 : rule11 s v 11
        ≡ (is_given II v.head 8 && s.known 1 (code_in II v.head 8)) && (is_given II L 11 && s.known 3 (code_in II L 11))
        && (not (s.known 7 (pair_in v 11)) || (day_is_sound v && not (is_in_force s v 7 (pair_in v 11))))
    unfolding rule11 is_known book_kind pair_kind
    rule11_ii11 = rw k

  module _ (k : v.line.kind ≡ IE) where
    pub rule11_ie4 : rule11 s v 4
        ≡ (is_given II v.head 8 && s.known 1 (code_in II v.head 8)) && (is_given IE L 4 && s.known 2 (code_in IE L 4))
        && (not (s.known 8 (pair_in v 4)) || (day_is_sound v && not (is_in_force s v 8 (pair_in v 4))))
    unfolding rule11 is_known book_kind pair_kind
    rule11_ie4 = rw k

    pub rule12_ie4 : rule12 s v 4 ≡ is_sound IE L 4 && any (same_antigen L) v.antigens
    unfolding rule12
    rule12_ie4 = rw k

-- the first II's IE lines backwards
any_same : (l : Rec) (ps : List Rec) → any (same_count l) (reverse ps) ≡ any (same_count l) ps
any_same l ps = any_reverse (same_count l) ps

pub rule13_sets_back : (own first : List Rec) → (counts_sound first && sets_differ own first) ≡ (counts_sound (reverse first) && sets_differ own (reverse first))
unfolding sets_differ all_in counts_sound
rule13_sets_back own first = simp (all_reverse, any_same)
