-- The rules of a code by look-up in the book: rules 4 and 5, and rule 11 of a pair.
-- Assumes nothing.
use mathlib.Core.Path.{◌≡◌, refl, sym, ap, ◌∙◌}
use mathlib.Core.Bool.{Bool, true, false, not, cond, ◌&&◌, ◌||◌, and-true}
use mathlib.Core.List.{[]}
use Prim.Native.Nat.{ℕ}
use Rattle.house.specs.Text.{Text, is_empty}
use Rattle.lines.specs.Records.{Rec, II}
use Rattle.book.specs.declared.Sections.{Sections}
use Rattle.book.specs.Book.{code_text}
use Rattle.rules_definitions.specs.Forms.{text}
use Rattle.rules_definitions.specs.Seen.{Setting, Seen}
use Rattle.rules_definitions.specs.Codes.{book_kind, code_read, code_in, day_is_sound, record_day, allows_ended, is_in_force, pair_in}
use Rattle.rules_definitions.specs.Rules.{broken_at}
use Rattle.rules_forms.specs.FieldLeaves.{lowest, given_in}
use Rattle.rules_forms.proofs.FieldLaws.{given_in_lem}
use Rattle.rules_fields.specs.declared.Day.{Day}
use Rattle.book.specs.LookUp.{known_by, in_force_by, ended_by, in_force_until_by}
use Rattle.book.proofs.StandingLaws.{until_none}
use Rattle.rules_fields.specs.Fields.{broken, any_end, rules4and5_of, is_out, code_by, is_pair_wrong}
use Rattle.rules.specs.declared.By.{By}
use Rattle.rules.specs.Inside.{listed}
use Rattle.rules.specs.Fields.{AskedOn, Looks}
use Rattle.rules.proofs.AtLaws.{code_number, pair_number, CodeAt}
use Rattle.rules.proofs.LowestLaws.{Loose, low, one_broken}

-- rules 4 and 5 of code c of the book's kind `of`, at a field with text u
abbrev pub code_of : ℕ → Text → Text → Sections → Day → Text → ℕ
code_of of c book q day u =
    rules4and5_of (is_empty u) (known_by book q of (code_text of c [])) (is_out of (code_text of c []) book q day)

-- rule 11 of code c of the book's kind `of` and a vaccine, which make a pair of kind `pair`
abbrev pub pair_of : ℕ → ℕ → Text → Text → Text → ℕ → ℕ → Text → Sections → Day → ℕ
pair_of k f t c vaccine of pair book q day =
    cond
    ((given_in II 8 vaccine && known_by book q 1 (code_text 1 vaccine [])) && (given_in k f t && known_by book q of (code_text of c [])) && is_pair_wrong pair vaccine c book q day)
    11 0

six : (r : ℕ) (a b c d e g : Bool) (a2 b2 c2 d2 e2 g2 : Bool) → a ≡ a2 → b ≡ b2 → c ≡ c2 → d ≡ d2 → e ≡ e2 → g ≡ g2
    → cond ((a && b) && (c && d) && (not e || g)) r 0 ≡ cond ((a2 && b2) && (c2 && d2) && (not e2 || g2)) r 0
six r a b c d e g a2 b2 c2 d2 e2 g2 p1 p2 p3 p4 p5 p6 = rw (p1, p2, p3, p4, p5, p6)

both_same : (a b x y m : Bool) → a ≡ b → x ≡ y → (a && (m || not x)) ≡ (b && (m || not y))
both_same a b x y m p q = rw (p, q)

code_of_lem : (k f of : ℕ) (l : Rec) → book_kind k f ≡ of → code_read k l f ≡ text l f → code_in k l f ≡ code_text of (text l f) []
unfolding code_in
code_of_lem k f of l o r = rw (o, r)

code_of_8 : (l : Rec) → code_in II l 8 ≡ code_text 1 (text l 8) []
unfolding code_in book_kind code_read
code_of_8 l = refl

module _ (s : Setting) (v : Seen) (by : By) (book : Text) (day : Day) (ls : Looks by book s) (d : AskedOn day s v) where
  abbrev L : Rec
  L = v.line

  abbrev Q : Sections
  Q = by.sections

  module _ (of : ℕ) (c y : Text) (ce : c ≡ y) where
    known_same : known_by book by.sections of y ≡ s.known of c
    known_same = sym (ap (s.known of) ce ∙ ap (λ (g : ℕ → Text → Bool). g of y) ls.known_is)

    until_same : (n : ℕ) → in_force_until_by book Q n day.until of y ≡ in_force_by book Q n of y && (allows_ended v || not (ended_by book Q s.today of y))
    unfolding in_force_until_by
    until_same n = ap (λ (u : ℕ). in_force_until_by book Q n u of y) d.until_is ∙ go (allows_ended v)
      where
        go : (b : Bool) → in_force_until_by book Q n (cond b any_end s.today) of y ≡ in_force_by book Q n of y && (b || not (ended_by book Q s.today of y))
        go true = until_none book Q of y n ∙ sym (and-true (in_force_by book Q n of y))
        go false = refl

    in_same : day.sound ≡ true → in_force_until_by book Q day.number day.until of y ≡ is_in_force s v of c
    unfolding is_in_force
    in_same e =
        until_same day.number
        ∙ sym
        (both_same _ _ _ _ (allows_ended v)
        (ap (s.in_force_lem (record_day v) of) ce
        ∙ ap (λ (g : ℕ → ℕ → Text → Bool). g (record_day v) of y) ls.force_is
        ∙ ap (λ (n : ℕ). in_force_by book Q n of y) (d.day_is.number_is e))
        (ap (s.ended s.today of) ce ∙ ap (λ (g : ℕ → ℕ → Text → Bool). g s.today of y) ls.ended_is))

    force_same : is_out of y book Q day ≡ (day_is_sound v && not (is_in_force s v of c))
    force_same = go day.sound refl ∙ ap (λ (b : Bool). b && not (is_in_force s v of c)) (sym d.day_is.sound_is)
      where
        go : (b : Bool) → day.sound ≡ b → (b && not (in_force_until_by book Q day.number day.until of y)) ≡ (b && not (is_in_force s v of c))
        go true e = ap not (in_same e)
        go false e = refl

  module _ (k f of : ℕ) (c : Text) where
    -- the code as the rules read it
    pub rules4_and_5_seen : code_in k v.line f ≡ code_text of c [] → code_of of c book by.sections day (text v.line f) ≡ code_number s v k f of
    rules4_and_5_seen ce =
        rw (known_same of (code_in k L f) (code_text of c []) ce, force_same of (code_in k L f) (code_text of c []) ce)

    pub rule11_pair_seen : (pair : ℕ) (t vaccine : Text) → t ≡ text v.line f → text v.head 8 ≡ vaccine → code_in k v.line f ≡ code_text of c [] → pair_in v f ≡ code_text pair vaccine c
        → pair_of k f t c vaccine of pair book by.sections day ≡ pair_number s v k f of pair
    rule11_pair_seen pair t vaccine te he ce pe =
        six 11 _ _ _ _ _ _ _ _ _ _ _ _ (ap (given_in II 8) (sym he) ∙ given_in_lem II v.head 8)
        (known_same 1 (code_in II v.head 8) (code_text 1 vaccine []) vaccine_in) (ap (given_in k f) te ∙ given_in_lem k L f)
        (known_same of (code_in k L f) (code_text of c []) ce) (known_same pair (pair_in v f) (code_text pair vaccine c) pe)
        (force_same pair (pair_in v f) (code_text pair vaccine c) pe)
      where
        vaccine_in : code_in II v.head 8 ≡ code_text 1 vaccine []
        vaccine_in = code_of_8 v.head ∙ ap (λ (u : Text). code_text 1 u []) he

    -- a code that is the field's text
    pub rules4_and_5_low : (x : Bool) → c ≡ text v.line f → Loose k f x v.line → book_kind k f ≡ of → code_read k v.line f ≡ text v.line f
        → code_by k x f c c book by.sections day ≡ lowest k v.line f (code_number s v k f of)
    rules4_and_5_low x e w o r =
        low k f x L c e w _
        ∙ ap (λ (n : ℕ). lowest k L f (code_of n c book by.sections day c)) o
        ∙ ap (λ (u : Text). lowest k L f (code_of of c book by.sections day u)) e
        ∙ ap (lowest k L f) (rules4_and_5_seen (code_of_lem k f of v.line o r ∙ ap (λ (u : Text). code_text of u []) (sym e)))

  pub rules4_and_5_broken : (k f of : ℕ) (x : Bool) (t : Text) → t ≡ text v.line f → Loose k f x v.line → book_kind k f ≡ of → code_read k v.line f ≡ text v.line f → CodeAt s v k f of
      → listed (broken (code_by k x f t t book by.sections day) 0 0) ≡ broken_at s v f
  rules4_and_5_broken k f of x t te w o r h = one_broken s v f _ _ (rules4_and_5_low k f of t x te w o r) h
