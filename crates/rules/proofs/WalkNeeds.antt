-- What each need of the functions that lead the state on asks.
-- Assumes nothing.
use mathlib.Core.Path.{◌≡◌, ap, ◌∙◌}
use mathlib.Core.Bool.{Bool, true, false}
use mathlib.Core.List.{List}
use Prim.Native.Nat.{ℕ, ◌+◌, ◌≤◌, ◌<◌}
use native.Mathlib.Omega.{arith}
use borrow.Author.Rules.{rules}
use borrow.Author.Tests.{eq-eqb, ne_eqb, le-leb, lt-leb}
use Rattle.std.specs.Prelude.{Option, unwrap_or}
use Rattle.house.specs.Text.{Text}
use Rattle.lines_fields.specs.declared.Span.{Span}
use Rattle.lines_fields.specs.Marks.{span, judged_span}
use Rattle.lines.specs.Records.{Rec, IP, IE, IN}
use Rattle.rules_definitions.specs.Forms.{text}
use Rattle.rules.specs.declared.Open.{Open}
use Rattle.rules.specs.declared.Known.{Known}
use Rattle.rules.specs.declared.Block.{Block}
use Rattle.rules.specs.declared.State.{State}
use Rattle.rules.specs.declared.Here.{Here}
use Rattle.rules.specs.Walk.{rec_in, day_of, no_open, no_day, start_state}
use Rattle.rules.specs.Advance.{next_place, next_uli, next_born, next_day, next_since, open_in, next_open, next_run, next_many, next_first, next_not_immunized, next_known, next_block, advanced}

-- next_place
module _ (p k : ℕ) where
  pub place_on : 3 ≤ k → k < 8 → p + 1 ≡ next_place p k
  unfolding next_place
  place_on h m = simp (le-leb 3 k h, le-leb k 7 (omega arith))

  pub place_low : k < 3 → p ≡ next_place p k
  unfolding next_place
  place_low h = simp (lt-leb 3 k h)

  pub place_high : 8 ≤ k → p ≡ next_place p k
  unfolding next_place
  place_high h = simp (le-leb 3 k (omega arith), lt-leb k 7 (omega arith))

-- the others, by whether the kind is the one asked for
module _ (k : ℕ) where
  pub uli_here : (file : Text) (m : List ℕ) (was r : Span) → k ≡ IP → r ≡ judged_span file m 3 → r ≡ next_uli file m k was
  unfolding next_uli
  uli_here file m was r h e = e ∙ simp (eq-eqb _ _ h)

  pub uli_same : (file : Text) (m : List ℕ) (was : Span) → (k ≡ IP → ⊥) → was ≡ next_uli file m k was
  unfolding next_uli
  uli_same file m was h = simp (ne_eqb _ _ h)

  pub born_here : (l : Rec) (was : ℕ) (d : Option ℕ) (n : ℕ) → k ≡ IP → d ≡ day_of (text l 25) → n ≡ unwrap_or d 0 → n ≡ next_born l k was
  unfolding next_born
  born_here l was d n h e c = c ∙ ap (λ (x : Option ℕ). unwrap_or x 0) e ∙ simp (eq-eqb _ _ h)

  pub born_same : (l : Rec) (was : ℕ) → (k ≡ IP → ⊥) → was ≡ next_born l k was
  unfolding next_born
  born_same l was h = simp (ne_eqb _ _ h)

  pub day_here : (j : ℕ) (was day : Option ℕ) → k ≡ j → day ≡ next_day j was k day
  unfolding next_day
  day_here j was day h = simp (eq-eqb _ _ h)

  pub day_same : (j : ℕ) (was day : Option ℕ) → (k ≡ j → ⊥) → was ≡ next_day j was k day
  unfolding next_day
  day_same j was day h = simp (ne_eqb _ _ h)

  pub not_immunized_more : (i : ℕ) → k ≡ IN → i + 1 ≡ next_not_immunized i k
  unfolding next_not_immunized
  not_immunized_more i h = simp (eq-eqb _ _ h)

  pub not_immunized_same : (i : ℕ) → (k ≡ IN → ⊥) → i ≡ next_not_immunized i k
  unfolding next_not_immunized
  not_immunized_same i h = simp (ne_eqb _ _ h)

  module _ (h : k ≡ IE) where
    pub since_same : (s next : ℕ) → s ≡ next_since s k next
    unfolding next_since
    since_same s next = simp (eq-eqb _ _ h)

    pub open_same : (file : Text) (m : List ℕ) (was : Open) (inb : Bool) → was ≡ next_open file m was k inb
    unfolding next_open
    open_same file m was inb = simp (eq-eqb _ _ h)

    pub run_same : (r from next : ℕ) (inb : Bool) → r ≡ next_run r k inb from next
    unfolding next_run
    run_same r from next inb = simp (eq-eqb _ _ h)

    pub many_same : (many joined : Bool) → many ≡ next_many many k joined
    unfolding next_many
    many_same many joined = simp (eq-eqb _ _ h)

    pub first_same : (first : Span) (many joined : Bool) (next : ℕ) → many ≡ true → first ≡ next_first first many k joined next
    unfolding next_first
    first_same first many joined next m = simp (eq-eqb _ _ h, m)

    pub first_grown : (first : Span) (many joined : Bool) (next : ℕ) → many ≡ false → span first.start next ≡ next_first first many k joined next
    unfolding next_first
    first_grown first many joined next m = simp (eq-eqb _ _ h, m)

  module _ (h : k ≡ IE → ⊥) where
    pub since_next : (s next : ℕ) → next ≡ next_since s k next
    unfolding next_since
    since_next s next = simp (ne_eqb _ _ h)

    pub open_here : (file : Text) (m : List ℕ) (was r : Open) (inb : Bool) → inb ≡ true → r ≡ open_in file m → r ≡ next_open file m was k inb
    unfolding next_open
    open_here file m was r inb n e = e ∙ simp (ne_eqb _ _ h, n)

    pub open_none : (file : Text) (m : List ℕ) (was r : Open) (inb : Bool) → inb ≡ false → r ≡ no_open → r ≡ next_open file m was k inb
    unfolding next_open
    open_none file m was r inb n e = e ∙ simp (ne_eqb _ _ h, n)

    pub run_from : (r from next : ℕ) (inb : Bool) → inb ≡ true → from ≡ next_run r k inb from next
    unfolding next_run
    run_from r from next inb m = simp (ne_eqb _ _ h, m)

    pub run_next : (r from next : ℕ) (inb : Bool) → inb ≡ false → next ≡ next_run r k inb from next
    unfolding next_run
    run_next r from next inb m = simp (ne_eqb _ _ h, m)

    pub many_joined : (many joined : Bool) → joined ≡ next_many many k joined
    unfolding next_many
    many_joined many joined = simp (ne_eqb _ _ h)

    pub first_joined : (first : Span) (many joined : Bool) (next : ℕ) → joined ≡ true → first ≡ next_first first many k joined next
    unfolding next_first
    first_joined first many joined next m = simp (ne_eqb _ _ h, m)

    pub first_new : (first : Span) (many joined : Bool) (next : ℕ) → joined ≡ false → span next next ≡ next_first first many k joined next
    unfolding next_first
    first_new first many joined next m = simp (ne_eqb _ _ h, m)

pub ruleset for_next = (
  rules,
  place_on,
  place_low,
  place_high,
  uli_here,
  uli_same,
  born_here,
  born_same,
  day_here,
  day_same,
  not_immunized_more,
  not_immunized_same,
  since_same,
  since_next,
  open_same,
  open_here,
  open_none,
  run_same,
  run_from,
  run_next,
  many_same,
  many_joined,
  first_same,
  first_grown,
  first_joined,
  first_new,
)

-- open_of
pub open_is : (file : Text) (m : List ℕ) (a b c d : Span) → a ≡ judged_span file m 3 → b ≡ judged_span file m 4 → c ≡ judged_span file m 6 → d ≡ judged_span file m 8
    → ◌≡◌ {A = Open} (record { uli = a; kind = b; date = c; vaccine = d }) (open_in file m)
open_is file m a b c d p q r s = rw (p, q, r, s)

pub ruleset for_open_of = (rules, open_is)

-- next_known
pub known_is : (file : Text) (m : List ℕ) (was : Known) (h : Here) (u : Span) (b : ℕ) (x y : Option ℕ) → u ≡ next_uli file m h.kind was.uli
    → b ≡ next_born (rec_in file m) h.kind was.born → x ≡ next_day 4 was.ii_day h.kind h.day → y ≡ next_day 6 was.in_day h.kind h.day
    → ◌≡◌ {A = Known} (record { uli = u; born = b; historical = h.historical; vaccine = h.vaccine; ii_day = x; in_day = y }) (next_known file m was h)
unfolding next_known
known_is file m was h u b x y e1 e2 e3 e4 = rw (e1, e2, e3, e4)

pub ruleset for_next_known = (rules, known_is)

-- next_block
pub block_is : (file : Text) (m : List ℕ) (was : Block) (h : Here) (o : Open) (f : Span) (r : ℕ) (y : Bool) → o ≡ next_open file m was.last h.kind h.facts.inb
    → f ≡ next_first was.first was.many h.kind h.facts.joined h.next → r ≡ next_run was.run h.kind h.facts.inb h.block h.next
    → y ≡ next_many was.many h.kind h.facts.joined
    → ◌≡◌ {A = Block} (record { last = o; run = r; many = y; first = f }) (next_block file m was h)
unfolding next_block
block_is file m was h o f r y e1 e2 e3 e4 = rw (e1, e2, e3, e4)

pub ruleset for_next_block = (rules, block_is)

-- advance
pub advance_is : (file : Text) (m : List ℕ) (st : State) (h : Here) (p s i : ℕ) (k : Known) (b : Block) → p ≡ next_place st.place h.kind → k ≡ next_known file m st.known h
    → s ≡ next_since st.since h.kind h.next → b ≡ next_block file m st.block h → i ≡ next_not_immunized st.not_immunized h.kind
    → ◌≡◌ {A = State} (record { n = st.n + 1; place = p; known = k; since = s; block = b; not_immunized = i }) (advanced file m st h)
unfolding advanced
advance_is file m st h p s i k b e1 e2 e3 e4 e5 = rw (e1, e2, e3, e4, e5)

pub ruleset for_advance = (rules, advance_is)

-- start
pub start_is : (o : Open) → o ≡ no_open
    → ◌≡◌ {A = State} (record {
      n = 1;
      place = 1;
      known = record { uli = span 0 0; born = 0; historical = false; vaccine = span 0 0; ii_day = no_day; in_day = no_day };
      since = 0;
      block = record { last = o; run = 0; many = false; first = span 0 0 };
      not_immunized = 0;
    }) start_state
start_is o e = rw e

pub ruleset for_start = (rules, start_is)
