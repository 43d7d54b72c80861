-- What each need of the functions on the questions of rules 12 to 14 asks.
-- Assumes nothing.
use mathlib.Core.Path.{◌≡◌, refl, sym, ap, ◌∙◌, subst}
use mathlib.Core.Bool.{Bool, true, false}
use mathlib.Core.List.{List}
use Prim.Native.Nat.{ℕ, ◌-◌}
use native.Mathlib.Omega.{arith}
use borrow.Author.Rules.{rules}
use Rattle.house.specs.Text.{Text, any}
use Rattle.house.proofs.Small.{clash}
use Rattle.lines_fields.specs.Inside.{part}
use Rattle.lines.specs.Records.{recs}
use Rattle.lines.proofs.PartLaws.{recs_nil}
use Rattle.rules_definitions.specs.Forms.{text}
use Rattle.rules_lists.specs.Among.{lot_is}
use Rattle.rules.specs.declared.Here.{Here}
use Rattle.rules.specs.declared.Lists.{Lists}
use Rattle.rules.specs.Walk.{line_rec}
use Rattle.rules.specs.Questions.{AntigenAsked, LotAsked, SetsAsked, AnswersAre, answered, AnsweredIs, AskAt}
use Rattle.rules.specs.Room.{no_lists, with_met, ListsAre}

-- meet
pub met_is : (l : Lists) (m n : ℕ)
    → ◌≡◌ {A = Lists} (record {
      lots = l.lots;
      lots_made = l.lots_made;
      first = l.first;
      firsts = l.firsts;
      first_made = l.first_made;
      first_sound = l.first_sound;
      own = l.own;
      owns = l.owns;
      own_made = l.own_made;
      antigens_met = m;
      lots_met = n;
    }) (with_met l m n)
unfolding with_met
met_is l m n = refl

pub ruleset for_meet = (rules, met_is)

-- ask_ie, ask_ii
module _ (file : Text) (h : Here) where
  pub ie_answers : (r : Bool) → h.kind ≡ 5 → AntigenAsked file h r → AnswersAre file h r false
  ie_answers r k e = record { antigen_is_lem = λ z. e; lot_is_lem = λ z. clash (cc); differ_is = λ z. clash (cc) }

  pub ii_answers : (r d : Bool) → h.kind ≡ 4 → h.facts.joined ≡ true → LotAsked file h r → SetsAsked file h d → AnswersAre file h r d
  ii_answers r d k j e f = record { antigen_is_lem = λ z. clash (cc); lot_is_lem = λ z. e; differ_is = λ z. f ∙ rw j }

  pub ii_alone : (m : List ℕ) (r d : Bool) → AskAt file m h → h.kind ≡ 4 → h.facts.joined ≡ false → r ≡ false → d ≡ false → AnswersAre file h r d
  ii_alone m r d a k j x y =
      record {
        antigen_is_lem = λ z. clash (cc);
        lot_is_lem = λ z. x ∙ sym (ap (λ (n : ℕ). any (lot_is (text (line_rec file h.at) 15)) (recs (part file n h.at))) (a.alone j) ∙ none h.at);
        differ_is = λ z. y ∙ rw j;
      }
    where
      none : (n : ℕ) → any (lot_is (text (line_rec file h.at) 15)) (recs (part file n n)) ≡ false
      none n = let z : n - n ≡ 0 = omega arith in rw (z, recs_nil)

  pub no_answers : (r d : Bool) → (h.kind ≡ 5 → ⊥) → (h.kind ≡ 4 → ⊥) → AnswersAre file h r d
  no_answers r d n m = record { antigen_is_lem = λ z. absurd (n z); lot_is_lem = λ z. absurd (m z); differ_is = λ z. absurd (m z) }

-- a room stays what it is, whatever was met
met_same : (file : Text) (room : List ℕ) (l : Lists) (m n : ℕ) → ListsAre file room l → ListsAre file room (with_met l m n)
unfolding with_met
met_same file room l m n r =
    record {
      lots_in_lem = r.lots_in_lem;
      firsts_in_lem = r.firsts_in_lem;
      owns_in = r.owns_in;
      lots_are = r.lots_are;
      first_are = r.first_are;
      first_sound_lem = r.first_sound_lem;
      own_are = r.own_are;
      own_in = r.own_in;
    }

pub met_lists : (file : Text) (room : List ℕ) (l k : Lists) (m n : ℕ) → k ≡ with_met l m n → ListsAre file room l → ListsAre file room k
met_lists file room l k m n e r = subst (ListsAre file room) (sym e) (met_same file room l m n r)

pub same_lists : (file : Text) (room : List ℕ) (l k : Lists) → k ≡ l → ListsAre file room l → ListsAre file room k
same_lists file room l k e r = subst (ListsAre file room) (sym e) r

pub ruleset for_answers = (rules, same_lists, ie_answers, ii_answers, ii_alone, no_answers, met_lists)

-- answer
pub answered_is : (h : Here) (again differ : Bool)
    → ◌≡◌ {A = Here} (record {
      kind = h.kind;
      historical = h.historical;
      n = h.n;
      place = h.place;
      at = h.at;
      next = h.next;
      uli = h.uli;
      born = h.born;
      vaccine = h.vaccine;
      day = h.day;
      since = h.since;
      block = h.block;
      own = h.own;
      first = h.first;
      facts = h.facts;
      again = again;
      differ = differ;
    }) (answered h again differ)
unfolding answered
answered_is h again differ = refl

pub ruleset for_answer = (rules, answered_is)

-- with_answers
both_answers : (file : Text) (h : Here) (again differ : Bool) → AnswersAre file h again differ → AnsweredIs file h (answered h again differ)
unfolding answered
both_answers file h again differ b = record { exact = refl; answers = b }

pub with_answers_is : (file : Text) (h r : Here) (again differ : Bool) → AnswersAre file h again differ → r ≡ answered h again differ → AnsweredIs file h r
with_answers_is file h r again differ a e = subst (AnsweredIs file h) (sym e) (both_answers file h again differ a)

pub ruleset for_with_answers = (rules, with_answers_is)

-- no_lists
pub nothing_made : (file : Text) (room : List ℕ) (l : Lists) → l ≡ no_lists → ListsAre file room l
nothing_made file room l e =
    subst (ListsAre file room) (sym e)
    (record {
      lots_in_lem = omega arith;
      firsts_in_lem = omega arith;
      owns_in = omega arith;
      lots_are = λ z. clash (cc);
      first_are = λ z. clash (cc);
      first_sound_lem = λ z. clash (cc);
      own_are = λ z. clash (cc);
      own_in = λ z. clash (cc);
    })
