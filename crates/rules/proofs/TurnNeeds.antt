-- One turn of the walk: what is known of a line leads to what is known of the next.
-- Assumes nothing.
use mathlib.Core.Path.{◌≡◌, refl, sym, ap, ◌∙◌, subst}
use mathlib.Core.Bool.{Bool, true, false, not, cond, ◌&&◌}
use mathlib.Core.List.{List, ◌∷◌, ◌++◌}
use Prim.Native.Nat.{ℕ, ◌+◌, ◌^◌, ◌≤◌, ◌<◌}
use native.Mathlib.Numerals.{add-one}
use native.Mathlib.Omega.{arith}
use borrow.Author.Rules.{rules}
use lib.ListN.{length, get_or, take, drop}
use Rattle.house.specs.Text.{Text}
use Rattle.lines_fields.specs.declared.Span.{Span}
use Rattle.lines_fields.specs.Lines.{line_len, line_at}
use Rattle.lines_fields.specs.Marks.{marks_at}
use Rattle.lines_fields.proofs.LineLaws.{line_is, at_text}
use Rattle.lines.specs.Records.{Rec, rec_of, recs}
use Rattle.lines.specs.Inside.{whole}
use Rattle.lines.proofs.PartLaws.{recs_on}
use Rattle.ledger.specs.Ledger.{found_in}
use Rattle.rules_definitions.specs.Seen.{Setting, Seen, seen_at}
use Rattle.rules_definitions.specs.Findings.{Finding, fields_findings}
use Rattle.rules.specs.declared.State.{State}
use Rattle.rules.specs.declared.Here.{Here}
use Rattle.rules.specs.declared.By.{By}
use Rattle.rules_fields.specs.declared.Facts.{Facts}
use Rattle.rules.specs.Inside.{kept, keep}
use Rattle.rules.specs.Look.{setting_by}
use Rattle.rules.specs.Fields.{Looks, line_most, Told}
use Rattle.rules.specs.Under.{with_repeated, line_findings_by}
use Rattle.rules.specs.Walk.{ReadIn, line_rec, Holds, block_by, facts_by, here_with, HereIs}
use Rattle.rules.specs.Advance.{advanced}
use Rattle.rules.specs.Questions.{answered, AnsweredIs, AskAt}
use Rattle.rules.specs.Turned.{Turn, TurnAt, rest_of, TurnIs}
use Rattle.rules.proofs.KeepLaws.{keep_append}
use Rattle.rules.proofs.SeenLaws as seen
use Rattle.rules.proofs.StepLaws.{holds_step}
use Rattle.rules.proofs.ViewLaws.{here, view, number_is, told}

-- begins
module _ (f : Facts) where
  pub begins_not : f.inb ≡ false → false ≡ f.inb && not f.joined
  begins_not e = rw e

  module _ (e : f.inb ≡ true) where
    pub begins_joined : f.joined ≡ true → false ≡ f.inb && not f.joined
    begins_joined j = rw (e, j)

    pub begins_first : f.joined ≡ false → true ≡ f.inb && not f.joined
    begins_first j = rw (e, j)

pub ruleset for_begins = (rules, begins_not, begins_joined, begins_first)

-- one turn of the walk
module _ (file : Text) (at : ℕ) (st : State) (h : Holds file at st) (less : at < length file) (table ledger : Text) (live : ℕ) (y : Here)
    (i : HereIs file at st table ledger live y) where
  next_is : y.next ≡ at + line_len (drop at file)
  unfolding here_with
  next_is = ap (λ (z : Here). z.next) i.exact

  rest_on : recs (drop at file) ≡ line_rec file at ∷ recs (drop y.next file)
  unfolding line_at
  rest_on =
      recs_on file at (line_at at (drop at file)) (line_is file at (line_at at (drop at file)) refl) less
      ∙ ap (λ (l : Rec). l ∷ recs (drop (at + line_len (drop at file)) file)) (ap rec_of (at_text file at (line_at at (drop at file)) (line_is file at (line_at at (drop at file)) refl)))
      ∙ ap (λ (n : ℕ). line_rec file at ∷ recs (drop n file)) (sym next_is)

  module _ (s : Setting) where
    rest_step : rest_of s file table at st.n ≡ line_findings_by s file table (here file at st h less table ledger live y i s) ++ rest_of s file table y.next (st.n + 1)
    unfolding rest_of
    rest_step = rw (rest_on, seen.step file at st h less table ledger live y i, add-one)

    its_findings : line_findings_by s file table (here file at st h less table ledger live y i s)
        ≡ fields_findings s st.n (view file at st h less table ledger live y i s) 1 (length (view file at st h less table ledger live y i s).line.fields)
    unfolding line_findings_by with_repeated seen_at
    its_findings = refl

    abbrev its : Seen
    its = view file at st h less table ledger live y i s

    renumbered : fields_findings s st.n its 1 (length its.line.fields) ≡ fields_findings s y.n its 1 (length its.line.fields)
    renumbered = ap (λ (n : ℕ). fields_findings s n its 1 (length its.line.fields)) (sym (number_is file at st h less table ledger live y i s))

    abbrev left : List Finding
    left = rest_of s file table y.next (st.n + 1)

    pub turn_left : (c d : ℕ) (a z : Text)
        → kept d z ≡ keep (fields_findings s y.n (view file at st h less table ledger live y i s) 1 (length (view file at st h less table ledger live y i s).line.fields)) (kept c a)
        → keep (rest_of s file table at st.n) (kept c a) ≡ keep (rest_of s file table y.next (st.n + 1)) (kept d z)
    turn_left c d a z m =
        ap (λ (xs : List Finding). keep xs (kept c a)) (rest_step ∙ ap (λ (xs : List Finding). xs ++ left) (its_findings ∙ renumbered))
        ∙ keep_append (fields_findings s y.n its 1 (length its.line.fields)) left (kept c a)
        ∙ ap (keep left) (sym m)

module _ (file : Text) (m₀ : List ℕ) (t : Turn) (g : TurnAt file m₀ t) where
  h : Holds file t.at t.st
  h = g.looks.holds

  less : t.at < length file
  less = g.looks.less

  pub turn_numbers : (t.st.n + 1 < 2 ^ 64) × (t.st.place + 1 < 2 ^ 64) × (t.st.not_immunized + 1 < 2 ^ 64)
  turn_numbers = (omega (arith, h.n_small, less, g.looks.short), omega (arith, h.place_small, less, g.looks.short), omega (arith, h.not_immunized_small, less, g.looks.short))

  pub turn_findings : t.count + line_most < 2 ^ 64
  turn_findings = omega (arith, g.few, less, g.looks.short)

  module _ (m : List ℕ) (e : m ≡ marks_at file t.at) where
    pub turn_read : ReadIn file m
    turn_read =
        let z : get_or m 0 0 ≡ t.at = ap (λ (x : List ℕ). get_or x 0 0) e ∙ seen.its_mark file t.at less in
        record { inside = omega (arith, z, less); marked = e ∙ ap (marks_at file) (sym z) }

    -- what is asked of other lines
    module _ (table ledger : Text) (live : ℕ) (y : Here) (i : HereIs file t.at t.st table ledger live y) where
      at_of : y.at ≡ t.at
      unfolding here_with
      at_of = ap (λ (z : Here). z.at) i.exact

      since_of : y.since ≡ t.st.since
      unfolding here_with
      since_of = ap (λ (z : Here). z.since) i.exact

      first_of : y.first ≡ t.st.block.first
      unfolding here_with
      first_of = ap (λ (z : Here). z.first) i.exact

      block_of : y.block ≡ cond y.facts.joined t.st.block.run y.at
      unfolding here_with facts_by block_by
      block_of = ap (λ (z : Here). z.block) i.exact ∙ sym (ap (λ (z : Here). cond z.facts.joined t.st.block.run z.at) i.exact)

      pub turn_asks : AskAt file m y
      turn_asks =
          record {
            less = omega (arith, at_of, less);
            short = g.looks.short;
            marked = e ∙ ap (marks_at file) (sym at_of);
            line_ends = ap (λ (n : ℕ). whole (take n file)) at_of ∙ h.ended less;
            since_in = omega (arith, at_of, since_of, h.since_is.from);
            block_is_in = omega (arith, at_of, seen.from_back file t.at t.st h less table ledger live y i);
            block_ends = seen.before_ended file t.at t.st h less table ledger live y i;
            on = omega (arith, at_of, seen.on file t.at t.st h less table ledger live y i);
            next_in = seen.upto file t.at t.st h less table ledger live y i;
            next_ends = (holds_step file t.at t.st h less table ledger live y i).ended;
            own_in = i.own_is.own_in;
            first_in = omega (arith, ap (λ (p : Span). p.end) first_of, h.first_is.upto, less);
            alone = λ z. block_of ∙ rw z;
          }

    module _ (table ledger : Text) (by : By) (y : Here) (i : HereIs file t.at t.st table ledger by.live y) (x : Here)
        (q : AnsweredIs file y x) (book : Text) where
      answered_number : x.n ≡ y.n
      unfolding answered
      answered_number = ap (λ (z : Here). z.n) q.exact

      abbrev S : Setting
      S = setting_by by book ledger

      looks : Looks by book S
      unfolding setting_by
      looks = record { today_is = refl; known_is = refl; force_is = refl; ended_is = refl }

      lives : S.live ≡ found_in ledger by.live
      unfolding setting_by
      lives = refl

      abbrev shown : Seen
      shown = view file t.at t.st h less table ledger by.live y i S

      answered_told : Told file m x book by S shown
      answered_told =
          subst (λ (z : Here). Told file m z book by S shown) (sym q.exact)
          (subst (λ (k : List ℕ). Told file k (answered y x.again x.differ) book by S shown) (sym e)
          (told file t.at t.st h less table ledger by.live y i S x.again x.differ q.answers book by looks lives))

      pub turned_is : (area after : Text) (c : ℕ) (st2 : State) (f : Bool)
          → ((s : Setting) (v : Seen) → Told file m x book by s v → kept c after ≡ keep (fields_findings s x.n v 1 (length v.line.fields)) (kept t.count area))
          → c ≤ t.count + line_most → st2 ≡ advanced file m t.st y → f ≡ y.facts.inb && not y.facts.joined
          → TurnIs (setting_by by book ledger) file table t area (record { at = y.next; st = st2; count = c; first = f }) after
      unfolding advanced
      turned_is area after c st2 f j k z b =
          record {
            holds = rw (z, e) (holds_step file t.at t.st h less table ledger by.live y i);
            next_is = next_is file t.at t.st h less table ledger by.live y i;
            on = seen.on file t.at t.st h less table ledger by.live y i;
            upto = seen.upto file t.at t.st h less table ledger by.live y i;
            few = omega (arith, g.few, seen.on file t.at t.st h less table ledger by.live y i);
            left =
                rw z
                (turn_left file t.at t.st h less table ledger by.live y i S t.count c area after
                (j S shown answered_told ∙ ap (λ (n : ℕ). keep (fields_findings S n shown 1 (length shown.line.fields)) (kept t.count area)) answered_number));
            first_is = seen.begins_is file t.at t.st h less table ledger by.live y i f b;
            before_is = sym (seen.step file t.at t.st h less table ledger by.live y i);
          }
