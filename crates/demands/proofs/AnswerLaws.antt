-- Which answer is given: each exactly when it is due.
-- Assumes nothing.
use Prim.Native.Nat.{ℕ, ◌+◌, ◌≤◌}
use native.Mathlib.Omega.{arith}
use mathlib.Core.Path.{◌≡◌, refl, ap, ◌∙◌, subst}
use mathlib.Core.Bool.{Bool, true, false, not, cond}
use mathlib.Core.Logic.{inl}
use mathlib.Core.List.{List, [], ◌∷◌}
use lib.ListN.{length}
use lib.Dec.{ltb}
use borrow.Author.Tests.{ltb-true, ltb-false, lt-ltb, le-ltb}
use Rattle.house.specs.Text.{is_empty}
use Rattle.house.specs.Members.{In}
use Rattle.dates.specs.Dates.{is_day}
use Rattle.house.proofs.Small.{clash}
use Rattle.lines.specs.Shape.{Shape, shape_of}
use Rattle.book.specs.Book.{book_ok}
use Rattle.ledger.specs.Ledger.{ledger_ok, slots_in, live_in}
use Rattle.rules.specs.Findings.{Finding}
use Rattle.rules.proofs.FindingLaws.{findings_listed, one_list}
use Rattle.answers.specs.declared.Refusal.TheVariants.{Date, Long, Book, Ledger, Shape as BadShape, Findings, Full}
use Rattle.answers.specs.Answers.{Answer, Lent, Outcome, file_most, setting_of, findings, added, deleted, is_full, refused, accepted, with_findings, roomed, judged, shaped, check}
use Rattle.demands.specs.Demands.{Unbroken, ListsAll, Room, Lends, Shapely, Due}
use Rattle.std.proofs.Common.{Ok, Err}

-- Findings and room, as facts

pub lists_findings : (x : Lent) → ListsAll x (findings x)
unfolding findings
lists_findings x = findings_listed (setting_of x) x.file

pub only_findings : (x : Lent) (ys : List Finding) → ListsAll x ys → findings x ≡ ys
only_findings x ys l = one_list (setting_of x) x.file (findings x) ys (lists_findings x) l

pub none_unbroken : (x : Lent) → findings x ≡ [] → Unbroken x
none_unbroken x e y b = subst (λ (ys : List Finding). In y ys) e ((lists_findings x).every y b)

pub unbroken_none : (x : Lent) → Unbroken x → findings x ≡ []
unbroken_none x u = go (findings x) (λ y m. u y ((lists_findings x).only y m))
  where
    go : (ys : List Finding) → ((y : Finding) → In y ys → ⊥) → ys ≡ []
    go [] h = refl
    go (y ∷ ys) h = absurd (h y (inl refl))

empty_none : (ys : List Finding) → is_empty ys ≡ true → ys ≡ []
empty_none [] e = refl
empty_none (y ∷ ys) e = clash (cc)

not_empty : (ys : List Finding) → is_empty ys ≡ false → 1 ≤ length ys
not_empty [] e = clash (cc)
not_empty (y ∷ ys) e = omega arith

pub room : (x : Lent) → is_full x ≡ false → Room x
unfolding is_full
room x e = ltb-false (slots_in x.ledger + length (deleted x)) (length (live_in x.ledger) + length (added x)) e

no_room : (x : Lent) → is_full x ≡ true → Room x → ⊥
unfolding is_full
no_room x e r = let h = ltb-true (slots_in x.ledger + length (deleted x)) (length (live_in x.ledger) + length (added x)) e in omega arith

-- What is given is due

judged_due : (x : Lent) → Shapely x → Due x (judged x).answer
unfolding Due judged roomed with_findings accepted
judged_due x s = go (is_empty (findings x)) (is_full x) refl refl
  where
    go : (a b : Bool) → is_empty (findings x) ≡ a → is_full x ≡ b → Due x (cond a (cond b (refused x Full) (accepted x)) (with_findings x)).answer
    go false b e f = (s, not_empty (findings x) e, findings x, lists_findings x, refl)
    go true true e f = (s, none_unbroken x (empty_none (findings x) e), no_room x f)
    go true false e f = (s, none_unbroken x (empty_none (findings x) e), room x f, refl, refl, refl, refl)

shaped_due : (x : Lent) (s : Shape) → Lends x → shape_of x.file ≡ s → Due x (shaped x s).answer
unfolding Due
shaped_due x (Ok u) l e = judged_due x (record { lends = l; right = e })
shaped_due x (Err fault) l e = (l, e)

pub given_due : (x : Lent) → Due x (check x).answer
unfolding Due check
given_due x = go (is_day x.today) (ltb file_most (length x.file)) (book_ok x.book) (ledger_ok x.ledger) refl refl refl refl
  where
    go : (a b c d : Bool) → is_day x.today ≡ a → ltb file_most (length x.file) ≡ b → book_ok x.book ≡ c → ledger_ok x.ledger ≡ d
        → Due x
        (cond (not a) (refused x Date)
        (cond b (refused x Long)
        (cond (not c) (refused x Book)
        (cond (not d) (refused x Ledger)
        (shaped x (shape_of x.file)))))).answer
    go false b c d e f g h = e
    go true true c d e f g h = (e, ltb-true file_most (length x.file) f)
    go true false false d e f g h = (e, ltb-false file_most (length x.file) f, g)
    go true false true false e f g h = (e, ltb-false file_most (length x.file) f, g, h)
    go true false true true e f g h =
        shaped_due x (shape_of x.file) (record { day = e; short = ltb-false file_most (length x.file) f; book = g; ledger = h }) refl

-- What is due is given

module _ (x : Lent) (l : Lends x) where
  pub lends_check : check x ≡ shaped x (shape_of x.file)
  unfolding check
  lends_check = rw (l.day, le-ltb file_most (length x.file) l.short, l.book, l.ledger)

pub shapely_check : (x : Lent) → Shapely x → check x ≡ judged x
shapely_check x s = lends_check x s.lends ∙ ap (shaped x) s.right

pub unbroken_check : (x : Lent) → Shapely x → Unbroken x → check x ≡ roomed x
unfolding judged
unbroken_check x s u = shapely_check x s ∙ ap (λ (ys : List Finding). cond (is_empty ys) (roomed x) (with_findings x)) (unbroken_none x u)

full_is : (x : Lent) → (Room x → ⊥) → is_full x ≡ true
unfolding is_full
full_is x n = go (ltb (slots_in x.ledger + length (deleted x)) (length (live_in x.ledger) + length (added x))) refl
  where
    go : (b : Bool) → ltb (slots_in x.ledger + length (deleted x)) (length (live_in x.ledger) + length (added x)) ≡ b → b ≡ true
    go true e = refl
    go false e = absurd (n (ltb-false (slots_in x.ledger + length (deleted x)) (length (live_in x.ledger) + length (added x)) e))

not_full : (x : Lent) → Room x → is_full x ≡ false
unfolding is_full
not_full x r = le-ltb (slots_in x.ledger + length (deleted x)) (length (live_in x.ledger) + length (added x)) r

found_check : (x : Lent) → Shapely x → (ys : List Finding) → 1 ≤ length ys → findings x ≡ ys → check x ≡ with_findings x
unfolding judged
found_check x s [] p e = absurd (omega arith)
found_check x s (y ∷ ys) p e = shapely_check x s ∙ ap (λ (zs : List Finding). cond (is_empty zs) (roomed x) (with_findings x)) e

pub due_given : (x : Lent) (a : Answer) → Due x a → (check x).answer ≡ a
unfolding Due check roomed accepted with_findings
due_given x (Ok a) h =
    let r : check x ≡ accepted x = unbroken_check x h.0 h.1 ∙ ap (λ (b : Bool). cond b (refused x Full) (accepted x)) (not_full x h.2) in
    ap (λ (o : Outcome). o.answer) r ∙ rw (h.3, h.4, h.5, h.6)
due_given x (Err Date) h = rw h
due_given x (Err Long) h = rw (h.0, lt-ltb file_most (length x.file) h.1)
due_given x (Err Book) h = rw (h.0, le-ltb file_most (length x.file) h.1, h.2)
due_given x (Err Ledger) h = rw (h.0, le-ltb file_most (length x.file) h.1, h.2, h.3)
due_given x (Err (BadShape fault)) h = ap (λ (o : Outcome). o.answer) (lends_check x h.0 ∙ ap (shaped x) h.1)
due_given x (Err (Findings n)) h =
    let e : findings x ≡ h.2 = only_findings x h.2 h.3 in
    ap (λ (o : Outcome). o.answer) (found_check x h.0 h.2 (omega (arith, h.4, h.1)) e) ∙ ap (λ (ys : List Finding). Err (Findings (length ys))) e ∙ ap (λ (k : ℕ). Err (Findings k)) h.4
due_given x (Err Full) h =
    ap (λ (o : Outcome). o.answer) (unbroken_check x h.0 h.1 ∙ ap (λ (b : Bool). cond b (refused x Full) (accepted x)) (full_is x h.2))
