-- What rules 12, 13 and 14 ask of lines, asked of the parts of the file in which these lines stand.
-- Assumes nothing.
use mathlib.Core.Path.{◌≡◌, refl, sym, ap}
use mathlib.Core.Bool.{Bool, true, false, ◌&&◌}
use mathlib.Core.List.{List, reverse}
use Rattle.house.specs.Text.{Text, any, those}
use Rattle.lines.specs.Records.{Rec, II, IE, is_kind, recs}
use Rattle.rules_definitions.specs.Forms.{text, is_relaxed, is_sound}
use Rattle.rules_definitions.specs.Rules.{same_antigen, same_lot, counts_sound, sets_differ}
use Rattle.rules_forms.proofs.FieldLaws.{sound_in_lem, sound_either}
use Rattle.rules_lists.specs.Among.{lot_is}
use Rattle.rules_lists.proofs.ListLaws.{antigens_are, lots_are}
use Rattle.rules.specs.Questions.{antigen_again, antigens_differ}
use Rattle.rules.proofs.RuleLaws.{any_reverse, rule13_sets_back}

pub rule12_lines : (l : Rec) (since : Text) (ls : List Rec) → ls ≡ reverse (recs since) → is_sound IE l 4 && any (same_antigen l) ls ≡ antigen_again (text l 4) since
unfolding antigen_again
rule12_lines l since ls a =
    rw (
      antigens_are l (text l 4) (recs since) refl,
      a,
      any_reverse (same_antigen l) (recs since),
      sound_either IE 4 (text l 4) false (is_relaxed l) refl,
      sound_in_lem IE l 4,
    )

pub rule14_lines : (l : Rec) (q : Text) (bs : List Rec) → bs ≡ reverse (those (is_kind II) (recs q)) → any (same_lot l) bs ≡ any (lot_is (text l 15)) (recs q)
rule14_lines l q bs b = rw (b, any_reverse (same_lot l) (those (is_kind II) (recs q))) (sym (lots_are l (text l 15) (recs q) refl))

-- what is asked where a fact holds counts only there
masked : (j : Bool) (F : List Rec → Bool) (xs ys : List Rec) → (j ≡ true → ys ≡ xs) → (j && F xs) ≡ (j && F ys)
masked true F xs ys h = ap F (sym (h refl))
masked false F xs ys h = refl

pub rule13_lines : (j k : Bool) (own first : Text) (os fs : List Rec) → j ≡ k → (k ≡ true → os ≡ recs own) → fs ≡ reverse (recs first)
    → j && (counts_sound os && (counts_sound fs && sets_differ os fs)) ≡ k && antigens_differ own first
unfolding antigens_differ
rule13_lines j k own first os fs e o f =
    rw (e, f, ← rule13_sets_back os (recs first))
    (sym (masked k (λ (xs : List Rec). counts_sound xs && (counts_sound (recs first) && sets_differ xs (recs first))) (recs own) os o))
