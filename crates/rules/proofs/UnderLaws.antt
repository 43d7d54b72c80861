-- The findings of a file by a table: by that of its own index they are the file's; by an empty one too, where no two blocks name one event, and
-- no more elsewhere.
-- Assumes nothing.
use mathlib.Core.Path.{◌≡◌, refl, sym, ap, ◌∙◌}
use mathlib.Core.Bool.{Bool, true, false, ◌&&◌}
use mathlib.Core.Logic.{inl, inr}
use mathlib.Core.List.{List, [], ◌∷◌}
use Prim.Native.Nat.{ℕ, ◌*◌, ◌≤◌}
use native.Mathlib.Omega.{arith}
use lib.ListN.{length, replicate, length-append}
use Rattle.house.specs.Text.{Text, joined}
use Rattle.house.specs.Members.{In}
use Rattle.lines.specs.Events.{events_at, ascends}
use Rattle.lines.specs.Records.{Rec}
use Rattle.rules_definitions.specs.Contexts.{Context, contexts_in}
use Rattle.rules_definitions.specs.Blocks.{is_in_block, is_repeated}
use Rattle.rules_definitions.specs.Seen.{Setting, Seen, seen_at}
use Rattle.rules_definitions.specs.Findings.{Finding, fields_findings, line_findings, findings_of}
use Rattle.rules_walk.specs.Firsts.{index_of}
use Rattle.rules_walk.specs.Repeats.{repeats_in, is_noted, note_all}
use Rattle.rules_walk.proofs.PassLaws.{place_passed}
use Rattle.rules_walk.proofs.OnceLaws.{once_new}
use Rattle.rules_walk.proofs.NotedLaws.{noted_repeated}
use Rattle.rules.specs.Under.{with_repeated, repeated_by, line_findings_by, findings_under}
use Rattle.rules.proofs.RepeatLaws.{alone_findings}

-- lists put together of the same, or of no longer ones
joined_same : (f g : Context → List Finding) (hs : List Context) → ((h : Context) → In h hs → f h ≡ g h) → joined f hs ≡ joined g hs
joined_same f g [] e = refl
joined_same f g (h ∷ hs) e = rw (e h (inl refl), joined_same f g hs (λ k m. e k (inr m)))

joined_fewer : (f g : Context → List Finding) (hs : List Context) → ((h : Context) → In h hs → length (f h) ≤ length (g h)) → length (joined f hs) ≤ length (joined g hs)
joined_fewer f g [] e = omega arith
joined_fewer f g (h ∷ hs) e =
    omega (arith, length-append (f h) (joined f hs), length-append (g h) (joined g hs), e h (inl refl), joined_fewer f g hs (λ k m. e k (inr m)))

-- what is seen from a line, with what is known of its event, is what is seen
seen_same : (s : Setting) (h : Context) (r : Bool) → r ≡ is_repeated h.line h.before → with_repeated r (seen_at s h) ≡ seen_at s h
unfolding with_repeated seen_at
seen_same s h r e = rw e

module _ (s : Setting) (file table : Text) where
  line_same : (h : Context) → repeated_by file table h.line h.before ≡ is_repeated h.line h.before → line_findings_by s file table h ≡ line_findings s h
  unfolding line_findings_by line_findings
  line_same h e = ap (λ (v : Seen). fields_findings s h.number v 1 (length h.line.fields)) (seen_same s h (repeated_by file table h.line h.before) e)

  under_same : ((h : Context) → In h (contexts_in file) → repeated_by file table h.line h.before ≡ is_repeated h.line h.before) → findings_under s file table ≡ findings_of s file
  unfolding findings_under findings_of
  under_same e = joined_same (line_findings_by s file table) (line_findings s) (contexts_in file) (λ h m. line_same h (e h m))

-- by that of the file's own index, if it is long enough
pub under_noted : (s : Setting) (file : Text) (index : List ℕ) (clear : Text) → clear ≡ replicate (length clear) 0 → length file ≤ 16 * length clear → index ≡ index_of file
    → findings_under s file (note_all (repeats_in file index) clear) ≡ findings_of s file
unfolding repeated_by
under_noted s file index clear c h e =
    ap (findings_under s file) same
    ∙ under_same s file (note_all (repeats_in file (index_of file)) (replicate (length clear) 0))
    (λ k m. noted_repeated file (length clear) h k.line k.before (place_passed file k m))
  where
    same : note_all (repeats_in file index) clear ≡ note_all (repeats_in file (index_of file)) (replicate (length clear) 0)
    same = ap (λ (l : List ℕ). note_all (repeats_in file l) clear) e ∙ ap (note_all (repeats_in file (index_of file))) c

-- by an empty one
none_says : (file : Text) (l : Rec) (before : List Rec) → repeated_by file [] l before ≡ false
unfolding repeated_by is_noted
none_says file l before = go (is_in_block l)
  where
    go : (b : Bool) → b && false ≡ false
    go true = refl
    go false = refl

pub under_none : (s : Setting) (file : Text) → ascends (events_at file (index_of file)) ≡ true → findings_under s file [] ≡ findings_of s file
under_none s file o = under_same s file [] (λ h m. none_says file h.line h.before ∙ sym (once_new file o h.line h.before (place_passed file h m)))

line_fewer : (s : Setting) (file : Text) (h : Context) → length (line_findings_by s file [] h) ≤ length (line_findings s h)
unfolding line_findings_by line_findings
line_fewer s file h = rw (none_says file h.line h.before) (alone_findings s (seen_at s h) h.number 1 (length h.line.fields))

pub under_fewer : (s : Setting) (file : Text) → length (findings_under s file []) ≤ length (findings_of s file)
unfolding findings_under findings_of
under_fewer s file = joined_fewer (line_findings_by s file []) (line_findings s) (contexts_in file) (λ h m. line_fewer s file h)
