-- The walk over a file: what is left of its findings from a line on, and the blocks that it has passed.
-- Assumes nothing.
use mathlib.Core.Path.{◌≡◌, refl, sym, ap, ◌∙◌}
use mathlib.Core.Bool.{Bool, true, false, cond}
use mathlib.Core.List.{List, [], ◌∷◌, ◌++◌, reverse, append-nil, append_assoc}
use Prim.Native.Nat.{ℕ, ◌+◌, ◌-◌, ◌*◌, ◌≤◌, ◌<◌}
use native.Mathlib.Omega.{arith}
use lib.ListN.{length, drop, set, length-set, length-append}
use lib.Seq.{take_all}
use Rattle.house.specs.Text.{Text, how_many}
use Rattle.lines_fields.specs.Lines.{line_len, line_at, lines_of}
use Rattle.lines_fields.proofs.LineLaws.{line_is, at_text}
use Rattle.lines.specs.Records.{Rec, IN, is_kind, rec_of, recs}
use Rattle.lines.proofs.PartLaws.{recs_past, recs_on}
use Rattle.rules_definitions.specs.Contexts.{contexts_of, contexts_in}
use Rattle.rules_definitions.specs.Seen.{Setting}
use Rattle.rules_definitions.specs.Findings.{Finding, area_after}
use Rattle.rules_walk.specs.Firsts.{start_after, firsts_of}
use Rattle.rules_walk.specs.Inside.{firsts_from}
use Rattle.rules_walk.proofs.PassLaws.{firsts_on, firsts_start, firsts_none}
use Rattle.rules_walk.proofs.StartLaws.{start_upto}
use Rattle.house.specs.Over.{over}
use Rattle.house.proofs.OverLaws.{over_more}
use Rattle.rules.specs.declared.State.{State}
use Rattle.rules.specs.Inside.{Kept, kept, keep}
use Rattle.rules.specs.Fields.{line_most}
use Rattle.rules.specs.Under.{findings_under}
use Rattle.rules.specs.Walk.{line_rec, lines_before, Holds, start_state}
use Rattle.rules.specs.Turned.{Turn, TurnAt, rest_of, TurnIs}
use Rattle.rules.specs.Judged.{FoundIs, WalkIs}
use Rattle.rules.proofs.KeepLaws.{keep_all}
use Rattle.rules.proofs.RuleLaws.{count_reverse}
use Rattle.rules.proofs.StartLaws.{holds_start}

-- the findings still to come: at the start those of the file, at the end none
rest_start : (s : Setting) (file table : Text) → findings_under s file table ≡ rest_of s file table 0 1
unfolding findings_under contexts_in contexts_of rest_of lines_before recs lines_of
rest_start s file table = refl

rest_end : (s : Setting) (file table : Text) (at n : ℕ) → length file ≤ at → rest_of s file table at n ≡ []
unfolding rest_of
rest_end s file table at n l = rw (recs_past file at l)

module _ (s : Setting) (file table area₀ : Text) where
  -- what is left of a file's findings, from a line on
  pub record Walking (at : ℕ) (st : State) (found : ℕ) (area : Text) : Type 0 where
    pub holds : Holds file at st
    pub within : at ≤ length file
    pub few : found ≤ line_most * at
    pub size : length area ≡ length area₀
    pub left : keep (findings_under s file table) (kept 0 area₀) ≡ keep (rest_of s file table at st.n) (kept found area)

  pub walk_start : (st : State) → st ≡ start_state → Walking 0 st 0 area₀
  walk_start st e =
      record {
        holds = rw e (holds_start file);
        within = omega arith;
        few = omega arith;
        size = refl;
        left = rw e (ap (λ (xs : List Finding). keep xs (kept 0 area₀)) (rest_start s file table));
      }

  module _ (at : ℕ) (st : State) (found : ℕ) (area : Text) (w : Walking at st found area) where
    pub walk_at : (m : List ℕ) (f : Bool) → length m ≡ 30 → length file ≤ 5000000 → at < length file → TurnAt file m (record { at = at; st = st; count = found; first = f })
    walk_at m f r l k = record { looks = record { holds = w.holds; less = k; short = l; room = r }; few = w.few }

    pub walk_on : (f : Bool) (t : Turn) (after : Text) → TurnIs s file table (record { at = at; st = st; count = found; first = f }) area t after → length after ≡ length area
        → Walking t.at t.st t.count after
    walk_on f t after i y = record { holds = i.holds; within = i.upto; few = i.few; size = y ∙ w.size; left = w.left ∙ i.left }

    pub walk_falls : (f : Bool) (t : Turn) (after : Text) → TurnIs s file table (record { at = at; st = st; count = found; first = f }) area t after → at < length file
        → length file - t.at < length file - at
    walk_falls f t after i l = omega (arith, i.on)

    pub walk_size : length area ≡ length area₀
    walk_size = w.size

    module _ (h : length file ≤ at) where
      all_kept : kept found area ≡ kept (length (findings_under s file table)) (area_after area₀ (findings_under s file table))
      unfolding keep
      all_kept = sym (w.left ∙ ap (λ (xs : List Finding). keep xs (kept found area)) (rest_end s file table at st.n h)) ∙ keep_all (findings_under s file table) area₀

      found_is : FoundIs s file table area₀ found area
      found_is = record { count_is_lem = ap (λ (k : Kept). k.count) all_kept; area_is = ap (λ (k : Kept). k.area) all_kept }

      pub walk_not_immunized : st.not_immunized ≡ how_many (is_kind IN) (recs file)
      unfolding lines_before
      walk_not_immunized =
          w.holds.not_immunized_is
          ∙ ap (λ (t : Text). how_many (is_kind IN) (reverse (recs t))) (take_all at file h)
          ∙ count_reverse (is_kind IN) (recs file)

-- the blocks passed are written to the front of an area, as many as fit
module _ (s : Setting) (file table area₀ : Text) (old : List ℕ) where
  pub record Gathering (at : ℕ) (st : State) (found : ℕ) (area : Text) (firsts : List ℕ) (n : ℕ) : Type 0 where
    pub walking : Walking s file table area₀ at st found area
    pub done : List ℕ
    pub found_is : firsts_of file ≡ done ++ firsts_from file (lines_before file at) (recs (drop at file))
    pub size : n ≡ length done
    pub few : n ≤ at
    pub room : length firsts ≡ length old
    pub written : firsts ≡ over done old

  pub gather_start : (st : State) → st ≡ start_state → Gathering 0 st 0 area₀ old 0
  unfolding lines_before recs lines_of
  gather_start st e =
      record { walking = walk_start s file table area₀ st e; done = []; found_is = firsts_start file; size = refl; few = omega arith; room = refl; written = refl }

  module _ (at : ℕ) (st : State) (found : ℕ) (area : Text) (firsts : List ℕ) (n : ℕ) (g : Gathering at st found area firsts n) where
    pub gather_at : (m : List ℕ) (f : Bool) → length m ≡ 30 → length file ≤ 5000000 → at < length file → TurnAt file m (record { at = at; st = st; count = found; first = f })
    gather_at m f r l k = walk_at s file table area₀ at st found area g.walking m f r l k

    pub gather_blocks : n ≤ at
    gather_blocks = g.few

    pub gather_in : at ≤ length file
    gather_in = g.walking.within

    pub gather_room : length firsts ≡ length old
    gather_room = g.room

    pub gather_size : length area ≡ length area₀
    gather_size = g.walking.size

    module _ (h : length file ≤ at) where
      done_all : g.done ≡ firsts_of file
      done_all = sym (g.found_is ∙ ap (λ (l : List ℕ). g.done ++ l) (firsts_none file (lines_before file at) at h) ∙ append-nil g.done)

      pub gather_is : WalkIs s file table area₀ old (record { blocks = n; findings = found; not_immunized = st.not_immunized }) area firsts
      gather_is =
          record {
            found_is = found_is s file table area₀ at st found area g.walking h;
            blocks_are = g.size ∙ ap length done_all;
            not_immunized_is = walk_not_immunized s file table area₀ at st found area g.walking h;
            firsts_are = g.written ∙ ap (λ (xs : List ℕ). over xs old) done_all;
          }

    module _ (l : at < length file) (f : Bool) (t : Turn) (after : Text) (i : TurnIs s file table (record { at = at; st = st; count = found; first = f }) area t after) where
      pub gather_falls : length file - t.at < length file - at
      gather_falls = omega (arith, i.on)

      module _ (z : length after ≡ length area) where
        abbrev L : Rec
        L = line_rec file at

        rest_on_next : recs (drop at file) ≡ L ∷ recs (drop t.at file)
        unfolding line_at
        rest_on_next =
            recs_on file at (line_at at (drop at file)) (line_is file at (line_at at (drop at file)) refl) l
            ∙ ap (λ (x : Rec). x ∷ recs (drop (at + line_len (drop at file)) file)) (ap rec_of (at_text file at (line_at at (drop at file)) (line_is file at (line_at at (drop at file)) refl)))
            ∙ ap (λ (k : ℕ). L ∷ recs (drop k file)) (sym i.next_is)

        starts : start_after file (lines_before file at) ≡ at
        unfolding lines_before
        starts = start_upto file at (omega arith) (g.walking.holds.ended l)

        firsts_next : firsts_from file (lines_before file at) (recs (drop at file))
            ≡ cond t.first (at ∷ firsts_from file (lines_before file t.at) (recs (drop t.at file))) (firsts_from file (lines_before file t.at) (recs (drop t.at file)))
        firsts_next = rw (rest_on_next, firsts_on file (lines_before file at) L (recs (drop t.at file)), ← i.first_is, starts, i.before_is)

        pub gather_other : t.first ≡ false → Gathering t.at t.st t.count after firsts n
        gather_other e =
            record {
              walking = walk_on s file table area₀ at st found area g.walking f t after i z;
              done = g.done;
              found_is = g.found_is ∙ rw (firsts_next, e);
              size = g.size;
              few = omega (arith, g.few, i.on);
              room = g.room;
              written = g.written;
            }

        pub gather_first : (new : List ℕ) → t.first ≡ true → new ≡ set firsts n at → Gathering t.at t.st t.count after new (n + 1)
        gather_first new e w =
            record {
              walking = walk_on s file table area₀ at st found area g.walking f t after i z;
              done = g.done ++ (at ∷ []);
              found_is = g.found_is ∙ rw (firsts_next, e) (sym (append_assoc g.done (at ∷ []) (firsts_from file (lines_before file t.at) (recs (drop t.at file)))));
              size = omega (arith, g.size, length-append g.done (at ∷ []));
              few = omega (arith, g.few, i.on);
              room = ap length w ∙ length-set firsts n at ∙ g.room;
              written = w ∙ rw (g.written, g.size) (sym (over_more g.done at old));
            }
