-- What each need of the loops over the fields of a line asks.
-- Assumes nothing.
use mathlib.Core.Path.{◌≡◌, refl, sym, ap, ◌∙◌}
use mathlib.Core.Logic.{◌⊎◌, inl, inr}
use mathlib.Core.List.{List, []}
use Prim.Native.Nat.{ℕ, ◌+◌, ◌-◌, ◌*◌, ◌^◌, ◌≤◌, ◌<◌}
use native.Mathlib.Omega.{arith}
use borrow.Author.Rules.{rules}
use lib.ListN.{length, drop}
use Rattle.house.specs.Text.{Text}
use Rattle.lines_fields.specs.Lines.{line_of}
use Rattle.lines_fields.specs.Marks.{marks_at, marked_count}
use Rattle.lines_fields.proofs.MarkLaws.{mark_count_lem}
use Rattle.lines.specs.Records.{Rec, rec_of}
use Rattle.rules_definitions.specs.Seen.{Setting, Seen}
use Rattle.rules_definitions.specs.Findings.{found, fields_findings}
use Rattle.rules_fields.specs.declared.Broken.{Broken}
use Rattle.rules.specs.declared.By.{By}
use Rattle.rules.specs.declared.Here.{Here}
use Rattle.rules.specs.Inside.{kept, keep, listed}
use Rattle.rules.specs.Fields.{Told, Bookless, line_most, Judges, JudgesFields, JudgesLine, last_of, next_field}
use Rattle.rules.proofs.KeepLaws.{keep_append}
use Rattle.rules.proofs.BlankLaws.{first_blank, last_blank, ip_blank, blank_run, blank_skip, fields_on}
use Rattle.rules.proofs.LastNeeds.{in_line, in_marks, past_last, next_one, next_is, next_later}

-- the loops over the fields of a line
module _ (file : Text) (marks : List ℕ) (h : Here) (book : Text) (by : By) (count : ℕ) (area₀ : Text) where
  -- what is left of a line's findings, from field f on
  pub record Going (last f c : ℕ) (area : Text) : Type 0 where
    pub all : last ≡ last_of h.kind (marked_count marks)
    pub bound : count + line_most < 2 ^ 64
    pub from : 2 ≤ f
    pub upto : f ≤ 26
    pub few : c + 6 ≤ count + 3 * f
    pub size : length area ≡ length area₀
    pub left : (s : Setting) (v : Seen) → Told file marks h book by s v
        → keep (fields_findings s h.n v 1 (length v.line.fields)) (kept count area₀) ≡ keep (fields_findings s h.n v f (length v.line.fields + 1 - f)) (kept c area)

  -- of a line of kind k
  pub going_start : (k last n : ℕ) → h.kind ≡ k → last ≡ last_of k n → n ≡ marked_count marks → count + line_most < 2 ^ 64 → Going last 2 count area₀
  going_start k last n z e d b =
      record {
        all = e ∙ ap (λ (k : ℕ). last_of k n) (sym z) ∙ ap (last_of h.kind) d;
        bound = b;
        from = omega arith;
        upto = omega arith;
        few = omega arith;
        size = refl;
        left =
            λ s v w.
            let m = length v.line.fields in
            let u : m + 1 - 2 ≡ m - 1 = omega arith in
            rw (u, blank_skip s v h.n 1 1 m (λ g i j. first_blank s v g (omega arith)));
      }

  counted : (s : Setting) (v : Seen) → Told file marks h book by s v → marked_count marks ≡ length v.line.fields
  unfolding marks_at rec_of
  counted s v w =
      ap marked_count w.marked
      ∙ mark_count_lem h.at (line_of (drop h.at file)).text
      ∙ ap (λ (l : Rec). length l.fields) (sym w.line_is)

  module _ (last f c : ℕ) (area : Text) (g : Going last f c area) where
    none_left : last < f → (s : Setting) (v : Seen) → Told file marks h book by s v
        → kept c area ≡ keep (fields_findings s h.n v 1 (length v.line.fields)) (kept count area₀)
    unfolding keep
    none_left i s v w =
        sym
        (g.left s v w
        ∙ rw
        (blank_run s v h.n f (length v.line.fields + 1 - f)
        (λ j a b.
        last_blank s v h.kind j (sym w.kind_is)
        (past_last h.kind (marked_count marks) j (omega (arith, g.all)) (omega (arith, counted s v w))))))

    pub going_end : last < f → JudgesLine file marks h book by count area₀ c area
    going_end i = record { are = none_left i; few = omega (arith, g.few, g.upto) }

    module _ (i : f ≤ last) where
      most : f ≤ 25
      most = omega (arith, g.all, in_marks h.kind (marked_count marks))

      pub going_marked : f ≤ 28
      going_marked = omega (arith, most)

      pub going_fits : c + 3 < 2 ^ 64
      going_fits = omega (arith, g.bound, g.few, most)

      module _ (n : ℕ) (e : n ≡ next_field h.kind f) where
        pub going_falls : last + 1 - n < last + 1 - f
        going_falls = omega (arith, e, (next_later h.kind f most).0)

        pub going_on : (b : Broken) (d : ℕ) (y : Text) → Judges file marks h book by f b → kept d y ≡ keep (found h.n f (listed b)) (kept c area) → d ≤ c + 3
            → length y ≡ length area → Going last n d y
        going_on b d y j m l o =
            let p = (next_later h.kind f most).0 in
            let q = (next_later h.kind f most).1 in
            record {
              all = g.all;
              bound = g.bound;
              from = omega (arith, g.from, e, p);
              upto = omega (arith, e, q);
              few = omega (arith, g.few, e, p);
              size = o ∙ g.size;
              left = λ s v w. step s v w ∙ rw e (skip s v w (next_is h.kind f));
            }
          where
            step : (s : Setting) (v : Seen) → Told file marks h book by s v
                → keep (fields_findings s h.n v 1 (length v.line.fields)) (kept count area₀) ≡ keep (fields_findings s h.n v (f + 1) (length v.line.fields + 1 - f - 1)) (kept d y)
            step s v w =
                g.left s v w
                ∙ rw (
                  fields_on s v h.n f (length v.line.fields + 1 - f) (omega (arith, g.all, counted s v w, in_line h.kind (marked_count marks))),
                  keep_append,
                  ← j.are s v w,
                  ← m,
                )

            skip : (s : Setting) (v : Seen) → Told file marks h book by s v → (next_field h.kind f ≡ f + 1) ⊎ ((h.kind ≡ 3) × ((f ≡ 3) × (next_field h.kind f ≡ 25)))
                → keep (fields_findings s h.n v (f + 1) (length v.line.fields + 1 - f - 1)) (kept d y)
                ≡ keep (fields_findings s h.n v (next_field h.kind f) (length v.line.fields + 1 - next_field h.kind f)) (kept d y)
            skip s v w (inl z) =
                let u : length v.line.fields + 1 - f - 1 ≡ length v.line.fields + 1 - (f + 1) = omega arith in
                rw (z, u)
            skip s v w (inr z) =
                let k : v.line.kind ≡ 3 = sym w.kind_is ∙ z.0 in
                let u : length v.line.fields + 1 - 3 - 1 - 21 ≡ length v.line.fields + 1 - 25 = omega arith in
                rw (
                  z.1.1,
                  z.1.0,
                  blank_skip s v h.n 4 21 (length v.line.fields + 1 - 3 - 1)
                      (λ j a b. ip_blank s v j k (λ x. omega arith) (λ x. omega arith) (λ x. omega arith)),
                  u,
                )

-- judge_fields: the same of any line, its fields judged by a function
module _ (post : ℕ → Broken → Type 0) (h : Here) (last count : ℕ) (area₀ : Text) where
  pub record Running (f c : ℕ) (area : Text) : Type 0 where
    pub few : c + 6 ≤ count + 3 * f
    pub size : length area ≡ length area₀
    pub going : (file : Text) (marks : List ℕ) (book : Text) (by : By) → last ≡ last_of h.kind (marked_count marks)
        → ((f : ℕ) (b : Broken) → f ≤ 28 → post f b → Judges file marks h book by f b) → Going file marks h book by count area₀ last f c area

  pub run_start : count + line_most < 2 ^ 64 → Running 2 count area₀
  run_start b =
      record {
        few = omega arith;
        size = refl;
        going = λ file marks book by e j. going_start file marks h book by count area₀ h.kind last (marked_count marks) refl e refl b;
      }

  module _ (f c : ℕ) (area : Text) (g : Running f c area) where
    pub run_end : last < f → JudgesFields post h last count area₀ c area
    run_end i = record { line_is = λ file marks book by e j. going_end file marks h book by count area₀ last f c area (g.going file marks book by e j) i }

    module _ (i : f ≤ last) (m : last ≤ 25) where
      pub run_fits : count + line_most < 2 ^ 64 → c + 3 < 2 ^ 64
      run_fits b = omega (arith, b, g.few)

      pub run_on : (h.kind ≡ 3 → ⊥) → (b : Broken) (d : ℕ) (y : Text) → post f b → kept d y ≡ keep (found h.n f (listed b)) (kept c area) → d ≤ c + 3 → length y ≡ length area
          → Running (f + 1) d y
      run_on n b d y p k l o =
          record {
            few = omega (arith, g.few, l);
            size = o ∙ g.size;
            going = λ file marks book by e j.
                going_on file marks h book by count area₀ last f c area (g.going file marks book by e j) i (f + 1) (next_one h.kind f n) b d y (j f b (omega arith) p) k l o;
          }

pub ruleset for_judge_fields = (rules, run_start, run_end, run_fits, run_on)

-- the same of any book
module _ (file : Text) (marks : List ℕ) (h : Here) (by : By) (count : ℕ) (area₀ : Text) where
  pub record GoingBy (last f c : ℕ) (area : Text) : Type 0 where
    pub going : (book : Text) → Going file marks h book by count area₀ last f c area

  pub by_start : (last n : ℕ) → last ≡ last_of h.kind n → n ≡ marked_count marks → count + line_most < 2 ^ 64 → GoingBy last 2 count area₀
  by_start last n e d b = record { going = λ book. going_start file marks h book by count area₀ h.kind last n refl e d b }

  module _ (last f c : ℕ) (area : Text) (g : GoingBy last f c area) where
    pub by_end : last < f → (book : Text) → JudgesLine file marks h book by count area₀ c area
    by_end i book = going_end file marks h book by count area₀ last f c area (g.going book) i

    pub by_size : length area ≡ length area₀
    by_size = (g.going []).size

    module _ (i : f ≤ last) where
      pub by_marked : f ≤ 28
      by_marked = going_marked file marks h [] by count area₀ last f c area (g.going []) i

      pub by_fits : c + 3 < 2 ^ 64
      by_fits = going_fits file marks h [] by count area₀ last f c area (g.going []) i

      module _ (n : ℕ) (e : n ≡ next_field h.kind f) where
        pub by_falls : last + 1 - n < last + 1 - f
        by_falls = going_falls file marks h [] by count area₀ last f c area (g.going []) i n e

        pub by_on : (b : Broken) (d : ℕ) (y : Text) → ((book : Text) → Judges file marks h book by f b) → kept d y ≡ keep (found h.n f (listed b)) (kept c area) → d ≤ c + 3
            → length y ≡ length area → GoingBy last n d y
        by_on b d y j m l o = record { going = λ book. going_on file marks h book by count area₀ last f c area (g.going book) i n e b d y (j book) m l o }

pub ruleset for_judge_other_line = (rules, by_start, by_end, by_size, by_marked, by_fits, by_falls, by_on)

-- judge_line
pub line_most_field : (k n last : ℕ) → last ≡ last_of k n → last ≤ 25
line_most_field k n last e = omega (arith, e, in_marks k n)

pub line_any : (file : Text) (marks : List ℕ) (h : Here) (book : Text) (by : By) (count : ℕ) (area : Text) (r : ℕ) (after : Text)
    → ((book : Text) → JudgesLine file marks h book by count area r after) → JudgesLine file marks h book by count area r after
line_any file marks h book by count area r after g = g book

pub bookless : (k : ℕ) → (k ≡ 4 → ⊥) → (k ≡ 5 → ⊥) → (k ≡ 6 → ⊥) → (k ≡ 7 → ⊥) → Bookless k
bookless k a b c d = record { no_ii_lem = a; no_ie = b; no_in = c; no_ia = d }

pub ruleset for_judge_line = (rules, line_most_field, line_any, bookless)
