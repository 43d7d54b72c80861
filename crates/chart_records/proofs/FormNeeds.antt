-- What each need of `lifted`, `form_of`, `is_field_bytes`, `is_right_at` and `is_chart` asks.
-- Assumes nothing.
use mathlib.Core.Path.{◌≡◌, refl, sym, ◌∙◌}
use mathlib.Core.Bool.{Bool, true, false, not, cond, ◌&&◌}
use mathlib.Core.List.{List, [], ◌∷◌}
use Prim.Native.Nat.{ℕ, ◌+◌, ◌-◌, ◌≤◌, ◌<◌}
use native.Mathlib.Omega.{arith}
use borrow.Author.Rules.{rules}
use borrow.Author.Tests.{eq-eqb, ne_eqb, eqb-true, eqb-false, lt-ltb, le-ltb, ltb-true, ltb-false, le-leb, lt-leb}
use lib.Dec.{eqb, ltb, leb}
use lib.ListN.{length, get_or, take, drop, length-take, length-drop}
use lib.Seq.{length-take-le}
use Rattle.house.specs.Text.{Text, all, is_blank}
use Rattle.house.specs.Numbers.{lesser_of, greater_of}
use Rattle.house.proofs.Small.{clash}
use Rattle.house.proofs.Suffix.{drop_here, drop_past}
use Rattle.house.proofs.PadLaws.{either, lesser_low, greater_high}
use Rattle.lines.specs.Lines.{pipe}
use Rattle.lines.specs.Records.{IH, IF}
use Rattle.lines.specs.Shape.{follows}
use Rattle.chart_definitions.specs.Charts.{Charted, record_kind, body_width, charted_in, is_field_byte, well_formed, ordered, is_chart}
use Rattle.chart_records.specs.Reading.{charted_at, record_end, right_after}
use Rattle.chart_records.specs.Inside.{lifted_of, form_of, form_in, right_from}
use Rattle.chart_records.proofs.ChartLaws.{charted_end, charted_on, at_kind, end_within, end_falls}

-- lifted
module _ (b : ℕ) where
  pub lifted_pipe : b ≡ pipe → 255 ≡ lifted_of b
  unfolding lifted_of
  lifted_pipe e = rw (eq-eqb _ _ e)

  pub lifted_other : (b ≡ pipe → ⊥) → b ≡ lifted_of b
  unfolding lifted_of
  lifted_other n = rw (ne_eqb _ _ n)

pub ruleset for_lifted = (rules, lifted_pipe, lifted_other)

-- form_of: a byte by two bounds
pub by_bounds : (b : ℕ) → is_field_byte b ≡ cond (ltb b 32) false (cond (ltb 126 (lifted_of b)) false true)
unfolding is_field_byte lifted_of
by_bounds b = go (eqb b pipe) refl (ltb b 32) refl (ltb 126 b) refl
  where
    go : (t : Bool) → eqb b pipe ≡ t → (u : Bool) → ltb b 32 ≡ u → (v : Bool) → ltb 126 b ≡ v
        → ((leb 32 b && leb b 126) && not t) ≡ cond u false (cond (ltb 126 (cond t 255 b)) false true)
    go t e true f v g = rw (lt-leb 32 b (ltb-true b 32 f))
    go true e false f v g = let k : b ≡ 124 = eqb-true b pipe e in rw (le-leb 32 b (ltb-false b 32 f), le-leb b 126 (omega arith))
    go false e false f true g = rw (le-leb 32 b (ltb-false b 32 f), lt-leb b 126 (ltb-true 126 b g), g)
    go false e false f false g = rw (le-leb 32 b (ltb-false b 32 f), le-leb b 126 (ltb-false 126 b g), g)

-- and a blank
blank_bounds : (b : ℕ) → is_blank b ≡ cond (ltb b 32) false (cond (ltb 32 (lifted_of b)) false true)
unfolding lifted_of
blank_bounds b = go (eqb b pipe) refl (ltb b 32) refl (ltb 32 b) refl
  where
    go : (t : Bool) → eqb b pipe ≡ t → (u : Bool) → ltb b 32 ≡ u → (v : Bool) → ltb 32 b ≡ v
        → eqb b 32 ≡ cond u false (cond (ltb 32 (cond t 255 b)) false true)
    go t e true f v g = ne_eqb b 32 (λ z. let h : b < 32 = ltb-true b 32 f in omega arith)
    go true e false f v g = ne_eqb b 32 (λ z. let k : b ≡ 124 = eqb-true b pipe e in omega arith)
    go false e false f true g = rw g (ne_eqb b 32 (λ z. let h : 32 < b = ltb-true 32 b g in omega arith))
    go false e false f false g = rw g (eq-eqb b 32 (omega (arith, ltb-false b 32 f, ltb-false 32 b g)))

in_turn : (p q o u v x w z : Bool)
    → ◌≡◌ {A = ℕ} (cond p 0 (cond q 0 (cond (cond u false (cond v false true) && w) (cond o 2 (cond (cond u false (cond x false true) && z) 1 2)) 0)))
    (cond (either p u) 0 (cond (either q v) 0 (cond w (cond (either o x) 2 (cond z 1 2)) 0)))
unfolding either
in_turn true q o u v x w z = refl
in_turn false true o true v x w z = refl
in_turn false false o true v x w z = refl
in_turn false true o false v x w z = refl
in_turn false false o false true x w z = refl
in_turn false false o false false x false z = refl
in_turn false false true false false x true z = refl
in_turn false false false false false true true z = refl
in_turn false false false false false false true z = refl

pub form_start : (t : Text) → form_of t ≡ form_in 32 32 (drop 0 t)
unfolding form_of form_in
form_start t = refl

module _ (t : Text) (i l h x : ℕ) (inv : x ≡ form_in l h (drop i t)) where
  pub form_on : (m f n : ℕ) → i < length t → m ≡ lesser_of l (get_or t i 0) → f ≡ lifted_of (get_or t i 0) → n ≡ greater_of h f → x ≡ form_in m n (drop (i + 1) t)
  unfolding form_in
  form_on m f n k d e g =
      inv
      ∙ rw (drop_here t i k, by_bounds (get_or t i 0), blank_bounds (get_or t i 0), d, g, lesser_low 32, greater_high 126, greater_high 32, e)
      (in_turn (ltb l 32) (ltb 126 h) (ltb 32 h) (ltb (get_or t i 0) 32) (ltb 126 (lifted_of (get_or t i 0))) (ltb 32 (lifted_of (get_or t i 0)))
      (all is_field_byte (drop (i + 1) t)) (all is_blank (drop (i + 1) t)))

  module _ (k : length t ≤ i) where
    pub form_low : l < 32 → 0 ≡ x
    unfolding form_in
    form_low m = rw (inv, lt-ltb _ _ m)

    pub form_high : 32 ≤ l → 126 < h → 0 ≡ x
    unfolding form_in
    form_high m n = rw (inv, le-ltb _ _ m, lt-ltb _ _ n)

    pub form_text : 32 ≤ l → h ≤ 126 → 32 < h → 2 ≡ x
    unfolding form_in
    form_text m n o = rw (inv, le-ltb _ _ m, le-ltb _ _ n, lt-ltb _ _ o, drop_past t i k)

    pub form_blank : 32 ≤ l → h ≤ 126 → h ≤ 32 → 1 ≡ x
    unfolding form_in
    form_blank m n o = rw (inv, le-ltb _ _ m, le-ltb _ _ n, le-ltb _ _ o, drop_past t i k)

pub ruleset for_form_of = (rules, form_start, form_on, form_low, form_high, form_text, form_blank)

-- what a form tells
form_is : (t : Text) → form_of t ≡ cond (all is_field_byte t) (cond (all is_blank t) 1 2) 0
unfolding form_of
form_is t = refl

module _ (t : Text) (f : ℕ) (ef : f ≡ form_of t) where
  pub form_wrong : f ≡ 0 → all is_field_byte t ≡ false
  form_wrong z = go (all is_field_byte t) (all is_blank t) (sym z ∙ ef ∙ form_is t)
    where
      go : (u v : Bool) → ◌≡◌ {A = ℕ} 0 (cond u (cond v 1 2) 0) → u ≡ false
      go true true e = clash (omega (arith, e))
      go true false e = clash (omega (arith, e))
      go false v e = refl

  pub form_right : (f ≡ 0 → ⊥) → all is_field_byte t ≡ true
  form_right n = go (all is_field_byte t) (ef ∙ form_is t)
    where
      go : (u : Bool) → f ≡ cond u (cond (all is_blank t) 1 2) 0 → u ≡ true
      go true e = refl
      go false e = absurd (n e)

  pub form_blanks : f ≡ 1 → (all is_field_byte t ≡ true) × (all is_blank t ≡ true)
  form_blanks z = go (all is_field_byte t) (all is_blank t) (sym z ∙ ef ∙ form_is t)
    where
      go : (u v : Bool) → ◌≡◌ {A = ℕ} 1 (cond u (cond v 1 2) 0) → (u ≡ true) × (v ≡ true)
      go true true e = (refl, refl)
      go true false e = clash (omega (arith, e))
      go false v e = clash (omega (arith, e))

  pub form_others : (f ≡ 0 → ⊥) → (f ≡ 1 → ⊥) → (all is_field_byte t ≡ true) × (all is_blank t ≡ false)
  form_others m n = go (all is_field_byte t) (all is_blank t) (ef ∙ form_is t)
    where
      go : (u v : Bool) → f ≡ cond u (cond v 1 2) 0 → (u ≡ true) × (v ≡ false)
      go true true e = absurd (n e)
      go true false e = (refl, refl)
      go false v e = absurd (m e)

-- is_field_bytes
pub bytes_are : (t : Text) (f : ℕ) → f ≡ form_of t → not (eqb f 0) ≡ all is_field_byte t
bytes_are t f e = go (eqb f 0) refl
  where
    go : (v : Bool) → eqb f 0 ≡ v → not v ≡ all is_field_byte t
    go true z = sym (form_wrong t f e (eqb-true f 0 z))
    go false z = sym (form_right t f e (eqb-false f 0 z))

pub ruleset for_is_field_bytes = (rules, bytes_are)

-- is_right_at
and-false : (u : Bool) → false ≡ (u && false)
and-false true = refl
and-false false = refl

pub follows_none : (p k : ℕ) → k ≡ 0 → follows p k ≡ false
unfolding follows
follows_none p k e = rw e

module _ (p at k : ℕ) (s : Text) (ek : k ≡ record_kind (get_or s at 0)) (f : Bool) (ef : f ≡ follows p k) where
  pub right_order : f ≡ false → false ≡ right_after p (charted_at s at)
  unfolding right_after charted_at
  right_order z = rw (← ek, ← ef, z) (and-false (well_formed (record { kind = k; body = take (body_width k) (drop (at + 1) s) })))

  module _ (w : ℕ) (ew : w ≡ body_width k) where
    pub right_short : length s - (at + 1) < w → false ≡ right_after p (charted_at s at)
    unfolding right_after charted_at well_formed
    right_short h =
        let n : length (take w (drop (at + 1) s)) ≡ w → ⊥ = λ e. omega (arith, e, length-take w (drop (at + 1) s), length-drop (at + 1) s) in
        rw (← ek, ← ew, ne_eqb _ _ n) (go (not (eqb k 0)) (follows p k))
      where
        go : (u v : Bool) → false ≡ ((u && false) && v)
        go true v = refl
        go false v = refl

    pub right_bytes : (r : Bool) → at < length s → f ≡ true → w ≤ length s - (at + 1) → r ≡ all is_field_byte (take (at + 1 + w - (at + 1)) (drop (at + 1) s)) → r ≡ right_after p (charted_at s at)
    unfolding right_after charted_at well_formed
    right_bytes r l z h e =
        let c : at + 1 + w - (at + 1) ≡ w = omega arith in
        let n : k ≡ 0 → ⊥ = λ q. clash (cc (follows_none p k q)) in
        let m : length (take w (drop (at + 1) s)) ≡ w = length-take-le w (drop (at + 1) s) (omega (arith, length-drop (at + 1) s)) in
        e ∙ rw (← ek, ← ew, ne_eqb k 0 n, eq-eqb _ _ m, ← ef, z, c) (go (all is_field_byte (take w (drop (at + 1) s))))
      where
        go : (u : Bool) → u ≡ (u && true)
        go true = refl
        go false = refl

pub ruleset for_is_right_at = (rules, right_order, right_short, right_bytes)

-- is_chart
pub right_cons : (p : ℕ) (r : Charted) (rs : List Charted) → right_from p (r ∷ rs) ≡ (right_after p r && right_from r.kind rs)
unfolding right_from right_after ordered
right_cons p r rs = go (well_formed r) (all well_formed rs) (follows p r.kind) (ordered r.kind rs)
  where
    go : (u v w x : Bool) → ((u && v) && (w && x)) ≡ ((u && w) && (v && x))
    go false v w x = refl
    go true true true x = refl
    go true true false x = refl
    go true false true x = refl
    go true false false x = refl

pub right_none : (p : ℕ) → right_from p [] ≡ follows p IF
unfolding right_from ordered
right_none p = refl

pub chart_start : (s : Text) → is_chart s ≡ right_from IH (charted_in (drop 0 s))
unfolding is_chart right_from
chart_start s = refl

module _ (s : Text) (at p : ℕ) (x : Bool) (inv : x ≡ right_from p (charted_in (drop at s))) where
  module _ (h : at < length s) (b : Bool) (eb : b ≡ right_after p (charted_at s at)) where
    pub chart_on : (k e : ℕ) → b ≡ true → k ≡ record_kind (get_or s at 0) → e ≡ record_end s at → x ≡ right_from k (charted_in (drop e s))
    chart_on k e z ek ee = inv ∙ rw (charted_on s at h, right_cons, ← eb, z, at_kind, ← ek, ← ee)

    pub chart_wrong : b ≡ false → false ≡ x
    chart_wrong z = rw (inv, charted_on s at h, right_cons, ← eb, z)

  pub chart_end : (r : Bool) → length s ≤ at → r ≡ follows p IF → r ≡ x
  chart_end r h e = rw (inv, charted_end s at h, right_none) e

pub ruleset for_is_chart = (rules, chart_start, chart_on, chart_wrong, chart_end, end_within, end_falls)
