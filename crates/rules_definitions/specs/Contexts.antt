-- A line in its context: its number, the lines before it, nearest first, and the lines after it.
-- Assumes nothing.
use Rattle.std.specs.Prelude.{ℕ, suc, Bool, cond, List, [], ◌∷◌, eqb}
use Rattle.house.specs.Text.{Text, within}
use Rattle.lines.specs.Records.{Rec, IP, II, IE, IN, IA, is_kind, rec_of, recs}

pub record Context : Type 0 where
  pub number : ℕ
  pub before : List Rec
  pub line : Rec
  pub after : List Rec

-- the lines from number n on, each in its context
abbrev pub contexts_from : ℕ → List Rec → List Rec → List Context
contexts_from n before [] = []
contexts_from n before (l ∷ after) = record { number = n; before = before; line = l; after = after } ∷ contexts_from (suc n) (l ∷ before) after

-- "Lines and fields count from 1."
unfoldable pub contexts_of : List Rec → List Context
contexts_of ls = contexts_from 1 [] ls

-- the lines of a file in their contexts
unfoldable pub contexts_in : Text → List Context
contexts_in file = contexts_of (recs file)

-- a line that is not there has no bytes
unfoldable pub no_rec : Rec
no_rec = rec_of []

-- the nearest line of a kind
abbrev pub nearest : ℕ → List Rec → Rec
nearest k [] = no_rec
nearest k (l ∷ ls) = cond (is_kind k l) l (nearest k ls)

-- the kind of the record that a line belongs to: an IE to its II, an IA to its IN, any other to itself
unfoldable pub head_kind : ℕ → ℕ
head_kind k = cond (eqb k IE) II (cond (eqb k IA) IN k)

-- that record
unfoldable pub head_of : Rec → List Rec → Rec
head_of l before = cond (is_kind IE l) (nearest II before) (cond (is_kind IA l) (nearest IN before) l)

-- "IP, II, IE, IN and IA lines"
unfoldable pub is_numbered : Rec → Bool
is_numbered l = within IP IA l.kind
