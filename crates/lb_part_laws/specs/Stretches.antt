-- A trace text without quotes that is cut where traces begin.
-- Source: this project's rule.
use Rattle.std.specs.Prelude.{◌≡◌, ◌≢◌, ℕ, true, List, [], ◌∷◌, ◌++◌, get_or, flat_map}
use Rattle.std.specs.List.{AllZip}
use Rattle.csv.specs.Reading.{strip_bom}
use Rattle.lb_static.specs.Signature.{Elements}
use Rattle.lb_traces.specs.Traces.{Traces}
use Rattle.lb_trace.specs.Plain.{ends_line, plain_records}
use Rattle.lb_trace.specs.Spelling.{Record, Spells}

-- the name in a record: its first cell
abbrev pub name_in : Record → List ℕ
name_in r = get_or r 0 []

-- the last record of `before` and the first of `after` have different names
abbrev pub AreApart : (before after : List Record) → Type 0
AreApart before after =
    (front back : List Record) (a b : Record) → before ≡ front ++ a ∷ [] → after ≡ b ∷ back
    → name_in a ≢ name_in b

-- no line and no trace goes on from one text to the next
pub record IsBorder (before after : List ℕ) : Type 0 where
  pub lines : plain_records (before ++ after) ≡ plain_records before ++ plain_records after
  pub traces : AreApart (plain_records before) (plain_records after)

-- the stretches, one after the other, are the text `body`, with a border behind each
abbrev pub AreStretches : (body : List ℕ) → (stretches : List (List ℕ)) → Type 0
AreStretches body [] = body ≡ []
AreStretches body (s ∷ more) =
    (rest : List ℕ) × (body ≡ s ++ rest) × IsBorder s rest × AreStretches rest more

-- a text is one record, and the end of its line
pub record IsHead (head : List ℕ) : Type 0 where
  pub line : List ℕ
  pub end : ℕ
  pub header : Record
  pub whole : head ≡ line ++ end ∷ []
  pub ends : ends_line end ≡ true
  pub one : plain_records (strip_bom line) ≡ header ∷ []
  pub bare : (tail : List ℕ) → strip_bom (line ++ end ∷ tail) ≡ strip_bom line ++ end ∷ tail

-- each stretch, behind the head, spells traces, and all of these, in order, are `traces`
pub record AreSpelled
    (elements : Elements) (head : List ℕ) (stretches : List (List ℕ)) (traces : Traces)
    : Type 0 where
  pub lists : List Traces
  pub each : AllZip (λ stretch those. Spells elements (head ++ stretch) those) stretches lists
  pub all : traces ≡ flat_map (λ those. those) lists
