-- All parts of a text.
-- Source: this project's rule.
use Rattle.std.specs.Prelude.{◌≡◌, ℕ, ◌+◌, ◌<◌, false, List, [], ◌∷◌, flat_map}
use Rattle.std.specs.List.{All, AllZip}
use Rattle.lb_static.specs.Signature.{Elements}
use Rattle.lb_traces.specs.Traces.{Traces}
use Rattle.lb_trace.specs.Plain.{has_quote}
use Rattle.lb_trace.specs.Spelling.{Spells}
use Rattle.lb_part.specs.Parts.{IsPartOf}
use Rattle.lb_part.specs.declared.part.Part.{Part}

-- texts are the parts of a text behind the first `before`, up to the last one; `count` is the
-- number of all parts
abbrev pub AreLastParts : (all : List ℕ) (count before : ℕ) → List (List ℕ) → Type 0
AreLastParts all count before [] = before ≡ count
AreLastParts all count before (text ∷ more) =
    (part : Part) × (part.number ≡ before + 1) × (part.count ≡ count) × IsPartOf all part text
    × AreLastParts all count (before + 1) more

-- texts are all parts of a text, in order, and have no quote
pub record AreParts (all : List ℕ) (texts : List (List ℕ)) : Type 0 where
  pub count : ℕ
  pub some : 0 < count
  pub each : AreLastParts all count 0 texts
  pub plain : All (λ text. has_quote text ≡ false) texts

-- each of `texts` spells traces, and all of these, in order, are `traces`
pub record SpellTogether (elements : Elements) (texts : List (List ℕ)) (traces : Traces)
    : Type 0 where
  pub lists : List Traces
  pub each : AllZip (Spells elements) texts lists
  pub all : traces ≡ flat_map (λ those. those) lists
