-- The part that a text names, and the bytes of a part.
-- Source: this project's rule.
use Rattle.std.specs.Prelude.{◌≡◌, ℕ, ◌-◌, ◌≤◌, List, ◌∷◌, ◌++◌, Option, Some, None}
use Rattle.std.specs.Prelude.{drop, length, take}
use Rattle.lb_part.specs.Counts.{IsCount, reach}
use Rattle.lb_part.specs.Cuts.{IsCut}
use Rattle.lb_part.specs.Heads.{head_of}
use Rattle.lb_part.specs.declared.part.Part.{Part}

-- a text names a part: its number, a slash, and the number of parts
pub record Names (text : List ℕ) (part : Part) : Type 0 where
  pub front : List ℕ
  pub rest : List ℕ
  pub parts : text ≡ front ++ 47 ∷ rest
  pub number : IsCount front part.number
  pub count : IsCount rest part.count
  pub within : part.number ≤ part.count

-- an optional text names an optional part, or neither is there
abbrev pub IsPartIn : Option (List ℕ) → Option Part → Type 0
IsPartIn None None = Unit {0}
IsPartIn (Some text) (Some part) = Names text part
IsPartIn text part = ⊥

-- a part of a text: its head, and the traces that begin in the range of bytes that the part has
pub record IsPartOf (all : List ℕ) (part : Part) (bytes : List ℕ) : Type 0 where
  pub from : ℕ
  pub to : ℕ
  pub begin : IsCut (drop (head_of all) all)
      (reach (part.number - 1) part.count (length all) - head_of all) from
  pub end : IsCut (drop (head_of all) all)
      (reach part.number part.count (length all) - head_of all) to
  pub whole : bytes
      ≡ take (head_of all) all ++ take (to - from) (drop from (drop (head_of all) all))
