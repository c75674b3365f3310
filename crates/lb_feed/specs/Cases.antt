-- A case text: a source and its traces in one text, parted by a line.
-- Source: this project's rule.
use Rattle.std.specs.Prelude.{ℕ, Bool, true, nat_eq, ◌+◌, ◌&&◌, if◌then◌else◌, Option, Some, None}
use Rattle.std.specs.Prelude.{List, [], ◌∷◌, drop, codes, ◌==◌}
use Rattle.std.specs.List.{starts_with}

abbrev pub begins : List ℕ → List ℕ → Bool
begins text bytes = starts_with nat_eq text bytes

-- the length of the line end at the front of a text: a newline, a carriage return and a newline, or
-- the end of the text
abbrev pub line_end : List ℕ → Option ℕ
line_end [] = Some 0
line_end (b ∷ rest) =
    if b == 10 then Some 1 else
    if b == 13 && begins rest (codes "\n") then Some 2 else None

abbrev pub plus : ℕ → Option ℕ → Option ℕ
plus n (Some m) = Some (n + m)
plus n None = None

-- the length of a line at the front of a text that is exactly `%traces`, with its end
abbrev pub marker : List ℕ → Option ℕ
marker text =
    if begins text (codes "%traces") then plus 7 (line_end (drop 7 text)) else None

-- the source and the traces of a case text
pub record Parts : Type 0 where
  pub source : List ℕ
  pub traces : List ℕ

-- the parts of `b ∷ rest`: with a marker of `n` bytes at its front, or else with `b` before
-- `later`, the parts of `rest`
abbrev pub parts_by : ℕ → List ℕ → Option ℕ → Parts → Parts
parts_by b rest (Some n) later = record { source = []; traces = drop n (b ∷ rest) }
parts_by b rest None later = record { source = b ∷ later.source; traces = later.traces }

-- the bytes before the first marker line and those after it, from the start of a line or from
-- within one; without such a line all bytes are the source
abbrev pub parts_from : (at_start : Bool) → List ℕ → Parts
parts_from at_start [] = record { source = []; traces = [] }
parts_from at_start (b ∷ rest) =
    parts_by b rest (if at_start then marker (b ∷ rest) else None) (parts_from (b == 10) rest)

abbrev pub parts_of : List ℕ → Parts
parts_of text = parts_from true text
