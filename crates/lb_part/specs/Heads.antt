-- The first record of a text, which stands in front of each part of it.
-- Source: this project's rule.
use Rattle.std.specs.Prelude.{ℕ, ◌+◌, ◌-◌, suc, Bool, false, ◌==◌, ◌&&◌, not}
use Rattle.std.specs.Prelude.{if◌then◌else◌, List, [], ◌∷◌, length, Option, None, Some}
use Rattle.std.specs.Prelude.{option_map, unwrap_or}
use Rattle.std.specs.List.{list_any}
use Rattle.csv.specs.Reading.{strip_bom}
use Rattle.lb_part.specs.Cuts.{ends_line}

-- the place behind the first record and its line end; `begun` is whether the record has begun
unfoldable pub record_end : Bool → List ℕ → Option ℕ
record_end begun [] = None
record_end begun (b ∷ rest) =
    if ends_line b && begun then Some 1
    else option_map (λ n. suc n) (record_end (not (ends_line b)) rest)

-- the length of a text up to the end of its first record, or of all of it where no record ends; a
-- byte order mark counts, but is not part of a record
abbrev pub head_of : List ℕ → ℕ
head_of text =
    (length text - length (strip_bom text))
    + unwrap_or (record_end false (strip_bom text)) (length (strip_bom text))

abbrev pub has_quote : List ℕ → Bool
has_quote text = list_any (λ b. b == 34) text
