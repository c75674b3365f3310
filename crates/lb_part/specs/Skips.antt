-- What stands between the head of a text and a part of it.
-- Source: this project's rule.
use Rattle.std.specs.Prelude.{◌≡◌, ℕ, ◌-◌, ◌==◌, Bool, List, count_by, drop, length, take}
use Rattle.lb_part.specs.Counts.{reach}
use Rattle.lb_part.specs.Cuts.{IsCut}
use Rattle.lb_part.specs.Heads.{head_of}
use Rattle.lb_part.specs.declared.part.Part.{Part}

abbrev pub newlines_of : List ℕ → ℕ
newlines_of text = count_by (λ b. b == 10) text

-- `lines` newlines stand between the head of a text and the traces of a part of it
pub record AreSkipped (all : List ℕ) (part : Part) (lines : ℕ) : Type 0 where
  pub from : ℕ
  pub begin : IsCut (drop (head_of all) all)
      (reach (part.number - 1) part.count (length all) - head_of all) from
  pub count : lines ≡ newlines_of (take from (drop (head_of all) all))
