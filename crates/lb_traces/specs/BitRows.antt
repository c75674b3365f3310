-- Rows of Booleans alone, each as the bits of one word.
-- Source: this project's rule.
use Rattle.std.specs.Prelude.{ℕ, ◌≡◌, ◌<◌, ◌≤◌, ◌==◌, length, map}
use Rattle.std.specs.Int.{bit_at}
use Rattle.std.specs.List.{All, range_with_len}
use Rattle.lb_syntax.specs.declared.tree.Kind.TheVariants.{Bool}
use Rattle.lb_static.specs.Signature.{Elements}
use Rattle.lb_traces.specs.Packed.{truth_cell}
use Rattle.lb_traces.specs.Traces.{Row}

-- elements that are all Booleans, 1 to 64, so that one word holds a row
pub record AreTruths (elements : Elements) : Type 0 where
  pub some : 0 < length elements
  pub few : length elements ≤ 64
  pub booleans : All (λ e. e.1 ≡ Bool) elements

-- the row of `n` Booleans, which are the lowest bits of `word`
unfoldable pub row_of_bits : ℕ → ℕ → Row
row_of_bits n word = map (λ b. truth_cell (bit_at word b == 1)) (range_with_len 0 n)
