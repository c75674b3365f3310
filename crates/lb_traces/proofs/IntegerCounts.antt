-- How many integers and words a set holds at most.
use Rattle.std.proofs.Common.{ℕ, ◌≡◌, ◌*◌, ◌≤◌, List, ℤ, length, subst, arith}
use Rattle.std.proofs.Math.Nat.{mul-le-mul_left}
use Rattle.lb_static.specs.Signature.{Elements, kinds_of}
use Rattle.lb_traces.specs.Traces.{instants_of, cells_of_instant}
use Rattle.lb_traces.specs.Ledger.{last_place}
use Rattle.lb_traces.specs.Stored.{stored_traces}
use Rattle.lb_traces.specs.Packed.{numbers_of, words_of, cells_of, IsSet}
use Rattle.lb_traces.proofs.KindColumns.{few_numbers, few_truths}
use Rattle.lb_traces.proofs.HeldRows.{length-kinds}
use Rattle.lb_traces.proofs.StoredRows.{instants-stored}

module _ (elements : Elements) (names : List (List ℕ)) (numbers : List ℤ)
    (words ends integers truths places : List ℕ)
    (is : IsSet elements names numbers words ends integers truths places) where
  abbrev cells : List ℤ
  cells = cells_of elements numbers words ends

  width_few : numbers_of (kinds_of elements) ≤ cells_of_instant elements
  width_few = omega (arith, few_numbers 0 (kinds_of elements), length-kinds elements)

  words_few : words_of (kinds_of elements) ≤ cells_of_instant elements
  words_few = omega (arith, few_truths 0 (kinds_of elements), length-kinds elements)

  -- there are no more integers than cells, and no more words
  total : last_place ends * cells_of_instant elements ≤ 67108864
  total =
      let count : instants_of (stored_traces (length elements) names cells ends) ≡ last_place ends =
      instants-stored _ _ _ _ is.parts.rows in
      subst (λ n. n * cells_of_instant elements ≤ 67108864) count is.parts.lawful.cells

  pub integers-limit : length numbers ≤ 67108864
  integers-limit =
      let least : last_place ends * numbers_of (kinds_of elements)
      ≤ last_place ends * cells_of_instant elements =
      mul-le-mul_left (last_place ends) width_few in
      omega (arith, is.filled.numbers_long, total, least)

  pub words-limit : length words ≤ 67108864
  words-limit =
      let least : last_place ends * words_of (kinds_of elements)
      ≤ last_place ends * cells_of_instant elements =
      mul-le-mul_left (last_place ends) words_few in
      omega (arith, is.filled.words_long, total, least)
