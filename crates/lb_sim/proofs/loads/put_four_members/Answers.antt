use Rattle.std.proofs.Common.{◌<◌, ◌≤◌, ◌+◌, ◌*◌, ◌∙◌, ◌≡◌, get_or, length, ap, arith, pos}
use Rattle.std.proofs.Math.Nat.{mul-le-mul_left}
use Rattle.std.specs.Prelude.{int_le}
use Rattle.lb_static.specs.Signature.{kinds_of}
use Rattle.lb_traces.specs.Packed.{words_of_row}
use Rattle.lb_lanes.specs.Planes.{on}
use Rattle.lb_sim.specs.InputRows.{truth_columns, member_cell}
use Rattle.lb_sim.proofs.Loading.{each_of_four}
use Rattle.lb_sim.proofs.loads.put_four_members.Goals as goal

pub put_four_words-requires-clause-room : goal.put_four_words-requires-clause-room
put_four_words-requires-clause-room c = omega (arith, c.bits_of.ensures.words, c.requires.room)

pub returns : goal.returns
returns c =
    let at = c.args.at.now in
    let columns = truth_columns 0 (kinds_of at.set.now.signature) in
    let width = words_of_row (length columns) in
    let four = c.put_four_words.ensures in
    record {
      as_long = four.as_long;
      put = λ i d g k ge lt live ld lk lb.
          let under : g < width = omega (arith, lb) in
          let later : d + 1 ≤ c.args.count = omega (arith, ld) in
          let product : width * (d + 1) ≤ width * c.args.count = mul-le-mul_left width later in
          let inside : d * width + g < length c.bits_of.result.now =
          omega (arith, product, under, c.bits_of.ensures.words) in
          each_of_four
          (λ n. on (get_or c.put_four_words.new.rows (72 * (d * width + g) + n) 0) k
          ≡ int_le (pos 1) (member_cell at.set.now at.members.now at.begins.now (at.t + d) n
          (get_or columns (64 * g + k) 0)))
          c.args.first i
          (ap (λ w. on w k) (four.one (d * width + g) inside)
          ∙ c.bits_of.ensures.bits d g k ld lk lb)
          (ap (λ w. on w k) (four.two (d * width + g) inside)
          ∙ c.bits_of-2.ensures.bits d g k ld lk lb)
          (ap (λ w. on w k) (four.three (d * width + g) inside)
          ∙ c.bits_of-3.ensures.bits d g k ld lk lb)
          (ap (λ w. on w k) (four.four (d * width + g) inside)
          ∙ c.bits_of-4.ensures.bits d g k ld lk lb)
          ge lt;
      others = four.others;
    }
