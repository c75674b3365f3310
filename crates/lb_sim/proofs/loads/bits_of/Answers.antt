use Rattle.std.proofs.Common.{◌<◌, ◌+◌, ◌*◌, ◌-◌, ◌∙◌, ◌≡◌, inl, inr, get_or, length, pos, refl}
use Rattle.std.proofs.Common.{ap, arith}
use Rattle.std.proofs.lemmas.Bool.{cases_lt}
use Rattle.std.specs.Prelude.{int_le}
use Rattle.lb_static.specs.Signature.{kinds_of}
use Rattle.lb_traces.specs.Packed.{bit_in, words_of_row}
use Rattle.lb_traces.specs.Traces.{cell_at}
use Rattle.lb_sim.specs.InputRows.{begin_of, truth_columns}
use Rattle.lb_sim.proofs.LaneBits.{bit_there}
use Rattle.lb_sim.proofs.loads.bits_of.Goals as goal

-- a live lane has each of the instants
pub bits-requires-clause-instants : goal.bits-requires-clause-instants
bits-requires-clause-instants c =
    let at = c.args.at.now in
    let few : c.args.i < 64 = omega (arith, c.requires.member, at.few) in
    let now = at.there c.args.i few c.requires.live in
    elim (cases_lt 0 c.args.count) [
      | inl some ↦
          let last = c.args.count - 1 in
          let under : last < c.args.count = omega (arith, some) in
          let then = c.requires.there last under c.args.i few c.requires.live in
          omega (arith, now.begun, then.there, some)
      | inr none ↦ omega (arith, now.there, none)
    ]

pub returns-clause-bits : goal.returns-clause-bits
returns-clause-bits c d g k ld lk lb =
    let at = c.args.at.now in
    let few : c.args.i < 64 = omega (arith, c.requires.member, at.few) in
    let columns = truth_columns 0 (kinds_of at.set.now.signature) in
    let width = words_of_row (length columns) in
    let bits = c.bits.result.now in
    let there : 64 * (d * width + g) + k ≡ 64 * (d * width) + (64 * g + k) = omega arith in
    let begin = begin_of at.begins.now c.args.i in
    let begun = (at.there c.args.i few c.requires.live).begun in
    let later : at.t - begin + d ≡ at.t + d - begin = omega (arith, begun) in
    bit_there bits (get_or bits (d * width + g) 0) (d * width + g) k _ lk refl
    (ap (bit_in bits) there ∙ c.bits.ensures.bits d (64 * g + k) ld lb
    ∙ ap
    (λ t.
    int_le (pos 1)
    (cell_at at.set.now.traces (get_or at.members.now c.args.i 0) t
    (get_or columns (64 * g + k) 0)))
    later)
