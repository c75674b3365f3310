use Rattle.std.proofs.Common.{◌<◌, ◌≤◌, ◌+◌, ◌*◌, ◌∙◌, ◌≡◌, ◌≢◌, ℕ, ◌⊎◌, inl, inr, get_or, length}
use Rattle.std.proofs.Common.{ap, subst, arith, pos}
use Rattle.std.proofs.Math.Nat.{mul-le-mul_left}
use Rattle.std.specs.Prelude.{int_le}
use Rattle.lb_static.specs.Signature.{kinds_of}
use Rattle.lb_traces.specs.Packed.{words_of_row}
use Rattle.lb_lanes.specs.Planes.{on}
use Rattle.lb_sim.specs.InputRows.{truth_columns, member_cell}
use Rattle.lb_sim.proofs.loads.put_bits.Goals as goal

another : (i k : ℕ) → (k < i) ⊎ (i + 1 ≤ k) → k ≢ i
another i k (inl before) e = absurd (omega (arith, before, e))
another i k (inr behind) e = absurd (omega (arith, behind, e))

pub put_words-requires-clause-room : goal.put_words-requires-clause-room
put_words-requires-clause-room c = omega (arith, c.bits_of.ensures.words, c.requires.room)

pub returns : goal.returns
returns c =
    let at = c.args.at.now in
    let columns = truth_columns 0 (kinds_of at.set.now.signature) in
    let width = words_of_row (length columns) in
    let bits = c.bits_of.result.now in
    record {
      as_long = c.put_words.ensures.rows;
      put = λ j d g k ge lt live ld lk lb.
          let same : c.args.i ≡ j = omega (arith, ge, lt) in
          let under : g < width = omega (arith, lb) in
          let later : d + 1 ≤ c.args.count = omega (arith, ld) in
          let product : width * (d + 1) ≤ width * c.args.count = mul-le-mul_left width later in
          let inside : d * width + g < length bits =
          omega (arith, product, under, c.bits_of.ensures.words) in
          subst
          (λ n. on (get_or c.put_words.new.rows (72 * (d * width + g) + n) 0) k
          ≡ int_le (pos 1) (member_cell at.set.now at.members.now at.begins.now (at.t + d) n
          (get_or columns (64 * g + k) 0)))
          same
          (ap (λ w. on w k) (c.put_words.ensures.put (d * width + g) inside)
          ∙ c.bits_of.ensures.bits d g k ld lk lb);
      others = λ m k lk o. c.put_words.ensures.others m k lk (another c.args.i k o);
    }
