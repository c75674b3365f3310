use Rattle.std.proofs.Common.{arith, rules, ◌≡◌, length}
use Rattle.lb_traces.proofs.IntegerCounts.{integers-limit, words-limit}
use Rattle.lb_traces.proofs.traces.TraceSet.bytes.Goals as goal

pub bytes-requires : goal.bytes-requires
bytes-requires c = omega (arith, integers-limit _ _ _ _ _ _ _ _ c.self.invariant)

pub overflow_mul-result : goal.overflow_mul-result
overflow_mul-result c =
    let words : c.len.result ≡ length c.self.inside.words.items = search rules in
    omega (
      arith,
      words,
      words-limit c.self.inside.signature c.self.inside.names c.self.inside.numbers.items
          c.self.inside.words.items c.self.inside.row_ends.items
          c.self.inside.columns.integers.items c.self.inside.columns.truths.items
          c.self.inside.columns.places.items c.self.invariant,
    )

pub overflow_add-result : goal.overflow_add-result
overflow_add-result c =
    let words : c.len.result ≡ length c.self.inside.words.items = search rules in
    omega (
      arith,
      words,
      c.bytes.ensures,
      words-limit c.self.inside.signature c.self.inside.names c.self.inside.numbers.items
          c.self.inside.words.items c.self.inside.row_ends.items
          c.self.inside.columns.integers.items c.self.inside.columns.truths.items
          c.self.inside.columns.places.items c.self.invariant,
      integers-limit _ _ _ _ _ _ _ _ c.self.invariant,
    )
