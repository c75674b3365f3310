use Rattle.std.proofs.Common.{arith, rules, ◌≡◌, ap, length, length-append}
use Rattle.lb_traces.specs.Narrow.{Integers}
use Rattle.lb_traces.proofs.numbers.Numbers.bytes.Goals as goal

pub overflow_mul-result : goal.overflow_mul-result
overflow_mul-result c =
    let tail : c.len.result ≡ length c.self.inside.tail.items = search rules in
    omega (
      arith,
      tail,
      c.requires,
      ap (λ (r : Integers). length r.items) c.self.view_is,
      length-append c.self.inside.packed.items c.self.inside.tail.items,
    )

pub overflow_add-result : goal.overflow_add-result
overflow_add-result c =
    let tail : c.len.result ≡ length c.self.inside.tail.items = search rules in
    omega (
      arith,
      tail,
      c.requires,
      c.bytes.ensures,
      ap (λ (r : Integers). length r.items)
          c.self.view_is,
      length-append c.self.inside.packed.items c.self.inside.tail.items,
    )
