-- The first column with the name is found, or no column has it.
use Rattle.std.proofs.Common.{arith, ◌≡◌, length, [], sym, ap, ◌∙◌}
use Rattle.std.proofs.lemmas.List.Sums.{position_or_len_is}
use Rattle.std.specs.Str.{bytes_eq}
use Rattle.csv.specs.Records.{fields_of}
use Rattle.lb_trace.specs.Spelling.{after_first}
use Rattle.lb_trace.proofs.header.position.Goals as goal

pub returns-then-eq : goal.returns-then-eq
returns-then-eq c =
    sym (position_or_len_is (bytes_eq c.args.name.now) (after_first (fields_of c.args.header.now))
    c.loop-i.i [] (omega (arith, c.width-i-end.ensures, c.loop-i-test.true))
    c.loop-i.invariant (λ _. ap (bytes_eq c.args.name.now) (sym c.cell.ensures) ∙ sym c.eq.ensures
    ∙ c.if-eq.true))

pub returns : goal.returns
returns c =
    let all : c.loop-i.i ≡ length (after_first (fields_of c.args.header.now)) =
    omega (arith, c.width-i-end.ensures) in
    sym (position_or_len_is (bytes_eq c.args.name.now) (after_first (fields_of c.args.header.now))
    c.width.result [] (omega (arith, c.width.ensures))
    (λ k below. c.loop-i.invariant k (omega (arith, c.width.ensures)))
    (λ below. absurd (omega (arith, c.width.ensures))))
