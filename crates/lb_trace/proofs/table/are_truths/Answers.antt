use Rattle.std.proofs.Common.{arith, below_more, rules, ◌∙◌}
use Rattle.std.proofs.lemmas.Option.{get_or_from_slice_get}
use Rattle.lb_static.specs.Signature.{kinds_of}
use Rattle.lb_syntax.specs.declared.tree.Kind.TheVariants.{Int}
use Rattle.lb_trace.proofs.Nexts.{kinds-all}
use Rattle.lb_trace.proofs.table.are_truths.Goals as goal

pub loop-i-preserved : goal.loop-i-preserved
loop-i-preserved c =
    below_more _ _ c.loop-i.invariant
    (get_or_from_slice_get (kinds_of c.args.signature.now) c.loop-i.i c.kind.result Int
    c.kind.ensures
    ∙ c.is_bool.ensures c.if-not-is_bool.false)

pub returns : goal.returns
returns c = λ told. (
  search rules,
  record {
    some = omega (arith, c.len-count.ensures.count);
    few = omega (arith, c.len-count.ensures.count);
    booleans =
        kinds-all c.args.signature.now c.loop-i.i
        (omega (arith, c.len-count.ensures.count, c.loop-i-test.false)) c.loop-i.invariant;
  },
)
