use Rattle.std.proofs.Common.{◌∙◌, sym}
use Rattle.lb_syntax.specs.declared.tree.Kind.TheVariants.{Bool}
use Rattle.lb_static.proofs.TypeViews.{scalar_is}
use Rattle.lb_static.proofs.data_type.DataType.is_truth.Goals as goal

pub returns-then-eq : goal.returns-then-eq
returns-then-eq c = c.is_empty.ensures
    ∙ scalar_is c.args.self.now.kind Bool c.args.self.now.sizes.items c.args.self.now.sizes.len
    c.args.self.now.sizes.ok.0 (sym c.eq.ensures ∙ c.if-eq.true)
