use Rattle.std.proofs.Common.{◌∙◌, sym}
use Rattle.lb_syntax.specs.declared.tree.Kind.TheVariants.{Int}
use Rattle.lb_static.proofs.TypeViews.{scalar_is}
use Rattle.lb_static.proofs.data_type.DataType.is_int.Goals as goal

pub returns-then-eq : goal.returns-then-eq
returns-then-eq c = c.is_empty.ensures
    ∙ scalar_is c.args.self.now.kind Int c.args.self.now.sizes.items c.args.self.now.sizes.len
    c.args.self.now.sizes.ok.0 (sym c.eq.ensures ∙ c.if-eq.true)
