use Rattle.lb_check.proofs.{Words.arith, clocking.WholeClocks.none_clocked}
use Rattle.lb_check.specs.declared.part.Part.TheVariants as part
use Rattle.lb_check.proofs.clock_rules.part_at.Goals as goal

pub returns-else-id-parts : goal.returns-else-id-parts
returns-else-id-parts c r parts =
    none_clocked r c.args.id (part.Statement 0) (omega (arith, parts.0, c.if-id-parts.false))
