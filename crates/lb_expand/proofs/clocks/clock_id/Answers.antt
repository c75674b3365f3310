-- A clock that samples a variable is found by the number of the variable and by its sign.
use Rattle.lb_check.specs.declared.own_clock.Clock.{Clock, TheVariants.On}
use Rattle.lb_expand.proofs.Words.{Bool, ClockId, List, Option, Some, VariableId, ap, arith, false}
use Rattle.lb_expand.{proofs.Words.{refl, true, ℕ, ◌*◌, ◌+◌, ◌≡◌}, specs.TableClocks.clock_id}
use Rattle.lb_expand.specs.TableClocks.{variable_number}
use Rattle.lb_expand.proofs.clocks.clock_id.Goals as goal

abbrev found_at : ℕ → Option ClockId
found_at n = Some (record { 0 = n })

module _ (vars : List ℕ) (runs : List (Option ClockId)) (j : ℕ) {k : Clock} (x : VariableId)
    (sign : Bool) where
  where_true : {m : ℕ} → k ≡ On x sign → sign ≡ true → m ≡ variable_number vars j x.0 →
      found_at (2 * m + 1) ≡ clock_id vars runs j k
  where_true e s is = rw (e, s, is) refl

  where_false : {m : ℕ} → k ≡ On x sign → sign ≡ false → m ≡ variable_number vars j x.0 →
      found_at (2 * m) ≡ clock_id vars runs j k
  where_false e s is = rw (e, s, is) (ap found_at (omega arith))

pub returns-then-sign : goal.returns-then-sign
returns-then-sign c =
    where_true c.args.layout.now.variables.items c.args.runs.now c.args.row.0 c.in-On.x c.in-On.sign
    c.in-On.is c.if-sign.true c.variable_number.ensures.value

pub returns-else-sign : goal.returns-else-sign
returns-else-sign c =
    where_false c.args.layout.now.variables.items c.args.runs.now c.args.row.0 c.in-On.x
    c.in-On.sign c.in-On.is c.if-sign.false c.variable_number.ensures.value
