use Rattle.lb_check.proofs.Words.{◌≡◌, ◌<◌, ◌+◌, ℕ, min, subst, ap, arith, drop_all}
use Rattle.lb_check.proofs.Words.{count_statements}
use Rattle.lb_check.proofs.definition_rules.left_counts.Goals as goal

none_left : (count rest whole : ℕ) → rest ≡ 0 → min 2 (count + rest) ≡ min 2 whole
    → min 2 count ≡ min 2 whole
none_left count rest whole none counted =
    let same : count + rest ≡ count = omega (arith, none) in
    subst (λ n. min 2 n ≡ min 2 whole) same counted

pub returns-clause-counted : goal.returns-clause-counted
returns-clause-counted c i lt =
    let l = c.loop-statement in
    let none = drop_all l.statement-index c.args.body.now c.loop-statement-test.false in
    none_left _ _ _ (ap (count_statements i) none)
    (l.invariant.1 i (subst (λ n. i < n) l.invariant.0 lt))
