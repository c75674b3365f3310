use Rattle.lb_check.proofs.Words.{Bool, List, ap, arith, drop, drop_all, false, get_or, length}
use Rattle.lb_check.proofs.Words.{places, rules, subst, sym, with_items_is, ℕ, ◌+◌, ◌<◌, ◌||◌, ◌∙◌}
use Rattle.lb_check.proofs.{Words.◌≡◌, clocking.GivenVariables.{is_waited, waited_more}}
use Rattle.lb_check.proofs.given_variables.awaited_parameters.Goals as goal

pub loop-variable-preserved : goal.loop-variable-preserved
loop-variable-preserved c =
    let l = c.loop-variable in
    let all = c.parameters-parameters.result.now in
    let old = l.awaited.items in
    let new = c.flag_awaited.new.awaited in
    let same = c.deref_mut.ensures.value in
    let kept : length new ≡ length old = c.flag_awaited.ensures.length_kept ∙ ap length same in
    let flags = sym (with_items_is l.awaited new (search (rules, places))) in
    subst (λ (fs : List Bool). (length fs ≡ length all)
    × ((i : ℕ) → i < length fs → is_waited i all
    ≡ (is_waited i (drop (l.variable-index + 1) all) || get_or fs i false)))
    flags (
      kept ∙ l.invariant.0,
      λ i lt.
          let before : i < length old = omega (arith, kept, lt) in
          let lent : i < length c.deref_mut.result.now = omega (arith, before, ap length same) in
          l.invariant.1 i before
          ∙ waited_more all l.variable-index i _ old c.deref_mut.result.now (get_or new i false)
          c.loop-variable-test.true (c.flag_awaited.ensures.flagged i lent) same,
    )

pub returns-clause-flags : goal.returns-clause-flags
returns-clause-flags c i lt =
    let l = c.loop-variable in
    sym (l.invariant.1 i lt
    ∙ ap (λ vs. is_waited i vs || get_or l.awaited.items i false)
    (drop_all l.variable-index c.parameters-parameters.result.now c.loop-variable-test.false))
    ∙ ap (is_waited i) c.parameters-parameters.ensures
