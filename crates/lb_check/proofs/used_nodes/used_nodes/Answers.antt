use Rattle.lb_check.proofs.Words.{ap, append_assoc, drop, find, places, rules, subst, sym}
use Rattle.lb_check.proofs.Words.{with_items_is, ◌++◌, ◌+◌, ◌∙◌, ◌∷◌}
use Rattle.lb_check.proofs.typing.Specializations.{AreFirst, AreThere, added_there, all_first}
use Rattle.lb_check.proofs.typing.Specializations.{known_first, known_there, next_node, nodes_in}
use Rattle.lb_check.proofs.used_nodes.used_nodes.Goals.{else-flag, then-flag+in_ok-push}
use Rattle.lb_check.proofs.used_nodes.used_nodes.Goals as goal

pub loop-specialization-preserved : goal.loop-specialization-preserved
loop-specialization-preserved c =
    let s = c.specialization-item.result in
    let i = c.loop-specialization.specialization-index in
    let ss = c.args.specializations.now in
    let ids = c.loop-specialization.ids.items in
    let old = c.deref_mut.result.now in
    let new = c.flag.new.seen in
    let inv = c.loop-specialization.invariant in
    let lt = c.loop-specialization-test.true in
    let is = c.specialization-item.is in
    let there = subst (AreThere ids) (sym c.deref_mut.ensures.value) inv.1 in
    let flagged = c.flag.ensures.flagged in
    let flags = sym (with_items_is c.loop-specialization.seen new (search (rules, places))) in
    elim c.if-flag.branch [
      | then-flag+in_ok-push w ↦ (
          let items = ap (λ v. v.items) w.ids-is ∙ w.in_ok-push.ensures.items in (
            subst (λ xs. AreFirst xs (i + 1) ss) (sym items)
                (λ f. ap (find f) (append_assoc ids _ (nodes_in (drop (i + 1) ss))
                ∙ ap (λ ks. ids ++ ks) (sym (next_node ids old new ss i s lt is there flagged)))
                ∙ inv.0 f),
            subst (λ fs. AreThere c.if-flag.ids.items fs) flags
                (subst (λ xs. AreThere xs new) (sym items)
                (added_there ids old new ss i s lt is there flagged)),
          )
          )
      | else-flag w ↦ (
          let items = ap (λ v. v.items) w.ids-is in
          let known = sym c.flag.ensures.fresh ∙ w.if-flag.false in (
            subst (λ xs. AreFirst xs (i + 1) ss) (sym items)
                (known_first ids old new ss i s lt is there flagged known inv.0),
            subst (λ fs. AreThere c.if-flag.ids.items fs) flags
                (subst (λ xs. AreThere xs new) (sym items)
                (known_there ids old new ss i s lt is there flagged known)),
          )
          )
    ]

pub returns : goal.returns
returns c =
    all_first c.loop-specialization.ids.items c.loop-specialization.specialization-index
    c.args.specializations.now c.loop-specialization-test.false c.loop-specialization.invariant.0
