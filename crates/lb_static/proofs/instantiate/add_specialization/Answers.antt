-- A specialization that is added is judged, as are those before it.
use Rattle.std.proofs.Common.{◌≡◌, ◌∙◌, Some, ap, sym, subst, length, arith, inl, inr}
use Rattle.std.specs.Prelude.{IfSome, slice_get}
use Rattle.std.proofs.lemmas.List.{length-append}
use Rattle.lb_static.specs.Instances.{Path}
use Rattle.lb_static.specs.InstanceTable.{instance_of}
use Rattle.lb_static.specs.ResolvedNodes.{node_of}
use Rattle.lb_static.specs.LinkedSpecializations.{AreLinked}
use Rattle.lb_static.specs.Instantiated.{AreJudged, HasGrown, IsJudged, IsKnown}
use Rattle.lb_static.specs.declared.resolved.ResolvedNode.{ResolvedNode}
use Rattle.lb_static.proofs.LinkedSpecializations.{linked_more}
use Rattle.lb_static.proofs.InstanceSteps.{judged_more, added_known, grown_more}
use Rattle.lb_static.proofs.InstanceRows.{row_set}
use Rattle.lb_static.proofs.instantiate.add_specialization.Goals as goal
use Rattle.lb_static.proofs.instantiate.add_specialization.Goals.{in-Some}
use Rattle.lb_static.proofs.instantiate.add_specialization.Goals.{
  in-None+in_ok-values-in-None+in_ok-id-in-None,
}

pub returns-clause-grown : goal.returns-clause-grown
returns-clause-grown c =
    let before = c.args.entered.now.specializations in
    elim c.match-begun.branch [
      | in-Some w ↦ subst (λ e. HasGrown before e.specializations) (sym w.entered-is) (λ i s at. at)
      | in-None+in_ok-values-in-None+in_ok-id-in-None w ↦
          let after = ap (λ e. e.specializations) w.entered-is in
          elim w.in_ok-id-in-None.ensures.added [
            | inl a ↦ subst (HasGrown before) (sym (after ∙ a.1)) (λ i s at. at)
            | inr a ↦ subst (HasGrown before) (sym (after ∙ a.1)) (grown_more before _)
          ]
    ]

pub returns-clause-more : goal.returns-clause-more
returns-clause-more c =
    let before = c.args.entered.now.specializations in
    elim c.match-begun.branch [
      | in-Some w ↦ let same = ap (λ e. length e.specializations) w.entered-is in omega arith
      | in-None+in_ok-values-in-None+in_ok-id-in-None w ↦
          let after = ap (λ e. e.specializations) w.entered-is in
          elim w.in_ok-id-in-None.ensures.added [
            | inl a ↦ let same = ap length (after ∙ a.1) in omega arith
            | inr a ↦ let more = ap length (after ∙ a.1) ∙ length-append before _ in omega arith
          ]
    ]

pub returns-clause-judged : goal.returns-clause-judged
returns-clause-judged c = λ P r within judged here.
    let before = c.args.entered.now.specializations in
    elim c.match-begun.branch [
      | in-Some w ↦ subst (λ e. AreJudged P r e.specializations) (sym w.entered-is) judged
      | in-None+in_ok-values-in-None+in_ok-id-in-None w ↦
          let after = ap (λ e. e.specializations) w.entered-is in
          elim w.in_ok-id-in-None.ensures.added [
            | inl a ↦ subst (AreJudged P r) (sym (after ∙ a.1)) judged
            | inr a ↦
                let copied = λ (p : Path) (n : ResolvedNode) (at : slice_get r.nodes.items
                c.args.node.0 ≡ Some n).
                subst (λ vs. IsJudged P n (instance_of p (node_of n) vs) c.args.begun.statics.items)
                (sym w.in_ok-values-in-None.ensures.items) (here p n at) in
                judged_more P r before c.match-begun.entered.specializations _ judged within copied
                (after ∙ a.1)
          ]
    ]

pub returns-clause-known : goal.returns-clause-known
returns-clause-known c =
    let node = c.args.node in
    let values = c.args.values.now in
    let before = c.args.entered.now.specializations in
    elim c.match-begun.branch [
      | in-Some w ↦
          let known : IsKnown before node values w.in-Some.id =
          subst (λ o. IfSome o (IsKnown before node values)) w.in-Some.is c.requires.known in
          subst (λ e. IsKnown e.specializations node values c.match-begun.id) (sym w.entered-is)
          (subst (IsKnown before node values) (sym w.id-is) known)
      | in-None+in_ok-values-in-None+in_ok-id-in-None w ↦
          let after = ap (λ e. e.specializations) w.entered-is in
          let same = w.in_ok-values-in-None.ensures.items in
          elim w.in_ok-id-in-None.ensures.added [
            | inl a ↦
                let known = subst (λ vs. IsKnown before node vs w.in_ok-id-in-None.id) same a.0 in
                subst (λ l. IsKnown l node values c.match-begun.id) (sym (after ∙ a.1))
                (subst (IsKnown before node values) (sym w.id-is) known)
            | inr a ↦
                subst (λ vs. IsKnown c.match-begun.entered.specializations node vs c.match-begun.id)
                same
                (added_known before c.match-begun.entered.specializations _ c.match-begun.id
                (after ∙ a.1) (ap (λ i. i.0) w.id-is ∙ a.2))
          ]
    ]

pub returns-clause-linked_calls : goal.returns-clause-linked_calls
returns-clause-linked_calls c = λ r n at linked_calls called.
    let before = c.args.entered.now.specializations in
    elim c.match-begun.branch [
      | in-Some w ↦ subst (λ e. AreLinked r e.specializations) (sym w.entered-is) linked_calls
      | in-None+in_ok-values-in-None+in_ok-id-in-None w ↦
          let after = ap (λ e. e.specializations) w.entered-is in
          elim w.in_ok-id-in-None.ensures.added [
            | inl a ↦ subst (AreLinked r) (sym (after ∙ a.1)) linked_calls
            | inr a ↦ linked_more r before c.match-begun.entered.specializations _ n linked_calls at
                called (after ∙ a.1)
          ]
    ]

pub returns-clause-one_more : goal.returns-clause-one_more
returns-clause-one_more c = λ i from below.
    let before = c.args.entered.now.specializations in
    elim c.match-begun.branch [
      | in-Some w ↦ let same =
          ap (λ e. length e.specializations) w.entered-is in absurd (omega arith)
      | in-None+in_ok-values-in-None+in_ok-id-in-None w ↦
          let after = ap (λ e. e.specializations) w.entered-is in
          elim w.in_ok-id-in-None.ensures.added [
            | inl a ↦ let same = ap length (after ∙ a.1) in absurd (omega arith)
            | inr a ↦
                let more = ap length (after ∙ a.1) ∙ length-append before _ in
                let id = ap (λ i. i.0) w.id-is in
                let last = a.2 in
                omega arith
          ]
    ]

pub returns-clause-placed : goal.returns-clause-placed
returns-clause-placed c = λ front back i at is.
    let before = c.args.entered.now.instances.items in
    let same : c.match-begun.entered.instances.items ≡ before =
    elim c.match-begun.branch [
      | in-Some w ↦ ap (λ e. e.instances.items) w.entered-is
      | in-None+in_ok-values-in-None+in_ok-id-in-None w ↦ ap (λ e. e.instances.items) w.entered-is
    ] in
    row_set c.match-begun.entered.instances.items before front back i c.index_mut.result.now
    c.args.row c.match-begun.id same at is c.index_mut.ensures.value
