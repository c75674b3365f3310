-- Each constant is the first with its name, or one with that name stands before it.
use Rattle.std.proofs.Common.{◌≡◌, ◌+◌, ap, sym, ◌∙◌, length, not, arith}
use Rattle.std.proofs.lemmas.List.{length-append}
use Rattle.lb_static.specs.Parts.{among}
use Rattle.lb_static.specs.Scopes.{declared_after}
use Rattle.lb_static.proofs.ConstantSteps.{all_first, first_left, first_taken}
use Rattle.lb_static.proofs.constants.first_of_each.Goals as goal
use Rattle.lb_static.proofs.constants.first_of_each.Goals.{then-branch+in_ok-push, else-branch}

pub loop-constant-preserved : goal.loop-constant-preserved
loop-constant-preserved c =
    let names = c.loop-constant.names in
    let before = c.loop-constant.firsts.items in
    let ks = c.args.constants.now in
    let i = c.loop-constant.constant-index in
    let declared = c.in_ok-declare.ensures.after ∙ ap (declared_after names) c.as_str.ensures in
    let fresh = c.in_ok-declare.ensures.fresh ∙ ap (λ x. not (among x names)) c.as_str.ensures in
    elim c.if-branch.branch [
      | then-branch+in_ok-push w ↦
          let after = ap (λ v. v.items) w.firsts-is ∙ w.in_ok-push.ensures.items in
          let longer : length c.if-branch.firsts.items ≡ length before + 1 =
          ap length after ∙ length-append before _ in
          let kept = first_taken before c.if-branch.firsts.items _ ks i names c.declare.new.self
          c.loop-constant-test.true c.constant-item.is
          c.loop-constant.invariant.same_names c.loop-constant.invariant.first declared
          (sym w.if-branch.true ∙ fresh) after in
          record { same_names = kept.0; first = kept.1; few = omega arith }
      | else-branch w ↦
          let same = ap (λ v. v.items) w.firsts-is in
          let as_long : length c.if-branch.firsts.items ≡ length before = ap length same in
          let kept = first_left before c.if-branch.firsts.items c.constant-item.result ks i names
          c.declare.new.self c.loop-constant-test.true c.constant-item.is
          c.loop-constant.invariant.same_names c.loop-constant.invariant.first declared
          (sym w.if-branch.false ∙ fresh) same in
          record { same_names = kept.0; first = kept.1; few = omega arith }
    ]

pub returns-clause-first : goal.returns-clause-first
returns-clause-first c =
    all_first c.loop-constant.firsts.items c.args.constants.now c.loop-constant.constant-index
    c.loop-constant-test.false c.loop-constant.invariant.first
