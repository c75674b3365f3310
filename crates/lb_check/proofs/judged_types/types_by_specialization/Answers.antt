use Rattle.lb_check.proofs.Words.{Some, ap, cond, drop, drop_more, first_broken}
use Rattle.lb_check.proofs.Words.{is_specialization_typed, kept_in, length, not, refl, slice_get}
use Rattle.lb_check.proofs.Words.{slice_get_read, subst, sym, ◌+◌, ◌∙◌}
use Rattle.lb_check.proofs.lists.ListPairs.{broken_from, broken_more, none_broken}
use Rattle.lb_check.proofs.typing.FoundTypes.{found_all, found_more, found_none}
use Rattle.lb_check.specs.{FoundParts.IsJudgedSpecialization, SharedTypes.AreJudgedParts}
use Rattle.lb_check.proofs.judged_types.types_by_specialization.Goals as goal

pub loop-place-preserved : goal.loop-place-preserved
loop-place-preserved c =
    let r = c.args.reached.now in
    let t = c.args.table.now in
    let kept = is_specialization_typed r t in
    let l = c.loop-place in
    let all = c.deref-specialization-items.result.now in
    let s = c.specialization-item.result in
    let lt = c.loop-place-test.true in
    let is = c.specialization-item.is in
    let mid = kept_in l.parts in
    let after = kept_in c.specialization_types.new.parts in
    let one = subst (IsJudgedSpecialization r t s mid after) c.in-Ok.is c.in_ok-found.ensures in
    record {
      first = broken_more kept (first_broken kept all) all l.place s l.invariant.first lt is one.0;
      shared = c.in_ok-share_rest.ensures;
      found =
          found_more r t all l.place s lt is mid after l.all.items c.push.new.self.items
          c.in-Ok.found l.invariant.found one.1 c.in_ok-push-in-Ok.ensures.items;
    }

pub returns-in-Err : goal.returns-in-Err
returns-in-Err c =
    let r = c.args.reached.now in
    let t = c.args.table.now in
    let kept = is_specialization_typed r t in
    let l = c.loop-place in
    let all = c.deref-specialization-items.result.now in
    let s = c.specialization-item.result in
    let lt = c.loop-place-test.true in
    let is = c.specialization-item.is in
    let same = sym c.deref-specialization-items.ensures.value in
    let rest = broken_from kept (l.place + 1) (drop (l.place + 1) all) in
    let ill = subst (IsJudgedSpecialization r t s (kept_in l.parts)
    (kept_in c.specialization_types.new.parts)) c.in-Err.is c.in_ok-found.ensures in (
      sym (ap (first_broken kept) same ∙ l.invariant.first
          ∙ ap (broken_from kept l.place) (drop_more all l.place s lt)
          ∙ ap (λ b. cond (not b) (Some l.place) rest) (sym (ap kept is) ∙ ill.0)),
      (
        s,
        ap (λ ss. slice_get ss l.place) same
            ∙ slice_get_read all (length all) l.place s refl lt is,
        refl,
        ill,
      ),
    )

pub specialization_types-requires-clause-shared : goal.specialization_types-requires-clause-shared
specialization_types-requires-clause-shared c =
    subst (AreJudgedParts c.args.reached.now c.args.table.now) (sym c.deref.ensures.value)
    c.in_ok-share_rest.ensures

pub returns-then-parts-eq0 : goal.returns-then-parts-eq0
returns-then-parts-eq0 c =
    let r = c.args.reached.now in
    let t = c.args.table.now in
    let l = c.loop-place in
    let all = c.deref-specialization-items.result.now in
    let le = c.loop-place-test.false in
    let same = c.deref-specialization-items.ensures.value in (
      none_broken (is_specialization_typed r t) all t.specializations.items l.place le same
          l.invariant.first,
      found_none r t all l.place (kept_in l.parts) le same l.all.items l.invariant.found
          c.if-parts-eq0.true,
    )

pub returns : goal.returns
returns c =
    let r = c.args.reached.now in
    let t = c.args.table.now in
    let l = c.loop-place in
    let all = c.deref-specialization-items.result.now in
    let le = c.loop-place-test.false in
    let same = c.deref-specialization-items.ensures.value in (
      none_broken (is_specialization_typed r t) all t.specializations.items l.place le same
          l.invariant.first,
      found_all r t all l.place (kept_in l.parts) le same l.all l.invariant.found
          c.if-parts-eq0.false,
    )
