use Rattle.lb_check.proofs.Words.{None, Some, all_some, ap, arith, drop, min, option_map, row_in}
use Rattle.lb_check.proofs.{Words.{sym, view_type, ◌+◌, ◌∙◌}, typing.SignatureRows.counted_next}
use Rattle.lb_check.proofs.typing.SignatureRows.{none_before, size_end, split}
use Rattle.lb_check.proofs.part_types.given_size.Goals as goal

pub loop-place-init : goal.loop-place-init
loop-place-init c = record {
  counted = none_before (all_some (row_in c.args.given.now));
  within = omega arith;
}

pub loop-place-preserved : goal.loop-place-preserved
loop-place-preserved c =
    let l = c.loop-place in
    let t = view_type c.in-Some.data_type in
    record {
      counted =
          split (row_in c.args.given.now) l.place l.count l.invariant.counted (Some t) (omega arith)
          (sym (ap (option_map view_type) c.in-Some.is) ∙ c.in_ok-data_type.ensures)
          ∙ counted_next l.count c.min-count.result t (all_some (drop (l.place + 1)
          (row_in c.args.given.now))) (c.min-count.ensures ∙ ap (λ n. min (l.count + n) 65537)
          c.element_count.ensures);
      within = omega arith;
    }

pub returns-in-None : goal.returns-in-None
returns-in-None c =
    let l = c.loop-place in
    sym (split (row_in c.args.given.now) l.place l.count l.invariant.counted None (omega arith)
    (sym (ap (option_map view_type) c.in-None.is) ∙ c.in_ok-data_type.ensures))

pub returns : goal.returns
returns c =
    let l = c.loop-place in
    size_end (row_in c.args.given.now) l.place l.count l.invariant.counted (omega arith)
    l.invariant.within
