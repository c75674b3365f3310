-- One trace of the other roll after the other.
use Rattle.std.proofs.Common.{◌≡◌, ◌<◌, ℕ, List, [], length, get_or, ap, subst, sym, ◌∙◌, arith}
use Rattle.std.proofs.lemmas.List.{get_or_default}
use Rattle.std.proofs.lemmas.Result.{err_from_is_err_and}
use Rattle.lb_traces.specs.Traces.{IsTraceName, Recording, trace_at}
use Rattle.lb_trace.specs.Rolls.{RefusesTrace, TakesTrace}
use Rattle.lb_trace.proofs.RollJoins.{refuses_roll, taken_all, taken_one_more}
use Rattle.lb_trace.proofs.roll.Roll.append_roll.Goals as goal

pub append_trace-requires-clause-name : goal.append_trace-requires-clause-name
append_trace-requires-clause-name c =
    let below : c.loop-k.k < length c.set-set.result.now.traces =
    omega (arith, c.loop-k-test.true, c.len-k-end.ensures.count) in
    subst IsTraceName (sym c.name.ensures)
    (c.signature.ensures.lawful.each c.loop-k.k ([], []) below).name

pub loop-k-preserved : goal.loop-k-preserved
loop-k-preserved c =
    let other = c.args.other.now in
    let below : c.loop-k.k < length c.args.other.now.names.traces =
    omega (
      arith,
      c.loop-k-test.true,
      c.len-k-end.ensures.count,
      ap (λ (r : Recording). length r.traces) c.set-set.ensures,
    ) in
    let name : c.name.result.now ≡ (trace_at c.args.other.now.names.traces c.loop-k.k).0 =
    c.name.ensures
    ∙ ap (λ (r : Recording). (trace_at r.traces c.loop-k.k).0) c.set-set.ensures in
    let inside : c.loop-k.k < length c.args.other.now.lengths.items =
    omega (arith, below, c.requires.other.counted) in
    let count : c.index-length.result.now ≡ get_or c.args.other.now.lengths.items c.loop-k.k 0 =
    cc (
      c.index-length.ensures,
      get_or_default c.args.other.now.lengths.items c.loop-k.k c.index-length.result.now 0 inside,
    ) in
    let takes : TakesTrace c.loop-k.roll (trace_at c.args.other.now.names.traces c.loop-k.k).0
    (get_or c.args.other.now.lengths.items c.loop-k.k 0) c.append_trace.new.self =
    subst (λ (n : List ℕ). TakesTrace c.loop-k.roll n
    (get_or c.args.other.now.lengths.items c.loop-k.k 0) c.append_trace.new.self) name
    (subst (λ (n : ℕ). TakesTrace c.loop-k.roll c.name.result.now n c.append_trace.new.self) count
    c.in_ok-append_trace.ensures.ok) in
    record {
      roll = c.in_ok-append_trace.ensures.roll;
      taken = taken_one_more _ _ _ _ _ below c.loop-k.invariant.taken takes;
    }

pub returns-in_err-append_trace-clause-err : goal.returns-in_err-append_trace-clause-err
returns-in_err-append_trace-clause-err c =
    let e = c.in_err-append_trace.field-0.0 in
    let below : c.loop-k.k < length c.args.other.now.names.traces =
    omega (
      arith,
      c.loop-k-test.true,
      c.len-k-end.ensures.count,
      ap (λ (r : Recording). length r.traces) c.set-set.ensures,
    ) in
    let name : c.name.result.now ≡ (trace_at c.args.other.now.names.traces c.loop-k.k).0 =
    c.name.ensures
    ∙ ap (λ (r : Recording). (trace_at r.traces c.loop-k.k).0) c.set-set.ensures in
    let inside : c.loop-k.k < length c.args.other.now.lengths.items =
    omega (arith, below, c.requires.other.counted) in
    let count : c.index-length.result.now ≡ get_or c.args.other.now.lengths.items c.loop-k.k 0 =
    cc (
      c.index-length.ensures,
      get_or_default c.args.other.now.lengths.items c.loop-k.k c.index-length.result.now 0 inside,
    ) in
    let refused : RefusesTrace c.loop-k.roll
    (trace_at c.args.other.now.names.traces c.loop-k.k).0
    (get_or c.args.other.now.lengths.items c.loop-k.k 0) e =
    subst (λ (n : List ℕ). RefusesTrace c.loop-k.roll n
    (get_or c.args.other.now.lengths.items c.loop-k.k 0) e) name
    (subst (λ (n : ℕ). RefusesTrace c.loop-k.roll c.name.result.now n e) count
    c.in_err-append_trace.ensures.err) in
    let p = err_from_is_err_and c.from_residual.result c.from_residual.ensures.1 in
    rw (p.1, p.2) (refuses_roll _ _ _ _ _ below c.loop-k.invariant.taken refused)

pub returns-clause-ok : goal.returns-clause-ok
returns-clause-ok c = λ elements traces others of more.
    taken_all _ _ _ _ (omega (
      arith,
      c.loop-k-test.false,
      c.loop-k.auto.k-end,
      c.len-k-end.ensures.count,
      ap (λ (r : Recording). length r.traces) c.set-set.ensures,
    ))
    c.loop-k.invariant.taken elements traces others of more
