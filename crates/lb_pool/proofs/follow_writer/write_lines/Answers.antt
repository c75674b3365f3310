-- Each line goes behind those before it; where the writing stops, the first bytes went out.
use Rattle.std.proofs.Common.{◌≡◌, ℕ, ◌+◌, ◌<◌, List, [], ◌∷◌, ◌++◌, length, take, ap}
use Rattle.std.proofs.Common.{sym, subst, arith, ◌∙◌, refl}
use Rattle.lb_check.specs.declared.verdict.Verdict.{Verdict}
use Rattle.std.proofs.lemmas.List.{get_or-map, length-map, take_more}
use Rattle.lb_check.specs.declared.verdict.Verdict.TheVariants.{Passed}
use Rattle.lb_traces.specs.Traces.{Trace, trace_names}
use Rattle.lb_board.specs.FollowSeats.{right_of}
use Rattle.lb_output.specs.Follows.{Goes, sent_of}
use Rattle.lb_output.specs.Reports.{lines, report_of}
use Rattle.lb_output.specs.Taken.{Taken}
use Rattle.lb_feed.proofs.Passing.{passes_on}
use Rattle.lb_output.proofs.GoingOut.{goes_length, goes_on, one_more, stops_behind}
use Rattle.lb_output.proofs.SinkBytes.{takes_no_byte}
use Rattle.lb_pool.proofs.follow_writer.write_lines.Goals as goal

lines_of_none : (names : List (List ℕ)) → lines names [] ≡ []
lines_of_none [] = refl
lines_of_none (name ∷ names) = refl

-- before the first line nothing went out
goes_at_first : (a : Taken) (names : List (List ℕ)) (verdicts : List Verdict)
    (text : List ℕ) (count : ℕ) → text ≡ [] → count ≡ 0
    → Goes a a (lines names (take 0 verdicts)) text 0 count
goes_at_first a names verdicts text count none zero = record {
  gone = [];
  took = takes_no_byte a;
  parts = lines_of_none names ∙ sym none;
  count = omega (arith, zero);
}

pub loop-k-init : goal.loop-k-init
loop-k-init g c = record {
  seat = c.requires.seat;
  verdicts = c.requires.verdicts;
  gone =
      goes_at_first (g.S.Sink.taken c.args.sink.now) (trace_names c.args.set.now.traces)
      (right_of c.args.board.now) c.args.out.now.text.items c.args.out.now.count
      c.requires.text.0 c.requires.text.1;
  short = let none = ap length c.requires.text.0 in omega (arith, none, c.requires.text.1);
  failures = refl;
}

pub returns-in_err-verdict-clause-first : goal.returns-in_err-verdict-clause-first
returns-in_err-verdict-clause-first g c =
    let e = c.in_err-verdict.field-0.0 in
    let stopped = c.in_err-verdict.ensures.first in
    passes_on c.from_residual.result e _ c.from_residual.ensures.1
    (stops_behind _ _ _ (trace_names c.args.set.now.traces) (right_of c.args.board.now)
    c.loop-k.k c.loop-k.out.text.items stopped.0 c.loop-k.out.count (sent_of e)
    c.loop-k.invariant.gone stopped.1)

pub returns-in_err-add_line-clause-first : goal.returns-in_err-add_line-clause-first
returns-in_err-add_line-clause-first g c =
    let e = c.in_err-add_line.field-0.0 in
    let names = trace_names c.args.set.now.traces in
    let right = right_of c.args.board.now in
    let taken = g.S.Sink.taken in
    let out = c.next_verdict.new.out in
    let stopped = stops_behind (taken c.args.sink.now) (taken c.loop-k.sink)
    (taken c.next_verdict.new.sink) names right c.loop-k.k c.loop-k.out.text.items
    out.text.items c.loop-k.out.count out.count c.loop-k.invariant.gone
    c.in_ok-verdict.ensures.gone in
    let Is : ℕ → Type 0 = λ n. (rest : List ℕ)
    × Goes (taken c.args.sink.now) (taken c.next_verdict.new.sink) (report_of names right)
    rest 0 n in
    passes_on c.from_residual-in_err-add_line.result e _
    c.from_residual-in_err-add_line.ensures.1
    (subst Is (sym c.in_err-add_line.ensures.refused.0) stopped)

pub returns-in_err-keep_verdict-clause-first : goal.returns-in_err-keep_verdict-clause-first
returns-in_err-keep_verdict-clause-first g c =
    let e = c.in_err-keep_verdict.field-0.0 in
    let names = trace_names c.args.set.now.traces in
    let right = right_of c.args.board.now in
    let taken = g.S.Sink.taken in
    let out = c.next_verdict.new.out in
    let stopped = stops_behind (taken c.args.sink.now) (taken c.loop-k.sink)
    (taken c.next_verdict.new.sink) names right c.loop-k.k c.loop-k.out.text.items
    out.text.items c.loop-k.out.count out.count c.loop-k.invariant.gone
    c.in_ok-verdict.ensures.gone in
    let Is : ℕ → Type 0 = λ n. (rest : List ℕ)
    × Goes (taken c.args.sink.now) (taken c.next_verdict.new.sink) (report_of names right)
    rest 0 n in
    let same = c.in_err-keep_verdict.ensures.refused.0 ∙ c.in_ok-add_line.ensures.count in
    passes_on c.from_residual-in_err-keep_verdict.result e _
    c.from_residual-in_err-keep_verdict.ensures.1 (subst Is (sym same) stopped)

pub returns-in_err-send_chunk-clause-first : goal.returns-in_err-send_chunk-clause-first
returns-in_err-send_chunk-clause-first g c =
    let e = c.in_err-send_chunk.field-0.0 in
    let traces = c.args.set.now.traces in
    let names = trace_names traces in
    let right = right_of c.args.board.now in
    let taken = g.S.Sink.taken in
    let k = c.loop-k.k in
    let before = c.loop-k.out in
    let out = c.next_verdict.new.out in
    let full = c.add_line.new.self in
    let traced : k < length traces = omega (arith, c.len-k-end.ensures.count) in
    let named = length-map traces (λ (t : Trace). t.0) in
    let came = goes_on (taken c.args.sink.now) (taken c.loop-k.sink)
    (taken c.next_verdict.new.sink) (lines names (take k right)) before.text.items
    out.text.items 0 before.count out.count c.loop-k.invariant.gone
    c.in_ok-verdict.ensures.gone in
    let grown = one_more (taken c.args.sink.now) (taken c.next_verdict.new.sink) names right k
    c.name.result.now c.in_ok-verdict.verdict Passed out.text.items full.text.items out.count
    full.count (omega (arith, named, traced)) (omega (arith, c.requires.traces, traced))
    (c.name.ensures ∙ sym (get_or-map (λ (t : Trace). t.0) traces k ([], []) [] traced))
    c.in_ok-verdict.ensures.right c.in_ok-add_line.ensures.text c.in_ok-add_line.ensures.count
    came in
    let stopped = c.in_err-send_chunk.ensures.first in
    passes_on c.from_residual-in_err-send_chunk.result e _
    c.from_residual-in_err-send_chunk.ensures.1
    (stops_behind (taken c.args.sink.now) (taken c.next_verdict.new.sink)
    (taken c.send_chunk.new.sink) names right (k + 1) full.text.items stopped.0 full.count
    (sent_of e) grown stopped.1)

pub loop-k-preserved : goal.loop-k-preserved
loop-k-preserved g c =
    let traces = c.args.set.now.traces in
    let names = trace_names traces in
    let right = right_of c.args.board.now in
    let taken = g.S.Sink.taken in
    let k = c.loop-k.k in
    let before = c.loop-k.out in
    let out = c.next_verdict.new.out in
    let full = c.add_line.new.self in
    let left = c.send_chunk.new.out in
    let traced : k < length traces = omega (arith, c.len-k-end.ensures.count) in
    let judged : k < length right = omega (arith, c.requires.traces, traced) in
    let named = length-map traces (λ (t : Trace). t.0) in
    let came = goes_on (taken c.args.sink.now) (taken c.loop-k.sink)
    (taken c.next_verdict.new.sink) (lines names (take k right)) before.text.items
    out.text.items 0 before.count out.count c.loop-k.invariant.gone
    c.in_ok-verdict.ensures.gone in
    let grown = one_more (taken c.args.sink.now) (taken c.next_verdict.new.sink) names right k
    c.name.result.now c.in_ok-verdict.verdict Passed out.text.items full.text.items out.count
    full.count (omega (arith, named, traced)) judged
    (c.name.ensures ∙ sym (get_or-map (λ (t : Trace). t.0) traces k ([], []) [] traced))
    c.in_ok-verdict.ensures.right c.in_ok-add_line.ensures.text c.in_ok-add_line.ensures.count
    came in
    let sent = goes_on (taken c.args.sink.now) (taken c.next_verdict.new.sink)
    (taken c.send_chunk.new.sink) (lines names (take (k + 1) right)) full.text.items
    left.text.items 0 full.count left.count grown c.in_ok-send_chunk.ensures.gone in
    let first = goes_length _ _ _ _ _ _ c.in_ok-verdict.ensures.gone in
    let last = goes_length _ _ _ _ _ _ c.in_ok-send_chunk.ensures.gone in
    let short = (c.signature.ensures.lawful.each k ([], []) traced).name.short in
    let name = ap length c.name.ensures in
    record {
      seat = c.next_verdict.ensures.seat;
      verdicts =
          c.in_ok-keep_verdict.ensures.kept
          ∙ ap (λ vs. vs ++ c.in_ok-verdict.verdict ∷ []) c.loop-k.invariant.verdicts
          ∙ ap (λ v. take k right ++ v ∷ []) c.in_ok-verdict.ensures.right
          ∙ sym (take_more right k Passed judged);
      gone = sent;
      short = omega (
        arith,
        first,
        last,
        short,
        name,
        c.loop-k.invariant.short,
        c.in_ok-add_line.ensures.short,
        c.in_ok-add_line.ensures.count,
      );
      failures =
          c.in_ok-send_chunk.ensures.ok ∙ c.in_ok-verdict.ensures.ok ∙ c.loop-k.invariant.failures;
    }
