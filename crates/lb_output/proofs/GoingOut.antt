-- The text of a live report on its way to a sink, and how far it came.
use Rattle.std.proofs.Common.{◌≡◌, ℕ, ◌+◌, ◌<◌, ◌≤◌, List, [], ◌∷◌, ◌++◌}
use Rattle.std.proofs.Common.{take, drop, get_or, refl, sym, ap, subst, ◌∙◌, append_assoc}
use Rattle.std.proofs.Common.{add-one, append-nil, arith, length, length-append, suc, zero}
use Rattle.std.proofs.lemmas.List.{length-take-le, take-append-drop, take_at}
use Rattle.lb_check.specs.declared.verdict.Verdict.{Verdict}
use Rattle.std.specs.Prelude.{IfErr, OnOk, Result, Ok, Err}
use Rattle.lb_output.specs.Reports.{line, lines, report_of, total}
use Rattle.lb_output.specs.Follows.{Goes, HasBegun, HasCause, IsFollowed, sent_of}
use Rattle.lb_output.specs.declared.follow_error.FollowError.{FollowError}
use Rattle.lb_output.specs.Taken.{Taken, Takes}
use Rattle.lb_output.proofs.SinkBytes.{takes_more}

-- ## The part of a text that went out

-- `Goes` where the first n bytes of a text went out
pub goes_front : (before after : Taken) (text : List ℕ) (from n : ℕ) → n ≤ length text
    → Takes before after (take n text)
    → Goes before after text (drop n text) from (from + n)
goes_front before after text from n within took = record {
  gone = take n text;
  took = took;
  parts = sym (take-append-drop n text);
  count = ap (λ k. from + k) (sym (length-take-le n text within));
}

-- `Goes` of a text, and then of the rest of it, is `Goes` of the text
pub goes_on : (a b c : Taken) (text rest last : List ℕ) (from between to : ℕ)
    → Goes a b text rest from between → Goes b c rest last between to
    → Goes a c text last from to
goes_on a b c text rest last from between to first second = record {
  gone = first.gone ++ second.gone;
  took = takes_more a b c first.gone second.gone _ first.took second.took refl;
  parts =
      first.parts
      ∙ ap (λ xs. first.gone ++ xs) second.parts
      ∙ sym (append_assoc first.gone second.gone last);
  count = let l = length-append first.gone second.gone in
      omega (arith, first.count, second.count, l);
}

-- `Goes` stays where more text follows
pub goes_more : (a b : Taken) (text rest more : List ℕ) (from to : ℕ)
    → Goes a b text rest from to → Goes a b (text ++ more) (rest ++ more) from to
goes_more a b text rest more from to goes = record {
  gone = goes.gone;
  took = goes.took;
  parts = ap (λ xs. xs ++ more) goes.parts ∙ append_assoc goes.gone rest more;
  count = goes.count;
}

-- the bytes of a text that went out are its first bytes
pub has_begun : (a b : Taken) (text rest : List ℕ) (to : ℕ)
    → Goes a b text rest 0 to → HasBegun text to a b
has_begun a b text rest to goes =
    let front : take to text ≡ goes.gone =
    ap (take to) goes.parts ∙ take_at goes.gone rest to (omega (arith, goes.count)) in
    record {
      within = let l = ap length goes.parts ∙ length-append goes.gone rest in
          omega (arith, goes.count, l);
      gone = subst (λ xs. Takes a b xs) (sym front) goes.took;
    }

-- where no rest is left, all of a text went out
pub has_gone : (a b : Taken) (text rest : List ℕ) (from to : ℕ)
    → Goes a b text rest from to → rest ≡ [] → Takes a b text
has_gone a b text rest from to goes none =
    let whole : text ≡ goes.gone =
    goes.parts ∙ ap (λ xs. goes.gone ++ xs) none ∙ append-nil goes.gone in
    subst (λ xs. Takes a b xs) (sym whole) goes.took

-- ## Lines

lines_of_none : (names : List (List ℕ)) → lines names [] ≡ []
lines_of_none [] = refl
lines_of_none (name ∷ names) = refl

-- the lines of k + 1 traces are those of k traces, and then the line of trace k
pub lines_more : (names : List (List ℕ)) (verdicts : List Verdict) (k : ℕ) (n : List ℕ)
    (v : Verdict) → k < length names → k < length verdicts
    → lines names (take (suc k) verdicts)
    ≡ lines names (take k verdicts) ++ line (get_or names k n) (get_or verdicts k v)
lines_more [] verdicts k n v named judged = absurd (omega arith)
lines_more (name ∷ names) [] k n v named judged = absurd (omega arith)
lines_more (name ∷ names) (w ∷ verdicts) zero n v named judged =
    ap (λ rest. line name w ++ rest) (lines_of_none names) ∙ append-nil (line name w)
lines_more (name ∷ names) (w ∷ verdicts) (suc k) n v named judged =
    ap (λ rest. line name w ++ rest) (lines_more names verdicts k n v (omega arith) (omega arith))
    ∙ sym (append_assoc (line name w) (lines names (take k verdicts)) _)

-- the lines of all traces begin with those of the first ones
pub lines_begin : (names : List (List ℕ)) (verdicts : List Verdict) (k : ℕ)
    → (more : List ℕ) × (lines names verdicts ≡ lines names (take k verdicts) ++ more)
lines_begin [] verdicts k = ([], refl)
lines_begin (name ∷ names) [] zero = ([], refl)
lines_begin (name ∷ names) [] (suc k) = ([], refl)
lines_begin (name ∷ names) (v ∷ verdicts) zero = (lines (name ∷ names) (v ∷ verdicts), refl)
lines_begin (name ∷ names) (v ∷ verdicts) (suc k) =
    let rest = lines_begin names verdicts k in (
      rest.0,
      ap (λ xs. line name v ++ xs) rest.1
          ∙ sym (append_assoc (line name v) (lines names (take k verdicts)) rest.0),
    )

-- what went out of the lines of the first traces went out of the report
pub goes_of_report : (a b : Taken) (names : List (List ℕ)) (verdicts : List Verdict)
    (k : ℕ) (rest : List ℕ) (to : ℕ) → Goes a b (lines names (take k verdicts)) rest 0 to
    → (after : List ℕ) × Goes a b (report_of names verdicts) after 0 to
goes_of_report a b names verdicts k rest to goes =
    let first = lines names (take k verdicts) in
    let begin = lines_begin names verdicts k in
    let more = begin.0 ++ total verdicts in
    let whole : report_of names verdicts ≡ first ++ more =
    ap (λ xs. xs ++ total verdicts) begin.1 ∙ append_assoc first begin.0 (total verdicts) in
    let Is : List ℕ → Type 0 = λ text. Goes a b text (rest ++ more) 0 to in
    (rest ++ more, subst Is (sym whole) (goes_more a b first rest more 0 to goes))

-- the bytes that went out and the bytes that are left add up
pub goes_length : (a b : Taken) (text rest : List ℕ) (from to : ℕ)
    → Goes a b text rest from to → to + length rest ≡ from + length text
goes_length a b text rest from to goes =
    let l = ap length goes.parts ∙ length-append goes.gone rest in
    omega (arith, l, goes.count)

-- ## One trace after another

-- writing that stops behind the lines of the first traces has written a front of the report
pub stops_behind : (a b c : Taken) (names : List (List ℕ)) (verdicts : List Verdict)
    (k : ℕ) (out rest : List ℕ) (from to : ℕ)
    → Goes a b (lines names (take k verdicts)) out 0 from → Goes b c out rest from to
    → (after : List ℕ) × Goes a c (report_of names verdicts) after 0 to
stops_behind a b c names verdicts k out rest from to before goes =
    goes_of_report a c names verdicts k rest to
    (goes_on a b c (lines names (take k verdicts)) out rest 0 from to before goes)

-- the text grows by the line of one more trace
pub one_more : (a b : Taken) (names : List (List ℕ)) (verdicts : List Verdict)
    (k : ℕ) (name : List ℕ) (v d : Verdict) (out text : List ℕ) (count to : ℕ)
    → k < length names → k < length verdicts
    → name ≡ get_or names k [] → v ≡ get_or verdicts k d
    → text ≡ out ++ line name v → to ≡ count
    → Goes a b (lines names (take k verdicts)) out 0 count
    → Goes a b (lines names (take (k + 1) verdicts)) text 0 to
one_more a b names verdicts k name v d out text count to named judged is_name is_verdict grown
    same goes =
    let here = line (get_or names k []) (get_or verdicts k d) in
    let is_line : line name v ≡ here =
    ap (λ n. line n v) is_name ∙ ap (line (get_or names k [])) is_verdict in
    let more : lines names (take (k + 1) verdicts) ≡ lines names (take k verdicts) ++ line name v =
    ap (λ n. lines names (take n verdicts)) (add-one k)
    ∙ lines_more names verdicts k [] d named judged
    ∙ ap (λ xs. lines names (take k verdicts) ++ xs) (sym is_line) in
    let Is : List ℕ → List ℕ → ℕ → Type 0 = λ whole rest n. Goes a b whole rest 0 n in
    let all = goes_more a b (lines names (take k verdicts)) out (line name v) 0 count goes in
    subst (λ whole. Is whole text to) (sym more)
    (subst (λ rest. Is (lines names (take k verdicts) ++ line name v) rest to) (sym grown)
    (subst (λ n. Is (lines names (take k verdicts) ++ line name v) (out ++ line name v) n)
    (sym same) all))

-- ## The end of a report

caused_before : (e : FollowError) (before between after : ℕ) → between ≡ before
    → HasCause e between after → HasCause e before after
caused_before e before between after same cause =
    subst (λ n. HasCause e n after) same cause

-- the front of a text went out, and then its rest or a part of that: the text went to the sink, or
-- stopped there
pub is_followed : (a b c : Taken) (text out new : List ℕ) (count to : ℕ)
    (fa fb fc : ℕ) (r : Result (Unit {0}) FollowError)
    → Goes a b text out 0 count → fb ≡ fa
    → OnOk r (Goes b c out new count to) → OnOk r (new ≡ []) → OnOk r (fc ≡ fb)
    → IfErr r (λ e. (rest : List ℕ) × Goes b c out rest count (sent_of e))
    → IfErr r (λ e. HasCause e fb fc)
    → IsFollowed text a c fa fc r
is_followed a b c text out new count to fa fb fc (Ok x) goes same gone all ok first cause = (
  has_gone a c text new 0 to (goes_on a b c text out new 0 count to goes gone) all,
  ok ∙ same,
)
is_followed a b c text out new count to fa fb fc (Err e) goes same gone all ok first cause = (
  has_begun a c text first.0 (sent_of e)
      (goes_on a b c text out first.0 0 count (sent_of e) goes first.1),
  caused_before e fa fb fc same cause,
)
