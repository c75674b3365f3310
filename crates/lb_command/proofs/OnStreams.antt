-- From a feed and two sinks to the streams of std that they are over.
use Rattle.std.proofs.Common.{◌≡◌, ℕ, List, Option, subst}
use Rattle.clap.specs.Words.{Text}
use Rattle.lb_output.specs.Taken.{Taken}
use Rattle.lb_command.specs.Correct.{IsRun}
use Rattle.lb_command.specs.Streams.{Change, Input, change, input}
use Rattle.lb_command.specs.StreamRuns.{IsStreamRun, OnReader, OnWriter, held}
use Rattle.lb_command.proofs.SameWriters.{same_writers}

on_reader : (Says : Input → Type 0) (i : Input) (coming : Option Text) → i.coming ≡ coming
    → i.given_before ≡ 0 → i.failures_before ≡ 0 → Says i → OnReader Says coming
on_reader Says i coming is nothing never says = record {
  given = i.given_after;
  failures = i.failures_after;
  said =
      subst (λ c. Says (input c 0 i.given_after 0 i.failures_after)) is
      (subst (λ n. Says (input i.coming n i.given_after 0 i.failures_after)) nothing
      (subst (λ n. Says (input i.coming i.given_before i.given_after n i.failures_after)) never
      says));
}

on_writer : (Says : Change → Type 0) (b a : Taken) (m n : ℕ) (before after : Option Text)
    → b.bytes ≡ before → b.count ≡ 0 → m ≡ 0 → a.bytes ≡ after → a.writer ≡ b.writer
    → Says (change b a m n) → OnWriter Says before after
on_writer Says b a m n before after first nothing never last same says =
    let w = b.writer in
    record {
      writer = w;
      count = a.count;
      failures = n;
      said =
          subst (λ x. Says (change (held w x 0) (held w after a.count) 0 n)) first
          (subst (λ k. Says (change (held w b.bytes k) (held w after a.count) 0 n)) nothing
          (subst (λ k. Says (change b (held w after a.count) k n)) never
          (subst (λ x. Says (change b (held w x a.count) m n)) last
          (subst (λ v. Says (change b (held v a.bytes a.count) m n)) same says))));
    }

-- a new sink: nothing went through it yet, and it never failed
pub record IsNew (taken : Taken) (failures : ℕ) (bytes : Option Text) : Type 0 where
  pub bytes_are : taken.bytes ≡ bytes
  pub none_taken : taken.count ≡ 0
  pub never_failed : failures ≡ 0

-- a run on a feed and two sinks that were new is a run on the streams of std under them
pub on_streams : (words : List Text) (status : ℕ) (coming ob oa eb ea : Option Text)
    (i : Input) (output errors : Change)
    → i.coming ≡ coming → i.given_before ≡ 0 → i.failures_before ≡ 0
    → IsNew output.before output.failures_before ob → output.after.bytes ≡ oa
    → IsNew errors.before errors.failures_before eb → errors.after.bytes ≡ ea
    → IsRun words i status output errors → IsStreamRun words coming status ob oa eb ea
on_streams words status coming ob oa eb ea i output errors is nothing never o oa_is e ea_is run =
    let same = same_writers words i status output errors run in
    on_reader (λ j. OnWriter (λ p. OnWriter (λ q. IsRun words j status p q) eb ea) ob oa) i coming
    is nothing never
    (on_writer (λ p. OnWriter (λ q. IsRun words i status p q) eb ea) output.before output.after
    output.failures_before output.failures_after ob oa o.bytes_are o.none_taken o.never_failed
    oa_is same.of_output
    (on_writer (λ q. IsRun words i status output q) errors.before errors.after
    errors.failures_before errors.failures_after eb ea e.bytes_are e.none_taken e.never_failed
    ea_is same.of_errors run))
