-- Answers that did not go out whole.
use Rattle.std.proofs.Common.{◌≡◌, ◌∙◌, ◌<◌, ◌≤◌, ℕ, List, Option, None, ap, length, subst, take}
use Rattle.clap.specs.Words.{Text}
use Rattle.lb_output.specs.Taken.{Takes}
use Rattle.lb_command.specs.Outcomes.{IsDelivered, IsTold, refusal_status, text_of}
use Rattle.lb_command.specs.Outcomes.IsDelivered.{broken}
use Rattle.lb_command.specs.Lines.{line}
use Rattle.lb_command.specs.Streams.{Change}
use Rattle.lb_command.specs.declared.refusal.Refusal.{Refusal}
use Rattle.lb_command.specs.declared.answer.Answer.{Answer}

-- an answer is broken where the output took its first `count` bytes and failed, and the refusal is
-- E19
pub broken_by : (words : List Text) (answer : Answer) (warnings : List ℕ) (status : ℕ)
    (output errors : Change) (r : Refusal) (count : ℕ) → r.number ≡ 19 → r.position ≡ None
    → count ≤ length (text_of answer)
    → Takes output.before output.after (take count (text_of answer))
    → status ≡ refusal_status r.number
    → output.failures_before < output.failures_after
    → IsTold words errors (line r.number r.position)
    → IsDelivered words answer warnings status output errors
broken_by words answer warnings status output errors r count number position within took is failed
    told =
    let numbered =
    subst (λ (n : ℕ). IsTold words errors (line n r.position)) number told in
    broken count within took (is ∙ ap refusal_status number)
    (record { more = failed; same = took.same })
    (subst (λ (p : Option (ℕ × ℕ)). IsTold words errors (line 19 p)) position numbered)
