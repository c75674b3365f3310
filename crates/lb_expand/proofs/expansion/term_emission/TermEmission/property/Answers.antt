use Rattle.lb_expand.proofs.Words.{◌≡◌, ◌<◌, ◌≤◌, length, arith, ap, ◌∙◌, ElementId, Emitted}
use Rattle.lb_expand.proofs.Words.{outputs_at, numbers_of}
use Rattle.lb_expand.proofs.emission.EmittedProgram.{first_above, none_above, gone_above}
use Rattle.lb_expand.proofs.expansion.term_emission.TermEmission.property.Goals.{then-from-len}
use Rattle.lb_expand.proofs.expansion.term_emission.TermEmission.property.Goals.{else-from-len}
use Rattle.lb_expand.proofs.emission.EmittedStacks.{numbers_many}
use Rattle.lb_expand.proofs.expansion.term_emission.TermEmission.property.Goals as goal

pub returns-clause-emitted : goal.returns-clause-emitted
returns-clause-emitted g c =
    let below = numbers_of c.args.self.now.found.items in
    let count : c.len-from.result ≡ length below = omega (arith, numbers_many, c.len-from.ensures)
    in
    c.cut.ensures.emitted ∙ gone_above _ _ _ _ _ count c.in_ok-put_start.ensures.emitted

pub returns-clause-property : goal.returns-clause-property
returns-clause-property g c =
    let cs = g.F.TableFrame.contexts c.args.frame.now in
    let below = numbers_of c.args.self.now.found.items in
    let from = c.len-from.result in
    let items = c.put_start.new.self.found.items in
    let outs = outputs_at cs c.args.start in
    let count : from ≡ length below = omega (arith, numbers_many, c.len-from.ensures) in
    let all = ap (λ (x : Emitted). x.found) c.in_ok-put_start.ensures.emitted in
    elim c.if-from-len.branch [
      | then-from-len w ↦
          let lt : from < length items = omega (arith, w.if-from-len.true, c.len.ensures) in
          ap (λ (a : ElementId). a.0) w.property-is
          ∙ first_above _ _ _ _ _ _ count all lt
          w.index.ensures
      | else-from-len w ↦
          let le : length items ≤ from = omega (arith, w.if-from-len.false, c.len.ensures) in
          ap (λ (a : ElementId). a.0) w.property-is
          ∙ none_above _ _ _ _ count all le
    ]
