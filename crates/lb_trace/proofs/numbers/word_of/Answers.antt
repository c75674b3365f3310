use Rattle.std.proofs.Common.{◌+◌, ◌-◌, ◌∙◌, Fits, ap, arith, drop, length-drop, subst, sym, take}
use Rattle.std.proofs.Common.{w8}
use Rattle.std.proofs.lemmas.List.{get_or-drop, take_rest}
use Rattle.lb_trace.specs.Fronts.{number_of}
use Rattle.lb_trace.proofs.NumberWords.{moved-read}
use Rattle.lb_trace.proofs.numbers.word_of.Goals as goal

pub returns : goal.returns
returns c =
    let text = c.args.text.now in
    let start = c.args.start in
    moved-read (drop start text) (c.args.end - start) c.first_eight.result
    (omega (arith, length-drop start text, c.requires.long, c.requires.some, c.requires.within))
    (omega (arith, c.requires.some)) (omega (arith, c.requires.short))
    (λ k. subst (Fits w8) (sym (get_or-drop start text k 0)) (c.type_inv.text (start + k)))
    (c.first_eight.ensures ∙ ap (λ t. number_of (take 8 t)) (take_rest text start))
