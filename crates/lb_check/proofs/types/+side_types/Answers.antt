use Rattle.lb_check.proofs.Words.{ap, calls_in, context_in, given_of, kept_in, option_map, row_in}
use Rattle.lb_check.proofs.{Words.{singly, subst, sym, ◌∙◌}, definitions.BrokenRules.if_found}
use Rattle.lb_check.proofs.typing.{SignatureRows.calls_are, TypeRows.{list_results, list_type_is}}
use Rattle.lb_check.proofs.typing.WalkedTypes.{given_noted, side_group}
use Rattle.lb_check.specs.{PlacedTypes.IsRowWalked, TermSignatures.results_in}
use Rattle.lb_check.proofs.types.+side_types.Goals as goal

pub returns-in-Group : goal.returns-in-Group
returns-in-Group t c =
    let before = kept_in c.args.parts.now in
    if_found c.side_types.result _ _ c.side_types.ensures
    (λ given. side_group (context_in c.args.env.now) before before
    (kept_in c.side_types.new.parts) c.args.term.now c.deref.result.now c.in-Group.e c.in-Group.is
    c.deref.ensures (results_in given))

pub returns-in_ok-note_given-in-AtMostOne : goal.returns-in_ok-note_given-in-AtMostOne
returns-in_ok-note_given-in-AtMostOne t c =
    let env = c.args.env.now in
    let ctx = context_in env in
    let term = c.args.term.now in
    let es = c.in-AtMostOne.terms in
    let before = kept_in c.args.parts.now in
    let mid = kept_in c.walk_row.new.parts in
    let given = option_map row_in c.in_ok-given-in-AtMostOne.given in
    let w : IsRowWalked ctx es.items before mid given (given_of (calls_in env) ctx term) =
    subst (λ l. IsRowWalked ctx l before mid given (given_of (calls_in env) ctx term))
    c.deref-in-AtMostOne.ensures.value c.in_ok-given-in-AtMostOne.ensures in
    given_noted ctx before mid (kept_in c.note_given.new.self) (calls_in env) term es given
    (calls_are env) c.in-AtMostOne.is w.0 w.1 c.in_ok-note_given-in-AtMostOne.ensures.noted

pub returns-in_ok-own-in-Array : goal.returns-in_ok-own-in-Array
returns-in_ok-own-in-Array t c =
    let es = c.in-Array.terms in
    let w = c.in_ok-own-in-Array.ensures (es, c.in-Array.is, c.deref-in-Array.ensures.value) in (
      ap singly w.0
          ∙ sym (list_results (context_in c.args.env.now) c.args.term.now es c.in-Array.is
          ∙ ap singly (sym (list_type_is (context_in c.args.env.now) c.args.term.now es
          c.in-Array.is))),
      w.1,
    )
