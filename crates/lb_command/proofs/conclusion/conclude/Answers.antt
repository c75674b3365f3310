use Rattle.std.proofs.Common.{List, ℕ, refl, subst, sym}
use Rattle.std.proofs.lemmas.Result.{IfOk-weaker}
use Rattle.lb_listing.specs.Listings.{Lists}
use Rattle.lb_command.specs.Conclusions.IsConcluded.{as_it_is, told}
use Rattle.lb_command.proofs.conclusion.conclude.Goals as goal

pub conclude_text-requires-clause-lists : goal.conclude_text-requires-clause-lists
conclude_text-requires-clause-lists c = (
  c.requires.lists.0,
  subst (λ (text : List ℕ). Lists text c.requires.lists.0) (sym c.as_slice.ensures.value)
      c.requires.lists.1,
)

pub returns-then-are_usual : goal.returns-then-are_usual
returns-then-are_usual c = as_it_is (sym c.if-are_usual.ensures) refl c.new.ensures.items

pub returns : goal.returns
returns c =
    IfOk-weaker c.conclude_text.result _ _
    (λ found is. told is.0
    (subst (λ (text : List ℕ). Lists text is.0) c.as_slice.ensures.value is.1) is.2)
    c.conclude_text.ensures
