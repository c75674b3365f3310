-- One more place gets the next turn.
use Rattle.std.proofs.Common.{◌≡◌, ◌<◌, ◌++◌, ◌∷◌, [], Some, length, set, refl, ap, ◌∙◌, sym, subst}
use Rattle.std.proofs.Common.{is_some, rules}
use Rattle.std.specs.Prelude.{slice_get, if◌then◌else◌}
use Rattle.std.proofs.lemmas.Option.{slice_get_read}
use Rattle.lb_syntax.specs.Lists.{holds}
use Rattle.lb_syntax.proofs.ListPlaces.{get_last as append_last}
use Rattle.lb_static.specs.WorkLists.{HasTurns, visited_after}
use Rattle.lb_static.proofs.WorkLists.{turns_more, after_new}
use Rattle.lb_static.proofs.work_list.WorkList.visit.Goals as goal

pub invariant_of-self-2 : goal.invariant_of-self-2
invariant_of-self-2 c =
    let order = c.self.inside.order.items in
    let turns = c.self.inside.turns.items in
    let place = c.args.place in
    let below : place < length turns =
    subst (λ n. place < n) (sym (ap (λ v. v.count) c.self.view_is)) c.requires in
    let none = slice_get_read turns (length turns) place c.index.result.now refl below
    c.index.ensures ∙ ap Some c.in_default.is in
    let turn : c.len-turn.result ≡ length order = search rules in
    let more = turns_more order turns place c.self.invariant none in
    subst (λ l. HasTurns l (set turns place (Some c.len-turn.result)))
    (sym c.in_ok-push.ensures.items)
    (subst (λ n. HasTurns (order ++ place ∷ []) (set turns place (Some n))) (sym turn) more)

pub returns-clause-order : goal.returns-clause-order
returns-clause-order c =
    let order = c.self.inside.order.items in
    let turns = c.self.inside.turns.items in
    let place = c.args.place in
    let below : place < length turns =
    subst (λ n. place < n) (sym (ap (λ v. v.count) c.self.view_is)) c.requires in
    let none = slice_get_read turns (length turns) place c.index.result.now refl below
    c.index.ensures ∙ ap Some c.in_default.is in
    c.in_ok-push.ensures.items ∙ after_new order turns place c.self.invariant none
    ∙ ap (λ v. visited_after v.order place) c.self.view_is

pub returns-clause-turn : goal.returns-clause-turn
returns-clause-turn c =
    let order = c.self.inside.order.items in
    let turn : c.len-turn.result ≡ length order = search rules in
    ap (λ l. slice_get l c.len-turn.result) c.in_ok-push.ensures.items
    ∙ ap (slice_get (order ++ c.args.place ∷ [])) turn ∙ append_last order c.args.place

-- the turn that is read is that of the place
read : (c : goal.In-Some)
    → slice_get c.self.inside.turns.items c.args.place ≡ Some (Some c.in-Some.turn)
read c =
    let turns = c.self.inside.turns.items in
    let below : c.args.place < length turns =
    subst (λ n. c.args.place < n) (sym (ap (λ v. v.count) c.self.view_is)) c.requires in
    slice_get_read turns (length turns) c.args.place c.index.result.now refl below c.index.ensures
    ∙ ap Some c.in-Some.is

pub returns-in-Some-clause-order : goal.returns-in-Some-clause-order
returns-in-Some-clause-order c =
    let order = c.self.inside.order.items in
    let place = c.args.place in
    let seen = c.self.invariant.seen place ∙ ap (holds is_some) (read c) in
    subst (λ v. v.order ≡ visited_after v.order place) c.self.view_is
    (sym (ap (λ b. if b then order else order ++ place ∷ []) seen))

pub returns-in-Some-clause-turn : goal.returns-in-Some-clause-turn
returns-in-Some-clause-turn c =
    subst (λ v. slice_get v.order c.in-Some.turn ≡ Some c.args.place) c.self.view_is
    (c.self.invariant.found c.args.place c.in-Some.turn (read c))
