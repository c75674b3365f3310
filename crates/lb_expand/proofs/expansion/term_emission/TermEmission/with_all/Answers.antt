use Rattle.lb_expand.proofs.Words.{List, above, ap, emitted_of, gives, inl, inr, onto, place_of}
use Rattle.lb_expand.proofs.Words.{refl, sym, take, take-append-drop, ℕ, ◌∙◌}
use Rattle.lb_expand.proofs.emission.EmittedRooms.{array_form, nor_room, one_room}
use Rattle.lb_expand.proofs.expansion.term_emission.TermEmission.with_all.Goals as goal

pub at_most_one-requires-clause-room : goal.at_most_one-requires-clause-room
at_most_one-requires-clause-room g c =
    one_room c.args.self.now c.args.from (g.F.Frame.context c.args.frame.now) (place_of c.args.at)
    _ c.in-AtMostOne.is c.requires.room

pub nor-requires-clause-room : goal.nor-requires-clause-room
nor-requires-clause-room g c =
    nor_room c.args.self.now c.args.from (g.F.Frame.context c.args.frame.now) (place_of c.args.at)
    _ c.in-Nor.is c.requires.room

pub returns-in_default : goal.returns-in_default
returns-in_default g c =
    let ctx = g.F.Frame.context c.args.frame.now in
    let old = c.args.self.now in
    let from = c.args.from in
    let at = place_of c.args.at in
    let t = c.args.term.now in
    let x = emitted_of old in
    let form = c.requires.form in
    let none = c.in_default in
    record {
      emitted = elim form.1 [
        | inl is ↦
            sym (ap (λ (is : List ℕ). gives x.state is) (take-append-drop from x.found))
            ∙ sym (ap (onto (take from x.found)) ((array_form ctx at form.0 is) (above from x)))
        | inr (inl is) ↦ absurd (none.not-AtMostOne form.0 is)
        | inr (inr (inl is)) ↦ absurd (none.not-Nor form.0 is)
        | inr (inr (inr (inl (call, is)))) ↦ absurd (none.not-Call call form.0 is)
        | inr (inr (inr (inr (inl (it, call, is))))) ↦
            absurd (none.not-IterateNode it call form.0 is)
        | inr (inr (inr (inr (inr (it, op, n, is))))) ↦
            absurd (none.not-IterateSymbol it op n form.0 is)
      ];
      clocks = refl;
    }
