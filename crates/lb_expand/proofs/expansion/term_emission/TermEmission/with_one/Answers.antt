use Rattle.lb_expand.proofs.Words.{inl, inr, place_of}
use Rattle.lb_expand.proofs.emission.EmittedRooms.{unary_room, pre_room, current_room, when_room}
use Rattle.lb_expand.proofs.expansion.term_emission.TermEmission.with_one.Goals as goal

pub each-requires-clause-room : goal.each-requires-clause-room
each-requires-clause-room g c =
    unary_room c.args.self.now c.args.from (g.F.Frame.context c.args.frame.now) (place_of c.args.at)
    c.in-Unary.is c.requires.room

pub memory-requires-clause-room : goal.memory-requires-clause-room
memory-requires-clause-room g c =
    pre_room c.args.self.now c.args.from (g.F.Frame.context c.args.frame.now) (place_of c.args.at)
    c.in-Pre.is c.requires.room

pub memory-requires-in-Current-clause-room : goal.memory-requires-in-Current-clause-room
memory-requires-in-Current-clause-room g c =
    current_room c.args.self.now c.args.from (g.F.Frame.context c.args.frame.now)
    (place_of c.args.at) c.in-Current.is c.requires.room

pub each-requires-in-When-clause-room : goal.each-requires-in-When-clause-room
each-requires-in-When-clause-room g c =
    when_room c.args.self.now c.args.from (g.F.Frame.context c.args.frame.now) (place_of c.args.at)
    c.in-When.is c.requires.room

pub returns-in_default : goal.returns-in_default
returns-in_default g c =
    let form = c.requires.form in
    let none = c.in_default in
    absurd (elim form.1 [
      | inl (op, is) ↦ none.not-Unary op form.0 is
      | inr (inl is) ↦ none.not-Pre form.0 is
      | inr (inr (inl is)) ↦ none.not-Current form.0 is
      | inr (inr (inr (inl (y, sign, is)))) ↦ none.not-When form.0 y sign is
      | inr (inr (inr (inr (inl (n, is))))) ↦ none.not-Replicate form.0 n is
      | inr (inr (inr (inr (inr (inl (i, is)))))) ↦ none.not-Index form.0 i is
      | inr (inr (inr (inr (inr (inr (i, j, is)))))) ↦ none.not-Slice form.0 i j is
    ])
