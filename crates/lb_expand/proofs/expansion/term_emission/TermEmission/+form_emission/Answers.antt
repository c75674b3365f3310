use Rattle.lb_expand.proofs.Words
use Words.{Clock, Global, HasRoom, PlacedEmitted, Vec, ap, arith, clock_of, constant, drop_all}
use Words.{emit_term, emitted_of, length, next_term, numbers_of, place_of, placed, refl, row_place}
use Words.{state_of, subst, sym, ◌*◌, ◌+◌, ◌<◌, ◌∙◌, ◌≡◌, ◌≤◌}
use Rattle.lb_expand.proofs.emission.{EmittedRooms.same_clock, EmittedStacks.numbers_many}
use Rattle.lb_expand.proofs.emission.EmittedStatements.{first_part, if_done, moved_room, pair_done}
use Rattle.lb_expand.proofs.emission.EmittedStatements.{same_list, same_room, second_part}
use Rattle.lb_expand.proofs.emission.EmittedStatements.{start_fits, then_left, three_left}
use Rattle.lb_expand.proofs.emission.EmittedWalks.{first_room, group_is, leaf_fits, left_above}
use Rattle.lb_expand.proofs.emission.EmittedWalks.{left_next, left_size, list_later, list_left}
use Rattle.lb_expand.proofs.emission.EmittedWalks.{listed_none, listed_onto, listed_room}
use Rattle.lb_expand.proofs.emission.EmittedWalks.{listed_step, literal_is, pair_room, pair_word}
use Rattle.lb_expand.proofs.emission.EmittedWalks.{places_before, row_done, row_room, row_word}
use Rattle.lb_expand.proofs.emission.EmittedWalks.{second_room, single_done, single_room}
use Rattle.lb_expand.proofs.emission.EmittedWalks.{single_word, term_left, third_room, truth_is}
use Rattle.lb_expand.proofs.emission.EmittedWalks.{value_is, value_room, variable_done, variable_is}
use Rattle.lb_expand.proofs.emission.TermSizes.{group_smaller, if_smaller, pair_smaller}
use Rattle.lb_expand.proofs.emission.{TermSizes.{row_smaller, single_smaller}, TermSteps.Grows}
use Rattle.lb_expand.proofs.emission.TermSteps.{grows, list_step, next_grows}
use Rattle.lb_static.proofs.resolved.Term.TheLaws.{the_size}
use denote.Param.Weighed.{at_most, most}
use Rattle.lb_expand.proofs.expansion.term_emission.TermEmission.+form_emission.Goals as goal

-- ## Terms without parts

pub emit-constant-requires-clause-room : goal.emit-constant-requires-clause-room
emit-constant-requires-clause-room g t c =
    value_room (literal_is _ _ _ c.in-Literal.is) c.requires.room

pub emit-constant-requires-in-Truth-clause-room : goal.emit-constant-requires-in-Truth-clause-room
emit-constant-requires-in-Truth-clause-room g t c =
    value_room (truth_is _ _ _ c.in-Truth.is) c.requires.room

pub emit-constant-requires-in-Value-clause-room : goal.emit-constant-requires-in-Value-clause-room
emit-constant-requires-in-Value-clause-room g t c =
    value_room (value_is _ _ _ c.in-Value.is) c.requires.room

pub emit-constant-requires-clause-place : goal.emit-constant-requires-clause-place
emit-constant-requires-clause-place g t c =
    leaf_fits (literal_is _ _ _ c.in-Literal.is).is c.requires.room

pub emit-constant-requires-in-Truth-clause-place : goal.emit-constant-requires-in-Truth-clause-place
emit-constant-requires-in-Truth-clause-place g t c =
    leaf_fits (truth_is _ _ _ c.in-Truth.is).is c.requires.room

pub emit-constant-requires-in-Value-clause-place : goal.emit-constant-requires-in-Value-clause-place
emit-constant-requires-in-Value-clause-place g t c =
    leaf_fits (value_is _ _ _ c.in-Value.is).is c.requires.room

pub emit-next_term-requires : goal.emit-next_term-requires
emit-next_term-requires g t c = leaf_fits (variable_is _ _ _ c.in-Variable.is) c.requires.room

pub emit-returns-in-Literal-clause-emitted : goal.emit-returns-in-Literal-clause-emitted
emit-returns-in-Literal-clause-emitted g t c =
    let ctx = g.F.Frame.context c.args.frame.now in
    let at = place_of c.args.at in
    let s = state_of c.args.self.now in
    rw ((literal_is ctx at s c.in-Literal.is).is
    ∙ ap (λ v. placed (next_term at) (constant (ctx.clock at.term) s v)) (sym c.literal.ensures))
    c.constant.ensures.emitted

pub emit-returns-in-Truth-clause-emitted : goal.emit-returns-in-Truth-clause-emitted
emit-returns-in-Truth-clause-emitted g t c =
    let ctx = g.F.Frame.context c.args.frame.now in
    let at = place_of c.args.at in
    let s = state_of c.args.self.now in
    rw (truth_is ctx at s c.in-Truth.is).is c.constant-in-Truth.ensures.emitted

pub emit-returns-in-Value-clause-emitted : goal.emit-returns-in-Value-clause-emitted
emit-returns-in-Value-clause-emitted g t c =
    let ctx = g.F.Frame.context c.args.frame.now in
    let at = place_of c.args.at in
    let s = state_of c.args.self.now in
    rw ((value_is ctx at s c.in-Value.is).is
    ∙ ap (λ v. placed (next_term at) (constant (ctx.clock at.term) s v)) (sym c.value.ensures))
    c.constant-in-Value.ensures.emitted

pub emit-returns-in_ok-put-in-Variable-clause-emitted :
    goal.emit-returns-in_ok-put-in-Variable-clause-emitted
emit-returns-in_ok-put-in-Variable-clause-emitted g t c =
    variable_done _ (variable_is _ _ _ c.in-Variable.is) c.next_term.ensures
    c.in_ok-put-in-Variable.ensures.emitted c.places.ensures.places

pub emit-emit-requires : goal.emit-emit-requires
emit-emit-requires g t c =
    let room = same_room _ _ refl c.deref.ensures
    (rw (group_is _ _ _ c.in-Group.is) at c.requires.room) in
    let same = ap the_size c.deref.ensures in
    let less = group_smaller c.in-Group.is in
    λ κs h. (omega (arith, same, less, c.decreases), (h, (c.requires.clocks, (c.requires.variables, room))))

pub emit-returns-in-Group-clause-emitted : goal.emit-returns-in-Group-clause-emitted
emit-returns-in-Group-clause-emitted g t c =
    let ctx = g.F.Frame.context c.args.frame.now in
    let at = place_of c.args.at in
    let s = state_of c.args.self.now in
    rw (group_is ctx at s c.in-Group.is ∙ ap (emit_term ctx at s) (sym c.deref.ensures))
    c.emit.ensures.emitted

-- ## One operand

pub emit-next_term-requires-in-Unary : goal.emit-next_term-requires-in-Unary
emit-next_term-requires-in-Unary g t c =
    start_fits _ _ _ _ (single_room _ _ _ c.in-Unary.is c.requires.room)

pub emit-emit-requires-in-Unary : goal.emit-emit-requires-in-Unary
emit-emit-requires-in-Unary g t c =
    let room = same_room _ _ c.next_term-in-Unary.ensures c.deref-in-Unary.ensures
    (single_room _ _ _ c.in-Unary.is c.requires.room) in
    let same = ap the_size c.deref-in-Unary.ensures in
    let less = single_smaller c.in-Unary.is in
    λ κs h. (omega (arith, same, less, c.decreases), (h, (c.requires.clocks, (c.requires.variables, room))))

pub emit-with_one-requires-clause-from : goal.emit-with_one-requires-clause-from
emit-with_one-requires-clause-from g t c =
    let more = left_size (term_left _ _ _ c.next_term-in-Unary.ensures c.deref-in-Unary.ensures
    c.in_ok-to-in-Unary.ensures.emitted) in
    omega (arith, numbers_many, more, c.len-from.ensures)

pub emit-with_one-requires-clause-room : goal.emit-with_one-requires-clause-room
emit-with_one-requires-clause-room g t c =
    let left = term_left _ _ _ c.next_term-in-Unary.ensures c.deref-in-Unary.ensures
    c.in_ok-to-in-Unary.ensures.emitted in
    rw (left_above left {n = c.len-from.result} (omega (arith, numbers_many)))
    (single_word _ _ _ c.in-Unary.is c.requires.room)

pub emit-returns-in_ok-with_one-in-Unary-clause-emitted :
    goal.emit-returns-in_ok-with_one-in-Unary-clause-emitted
emit-returns-in_ok-with_one-in-Unary-clause-emitted g t c =
    let left = term_left _ _ _ c.next_term-in-Unary.ensures c.deref-in-Unary.ensures
    c.in_ok-to-in-Unary.ensures.emitted in
    single_done _ _ _ c.in-Unary.is left (omega (arith, numbers_many))
    c.in_ok-with_one-in-Unary.ensures.emitted

-- ## Two operands

pub emit-next_term-requires-in-Binary : goal.emit-next_term-requires-in-Binary
emit-next_term-requires-in-Binary g t c =
    start_fits _ _ _ _ (pair_room _ _ _ c.in-Binary.is c.requires.room).0

pub emit-emit-requires-in-Binary : goal.emit-emit-requires-in-Binary
emit-emit-requires-in-Binary g t c =
    let room = same_room _ _ c.next_term-in-Binary.ensures c.deref-in-Binary.ensures
    (pair_room _ _ _ c.in-Binary.is c.requires.room).0 in
    let same = ap the_size c.deref-in-Binary.ensures in
    let less = (pair_smaller c.in-Binary.is).0 in
    λ κs h. (omega (arith, same, less, c.decreases), (h, (c.requires.clocks, (c.requires.variables, room))))

pub emit-emit-requires-in-Binary-2 : goal.emit-emit-requires-in-Binary-2
emit-emit-requires-in-Binary-2 g t c =
    let ctx = g.F.Frame.context c.args.frame.now in
    let at = place_of c.args.at in
    let s = state_of c.args.self.now in
    let a = c.in-Binary.a in
    let left = term_left ctx s _ c.next_term-in-Binary.ensures c.deref-in-Binary.ensures
    c.in_ok-after-in-Binary.ensures.emitted in
    let variables : g.F.Frame.variables c.args.frame.now ≤ c.emit-in-Binary.new.self.next =
    omega (arith, left_next left, next_grows ctx (next_term at) s a.value) in
    let clocks = c.requires.clocks
    ∙ sym (ap (λ (cs : Vec Clock Global). cs.items) c.in_ok-after-in-Binary.ensures.clocks) in
    let room = same_room _ _ refl c.deref-in-Binary-2.ensures
    (moved_room _ _ left (pair_room _ _ _ c.in-Binary.is c.requires.room).1) in
    let same = ap the_size c.deref-in-Binary-2.ensures in
    let less = (pair_smaller c.in-Binary.is).1 in
    λ κs h. (omega (arith, same, less, c.decreases), (h, (clocks, (variables, room))))

pub emit-with_two-requires-clause-from : goal.emit-with_two-requires-clause-from
emit-with_two-requires-clause-from g t c =
    let more = left_size (term_left _ _ _ c.next_term-in-Binary.ensures c.deref-in-Binary.ensures
    c.in_ok-after-in-Binary.ensures.emitted) in
    omega (arith, numbers_many, more, c.len-from.ensures, c.len-middle.ensures)

pub emit-with_two-requires-clause-middle : goal.emit-with_two-requires-clause-middle
emit-with_two-requires-clause-middle g t c =
    let more = left_size (term_left _ _ _ refl c.deref-in-Binary-2.ensures
    c.in_ok-to-in-Binary.ensures.emitted) in
    omega (arith, numbers_many, more, c.len-middle.ensures)

pub emit-with_two-requires-clause-room : goal.emit-with_two-requires-clause-room
emit-with_two-requires-clause-room g t c =
    let first = term_left _ _ _ c.next_term-in-Binary.ensures c.deref-in-Binary.ensures
    c.in_ok-after-in-Binary.ensures.emitted in
    let both = then_left _ _ first
    (term_left _ _ _ refl c.deref-in-Binary-2.ensures c.in_ok-to-in-Binary.ensures.emitted) in
    let from : c.len-from.result ≡ length (numbers_of c.args.self.now.found.items) =
    omega (arith, numbers_many) in
    let middle : c.len-middle.result ≡ length (numbers_of c.emit-in-Binary.new.self.found.items) =
    omega (arith, numbers_many) in
    rw (first_part first both from middle, second_part first both from middle)
    (pair_word _ _ _ c.in-Binary.is c.requires.room)

pub emit-returns-in_ok-with_two-in-Binary-clause-emitted :
    goal.emit-returns-in_ok-with_two-in-Binary-clause-emitted
emit-returns-in_ok-with_two-in-Binary-clause-emitted g t c =
    let first = term_left _ _ _ c.next_term-in-Binary.ensures c.deref-in-Binary.ensures
    c.in_ok-after-in-Binary.ensures.emitted in
    let second = term_left _ _ _ refl c.deref-in-Binary-2.ensures
    c.in_ok-to-in-Binary.ensures.emitted in
    pair_done _ _ _ c.in-Binary.is first second (omega (arith, numbers_many))
    (omega (arith, numbers_many)) c.in_ok-with_two-in-Binary.ensures.emitted

-- ## A row of operands

pub emit-row_place-requires : goal.emit-row_place-requires
emit-row_place-requires g t c =
    places_before _ _ (list_later _ _ _ _) (row_room _ _ _ _ c.in-Array.is c.requires.room).places

pub emit-emit_all-requires : goal.emit-emit_all-requires
emit-emit_all-requires g t c =
    let room = same_list _ _ c.row_place.ensures c.deref-in-Array.ensures.value
    (row_room _ _ _ _ c.in-Array.is c.requires.room) in
    let same = ap (most the_size) c.deref-in-Array.ensures.value in
    let less = row_smaller _ c.in-Array.is in
    λ κs h. (omega (arith, same, less, c.decreases), (h, (c.requires.clocks, (c.requires.variables, room))))

pub emit-with_all-requires-clause-from : goal.emit-with_all-requires-clause-from
emit-with_all-requires-clause-from g t c =
    let more = left_size (list_left _ _ _ c.row_place.ensures c.deref-in-Array.ensures.value
    c.in_ok-to-in-Array.ensures.emitted) in
    omega (arith, numbers_many, more, c.len-from.ensures)

pub emit-with_all-requires-clause-variables : goal.emit-with_all-requires-clause-variables
emit-with_all-requires-clause-variables g t c =
    let ctx = g.F.Frame.context c.args.frame.now in
    let at = place_of c.args.at in
    let s = state_of c.args.self.now in
    let left = list_left ctx s _ c.row_place.ensures c.deref-in-Array.ensures.value
    c.in_ok-to-in-Array.ensures.emitted in
    let grows = list_step Grows grows ctx (row_place at c.args.term.now) s c.in-Array.terms.items in
    omega (arith, left_next left, grows, c.requires.variables)

pub emit-with_all-requires-clause-room : goal.emit-with_all-requires-clause-room
emit-with_all-requires-clause-room g t c =
    let left = list_left _ _ _ c.row_place.ensures c.deref-in-Array.ensures.value
    c.in_ok-to-in-Array.ensures.emitted in
    rw (left_above left {n = c.len-from.result} (omega (arith, numbers_many)))
    (row_word _ _ _ _ c.in-Array.is c.requires.room)

pub emit-returns-in_ok-with_all-in-Array-clause-emitted :
    goal.emit-returns-in_ok-with_all-in-Array-clause-emitted
emit-returns-in_ok-with_all-in-Array-clause-emitted g t c =
    let left = list_left _ _ _ c.row_place.ensures c.deref-in-Array.ensures.value
    c.in_ok-to-in-Array.ensures.emitted in
    row_done _ _ _ _ c.in-Array.is left (omega (arith, numbers_many))
    c.in_ok-with_all-in-Array.ensures.emitted

-- ## A choice

pub emit-next_term-requires-in-If : goal.emit-next_term-requires-in-If
emit-next_term-requires-in-If g t c =
    start_fits _ _ _ _ (first_room _ _ _ c.in-If.is c.requires.room)

pub emit-emit-requires-in-If : goal.emit-emit-requires-in-If
emit-emit-requires-in-If g t c =
    let room = same_room _ _ c.next_term-in-If.ensures c.deref-in-If.ensures
    (first_room _ _ _ c.in-If.is c.requires.room) in
    let same = ap the_size c.deref-in-If.ensures in
    let less = (if_smaller c.in-If.is).0 in
    λ κs h. (omega (arith, same, less, c.decreases), (h, (c.requires.clocks, (c.requires.variables, room))))

pub emit-emit-requires-in-If-2 : goal.emit-emit-requires-in-If-2
emit-emit-requires-in-If-2 g t c =
    let ctx = g.F.Frame.context c.args.frame.now in
    let at = place_of c.args.at in
    let s = state_of c.args.self.now in
    let left = term_left ctx s _ c.next_term-in-If.ensures c.deref-in-If.ensures
    c.in_ok-one-in-If.ensures.emitted in
    let variables : g.F.Frame.variables c.args.frame.now ≤ c.emit-in-If.new.self.next =
    omega (arith, left_next left, next_grows ctx (next_term at) s c.in-If.c.value) in
    let clocks = c.requires.clocks
    ∙ sym (ap (λ (cs : Vec Clock Global). cs.items) c.in_ok-one-in-If.ensures.clocks) in
    let room = same_room _ _ refl c.deref-in-If-2.ensures
    (moved_room _ _ left (second_room _ _ _ c.in-If.is c.requires.room)) in
    let same = ap the_size c.deref-in-If-2.ensures in
    let less = (if_smaller c.in-If.is).1 in
    λ κs h. (omega (arith, same, less, c.decreases), (h, (clocks, (variables, room))))

pub emit-emit-requires-in-If-3 : goal.emit-emit-requires-in-If-3
emit-emit-requires-in-If-3 g t c =
    let ctx = g.F.Frame.context c.args.frame.now in
    let at = place_of c.args.at in
    let s = state_of c.args.self.now in
    let z = emit_term ctx (next_term at) s c.in-If.c.value in
    let first = term_left ctx s _ c.next_term-in-If.ensures c.deref-in-If.ensures
    c.in_ok-one-in-If.ensures.emitted in
    let left = then_left _ _ first
    (term_left _ _ _ refl c.deref-in-If-2.ensures c.in_ok-two-in-If.ensures.emitted) in
    let variables : g.F.Frame.variables c.args.frame.now ≤ c.emit-in-If-2.new.self.next = omega (
      arith,
      left_next left,
      next_grows ctx (next_term at) s c.in-If.c.value,
      next_grows ctx z.place
          z.emitted.state c.in-If.a.value,
    ) in
    let clocks = c.requires.clocks
    ∙ sym (ap (λ (cs : Vec Clock Global). cs.items)
    (c.in_ok-two-in-If.ensures.clocks ∙ c.in_ok-one-in-If.ensures.clocks)) in
    let room = same_room _ _ refl c.deref-in-If-3.ensures
    (moved_room _ _ left (third_room _ _ _ c.in-If.is c.requires.room)) in
    let same = ap the_size c.deref-in-If-3.ensures in
    let less = (if_smaller c.in-If.is).2 in
    λ κs h. (omega (arith, same, less, c.decreases), (h, (clocks, (variables, room))))

pub emit-choose-requires-clause-from : goal.emit-choose-requires-clause-from
emit-choose-requires-clause-from g t c =
    let more = left_size (term_left _ _ _ c.next_term-in-If.ensures refl
    c.in_ok-one-in-If.ensures.emitted) in
    omega (arith, numbers_many, more, c.len-from.ensures, c.len-second.ensures)

pub emit-choose-requires-clause-second : goal.emit-choose-requires-clause-second
emit-choose-requires-clause-second g t c =
    let more = left_size (term_left _ _ _ refl refl c.in_ok-two-in-If.ensures.emitted) in
    omega (arith, numbers_many, more, c.len-second.ensures, c.len-third.ensures)

pub emit-choose-requires-clause-third : goal.emit-choose-requires-clause-third
emit-choose-requires-clause-third g t c =
    let more = left_size (term_left _ _ _ refl refl c.in_ok-to-in-If.ensures.emitted) in
    omega (arith, numbers_many, more, c.len-third.ensures)

pub emit-choose-requires-clause-room : goal.emit-choose-requires-clause-room
emit-choose-requires-clause-room g t c =
    let one = term_left _ _ _ c.next_term-in-If.ensures c.deref-in-If.ensures
    c.in_ok-one-in-If.ensures.emitted in
    let two = term_left _ _ _ refl c.deref-in-If-2.ensures c.in_ok-two-in-If.ensures.emitted in
    let three = term_left _ _ _ refl c.deref-in-If-3.ensures c.in_ok-to-in-If.ensures.emitted in
    let kept = c.in_ok-to-in-If.ensures.clocks ∙ c.in_ok-two-in-If.ensures.clocks
    ∙ c.in_ok-one-in-If.ensures.clocks in
    let clock = ap (λ (cs : Vec Clock Global). clock_of cs.items c.clock.result) kept
    ∙ same_clock _ c.requires.clocks c.clock.ensures.clock in
    three_left _ _ _ c.in-If.is one two three (omega (arith, numbers_many))
    (omega (arith, numbers_many)) (omega (arith, numbers_many)) clock c.requires.room

pub emit-returns-in_ok-choose-in-If-clause-emitted :
    goal.emit-returns-in_ok-choose-in-If-clause-emitted
emit-returns-in_ok-choose-in-If-clause-emitted g t c =
    let one = term_left _ _ _ c.next_term-in-If.ensures c.deref-in-If.ensures
    c.in_ok-one-in-If.ensures.emitted in
    let two = term_left _ _ _ refl c.deref-in-If-2.ensures c.in_ok-two-in-If.ensures.emitted in
    let three = term_left _ _ _ refl c.deref-in-If-3.ensures c.in_ok-to-in-If.ensures.emitted in
    let kept = c.in_ok-to-in-If.ensures.clocks ∙ c.in_ok-two-in-If.ensures.clocks
    ∙ c.in_ok-one-in-If.ensures.clocks in
    let clock = ap (λ (cs : Vec Clock Global). clock_of cs.items c.clock.result) kept
    ∙ same_clock _ c.requires.clocks c.clock.ensures.clock in
    if_done _ _ _ c.in-If.is one two three (omega (arith, numbers_many))
    (omega (arith, numbers_many)) (omega (arith, numbers_many)) clock
    c.in_ok-choose-in-If.ensures.emitted

-- ## Some terms

pub emit_all-emit-requires : goal.emit_all-emit-requires
emit_all-emit-requires g t c =
    let l = c.loop-term in
    let terms = c.args.terms.now in
    let item = c.term-item.result in
    let all = subst HasRoom (sym l.invariant.rest) (record {
      elements = c.requires.room.elements;
      places = c.requires.room.places;
    }) in
    let room = same_room _ _ refl c.term-item.is (listed_room
    (g.F.Frame.context c.args.frame.now) (place_of l.to) (emitted_of l.self) terms l.term-index
    item c.loop-term-test.true all) in
    let clocks = c.requires.clocks
    ∙ sym (ap (λ (cs : Vec Clock Global). cs.items) l.invariant.clocks) in
    let variables : g.F.Frame.variables c.args.frame.now ≤ l.self.next =
    omega (arith, l.invariant.next, c.requires.variables) in
    let most_of = at_most the_size terms l.term-index item c.loop-term-test.true in
    let same = ap the_size c.term-item.is in
    let smaller : 2 * the_size item + 0 < t = omega (arith, most_of, same, c.decreases) in
    λ κs h. (smaller, (h, (clocks, (variables, room))))

pub emit_all-loop-term-preserved : goal.emit_all-loop-term-preserved
emit_all-loop-term-preserved g t c =
    let ctx = g.F.Frame.context c.args.frame.now in
    let l = c.loop-term in
    let terms = c.args.terms.now in
    let item = c.term-item.result in
    let step = c.in_ok-to.ensures in
    let next = ap (λ (r : PlacedEmitted). r.emitted.state.next) step.emitted in
    let grows = next_grows ctx (place_of l.to) (state_of l.self) item in
    record {
      rest = listed_step ctx (place_of l.to) (place_of c.in_ok-to.to) (emitted_of l.self)
          (emitted_of c.emit.new.self) terms l.term-index item item _ c.loop-term-test.true
          c.term-item.is step.emitted l.invariant.rest;
      next = omega (arith, next, grows, l.invariant.next);
      clocks = step.clocks ∙ l.invariant.clocks;
    }

pub emit_all-returns-clause-emitted : goal.emit_all-returns-clause-emitted
emit_all-returns-clause-emitted g t c =
    let ctx = g.F.Frame.context c.args.frame.now in
    let l = c.loop-term in
    let terms = c.args.terms.now in
    sym (listed_none ctx (place_of l.to) (emitted_of l.self))
    ∙ ap (listed_onto ctx (place_of l.to) (emitted_of l.self))
    (sym (drop_all l.term-index terms (omega (arith, c.loop-term-test.false))))
    ∙ l.invariant.rest
