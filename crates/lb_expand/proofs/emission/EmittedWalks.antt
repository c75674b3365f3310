-- The code that expands resolved terms: places, rows, and term after term.
use Rattle.lb_expand.proofs.Words
use Words.{Array', Arrow', AtMostOne', Binary', Bool, Boolean, Box, Call', Constant, Context}
use Words.{Current', Cursor, Emitted, Fby', FlatClock, Global, Group', HasPlaces, HasRoom, If'}
use Words.{Index', IsPair, IsRow, IterateNode, IterateNode', IterateSymbol, IterateSymbol', Join'}
use Words.{List, Nor', PlacedEmitted, Pre', Replicate', Row_of-Term, Scalar, Slice', State}
use Words.{StaticId, Term, Unary', Value, VariableId, Vec, When', [], above, add, ap, append-nil}
use Words.{append_assoc, ap₂, arith, choose, constant, drop, drop-append_seam, drop_more, emit_list}
use Words.{emit_row, emit_term, end_of-Term, get_or, gives, inl, inr, items-the_row-Term}
use Words.{items_hidden-the_row-Term-0, length, length-append, literal, more_of-Term, next_call}
use Words.{next_term, on_top, onto, placed, pushed, refl, row_in, row_place, stacked, subst, sym}
use Words.{with_all, with_one, with_two, ℕ, ◌+◌, ◌<◌, ◌^◌, ◌∙◌, ◌∷◌, ◌≡◌, ◌≤◌}
use Rattle.lb_expand.proofs.emission.{EmittedStacks.on_top_onto, TermSteps.Grows}
use Rattle.lb_expand.proofs.emission.TermSteps.{add_grows, all_step, grows, list_step, next_grows}
use Rattle.lb_expand.proofs.emission.TermSteps.{next_of_add, one_step, two_step}
use Rattle.lb_static.specs.{TermForms.IsSingle, declared.resolved.Term.{Array, AtMostOne, Call}}
use Rattle.lb_static.specs.declared.resolved.Term.{Group, If, Literal, Nor, Truth, Variable}

-- The place after a term is not before the term. So a bound on the last place bounds all places.

-- the place `from` is not after the place `to`
pub record IsNotAfter (from to : Cursor) : Type 0 where
  pub term : from.term ≤ to.term
  pub call : from.call ≤ to.call

pub same_place : (at : Cursor) → IsNotAfter at at
same_place at = record { term = omega arith; call = omega arith }

pub one_later : (at : Cursor) → IsNotAfter at (next_term at)
one_later at = record { term = omega arith; call = omega arith }

pub call_later : (at : Cursor) → IsNotAfter at (next_call at)
call_later at = record { term = omega arith; call = omega arith }

pub then_later : (at from to : Cursor) → IsNotAfter at from → IsNotAfter from to → IsNotAfter at to
then_later at from to a b =
    record { term = omega (arith, a.term, b.term); call = omega (arith, a.call, b.call) }

-- a place is not after `to` if the place of the next term is not
after_one : (at to : Cursor) → IsNotAfter (next_term at) to → IsNotAfter at to
after_one at to h = then_later at (next_term at) to (one_later at) h

-- a place is not after `to` if `from`, behind its first operand, lies between them
after_two : (at from to : Cursor) → IsNotAfter (next_term at) from → IsNotAfter from to →
    IsNotAfter at to
after_two at from to h g = after_one at to (then_later (next_term at) from to h g)

mutual
  unfolding emit_term

  pub place_grows : (ctx : Context) (at : Cursor) (s : State) (e : Term) →
      IsNotAfter at (emit_term ctx at s e).place
  place_grows ctx at s (Literal n) = one_later at
  place_grows ctx at s (Truth b) = one_later at
  place_grows ctx at s (Variable x) = one_later at
  place_grows ctx at s (Value i) = one_later at
  place_grows ctx at s (Group' p e) = place_grows ctx at s e
  place_grows ctx at s (Unary' op p a) = after_one at _ (place_grows ctx _ s a)
  place_grows ctx at s (Pre' p a) = after_one at _ (place_grows ctx _ s a)
  place_grows ctx at s (Current' p a) = after_one at _ (place_grows ctx _ s a)
  place_grows ctx at s (When' p a c sign) = after_one at _ (place_grows ctx _ s a)
  place_grows ctx at s (Replicate' p a n) = after_one at _ (place_grows ctx _ s a)
  place_grows ctx at s (Index' p a i) = after_one at _ (place_grows ctx _ s a)
  place_grows ctx at s (Slice' p a i j) = after_one at _ (place_grows ctx _ s a)
  place_grows ctx at s (Binary' op p a q b) =
      after_two at _ _ (place_grows ctx _ s a) (place_grows ctx _ _ b)
  place_grows ctx at s (Arrow' p a q b) =
      after_two at _ _ (place_grows ctx _ s a) (place_grows ctx _ _ b)
  place_grows ctx at s (Fby' p a q b) =
      after_two at _ _ (place_grows ctx _ s a) (place_grows ctx _ _ b)
  place_grows ctx at s (Join' p a q b) =
      after_two at _ _ (place_grows ctx _ s a) (place_grows ctx _ _ b)
  place_grows ctx at s (If' p c q a r b) =
      let z = emit_term ctx (next_term at) s c in
      let x = emit_term ctx z.place z.emitted.state a in
      after_two at z.place _ (place_grows ctx _ s c)
      (then_later z.place x.place _ (place_grows ctx _ z.emitted.state a)
      (place_grows ctx _ x.emitted.state b))
  place_grows ctx at s (Array' arity all) = then_later at _ _ (one_later at) (row_later ctx _ s all)
  place_grows ctx at s (AtMostOne' arity all) =
      then_later at _ _ (one_later at) (row_later ctx _ s all)
  place_grows ctx at s (Nor' arity all) = then_later at _ _ (one_later at) (row_later ctx _ s all)
  place_grows ctx at s (Call' c arity all) =
      then_later at _ _ (call_later at) (row_later ctx _ s all)
  place_grows ctx at s (IterateNode' it c arity all) =
      then_later at _ _ (call_later at) (row_later ctx _ s all)
  place_grows ctx at s (IterateSymbol' it op n arity all) =
      then_later at _ _ (one_later at) (row_later ctx _ s all)

  pub row_later : {m : _} (ctx : Context) (at : Cursor) (s : State) (row : Row_of-Term m) →
      IsNotAfter at (emit_row ctx at s row).place
  row_later ctx at s end_of-Term = same_place at
  row_later ctx at s (more_of-Term e rest) =
      let x = emit_term ctx at s e in
      then_later at x.place (emit_row ctx x.place x.emitted.state rest).place
      (place_grows ctx at s e) (row_later ctx x.place x.emitted.state rest)

pub list_later : (ctx : Context) (at : Cursor) (s : State) (es : List Term) →
    IsNotAfter at (emit_list ctx at s es).place
unfolding emit_list
list_later ctx at s [] = same_place at
list_later ctx at s (e ∷ es) =
    let x = emit_term ctx at s e in
    then_later at x.place (emit_list ctx x.place x.emitted.state es).place
    (place_grows ctx at s e) (list_later ctx x.place x.emitted.state es)

-- A row of terms in a tree emits what the list of terms in its vector emits; and what a term emits,
-- from what its operands emit.

-- ## One operand, and two

pub emitted_single :
    (ctx : Context) (at : Cursor) (s : State) (t : Term) (e : Box Term Global) (x : PlacedEmitted) →
    IsSingle t e → x ≡ emit_term ctx (next_term at) s e.value →
    emit_term ctx at s t ≡ placed x.place (with_one ctx at t x.emitted)
unfolding emit_term
emitted_single ctx at s t e x (inl (op, is)) h = rw (is, h) refl
emitted_single ctx at s t e x (inr (inl is)) h = rw (is, h) refl
emitted_single ctx at s t e x (inr (inr (inl is))) h = rw (is, h) refl
emitted_single ctx at s t e x (inr (inr (inr (inl (c, sign, is))))) h = rw (is, h) refl
emitted_single ctx at s t e x (inr (inr (inr (inr (inl (n, is)))))) h = rw (is, h) refl
emitted_single ctx at s t e x (inr (inr (inr (inr (inr (inl (i, is))))))) h = rw (is, h) refl
emitted_single ctx at s t e x (inr (inr (inr (inr (inr (inr (i, j, is))))))) h = rw (is, h) refl

pub emitted_pair :
    (ctx : Context) (at : Cursor) (s : State) (t : Term) (a b : Box Term Global)
    (x y : PlacedEmitted) → IsPair t a b → x ≡ emit_term ctx (next_term at) s a.value →
    y ≡ emit_term ctx x.place x.emitted.state b.value →
    emit_term ctx at s t ≡ placed y.place (with_two ctx at t x.emitted.found y.emitted)
unfolding emit_term
emitted_pair ctx at s t a b x y (inl (op, is)) h g = rw (is, g, h) refl
emitted_pair ctx at s t a b x y (inr (inl is)) h g = rw (is, g, h) refl
emitted_pair ctx at s t a b x y (inr (inr (inl is))) h g = rw (is, g, h) refl
emitted_pair ctx at s t a b x y (inr (inr (inr is))) h g = rw (is, g, h) refl

pub emitted_if :
    (ctx : Context) (at : Cursor) (s : State) (c a b : Box Term Global) (z x y : PlacedEmitted) →
    z ≡ emit_term ctx (next_term at) s c.value →
    x ≡ emit_term ctx z.place z.emitted.state a.value →
    y ≡ emit_term ctx x.place x.emitted.state b.value →
    emit_term ctx at s (If c a b)
    ≡ placed y.place (choose (ctx.clock at.term) z.emitted.found x.emitted.found y.emitted)
unfolding emit_term
emitted_if ctx at s c a b z x y ez ex ey = rw (ey, ex, ez) refl

-- ## Rows

list_of_row :
    (ctx : Context) (at : Cursor) (s : State) (n : _) (row : Row_of-Term n) →
    emit_row ctx at s row ≡ emit_list ctx at s (items-the_row-Term n row)
unfolding emit_term emit_list
list_of_row ctx at s n end_of-Term = refl
list_of_row ctx at s n (more_of-Term e rest) =
    let x = emit_term ctx at s e in
    cc (list_of_row ctx x.place x.emitted.state _ rest)

-- a term does the same with a row of operands as with their list
row_is :
    (ctx : Context) (at from : Cursor) (s : State) (t : Term) (es : Vec Term Global) →
    items-the_row-Term (row_in t).0 (row_in t).1 ≡ es.items →
    (let r = emit_row ctx from s (row_in t).1 in placed r.place (with_all ctx at t r.emitted))
    ≡ (let r = emit_list ctx from s es.items in placed r.place (with_all ctx at t r.emitted))
row_is ctx at from s t es is =
    let row = row_in t in
    cc (list_of_row ctx from s row.0 row.1)

abbrev whole_row : Context → Cursor → State → Term → Vec Term Global → PlacedEmitted
whole_row ctx at s t es =
    let r = emit_list ctx (row_place at t) s es.items in
    placed r.place (with_all ctx at t r.emitted)

row_form :
    (ctx : Context) (at : Cursor) (s : State) (t : Term) (es : Vec Term Global) → IsRow t es →
    emit_term ctx at s t ≡ whole_row ctx at s t es
unfolding emit_term
row_form ctx at s t es (inl e) =
    rw e (row_is ctx at (next_term at) s (Array es) es (items_hidden-the_row-Term-0 es))
row_form ctx at s t es (inr (inl e)) =
    rw e (row_is ctx at (next_term at) s (AtMostOne es) es (items_hidden-the_row-Term-0 es))
row_form ctx at s t es (inr (inr (inl e))) =
    rw e (row_is ctx at (next_term at) s (Nor es) es (items_hidden-the_row-Term-0 es))
row_form ctx at s t es (inr (inr (inr (inl (c, e))))) =
    rw e (row_is ctx at (next_call at) s (Call c es) es (items_hidden-the_row-Term-0 es))
row_form ctx at s t es (inr (inr (inr (inr (inl (it, c, e)))))) =
    rw e (row_is ctx at (next_call at) s (IterateNode it c es) es (items_hidden-the_row-Term-0 es))
row_form ctx at s t es (inr (inr (inr (inr (inr (it, op, n, e)))))) =
    rw e (row_is ctx at (next_term at) s (IterateSymbol it op n es) es
    (items_hidden-the_row-Term-0 es))

pub emitted_all :
    (ctx : Context) (at : Cursor) (s : State) (t : Term) (es : Vec Term Global) (xs : List Term)
    (r : PlacedEmitted) → IsRow t es → xs ≡ es.items →
    r ≡ emit_list ctx (row_place at t) s xs →
    emit_term ctx at s t ≡ placed r.place (with_all ctx at t r.emitted)
emitted_all ctx at s t es xs r is items er = cc (row_form ctx at s t es is)

-- ## A list of terms, one after another

-- the emission of some terms, with their elements on a stack
abbrev pub listed_onto : Context → Cursor → Emitted → List Term → PlacedEmitted
listed_onto ctx at x es =
    let r = emit_list ctx at x.state es in placed r.place (onto x.found r.emitted)

pub listed_none : (ctx : Context) (at : Cursor) (x : Emitted) →
    listed_onto ctx at x [] ≡ placed at x
unfolding emit_list
listed_none ctx at x =
    ap (λ (is : List ℕ). placed at (record { state = x.state; found = is })) (append-nil x.found)

pub listed_more :
    (ctx : Context) (at : Cursor) (x : Emitted) (es : List Term) (i : ℕ) (d : Term) →
    i < length es →
    listed_onto ctx at x (drop i es)
    ≡ (let y = emit_term ctx at x.state (get_or es i d) in
    listed_onto ctx y.place (onto x.found y.emitted) (drop (i + 1) es))
unfolding emit_list
listed_more ctx at x es i d lt =
    let y = emit_term ctx at x.state (get_or es i d) in
    let r = emit_list ctx y.place y.emitted.state (drop (i + 1) es) in
    cc (drop_more es i d lt, append_assoc x.found y.emitted.found r.emitted.found)

-- a step of the loop over terms: after term i, the terms from i + 1 on are left
pub listed_step :
    (ctx : Context) (at after : Cursor) (x next : Emitted) (es : List Term) (i : ℕ) (e d : Term)
    (whole : PlacedEmitted) → i < length es → e ≡ get_or es i d →
    (let y = emit_term ctx at x.state e in
    placed after next ≡ placed y.place (onto x.found y.emitted)) →
    listed_onto ctx at x (drop i es) ≡ whole →
    listed_onto ctx after next (drop (i + 1) es) ≡ whole
listed_step ctx at after x next es i e d whole lt is h before =
    ap (λ (y : PlacedEmitted). listed_onto ctx y.place y.emitted (drop (i + 1) es)) h
    ∙ ap (λ (e : Term). let y = emit_term ctx at x.state e in
    listed_onto ctx y.place (onto x.found y.emitted) (drop (i + 1) es)) is
    ∙ sym (listed_more ctx at x es i d lt) ∙ before

-- The code that expands resolved terms, term by term: if the term has room, so has each operand,
-- and what the operands leave on the stack makes what the term leaves.

-- ## Room

pub places_before : (from to : Cursor) → IsNotAfter from to → HasPlaces to → HasPlaces from
places_before from to h g =
    record { terms = omega (arith, h.term, g.terms); calls = omega (arith, h.call, g.calls) }

-- an earlier state has room if a later one has
room_before : (x y : PlacedEmitted) → x.emitted.state.next ≤ y.emitted.state.next →
    IsNotAfter x.place y.place → HasRoom y → HasRoom x
room_before x y le h g =
    record {
      elements = omega (arith, le, g.elements);
      places = places_before x.place y.place h g.places;
    }

module _ (ctx : Context) (at : Cursor) (s : State) {t : Term} where
  -- if a term with one operand has room, so has the operand
  pub single_room : {e : Box Term Global} → IsSingle t e → HasRoom (emit_term ctx at s t) →
      HasRoom (emit_term ctx (next_term at) s e.value)
  single_room is h =
      room_before _ _ (one_step Grows grows ctx at t _) (same_place _)
      (subst HasRoom (emitted_single ctx at s t _ _ is refl) h)

  pub single_word : {e : Box Term Global} → IsSingle t e → HasRoom (emit_term ctx at s t) →
      (let x = emit_term ctx (next_term at) s e.value in
      (with_one ctx at t x.emitted).state.next < 2 ^ 32)
  single_word is h = (subst HasRoom (emitted_single ctx at s t _ _ is refl) h).elements

  -- if a term with two operands has room, so have both operands
  pub pair_room : {a b : Box Term Global} → IsPair t a b → HasRoom (emit_term ctx at s t) →
      (let x = emit_term ctx (next_term at) s a.value in
      HasRoom x × HasRoom (emit_term ctx x.place x.emitted.state b.value))
  pair_room is h =
      let second = room_before _ _ (two_step Grows grows ctx at t _ _) (same_place _)
      (subst HasRoom (emitted_pair ctx at s t _ _ _ _ is refl refl) h) in
      (room_before _ _ (next_grows ctx _ _ _) (place_grows ctx _ _ _) second, second)

  pub pair_word : {a b : Box Term Global} → IsPair t a b → HasRoom (emit_term ctx at s t) →
      (let x = emit_term ctx (next_term at) s a.value in
      let y = emit_term ctx x.place x.emitted.state b.value in
      (with_two ctx at t x.emitted.found y.emitted).state.next < 2 ^ 32)
  pair_word is h = (subst HasRoom (emitted_pair ctx at s t _ _ _ _ is refl refl) h).elements

  -- if a term with a row of operands has room, so has the row
  pub row_room : (es : Vec Term Global) → IsRow t es → HasRoom (emit_term ctx at s t) →
      HasRoom (emit_list ctx (row_place at t) s es.items)
  row_room es is h =
      room_before _ _ (all_step Grows grows ctx at t _) (same_place _) (subst HasRoom
      (emitted_all ctx at s t es _ _ is refl refl) h)

  pub row_word : (es : Vec Term Global) → IsRow t es → HasRoom (emit_term ctx at s t) →
      (let r = emit_list ctx (row_place at t) s es.items in
      (with_all ctx at t r.emitted).state.next < 2 ^ 32)
  row_word es is h = (subst HasRoom (emitted_all ctx at s t es _ _ is refl refl) h).elements

-- a choice, with its three operands placed one after another
module _ (ctx : Context) (at : Cursor) (s : State) {t : Term} {c a b : Box Term Global}
    (is : t ≡ If c a b) where
  abbrev first_of_three : PlacedEmitted
  first_of_three = emit_term ctx (next_term at) s c.value

  abbrev second_of_three : PlacedEmitted
  second_of_three = emit_term ctx first_of_three.place first_of_three.emitted.state a.value

  abbrev third_of_three : PlacedEmitted
  third_of_three = emit_term ctx second_of_three.place second_of_three.emitted.state b.value

  pub if_is : emit_term ctx at s t
      ≡ placed third_of_three.place (choose (ctx.clock at.term) first_of_three.emitted.found
      second_of_three.emitted.found third_of_three.emitted)
  if_is =
      cc (emitted_if ctx at s c a b first_of_three second_of_three third_of_three refl refl refl)

  pub third_room : HasRoom (emit_term ctx at s t) → HasRoom third_of_three
  third_room h = room_before _ _ (add_grows _ _ _) (same_place _) (subst HasRoom if_is h)

  pub second_room : HasRoom (emit_term ctx at s t) → HasRoom second_of_three
  second_room h = room_before _ _ (next_grows ctx _ _ _) (place_grows ctx _ _ _) (third_room h)

  pub first_room : HasRoom (emit_term ctx at s t) → HasRoom first_of_three
  first_room h = room_before _ _ (next_grows ctx _ _ _) (place_grows ctx _ _ _) (second_room h)

-- ## What a term leaves

-- the code is at place `to`, with the elements of the emission `r` above `below` on its stack
pub record IsLeft (below : List ℕ) (r : PlacedEmitted) (to : Cursor) (x : Emitted) : Type 0 where
  pub is : placed to x ≡ stacked below r

-- what the code left for an equal term at an equal place
pub term_left :
    (ctx : Context) (s : State) (below : List ℕ) {p q to : Cursor} {e f : Term} {x : Emitted} →
    q ≡ p → f ≡ e → placed to x ≡ stacked below (emit_term ctx q s f) →
    IsLeft below (emit_term ctx p s e) to x
term_left ctx s below place same h = record { is = cc }

-- the same for a list of terms
pub list_left :
    (ctx : Context) (s : State) (below : List ℕ) {p q to : Cursor} {es fs : List Term}
    {x : Emitted} → q ≡ p → fs ≡ es → placed to x ≡ stacked below (emit_list ctx q s fs) →
    IsLeft below (emit_list ctx p s es) to x
list_left ctx s below place same h = record { is = cc }

module _ {below : List ℕ} {r : PlacedEmitted} {to : Cursor} {x : Emitted}
    (left : IsLeft below r to x) where
  -- the code is at the place, and has the emission, that `r` says
  pub left_place : to ≡ r.place
  left_place = ap (λ (r : PlacedEmitted). r.place) left.is

  pub left_emitted : x ≡ onto below r.emitted
  left_emitted = ap (λ (r : PlacedEmitted). r.emitted) left.is

  -- the next free number, and the size of the stack
  pub left_next : x.state.next ≡ r.emitted.state.next
  left_next = ap (λ (r : PlacedEmitted). r.emitted.state.next) left.is

  pub left_size : length x.found ≡ length below + length r.emitted.found
  left_size = cc (left_emitted, length-append below r.emitted.found)

  -- above `below` the code has what `r` emitted
  pub left_above : {n : ℕ} → n ≡ length below → above n x ≡ r.emitted
  left_above size =
      ap₂ above size left_emitted
      ∙ ap (λ (is : List ℕ). gives r.emitted.state is) (drop-append_seam below r.emitted.found)

  -- a word on the top of the stack is the word on what `r` emitted
  pub left_top : (f : Emitted → Emitted) {n : ℕ} → n ≡ length below →
      on_top n f x ≡ onto below (f r.emitted)
  left_top f size =
      cc (left_emitted, on_top_onto f below r.emitted)

module _ (ctx : Context) (at : Cursor) (s : State) {t : Term} {below : List ℕ} {to : Cursor}
    {mid new : Emitted} {n : ℕ} where
  -- a term with one operand is done when the word on the operand is
  pub single_done :
      {e : Box Term Global} → IsSingle t e →
      IsLeft below (emit_term ctx (next_term at) s e.value) to mid → n ≡ length below →
      new ≡ on_top n (with_one ctx at t) mid → placed to new ≡ stacked below (emit_term ctx at s t)
  single_done {e = e} is left size word =
      cc (
        left_place left,
        left_top left (with_one ctx at t) size,
        emitted_single ctx at s t e _ is
            refl,
      )

  -- a term with a row of operands is done when the word on the row is
  pub row_done :
      (es : Vec Term Global) → IsRow t es →
      IsLeft below (emit_list ctx (row_place at t) s es.items) to mid → n ≡ length below →
      new ≡ on_top n (with_all ctx at t) mid → placed to new ≡ stacked below (emit_term ctx at s t)
  row_done es is left size word =
      cc (
        left_place left,
        left_top left (with_all ctx at t) size,
        emitted_all ctx at s t es _ _ is
            refl refl,
      )

-- ## Lists of terms

-- a list that has room has room for its first term
pub listed_room :
    (ctx : Context) (at : Cursor) (x : Emitted) (es : List Term) (i : ℕ) (d : Term) →
    i < length es → HasRoom (listed_onto ctx at x (drop i es)) →
    HasRoom (emit_term ctx at x.state (get_or es i d))
listed_room ctx at x es i d lt h =
    let g = subst HasRoom (listed_more ctx at x es i d lt) h in
    room_before _ _ (list_step Grows grows ctx _ _ _) (list_later ctx _ _ _) g

-- ## Terms without parts, and parentheses

-- the term `t` has no parts, and emits the one value `v`
pub record IsValued (ctx : Context) (at : Cursor) (s : State) (t : Term) (v : Scalar) :
    Type 0 where
  pub is : emit_term ctx at s t ≡ placed (next_term at) (constant (ctx.clock at.term) s v)

module _ (ctx : Context) (at : Cursor) (s : State) {t : Term} where
  pub literal_is : {n : ℕ} → t ≡ Literal n → IsValued ctx at s t (literal n)
  unfolding emit_term
  literal_is is = record { is = rw is refl }

  pub truth_is : {b : Bool} → t ≡ Truth b → IsValued ctx at s t (Boolean b)
  unfolding emit_term
  truth_is is = record { is = rw is refl }

  pub value_is : {i : StaticId} → t ≡ Value i → IsValued ctx at s t (ctx.value i.0)
  unfolding emit_term
  value_is is = record { is = rw is refl }

  pub variable_is : {x : VariableId} → t ≡ Variable x →
      emit_term ctx at s t ≡ placed (next_term at) (gives s (ctx.places x.0))
  unfolding emit_term
  variable_is is = rw is refl

  pub group_is : {e : Box Term Global} → t ≡ Group e →
      emit_term ctx at s t ≡ emit_term ctx at s e.value
  unfolding emit_term
  group_is is = rw is refl

-- a term that emits at the next place, and has room, leaves room for that place
pub leaf_fits : {at : Cursor} {x : Emitted} {r : PlacedEmitted} → r ≡ placed (next_term at) x →
    HasRoom r → at.term + 1 < 2 ^ 64
leaf_fits is h =
    let place = ap (λ (r : PlacedEmitted). r.place.term) is in
    let lt = h.places.terms in
    omega (arith, place, lt)

module _ {ctx : Context} {at : Cursor} {s : State} {t : Term} {v : Scalar}
    (valued : IsValued ctx at s t v) where
  -- a term of one value that has room leaves room for one new element
  pub value_room : HasRoom (emit_term ctx at s t) → s.next + 1 < 2 ^ 32
  value_room h =
      let more = next_of_add (ctx.clock at.term) s (Constant v ∷ []) in
      let same = ap (λ (r : PlacedEmitted). r.emitted.state.next) valued.is in
      let room = h.elements in
      omega (arith, more, same, room)

-- a term of one value is done when an element with the value is pushed
pub constant_done :
    {at to : Cursor} {k l : FlatClock} (s : State) (v : Scalar) {new : Emitted} (below : List ℕ) →
    to ≡ next_term at → new ≡ pushed k (Constant v) (gives s below) → k ≡ l →
    placed to new ≡ stacked below (placed (next_term at) (constant l s v))
unfolding add
constant_done s v below place h clock = cc

-- a variable is done when its elements are put
pub variable_done :
    {at to : Cursor} {is js : List ℕ} {s : State} {new : Emitted} {r : PlacedEmitted}
    (below : List ℕ) → r ≡ placed at (gives s js) → to ≡ at → new ≡ onto below (gives s is) →
    is ≡ js → placed to new ≡ stacked below r
variable_done below form place h same = cc
