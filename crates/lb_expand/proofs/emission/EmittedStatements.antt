-- The code that expands operands, statements and rows of the table of instances.
use Rattle.lb_expand.proofs.Words
use Words.{Box, Context, Cursor, Emitted, Every, FlatClock, Global, HasPlaces, HasRoom, IsCounted}
use Words.{List, PlacedEmitted, PlacedState, Reached, ResolvedNode, ResolvedStatement, Some, State}
use Words.{Table, Term, [], above, add-sub_cancel_left, ap, append_assoc, ap₂, arith, assert}
use Words.{bodies, body_in, choose, copied, drop, drop-append_seam, drop_all, drop_more, emit_list}
use Words.{emit_rows, emit_statement, emit_statements, emit_term, first_place, flat_map, get_or}
use Words.{joins, left_targets, length, length-append, next_term, node_at, on_three, on_two, onto}
use Words.{placed, refl, slice_range, stacked, subst, suc, sym, take, take-append_seam}
use Words.{with_asserted, with_copies, with_two, ℕ, ◌++◌, ◌+◌, ◌-◌, ◌<◌, ◌^◌, ◌∙◌, ◌∷◌, ◌≡◌, ◌≤◌}
use Rattle.lb_expand.proofs.emission.{EmittedStacks.on_two_onto, EmittedWalks.{IsLeft, IsNotAfter}}
use Rattle.lb_expand.proofs.emission.EmittedWalks.{emitted_if, emitted_pair, if_is, left_above}
use Rattle.lb_expand.proofs.emission.EmittedWalks.{left_emitted, left_place, place_grows}
use Rattle.lb_expand.proofs.emission.{EmittedWalks.{places_before, then_later}, TermSteps.Grows}
use Rattle.lb_expand.proofs.emission.TermSteps.{assert_grows, grows, rows_grow, statements_step}
use Rattle.{lb_expand.specs.Frames.placed_state, lb_static.specs.TermForms.IsPair}
use Rattle.lb_static.specs.declared.resolved.Term.{If}
use Rattle.lb_static.specs.declared.resolved.ResolvedStatement.TheVariants as statement
use Rattle.lb_static.specs.declared.table.Instance as row

-- The operands of a term on a stack, one after another: what the code finds of each, and what the
-- word on all of them leaves.

-- the slice between the two seams of three joined lists is the second list
slice_seam : (a b c : List ℕ) → slice_range ((a ++ b) ++ c) (length a) (length (a ++ b)) ≡ b
slice_seam a b c =
    let split = append_assoc a b c in
    let rest = ap (drop (length a)) split ∙ drop-append_seam a (b ++ c) in
    let size : length (a ++ b) - length a ≡ length b =
    ap (λ n. n - length a) (length-append a b) ∙ add-sub_cancel_left (length a) (length b) in
    ap₂ (λ (n : ℕ) (is : List ℕ). take n is) size rest ∙ take-append_seam b c

-- a word on three operands leaves what stands below them
pub on_three_onto :
    (f : List ℕ → List ℕ → Emitted → Emitted) (below cs xs : List ℕ) (y : Emitted) →
    on_three (length below) (length (below ++ cs)) (length ((below ++ cs) ++ xs)) f
    (onto ((below ++ cs) ++ xs) y)
    ≡ onto below (f cs xs y)
on_three_onto f below cs xs y =
    let all = ((below ++ cs) ++ xs) ++ y.found in
    let split : all ≡ (below ++ cs) ++ (xs ++ y.found) = append_assoc (below ++ cs) xs y.found in
    let first : take (length below) all ≡ below =
    ap (take (length below)) (split ∙ append_assoc below cs (xs ++ y.found))
    ∙ take-append_seam below (cs ++ (xs ++ y.found)) in
    let second : slice_range all (length below) (length (below ++ cs)) ≡ cs =
    ap (λ (is : List ℕ). slice_range is (length below) (length (below ++ cs))) split
    ∙ slice_seam below cs (xs ++ y.found) in
    let third = slice_seam (below ++ cs) xs y.found in
    let fourth = drop-append_seam ((below ++ cs) ++ xs) y.found in
    let g : List ℕ → List ℕ → List ℕ → Emitted =
    λ cs xs is. f cs xs (record { state = y.state; found = is }) in
    let last = drop (length ((below ++ cs) ++ xs)) all in
    ap₂ onto first
    (ap₂ (λ (cs xs : List ℕ). g cs xs last) second third ∙ ap (g cs xs) fourth)

module _ (ctx : Context) (e : Term) {below : List ℕ} {r : PlacedEmitted} {to : Cursor}
    {mid : Emitted} (left : IsLeft below r to mid) where
  -- one more operand, above the operands that are on the stack
  pub then_left :
      {up : Cursor} {next : Emitted} → IsLeft mid.found (emit_term ctx to mid.state e) up next →
      IsLeft (below ++ r.emitted.found) (emit_term ctx r.place r.emitted.state e) up next
  then_left above = record { is = cc (left_place left, left_emitted left, above.is) }

  -- the next operand has room in the code if it has room in the mirror
  pub moved_room : HasRoom (emit_term ctx r.place r.emitted.state e) →
      HasRoom (emit_term ctx to mid.state e)
  moved_room room =
      subst (λ (r : PlacedEmitted). HasRoom (emit_term ctx r.place r.emitted.state e))
      (sym left.is) room

-- two operands, cut out of the stack at the places where they begin
module _ {below : List ℕ} {x y : PlacedEmitted} {to up : Cursor} {mid next : Emitted}
    (first : IsLeft below x to mid) (second : IsLeft (below ++ x.emitted.found) y up next)
    {m n : ℕ} (from : m ≡ length below) (middle : n ≡ length mid.found) where
  middle_is : n ≡ length (below ++ x.emitted.found)
  middle_is = cc (left_emitted first)

  pub first_part : slice_range next.found m n ≡ x.emitted.found
  first_part = cc (left_emitted second, middle_is, slice_seam below x.emitted.found y.emitted.found)

  pub second_part : above n next ≡ y.emitted
  second_part = left_above second middle_is

  two_top : (f : List ℕ → Emitted → Emitted) →
      on_two m n f next ≡ onto below (f x.emitted.found y.emitted)
  two_top f = cc (left_emitted second, middle_is, on_two_onto f below x.emitted.found y.emitted)

-- a term with two operands is done when the word on both is
pub pair_done :
    (ctx : Context) (at : Cursor) (s : State) {t : Term} {a b : Box Term Global} {below : List ℕ}
    {to up : Cursor} {mid next new : Emitted} {m n : ℕ} → IsPair t a b →
    IsLeft below (emit_term ctx (next_term at) s a.value) to mid →
    IsLeft mid.found (emit_term ctx to mid.state b.value) up next → m ≡ length below →
    n ≡ length mid.found → new ≡ on_two m n (with_two ctx at t) next →
    placed up new ≡ stacked below (emit_term ctx at s t)
pair_done ctx at s {t = t} {a = a} {b = b} is first second from middle word =
    let both = then_left ctx b.value first second in
    cc (
      left_place both,
      two_top first both from middle (with_two ctx at t),
      emitted_pair ctx at s t
          a b _ _ is refl refl,
    )

-- the three operands of a choice, cut out of the stack
module _ (ctx : Context) (at : Cursor) (s : State) {t : Term} {c a b : Box Term Global}
    (is : t ≡ If c a b) {below : List ℕ} {to up top : Cursor} {one mid next : Emitted}
    (h : IsLeft below (emit_term ctx (next_term at) s c.value) to one)
    (g : IsLeft one.found (emit_term ctx to one.state a.value) up mid)
    (f : IsLeft mid.found (emit_term ctx up mid.state b.value) top next) {l m n : ℕ}
    (from : l ≡ length below) (second : m ≡ length one.found) (third : n ≡ length mid.found)
    {k : FlatClock} (clock : k ≡ ctx.clock at.term) where
  abbrev z_of : PlacedEmitted
  z_of = emit_term ctx (next_term at) s c.value

  abbrev x_of : PlacedEmitted
  x_of = emit_term ctx z_of.place z_of.emitted.state a.value

  abbrev y_of : PlacedEmitted
  y_of = emit_term ctx x_of.place x_of.emitted.state b.value

  mid_is : IsLeft (below ++ z_of.emitted.found) x_of up mid
  mid_is = then_left ctx a.value h g

  last_is : IsLeft ((below ++ z_of.emitted.found) ++ x_of.emitted.found) y_of top next
  last_is = then_left ctx b.value mid_is f

  -- the word on three operands on the stack is the word on what they emitted
  three_is :
      on_three l m n (choose k) next
      ≡ onto below
      (choose (ctx.clock at.term) z_of.emitted.found x_of.emitted.found y_of.emitted)
  three_is =
      cc (
        left_emitted h,
        left_emitted mid_is,
        left_emitted last_is,
        on_three_onto (choose k) below
            z_of.emitted.found x_of.emitted.found y_of.emitted,
      )

  pub if_done : {new : Emitted} → new ≡ on_three l m n (choose k) next →
      placed top new ≡ stacked below (emit_term ctx at s t)
  if_done word =
      cc (left_place last_is, three_is, emitted_if ctx at s c a b z_of x_of y_of refl refl refl)

  -- a choice that has room has room on the stack
  pub three_left : HasRoom (emit_term ctx at s t) →
      (choose k (slice_range next.found l m) (slice_range next.found m n)
      (above n next)).state.next < 2 ^ 32
  three_left room =
      rw (ap (λ (z : Emitted). z.state.next) three_is) ((subst HasRoom (if_is ctx at s is)
      room).elements)

-- ## Where operands begin

-- a term with an operand that has room has a place for the operand
pub start_fits : (ctx : Context) (at : Cursor) (s : State) (e : Term) →
    HasRoom (emit_term ctx (next_term at) s e) → at.term + 1 < 2 ^ 64
start_fits ctx at s e h =
    let later = place_grows ctx (next_term at) s e in
    let lt = h.places.terms in
    omega (arith, later, lt)

-- a term has room if an equal term at an equal place has room
pub same_room :
    (ctx : Context) (s : State) {p q : Cursor} {e f : Term} → q ≡ p → f ≡ e →
    HasRoom (emit_term ctx p s e) → HasRoom (emit_term ctx q s f)
same_room ctx s place is h = rw (ap₂ (λ p e. emit_term ctx p s e) place is) h

pub same_list :
    (ctx : Context) (s : State) {p q : Cursor} {es fs : List Term} → q ≡ p → fs ≡ es →
    HasRoom (emit_list ctx p s es) → HasRoom (emit_list ctx q s fs)
same_list ctx s place is h = rw (ap₂ (λ p es. emit_list ctx p s es) place is) h

-- The code that expands resolved statements: left variables are copies of what their term left on
-- the stack.

module _ (ctx : Context) where
  -- the room of a statement is that of its term
  equation_is :
      (at : Cursor) (s : State) {x : ResolvedStatement} {lefts : _} {e : Term} →
      x ≡ statement.Equation lefts e →
      emit_statement ctx at s x
      ≡ (let r = emit_term ctx at s e in
      placed_state r.place (with_copies r.emitted.state
      (copied (flat_map (left_targets ctx) lefts.items) r.emitted.found)))
  unfolding emit_statement joins
  equation_is at s is = rw is refl

  assertion_is :
      (at : Cursor) (s : State) {x : ResolvedStatement} {e : Term} → x ≡ statement.Assertion e →
      emit_statement ctx at s x
      ≡ (let r = emit_term ctx at s e in placed_state r.place (assert r.emitted))
  unfolding emit_statement
  assertion_is at s is = rw is refl

  pub equation_room :
      (at : Cursor) (s : State) {x : ResolvedStatement} {lefts : _} {e : Term} →
      x ≡ statement.Equation lefts e → (emit_statement ctx at s x).state.next < 2 ^ 32 →
      HasPlaces (emit_statement ctx at s x).place → HasRoom (emit_term ctx at s e)
  equation_room at s is lt places =
      let same = equation_is at s is in
      record { elements = rw same at lt; places = rw same at places }

  pub assertion_room :
      (at : Cursor) (s : State) {x : ResolvedStatement} {e : Term} → x ≡ statement.Assertion e →
      (emit_statement ctx at s x).state.next < 2 ^ 32 →
      HasPlaces (emit_statement ctx at s x).place → HasRoom (emit_term ctx at s e)
  unfolding assert
  assertion_room at s is lt places =
      let same = assertion_is at s is in
      record { elements = rw same at lt; places = rw same at places }

  -- an equation is done when its term is emitted and its left variables are copied
  pub equation_done :
      (at : Cursor) (s : State) {t : State} {to : Cursor} {x : ResolvedStatement} {lefts : _}
      {e : Term} {below : List ℕ} {mid : Emitted} {n : ℕ} → x ≡ statement.Equation lefts e →
      IsLeft below (emit_term ctx at s e) to mid → n ≡ length below →
      t ≡ with_copies mid.state
      (copied (flat_map (left_targets ctx) lefts.items) (drop n mid.found)) →
      placed_state to t ≡ emit_statement ctx at s x
  equation_done at s is left size et =
      cc (left_place left, left_above left size, equation_is at s is)

  pub assertion_done :
      (at : Cursor) (s : State) {t : State} {to : Cursor} {x : ResolvedStatement} {e : Term}
      {below : List ℕ} {mid : Emitted} {n : ℕ} → x ≡ statement.Assertion e →
      IsLeft below (emit_term ctx at s e) to mid → n ≡ length below →
      t ≡ with_asserted mid.state (drop n mid.found) →
      placed_state to t ≡ emit_statement ctx at s x
  unfolding assert
  assertion_done at s is left size et =
      cc (left_place left, left_above left size, assertion_is at s is)

-- after a term, the lower part of the stack is still `below`
pub stack_kept :
    {below : List ℕ} {to : Cursor} {mid : Emitted} {r : PlacedEmitted} {n : ℕ} →
    IsLeft below r to mid → n ≡ length below → take n mid.found ≡ below
stack_kept {below = below} {r = r} left size =
    cc (left_emitted left, take-append_seam below r.emitted.found)

-- The code that expands the rows of the table of instances: statement after statement, and row
-- after row.

-- ## Statement after statement

module _ (ctx : Context) where
  -- the place after a statement, and after some, is not before it
  statement_later : (at : Cursor) (s : State) (x : ResolvedStatement) →
      IsNotAfter at (emit_statement ctx at s x).place
  unfolding emit_statement
  statement_later at s (statement.Equation lefts e) = place_grows ctx at s e
  statement_later at s (statement.Assertion e) = place_grows ctx at s e

  statements_later : (at : Cursor) (s : State) (xs : List ResolvedStatement) →
      IsNotAfter at (emit_statements ctx at s xs).place
  unfolding emit_statements
  statements_later at s [] = record { term = omega arith; call = omega arith }
  statements_later at s (x ∷ xs) =
      let r = emit_statement ctx at s x in
      then_later at _ _ (statement_later at s x) (statements_later r.place r.state xs)

  statements_more :
      (at : Cursor) (s : State) (xs : List ResolvedStatement) (i : ℕ) (d : ResolvedStatement) →
      i < length xs →
      emit_statements ctx at s (drop i xs)
      ≡ (let r = emit_statement ctx at s (get_or xs i d) in
      emit_statements ctx r.place r.state (drop (i + 1) xs))
  unfolding emit_statements
  statements_more at s xs i d lt = ap (emit_statements ctx at s) (drop_more xs i d lt)

  -- a step of the loop over statements: after statement i, those from i + 1 on are left
  pub statement_step :
      (at to : Cursor) (s t : State) (xs : List ResolvedStatement) (i : ℕ)
      (x d : ResolvedStatement) (whole : PlacedState) → i < length xs → x ≡ get_or xs i d →
      placed_state to t ≡ emit_statement ctx at s x →
      emit_statements ctx at s (drop i xs) ≡ whole →
      emit_statements ctx to t (drop (i + 1) xs) ≡ whole
  statement_step at to s t xs i x d whole lt is e h =
      ap (λ (r : PlacedState). emit_statements ctx r.place r.state (drop (i + 1) xs)) e
      ∙ ap (λ (x : ResolvedStatement). let r = emit_statement ctx at s x in
      emit_statements ctx r.place r.state (drop (i + 1) xs)) is
      ∙ sym (statements_more at s xs i d lt) ∙ h

  pub statements_end :
      (at : Cursor) (s : State) (xs : List ResolvedStatement) (i : ℕ) (whole : PlacedState) →
      length xs ≤ i → emit_statements ctx at s (drop i xs) ≡ whole → placed_state at s ≡ whole
  unfolding emit_statements
  statements_end at s xs i whole le h = cc (drop_all i xs le)

  -- a statement has room if all statements from it on have room
  pub statement_room :
      (at : Cursor) (s : State) (xs : List ResolvedStatement) (i : ℕ) (x d : ResolvedStatement)
      (whole : PlacedState) → i < length xs → x ≡ get_or xs i d →
      emit_statements ctx at s (drop i xs) ≡ whole → whole.state.next < 2 ^ 32 →
      (emit_statement ctx at s x).state.next < 2 ^ 32
  statement_room at s xs i x d whole lt is h most =
      let r = emit_statement ctx at s (get_or xs i d) in
      let rest = drop (i + 1) xs in
      let grows = statements_step Grows grows assert_grows ctx r.place r.state rest in
      let same = ap (λ (r : PlacedState). r.state.next)
      (sym h ∙ statements_more at s xs i d lt) in
      let first : r.state.next < 2 ^ 32 = omega (arith, grows, same, most) in
      rw is first

  pub statement_places :
      (at : Cursor) (s : State) (xs : List ResolvedStatement) (i : ℕ) (x d : ResolvedStatement)
      (whole : PlacedState) → i < length xs → x ≡ get_or xs i d →
      emit_statements ctx at s (drop i xs) ≡ whole → HasPlaces whole.place →
      HasPlaces (emit_statement ctx at s x).place
  statement_places at s xs i x d whole lt is h most =
      let r = emit_statement ctx at s (get_or xs i d) in
      let rest = drop (i + 1) xs in
      let all = subst (λ (r : PlacedState). HasPlaces r.place)
      (sym h ∙ statements_more at s xs i d lt) most in
      subst (λ (x : ResolvedStatement). HasPlaces (emit_statement ctx at s x).place) (sym is)
      (places_before r.place (emit_statements ctx r.place r.state rest).place
      (statements_later r.place r.state rest) all)

-- ## Row after row

-- emitting `xs ++ ys` is emitting `xs`, and then `ys`
pub rows_append : (s : State) (xs ys : List (Context × List ResolvedStatement)) →
    emit_rows s (xs ++ ys) ≡ emit_rows (emit_rows s xs) ys
unfolding emit_rows
rows_append s [] ys = refl
rows_append s (x ∷ xs) ys = rows_append (emit_statements x.0 first_place s x.1).state xs ys

pub one_row : (s : State) (ctx : Context) (xs : List ResolvedStatement) →
    emit_rows s ((ctx, xs) ∷ []) ≡ (emit_statements ctx first_place s xs).state
unfolding emit_rows
one_row s ctx xs = refl

pub no_row : (s : State) → emit_rows s [] ≡ s
unfolding emit_rows
no_row s = refl

module _ (r : Reached) (t : Table) (cs : ℕ → Context) where
  bodies_more :
      (is : List row.Instance) (j : ℕ) (d : row.Instance) → j < length is →
      bodies r t cs j (drop j is)
      ≡ body_in r t cs j (get_or is j d) ++ bodies r t cs (j + 1) (drop (j + 1) is)
  unfolding bodies
  bodies_more is j d lt =
      let next : suc j ≡ j + 1 = omega arith in
      cc (drop_more is j d lt)

  row_first :
      (s : State) (is : List row.Instance) (j : ℕ) (i d : row.Instance) → j < length is →
      i ≡ get_or is j d →
      emit_rows s (bodies r t cs j (drop j is))
      ≡ emit_rows (emit_rows s (body_in r t cs j i)) (bodies r t cs (j + 1) (drop (j + 1) is))
  row_first s is j i d lt e =
      ap (emit_rows s) (bodies_more is j d lt)
      ∙ ap (λ (i : row.Instance). emit_rows s
      (body_in r t cs j i ++ bodies r t cs (j + 1) (drop (j + 1) is))) (sym e)
      ∙ rows_append s (body_in r t cs j i) (bodies r t cs (j + 1) (drop (j + 1) is))

  -- a step of the loop over rows: after row j, the rows from j + 1 on are left
  pub row_step :
      (s u whole : State) (is : List row.Instance) (j : ℕ) (i d : row.Instance) →
      j < length is → i ≡ get_or is j d → u ≡ emit_rows s (body_in r t cs j i) →
      emit_rows s (bodies r t cs j (drop j is)) ≡ whole →
      emit_rows u (bodies r t cs (j + 1) (drop (j + 1) is)) ≡ whole
  row_step s u whole is j i d lt e h all = cc (row_first s is j i d lt e)

  pub rows_end :
      (s whole : State) (is : List row.Instance) (j : ℕ) → length is ≤ j →
      emit_rows s (bodies r t cs j (drop j is)) ≡ whole → s ≡ whole
  unfolding emit_rows bodies
  rows_end s whole is j le h =
      sym (ap (λ is. emit_rows s (bodies r t cs j is)) (drop_all j is le)) ∙ h

  -- a row has room if all rows from it on have room
  pub row_room :
      (s whole : State) (is : List row.Instance) (j : ℕ) (i d : row.Instance) → j < length is →
      i ≡ get_or is j d → emit_rows s (bodies r t cs j (drop j is)) ≡ whole →
      whole.next < 2 ^ 32 → (emit_rows s (body_in r t cs j i)).next < 2 ^ 32
  row_room s whole is j i d lt e h most =
      let first = emit_rows s (body_in r t cs j i) in
      let grows = rows_grow first (bodies r t cs (j + 1) (drop (j + 1) is)) in
      let same = ap (λ (s : State). s.next) (sym h ∙ row_first s is j i d lt e) in
      omega (arith, grows, same, most)

  pub counted_more :
      (is : List row.Instance) (j : ℕ) (i d : row.Instance) → j < length is →
      i ≡ get_or is j d → Every IsCounted (bodies r t cs j (drop j is)) →
      Every IsCounted (body_in r t cs j i ++ bodies r t cs (j + 1) (drop (j + 1) is))
  counted_more is j i d lt e h = rw e (subst (Every IsCounted) (bodies_more is j d lt) h)

  abbrev one_body : Context → List ResolvedStatement → List (Context × List ResolvedStatement)
  one_body ctx xs = (ctx, xs) ∷ []

  -- the statements of a row whose node is found
  found_body :
      (j : ℕ) (i : row.Instance) (n : ResolvedNode) (ctx : Context)
      (xs : List ResolvedStatement) → node_at r t i ≡ Some n → ctx ≡ cs j →
      xs ≡ n.body.items → body_in r t cs j i ≡ one_body ctx xs
  found_body j i n ctx xs e at is = cc

  pub row_is :
      (s : State) (j : ℕ) (i : row.Instance) (n : ResolvedNode) (ctx : Context)
      (xs : List ResolvedStatement) → node_at r t i ≡ Some n → ctx ≡ cs j →
      xs ≡ n.body.items →
      emit_rows s (body_in r t cs j i) ≡ (emit_statements ctx first_place s xs).state
  row_is s j i n ctx xs e at is = cc (found_body j i n ctx xs e at is, one_row s ctx xs)

  pub row_places :
      (s : State) (j : ℕ) (i : row.Instance) (n : ResolvedNode) (ctx : Context)
      (xs : List ResolvedStatement) → node_at r t i ≡ Some n → ctx ≡ cs j →
      xs ≡ n.body.items → Every IsCounted (body_in r t cs j i) →
      HasPlaces (emit_statements ctx first_place s xs).place
  row_places s j i n ctx xs e at is h = (rw (found_body j i n ctx xs e at is) at h).0 s
