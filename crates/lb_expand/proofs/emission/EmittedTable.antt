-- The statements of nodes and the rows of the table emit what the instances of the program emit.
use Rattle.lb_expand.proofs.Words
use Words.{Context, Cursor, Declaration, Every, Every-at, Expr, HasTypes, History, In, Instance}
use Words.{IsReached, IsTable, Layout, List, Name, Node, None, Occurrence, Path, PlacedEmitted}
use Words.{PlacedState, Program, Reached, ResolvedStatement, Some, State, Statement, Table, Target}
use Words.{Texts, VariableId, [], and_first, and_second, ap, ap₂, arith, assert, call_count}
use Words.{check_refusal, copied, counts_of, data_type, emit, emit_body, emit_statement}
use Words.{emit_statements, expr_of, first_place, flat_clock, flat_map, in_at, instances}
use Words.{is_statement_within, is_typed, is_variable, is_within, joins, layout, left_targets}
use Words.{length, length-map, list_all, map, name_at, node_occurrences, node_of, node_parts}
use Words.{node_sites, occurrences, occurrences_typed, option_map, part_count, refl, sites}
use Words.{slice_get, slice_get-map, statement_clock, statement_of, statement_sites, static_refusal}
use Words.{subst, sym, targets, texts_of, true, variables, width, ℕ, ◌++◌, ◌+◌, ◌<◌, ◌∙◌, ◌∷◌, ◌≡◌}
use Rattle.lb_check.proofs.programs.OccurrenceParts.{node_occurrence_parts}
use Rattle.lb_check.proofs.programs.OccurrenceSites.{body_occurrences, site_is}
use Rattle.{lb_check.specs.Elements.numbers_of, lb_expand.proofs.emission.EmittedTerms.AreTermsAt}
use Rattle.lb_expand.proofs.emission.EmittedTerms.{IsSmall, IsTermAt, term_is}
use Rattle.lb_expand.proofs.frames.{RowContexts.own_resolved, TermPlaces.{Along, IsContext}}
use Rattle.lb_expand.proofs.frames.TermPlaces.{along_first, along_from, along_second, past}
use Rattle.lb_expand.proofs.frames.TermPlaces.{past_both, past_none}
use Rattle.lb_expand.proofs.numbering.{NumberedPlaces.places_width, RowInstances.IsRow}
use Rattle.lb_expand.proofs.widths.{SoundInstances.{all_typed, calls_wide}, Widths.AreVariablesWide}
use Rattle.lb_expand.{proofs.widths.Widths.IsOccurrenceWide, specs.Frames.placed_state}
use Rattle.{lb_expand.specs.Frames.targets_of, lb_static.specs.ResolvedTerms.Counts}
use Rattle.lb_static.specs.ResolvedTerms.{is_statement_unhidden}
use Rattle.lb_syntax.specs.Tree as tree
use Rattle.lb_static.specs.declared.resolved.ResolvedStatement.TheVariants as statement
use Rattle.lb_static.specs.declared.table.Instance as row

-- The statements of a node with resolved names emit what the statements of its tree emit.

module _ (Y : Layout) (P : Program) (H : History) (here : Instance) (texts : Texts) (n : Counts)
    (ctx : Context) (context : IsContext Y P here texts n ctx)
    (same : (p : Path) (x : Name) → length (Y.places p x) ≡ length (H.columns p x))
    (variables_wide : AreVariablesWide P H here here) where
  -- the terms from a number on stand for some occurrences
  abbrev Standing : ℕ → List Occurrence → Type 0
  Standing t os = AreTermsAt Y P H here texts n ctx context same variables_wide t os

  -- ## Left variables

  lefts_are :
      (xs : List VariableId) → list_all (is_variable n) xs ≡ true →
      flat_map (left_targets ctx) xs
      ≡ flat_map (targets Y here.node here.path) (map (name_at texts.variables) xs)
  lefts_are [] w = refl
  lefts_are (x ∷ xs) w =
      let own = and_first (is_variable n x) _ w in
      ap₂ (λ (ts us : List Target). ts ++ us)
      (ap₂ targets_of (context.declared x own) (context.places x own))
      (lefts_are xs (and_second (is_variable n x) _ w))

  -- ## Statements

  -- the state after some statements, and the place after all their terms and calls
  abbrev emitted_body : Cursor → State → List Statement → PlacedState
  emitted_body at s ss =
      placed_state
      (past at (body_occurrences P here.node at.call ss) (length (flat_map statement_sites ss)))
      (emit_body Y P here at.call s ss)

  statements_are :
      (at : Cursor) (s : State) (ss : List ResolvedStatement) →
      list_all (is_statement_within n) ss ≡ true →
      list_all (is_statement_unhidden texts) ss ≡ true →
      Standing at.term (body_occurrences P here.node at.call (map (statement_of texts) ss)) →
      emit_statements ctx at s ss ≡ emitted_body at s (map (statement_of texts) ss)
  unfolding emit_statements emit_statement emit_body
  statements_are at s [] w u h = ap (λ p. placed_state p s) (past_none at)
  statements_are at s (statement.Equation lefts e ∷ ss) w u h =
      let own = is_statement_within n (statement.Equation lefts e) in
      let ew = and_first own _ w in
      let eu = and_first (is_statement_unhidden texts (statement.Equation lefts e)) _ u in
      let x = expr_of texts e in
      let names = map (name_at texts.variables) lefts.items in
      let k = statement_clock P here.node (tree.Equation names x) in
      let os = occurrences P here.node k at.call x in
      let trees = map (statement_of texts) ss in
      let rest = body_occurrences P here.node (at.call + call_count x) trees in
      let to = past at os (call_count x) in
      let y = emit Y P here k at.call s x in
      let is = term_is Y P H here texts n ctx context same variables_wide k at s e
      (and_second (list_all (is_variable n) lefts.items) (is_within n e) ew) eu
      (along_first (IsTermAt Y P H here ctx) at.term os rest h) in
      let ts = flat_map (targets Y here.node here.path) names in
      let state = (joins y.state (copied ts y.found) []).state in
      ap (λ (x : PlacedEmitted).
      emit_statements ctx x.place
      (joins x.emitted.state
      (copied (flat_map (left_targets ctx) lefts.items) x.emitted.found) []).state ss) is
      ∙ ap (λ (ts : List Target).
      emit_statements ctx to (joins y.state (copied ts y.found) []).state ss)
      (lefts_are lefts.items (and_first (list_all (is_variable n) lefts.items) _ ew))
      ∙ statements_are to state ss (and_second own _ w)
      (and_second (is_statement_unhidden texts (statement.Equation lefts e)) _ u)
      (along_second (IsTermAt Y P H here ctx) at.term os rest h)
      ∙ ap (λ p. placed_state p (emit_body Y P here to.call state trees))
      (past_both at os rest (sites x) (flat_map statement_sites trees))
  statements_are at s (statement.Assertion e ∷ ss) w u h =
      let own = is_statement_within n (statement.Assertion e) in
      let x = expr_of texts e in
      let k = statement_clock P here.node (tree.Assertion x) in
      let os = occurrences P here.node k at.call x in
      let trees = map (statement_of texts) ss in
      let rest = body_occurrences P here.node (at.call + call_count x) trees in
      let to = past at os (call_count x) in
      let y = emit Y P here k at.call s x in
      let is = term_is Y P H here texts n ctx context same variables_wide k at s e
      (and_first own _ w)
      (and_first (is_statement_unhidden texts (statement.Assertion e)) _ u)
      (along_first (IsTermAt Y P H here ctx) at.term os rest h) in
      ap (λ (x : PlacedEmitted). emit_statements ctx x.place (assert x.emitted) ss) is
      ∙ statements_are to (assert y) ss (and_second own _ w)
      (and_second (is_statement_unhidden texts (statement.Assertion e)) _ u)
      (along_second (IsTermAt Y P H here ctx) at.term os rest h)
      ∙ ap (λ p. placed_state p (emit_body Y P here to.call (assert y) trees))
      (past_both at os rest (sites x) (flat_map statement_sites trees))

  -- all statements of a node emit what the body of its tree emits, up to the place past all its
  -- terms and calls
  pub body_is :
      (ss : List ResolvedStatement) → map (statement_of texts) ss ≡ here.node.body →
      list_all (is_statement_within n) ss ≡ true →
      list_all (is_statement_unhidden texts) ss ≡ true →
      Standing 0 (node_occurrences P here.node) → (s : State) →
      emit_statements ctx first_place s ss ≡ emitted_body first_place s here.node.body
  body_is ss body w u h s =
      statements_are first_place s ss w u
      (subst (λ b. Standing 0 (body_occurrences P here.node 0 b)) (sym body) h)
      ∙ ap (emitted_body first_place s) body

-- The rows of the table, statement by statement with resolved names, emit what all instances of the
-- program emit.

-- the context has the clocks of the terms of an instance, and the parts of those that are arrays of
-- one element or more
pub record AreTermsOf (P : Program) (here : Instance) (ctx : Context) : Type 0 where
  pub clock :
      (t : ℕ) (o : Occurrence) → slice_get (node_occurrences P here.node) t ≡ Some o →
      ctx.clock t ≡ flat_clock (layout P) here.path o.clock
  pub parts :
      (t : ℕ) (e : Expr) → slice_get (node_parts here.node) t ≡ Some e →
      (m : ℕ) (ms : List ℕ) → (data_type P here e).sizes ≡ m ∷ ms → 0 < m →
      ctx.parts t ≡ part_count P here e

-- the context of a row gives its numbers the meaning that they have in the row's instance
pub record IsRowContext (P : Program) (r : Reached) (t : Table) (table : IsTable P r t) (k : ℕ)
    (i : row.Instance) (here : Instance) (is : IsRow P r t table k i here) (ctx : Context) :
    Type 0 where
  pub context : IsContext (layout P) P here (texts_of is.node) (counts_of is.node) ctx
  pub terms : AreTermsOf P here ctx

module _ (P : Program) (accepted : static_refusal P ≡ None) (checked : check_refusal P ≡ None)
    (small : Every (λ here. Every (λ o. IsSmall o.expr) (node_occurrences P here.node))
    (instances P)) where
  -- a history that has a stream for each element of a variable
  abbrev wide_history : History
  wide_history = record {
    ticks = λ p. [];
    columns = λ p x. map (λ i. []) (numbers_of P p x);
  }

  same_widths :
      (p : Path) (x : Name) →
      length ((layout P).places p x) ≡ length (wide_history.columns p x)
  same_widths p x = sym (length-map (numbers_of P p x) (λ i. []))

  own_wide : (c : Instance) → In c (instances P) → AreVariablesWide P wide_history c c
  own_wide c j =
      widths_in c (variables c.node) (places_width P accepted c j)
    where
      widths_in :
          (c : Instance) (ds : List Declaration) →
          Every (λ d. length ((layout P).places c.path d.name) ≡ width P c d) ds →
          Every (λ d. length (wide_history.columns c.path d.name) ≡ width P c d) ds
      widths_in c [] h = tt
      widths_in c (d ∷ ds) h = (sym (same_widths c.path d.name) ∙ h.0, widths_in c ds h.1)

  module _ (here : Instance) (there : In here (instances P)) (ctx : Context)
      (terms : AreTermsOf P here ctx) where
    expr_there :
        (j : ℕ) (o : Occurrence) → slice_get (node_occurrences P here.node) j ≡ Some o →
        slice_get (node_parts here.node) j ≡ Some o.expr
    expr_there j o e =
        let typed = Every-at (λ c. is_typed P c ≡ true) (instances P) here (all_typed P checked)
        there in
        ap (λ (es : List Expr). slice_get es j) (sym (node_occurrence_parts P here typed))
        ∙ (slice_get-map (λ (o : Occurrence). o.expr) (node_occurrences P here.node) j
        ∙ ap (option_map (λ (o : Occurrence). o.expr)) e)

    term_there :
        (j : ℕ) (o : Occurrence) → slice_get (node_occurrences P here.node) j ≡ Some o →
        IsTermAt (layout P) P wide_history here ctx j o
    term_there j o e =
        let os = node_occurrences P here.node in
        let stands = in_at os j o e in
        let types = Every-at (HasTypes P here) os o
        (Every-at (λ c. Every (HasTypes P c) (node_occurrences P c.node)) (instances P) here
        (occurrences_typed P accepted checked) there) stands in
        record {
          clock = terms.clock j o e;
          parts = terms.parts j o.expr (expr_there j o e);
          types = types.types;
          typed = types.typed;
          wide = Every-at (IsOccurrenceWide P wide_history here) os o
              (calls_wide P accepted wide_history own_wide here there) stands;
          site = λ s own. site_is P here.node o s stands own;
          small = Every-at (λ o. IsSmall o.expr) os o
              (Every-at (λ c. Every (λ o. IsSmall o.expr) (node_occurrences P c.node))
              (instances P) here small there) stands;
        }

    terms_there :
        Along (IsTermAt (layout P) P wide_history here ctx) 0 (node_occurrences P here.node)
    terms_there =
        along_from (IsTermAt (layout P) P wide_history here ctx) 0 (node_occurrences P here.node) (λ
        j o e. let start : j ≡ 0 + j = omega arith in rw (← start) (term_there j o e))

  -- ## Rows

  module _ (r : Reached) (t : Table) (reached : IsReached P r) (table : IsTable P r t) where
    -- the statements of a row emit what the body of its instance emits, up to the place past all
    -- its terms and calls
    pub row_is :
        (k : ℕ) (i : row.Instance) (here : Instance) (is : IsRow P r t table k i here)
        (ctx : Context) → IsRowContext P r t table k i here is ctx → (s : State) →
        emit_statements ctx first_place s is.node.body.items
        ≡ placed_state
        (past first_place (node_occurrences P here.node) (length (node_sites here.node)))
        (emit_body (layout P) P here 0 s here.node.body)
    row_is k i here is ctx h s =
        let own = own_resolved P r t reached table accepted k i here is in
        let node : here.node ≡ node_of is.node = ap (λ (c : Instance). c.node) is.same in
        let there = in_at (instances P) k here is.instance_is in
        body_is (layout P) P wide_history here (texts_of is.node) (counts_of is.node) ctx h.context
        same_widths (own_wide here there) is.node.body.items
        (own.body ∙ ap (λ (m : Node). m.body) (sym node)) own.body_within own.unhidden
        (terms_there here there ctx h.terms) s
