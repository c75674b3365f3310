-- A term with resolved names emits what its expression emits.
use Rattle.lb_expand.proofs.Words
use Words.{ApplyBinary, ApplyUnary, Array', ArrayIterator, Arrow', AtMostOne', Bad, Binary'}
use Words.{BinaryOperator, Boolean, Call', Context, Current', Cursor, DataType, Emitted, EmittedAll}
use Words.{Every, Expr, Exprs, Fby', Fill, FirstThen, FlatClock, Group', History, If', Index'}
use Words.{Instance, Integer, Iterate, IterateNode', IterateSymbol', Join', Latest, Layout, List}
use Words.{Map, Name, Nor', Occurrence, Path, PlacedEmitted, Pre', Previous, Program, Red}
use Words.{Replicate', Row_of-Term, Sample, Site, Slice', Some, State, Static, StaticId, Symbol}
use Words.{Term, Texts, Unary', Value, VariableId, When', [], add, all_types, and_first, and_second}
use Words.{ap, append-nil, ap₂, are_within, arith, call, call_clocks, call_count, call_site}
use Words.{chained, choose, clock_or, constant, copies, data_type, data_types, declared_clock, drop}
use Words.{drop-append_seam, each, either_or, element_count, emit, emit_all, emit_at_most_one}
use Words.{emit_each, emit_name, emit_nor, emit_row, emit_symbol, emit_term, end_of-Term, expr_of}
use Words.{false, first_of_all, first_value, flat_clock, gives, heads_same, if◌then◌else◌}
use Words.{index_type, inl, inr, int, is_arithmetic, is_call, is_logical, is_static, is_variable}
use Words.{is_within, iterate, iterator_types, joined, joins, length, literal, map, memory}
use Words.{more_of-Term, name_at, named, named_value, nat_le, next_call, next_term, node_named}
use Words.{node_sites, number, occurrences, occurrences_each, occurrences_in, only, operator_types}
use Words.{own_site, pairs, part_count, picked, placed, pos, refl, site_at, sites, sites_in}
use Words.{slice_get, slice_type, static_at, static_count, subst, suc, sym, symbol, symbol_types}
use Words.{take, take-append-le, take_all, true, truth, variables, zip2, ℕ, ◌&&◌, ◌*◌, ◌++◌, ◌+◌}
use Words.{◌-◌, ◌<◌, ◌>>=◌, ◌∙◌, ◌∷◌, ◌≡◌, ◌⊎◌}
use Rattle.lb_check.{proofs.programs.OccurrenceParts.{never_as_many, one_less}, specs.Clocks.Clock}
use Rattle.{lb_check.specs.Clocks.clock_of, lb_expand.proofs.frames.TermPlaces.{Along, IsContext}}
use Rattle.lb_expand.proofs.frames.TermPlaces.{IsValue, along_every, along_first, along_second}
use Rattle.lb_expand.proofs.frames.TermPlaces.{past, past_call, past_leaf, past_none, then_operand}
use Rattle.lb_expand.proofs.frames.TermPlaces.{with_branches, with_operand, with_operands}
use Rattle.lb_expand.proofs.numbering.ReceivedInputs.{AreFed, call_given, call_received}
use Rattle.lb_expand.proofs.numbering.ReceivedInputs.{iterator_given, iterator_received}
use Rattle.lb_expand.proofs.widths.{FoundWidths.all_as_many, PlacedCalls.called_wide}
use Rattle.lb_expand.proofs.widths.{PlacedCalls.{fed_by_types, iterated_wide}, TypeFacts.bound}
use Rattle.lb_expand.proofs.widths.TypeFacts.{indexed, one, sliced, symbolic}
use Rattle.lb_expand.proofs.widths.Widths.{AreVariablesWide, IsOccurrenceWide, all_wide, number_is}
use Rattle.lb_static.specs.ResolvedTerms.{Counts, are_unhidden, is_unhidden, row_of}
use Rattle.lb_static.specs.declared.resolved.Term.{Literal, Truth, Variable}
use mathlib.Core.Former.{Count}
use Rattle.lb_syntax.specs.Tree as tree
use Rattle.lb_check.specs.Occurrences as text

-- An iterated symbol that is typed emits the same over its operands in one list as over one list
-- for each of them.

-- the widths of the two operands of a symbol
abbrev two_scalars : List ℕ
two_scalars = 1 ∷ (1 ∷ [])

-- a symbol over two arrays of length `m` pairs their elements
zipped :
    (k : FlatClock) (op : BinaryOperator) (m : ℕ) (s : State) (xs ys : List ℕ) →
    length xs ≡ m * 1 → symbol k op m Map (gives s (xs ++ (ys ++ [])))
    ≡ add k s (zip2 (ApplyBinary op) xs ys)
zipped k op m s xs ys e =
    let long : m ≡ length xs = omega (arith, e) in
    ap (λ n. add k s (zip2 (ApplyBinary op) (take n (xs ++ (ys ++ [])))
    (drop n (xs ++ (ys ++ []))))) long
    ∙ ap₂ (λ (us vs : List ℕ). add k s (zip2 (ApplyBinary op) us vs))
    (take-append-le (length xs) xs (ys ++ []) (omega arith)
    ∙ take_all (length xs) xs (omega arith))
    (drop-append_seam xs (ys ++ []) ∙ append-nil ys)

pub symbol_is :
    (k : FlatClock) (op : BinaryOperator) (m : ℕ) (it : ArrayIterator) (s : State)
    (iss : List (List ℕ)) → AreFed it m two_scalars (map length iss) →
    symbol k op m it (gives s (joined iss)) ≡ emit_symbol k op s it iss
symbol_is k op m Map s [] e = cc
symbol_is k op m Map s (xs ∷ []) e = cc
symbol_is k op m Map s (xs ∷ (ys ∷ [])) e = zipped k op m s xs ys (heads_same _ _ _ _ e)
symbol_is k op m Map s (xs ∷ (ys ∷ (zs ∷ iss))) e = cc
symbol_is k op m Red s [] e = absurd e
symbol_is k op m Red s ([] ∷ iss) e = absurd (omega (arith, e.0))
symbol_is k op m Red s ((i ∷ (j ∷ is)) ∷ iss) e = absurd (omega (arith, e.0))
symbol_is k op m Red s ((i ∷ []) ∷ []) e = no_operand e.1
  where
    no_operand : {A : Type 0} → [] ≡ m * 1 ∷ [] → A
    no_operand e = cc
symbol_is k op m Red s ((i ∷ []) ∷ (ys ∷ [])) e = ap (chained k op s i) (append-nil ys)
symbol_is k op m Red s ((i ∷ []) ∷ (ys ∷ (zs ∷ iss))) e =
    no_more (length ys) (length zs) (map length iss) e.1
  where
    no_more : {A : Type 0} (a b : ℕ) (bs : List ℕ) → a ∷ (b ∷ bs) ≡ m * 1 ∷ [] → A
    no_more a b bs e = cc
symbol_is k op m Fill s iss e = absurd e

scalar_types :
    (op : BinaryOperator) (types : List DataType × List DataType) →
    symbol_types op ≡ Some types → map element_count types.0 ≡ two_scalars
scalar_types op types e =
    let y = symbolic op types e in
    ap (λ (t : List DataType × List DataType). map element_count t.0) y.are ∙ by y.data_type y.of
  where
    by : (t : DataType) →
        ((is_arithmetic op ≡ true) × (t ≡ int)) ⊎ ((is_logical op ≡ true) × (t ≡ truth)) →
        element_count t ∷ (element_count t ∷ []) ≡ two_scalars
    by t (inl z) = ap (λ (t : DataType). element_count t ∷ (element_count t ∷ [])) z.1
    by t (inr z) = ap (λ (t : DataType). element_count t ∷ (element_count t ∷ [])) z.1

module _ (Y : Layout) (P : Program) (H : History) (here : Instance)
    (same : (p : Path) (x : Name) → length (Y.places p x) ≡ length (H.columns p x))
    (variables_wide : AreVariablesWide P H here here) where
  -- the operands of an iterated symbol are two, as wide as its types say
  pub symbol_fed :
      (k : Clock) (n : ℕ) (it : ArrayIterator) (op : BinaryOperator) (m : Static) (es : Exprs)
      (ts : List DataType) → data_types P here (Iterate it (Symbol op) m es) ≡ Some ts →
      Every (IsOccurrenceWide P H here) (occurrences_in P here.node k n es) → (s : State) →
      AreFed it (number P here m) two_scalars (map length (emit_all Y P here k n s es).found)
  symbol_fed k n it op m es ts e parts s =
      let size = bound (static_count P here m) _ ts e in
      let o = bound (operator_types P here (Symbol op)) _ ts size.gives in
      let a = bound (all_types P here es) _ ts o.gives in
      let types =
      ap (λ count. iterator_types it count o.value.0 o.value.1 a.value)
      (number_is P H here m size.value size.is) ∙ a.gives in
      let found = all_as_many Y P H here same k n s es
      ∙ all_wide P H here variables_wide k n es a.value a.is parts in
      rw found (rw (scalar_types op o.value o.is) at (fed_by_types it (number P here m) o.value.0
      o.value.1 a.value ts types))

-- A term with resolved names emits what the expression that it stands for emits.

-- a literal is an `int`
abbrev pub IsSmall : Expr → Type 0
IsSmall (tree.Literal m) = nat_le m 2147483647 ≡ true
IsSmall e = Unit {0}

-- all elements found, joined in one list
abbrev in_one : EmittedAll → Emitted
in_one r = gives r.state (joined r.found)

module _ (Y : Layout) (P : Program) (H : History) (here : Instance) (ctx : Context) where
  -- the term with number `t` stands for the occurrence `o`: the context has its clock and parts,
  -- the expression has types, what it calls is as wide as its types, and a call has its site
  pub record IsTermAt (t : ℕ) (o : Occurrence) : Type 0 where
    pub clock : ctx.clock t ≡ flat_clock Y here.path o.clock
    pub parts :
        (m : ℕ) (ms : List ℕ) → (data_type P here o.expr).sizes ≡ m ∷ ms → 0 < m →
        ctx.parts t ≡ part_count P here o.expr
    pub types : List DataType
    pub typed : data_types P here o.expr ≡ Some types
    pub wide : IsOccurrenceWide P H here o
    pub site :
        (s : Site) → own_site o.expr ≡ Some s →
        slice_get (node_sites here.node) o.calls_before ≡ Some s
    pub small : IsSmall o.expr

module _ (Y : Layout) (P : Program) (H : History) (here : Instance) (texts : Texts) (n : Counts)
    (ctx : Context) (context : IsContext Y P here texts n ctx)
    (same : (p : Path) (x : Name) → length (Y.places p x) ≡ length (H.columns p x))
    (variables_wide : AreVariablesWide P H here here) where
  -- the terms from a number on stand for some occurrences
  abbrev pub AreTermsAt : ℕ → List Occurrence → Type 0
  AreTermsAt t os = Along (IsTermAt Y P H here ctx) t os

  abbrev on : Clock → ℕ → Expr → List Occurrence
  on k m e = occurrences P here.node k m e

  abbrev flat : Clock → FlatClock
  flat k = flat_clock Y here.path k

  -- the terms from a place on stand for an expression
  abbrev Stands : Clock → Cursor → Expr → Type 0
  Stands k at e = AreTermsAt at.term (on k at.call e)

  abbrev after : Clock → Cursor → Expr → Cursor
  after k at e = past at (on k at.call e) (call_count e)

  abbrev whole : Clock → Cursor → State → Expr → PlacedEmitted
  whole k at s e = placed (after k at e) (emit Y P here k at.call s e)

  abbrev IsSame : Clock → Cursor → State → Term → Type 0
  IsSame k at s e = emit_term ctx at s e ≡ whole k at s (expr_of texts e)

  fore : (t : ℕ) (os os' : List Occurrence) → AreTermsAt t (os ++ os') → AreTermsAt t os
  fore t os os' h = along_first (IsTermAt Y P H here ctx) t os os' h

  aft : (t : ℕ) (os os' : List Occurrence) → AreTermsAt t (os ++ os') →
      AreTermsAt (t + length os) os'
  aft t os os' h = along_second (IsTermAt Y P H here ctx) t os os' h

  terms_wide : (t : ℕ) (os : List Occurrence) → AreTermsAt t os →
      Every (IsOccurrenceWide P H here) os
  terms_wide t os h =
      along_every (IsTermAt Y P H here ctx) (IsOccurrenceWide P H here) (λ t o z. z.wide) t os h

  -- the context has the parts of an operand that is an array
  parts_of :
      (k : Clock) (m t : ℕ) (e : Expr) → AreTermsAt t (on k m e) → (q : ℕ) (qs : List ℕ) →
      (data_type P here e).sizes ≡ q ∷ qs → 0 < q → ctx.parts t ≡ part_count P here e
  parts_of k m t (tree.Group a) h = parts_of k m t a h
  parts_of k m t (tree.Iterate it (tree.Symbol op) c es) h = h.0.parts
  parts_of k m t _ h = h.0.parts

  typed_as : (e : Expr) (t : DataType) → data_types P here e ≡ Some (t ∷ []) →
      (data_type P here e).sizes ≡ t.sizes
  typed_as e t is = ap (λ o. (either_or (o >>= only) int).sizes) is

  -- the operands of an index and of a slice are arrays
  indexed_parts :
      (k : Clock) (at : Cursor) (a : Expr) (i : Static) → Stands k at (tree.Index a i) →
      ctx.parts (suc at.term) ≡ part_count P here a
  indexed_parts k at a i h =
      let own = h.0 in
      let c = bound (static_count P here i) _ own.types own.typed in
      let o = one (data_types P here a) (index_type c.value) own.types c.gives in
      let x = indexed _ _ _ o.gives in
      let within = x.within in
      parts_of k _ _ a h.1 _ _ (typed_as a _ o.is ∙ x.sizes) (omega (arith, within))

  sliced_parts :
      (k : Clock) (at : Cursor) (a : Expr) (i j : Static) → Stands k at (tree.Slice a i j) →
      ctx.parts (suc at.term) ≡ part_count P here a
  sliced_parts k at a i j h =
      let own = h.0 in
      let c = bound (static_count P here i) _ own.types own.typed in
      let d = bound (static_count P here j) _ own.types c.gives in
      let o = one (data_types P here a) (slice_type c.value d.value) own.types d.gives in
      let x = sliced _ _ _ _ o.gives in
      let within = x.within in
      parts_of k _ _ a h.1 _ _ (typed_as a _ o.is ∙ x.sizes) (omega (arith, within))

  -- ## Leaves

  -- the place after a term without operands is the next term
  leaf : (at : Cursor) (o : Occurrence) (x y : Emitted) → x ≡ y →
      placed (next_term at) x ≡ placed (past at (o ∷ []) 0) y
  leaf at o x y e = ap₂ placed (past_leaf at o) e

  literal_is : (m : ℕ) → nat_le m 2147483647 ≡ true → literal m ≡ Integer (pos m)
  literal_is m small = ap (λ b. if b then Integer (pos m) else Bad) small

  name_is : (k : Clock) (s : State) (x : VariableId) → is_variable n x ≡ true →
      gives s (ctx.places x.0)
      ≡ emit_name Y P here k s (name_at texts.variables x)
      (named (λ d. d.name) (name_at texts.variables x) (variables here.node))
  name_is k s x w =
      let d = context.named x w in
      cc (context.places x w, d.name, d.found)

  value_typed :
      (k : Clock) (at : Cursor) (s : Static) → Stands k at (named_value s) →
      (ts : List DataType) × (data_types P here (named_value s) ≡ Some ts)
  value_typed k at (tree.Named x) h = (h.0.types, h.0.typed)
  value_typed k at _ h = (h.0.types, h.0.typed)

  value_is :
      (k : Clock) (at : Cursor) (s : State) (i : StaticId) (v : IsValue P here ctx texts i) →
      Stands k at (named_value (static_at texts.statics i)) →
      placed (next_term at) (constant (ctx.clock at.term) s (ctx.value i.0))
      ≡ whole k at s (named_value (static_at texts.statics i))
  unfolding emit
  value_is k at s i v h =
      subst (λ (st : Static). Stands k at (named_value st) → placed (next_term at)
      (constant (ctx.clock at.term) s (ctx.value i.0)) ≡ whole k at s (named_value st)) (sym v.is)
      (λ h. leaf at (text.at k at.call (tree.Variable v.name)) _ _ (ap₂ (λ l w. constant l s w)
      h.0.clock v.value ∙ ap (emit_name Y P here k s v.name) (sym v.unfound))) h

  -- ## Calls

  abbrev args : Clock → Cursor → Name → Exprs → List Occurrence
  args k at f es = occurrences_each P here.node (call_clocks k (node_named P f) es) at.call es

  -- a call emits what its expression emits, where its operands do
  call_is :
      (k : Clock) (at : Cursor) (s : State) (f : Name) (statics : List Static) (es : Exprs)
      (r : PlacedEmitted) → Stands k at (tree.Call f statics es) →
      ((ts : List DataType) → all_types P here es ≡ Some ts →
      length (call_clocks k (node_named P f) es) ≡ length ts →
      AreTermsAt (suc at.term) (args k (next_call at) f es) →
      r
      ≡ placed (past (next_call at) (args k (next_call at) f es) (length (sites_in es)))
      (in_one (emit_each Y P here (call_clocks k (node_named P f) es) (suc at.call) s es))) →
      placed r.place (call ctx at.call r.emitted) ≡ whole k at s (tree.Call f statics es)
  unfolding emit
  call_is k at s f statics es r h below =
      let ks = call_clocks k (node_named P f) es in
      let next : at.call + 1 ≡ suc at.call = omega arith in
      let parts = occurrences_each P here.node ks (at.call + 1) es in
      let own = context.call at.call (call_site f statics) (h.0.site (call_site f statics) refl) in
      let there : 0 < 1 = omega arith in
      let wide = called_wide Y P H here same variables_wide k at.call f statics es h.0.types
      h.0.typed h.0.wide own.callee own.named (terms_wide (suc at.term) parts h.1) s in
      let rest = subst (λ m. AreTermsAt (suc at.term) (occurrences_each P here.node ks m es)) next
      h.1 in
      let found = emit_each Y P here ks (at.call + 1) s es in
      let is = below wide.types wide.typed wide.clocks rest
      ∙ ap (λ m. placed (past (next_call at) (occurrences_each P here.node ks m es)
      (length (sites_in es))) (in_one (emit_each Y P here ks m s es))) (sym next) in
      ap (λ (r : PlacedEmitted). placed r.place (call ctx at.call r.emitted)) is
      ∙ ap₂ placed (past_call at (text.at k at.call (tree.Call f statics es)) parts
      (length (sites_in es)))
      (ap₂ (joins found.state)
      (call_received Y P here ctx at.call (call_site f statics) own found.found there
      wide.wide)
      (call_given Y P here ctx at.call (call_site f statics) own))

  -- an iterated node emits what its expression emits, where its operands do
  iterate_is :
      (k : Clock) (at : Cursor) (s : State) (it : ArrayIterator) (f : Name) (statics : List Static)
      (m : Static) (es : Exprs) (r : PlacedEmitted) →
      Stands k at (tree.Iterate it (tree.Node_named f statics) m es) →
      (AreTermsAt (suc at.term) (occurrences_in P here.node k (suc at.call) es) →
      r
      ≡ placed (past (next_call at) (occurrences_in P here.node k (suc at.call) es)
      (length (sites_in es))) (in_one (emit_all Y P here k (suc at.call) s es))) →
      placed r.place (iterate ctx at.call it r.emitted)
      ≡ whole k at s (tree.Iterate it (tree.Node_named f statics) m es)
  unfolding emit
  iterate_is k at s it f statics m es r h below =
      let next : at.call + 1 ≡ suc at.call = omega arith in
      let parts = occurrences_in P here.node k (at.call + 1) es in
      let site : Site = record { callee = f; arguments = statics; count = Some m } in
      let own = context.call at.call site (h.0.site site refl) in
      let all = iterated_wide Y P H here same variables_wide k at.call it f statics m es h.0.types
      h.0.typed h.0.wide.1 own.callee own.named (terms_wide (suc at.term) parts h.1) s in
      let rest = subst (λ c. AreTermsAt (suc at.term) (occurrences_in P here.node k c es)) next
      h.1 in
      let found = emit_all Y P here k (at.call + 1) s es in
      let is = below rest
      ∙ ap (λ c. placed (past (next_call at) (occurrences_in P here.node k c es)
      (length (sites_in es))) (in_one (emit_all Y P here k c s es))) (sym next) in
      ap (λ (r : PlacedEmitted). placed r.place (iterate ctx at.call it r.emitted)) is
      ∙ ap₂ placed (past_call at
      (text.at k at.call (tree.Iterate it (tree.Node_named f statics) m es)) parts
      (length (sites_in es)))
      (ap₂ (joins found.state)
      (iterator_received Y P here ctx at.call site own it (number P here m) found.found own.repeats
      refl all.fed all.accumulator)
      (iterator_given Y P here ctx at.call site own it (number P here m) own.repeats
      all.accumulator))

  -- ## Terms

  -- a form with two operands emits what its expression emits, where both operands do
  two_are :
      (k : Clock) (at : Cursor) (s : State) (a b : Term) (o : Occurrence) (w : Emitted)
      (F : Emitted → Emitted → Emitted) →
      AreTermsAt (suc at.term) (on k at.call (expr_of texts a)
      ++ on k (at.call + call_count (expr_of texts a)) (expr_of texts b)) →
      ((at : Cursor) (s : State) → Stands k at (expr_of texts a) → IsSame k at s a) →
      ((at : Cursor) (s : State) → Stands k at (expr_of texts b) → IsSame k at s b) →
      (let x = emit Y P here k at.call s (expr_of texts a) in
      F x (emit Y P here k (at.call + call_count (expr_of texts a)) x.state (expr_of texts b))
      ≡ w) →
      (let x = emit_term ctx (next_term at) s a in
      let y = emit_term ctx x.place x.emitted.state b in
      placed y.place (F x.emitted y.emitted))
      ≡ placed (past at (o ∷ (on k at.call (expr_of texts a)
      ++ on k (at.call + call_count (expr_of texts a)) (expr_of texts b)))
      (length (sites (expr_of texts a) ++ sites (expr_of texts b)))) w
  two_are k at s a b o w F h first second e =
      let ea = expr_of texts a in
      let oa = on k at.call ea in
      let x = emit Y P here k at.call s ea in
      with_operands at o _ _ _ _ _ (λ p t. emit_term ctx p t b) _ _ w F
      (first (next_term at) s (fore _ _ _ h)) (second (past (next_term at) oa (call_count ea))
      x.state (aft _ _ _ h)) e

  mutual
    unfolding emit_term emit

    pub term_is :
        (k : Clock) (at : Cursor) (s : State) (e : Term) → is_within n e ≡ true →
        is_unhidden texts e ≡ true → Stands k at (expr_of texts e) → IsSame k at s e
    term_is k at s (Literal m) w u h =
        leaf at (text.at k at.call (tree.Literal m)) _ _
        (ap₂ (λ l v. constant l s v) h.0.clock (literal_is m h.0.small))
    term_is k at s (Truth b) w u h =
        leaf at (text.at k at.call (tree.Truth b)) _ _
        (ap (λ l. constant l s (Boolean b)) h.0.clock)
    term_is k at s (Variable x) w u h =
        leaf at (text.at k at.call (tree.Variable (name_at texts.variables x))) _ _
        (name_is k s x w)
    term_is k at s (Value i) w u h =
        let t = value_typed k at (static_at texts.statics i) h in
        value_is k at s i (context.value i w u t.0 t.1) h
    term_is k at s (Group' p e) w u h = term_is k at s e w u h
    term_is k at s (Unary' op p a) w u h =
        let x = emit Y P here k at.call s (expr_of texts a) in
        with_operand at (text.at k at.call (tree.Unary op (expr_of texts a)))
        (on k at.call (expr_of texts a)) (call_count (expr_of texts a))
        (emit_term ctx (next_term at) s a) x _ (λ x. each (ctx.clock at.term) (ApplyUnary op) x)
        (term_is k (next_term at) s a w u h.1)
        (ap (λ l. each l (ApplyUnary op) x) h.0.clock)
    term_is k at s (Binary' op p a q b) w u h =
        let ea = expr_of texts a in
        let x = emit Y P here k at.call s ea in
        let y = emit Y P here k (at.call + call_count ea) x.state (expr_of texts b) in
        two_are k at s a b (text.at k at.call (tree.Binary op ea (expr_of texts b))) _
        (λ x y. pairs (ctx.clock at.term) (ApplyBinary op) x.found y) h.1
        (λ at s g. term_is k at s a (and_first _ (is_within n b) w)
        (and_first _ (is_unhidden texts b) u) g)
        (λ at s g. term_is k at s b (and_second (is_within n a) _ w)
        (and_second (is_unhidden texts a) _ u) g)
        (ap (λ l. pairs l (ApplyBinary op) x.found y) h.0.clock)
    term_is k at s (If' p c q a r b) w u h =
        let wab = and_second (is_within n c) _ w in
        let uab = and_second (is_unhidden texts c) _ u in
        let ec = expr_of texts c in
        let ea = expr_of texts a in
        let eb = expr_of texts b in
        let na = at.call + call_count ec in
        let nb = na + call_count ea in
        let oc = on k at.call ec in
        let oa = on k na ea in
        let ob = on k nb eb in
        let z = emit Y P here k at.call s ec in
        let x = emit Y P here k na z.state ea in
        let y = emit Y P here k nb x.state eb in
        let pa = past (next_term at) oc (call_count ec) in
        let branches = aft (suc at.term) oc (oa ++ ob) h.1 in
        with_branches at (text.at k at.call (tree.If ec ea eb)) oc oa ob (sites ec) (sites ea)
        (sites eb) (emit_term ctx (next_term at) s c) (λ p t. emit_term ctx p t a)
        (λ p t. emit_term ctx p t b) z x y _
        (λ z x y. choose (ctx.clock at.term) z.found x.found y)
        (term_is k (next_term at) s c
        (and_first _ (is_within n a && is_within n b) w)
        (and_first _ (is_unhidden texts a && is_unhidden texts b) u)
        (fore (suc at.term) oc (oa ++ ob) h.1))
        (term_is k pa z.state a (and_first _ (is_within n b) wab)
        (and_first _ (is_unhidden texts b) uab) (fore pa.term oa ob branches))
        (term_is k (past pa oa (call_count ea)) x.state b (and_second (is_within n a) _ wab)
        (and_second (is_unhidden texts a) _ uab) (aft pa.term oa ob branches))
        (ap (λ l. choose l z.found x.found y) h.0.clock)
    term_is k at s (Arrow' p a q b) w u h =
        let ea = expr_of texts a in
        let x = emit Y P here k at.call s ea in
        let y = emit Y P here k (at.call + call_count ea) x.state (expr_of texts b) in
        two_are k at s a b (text.at k at.call (tree.Arrow ea (expr_of texts b))) _
        (λ x y. pairs (ctx.clock at.term) (FirstThen false) x.found y) h.1
        (λ at s g. term_is k at s a (and_first _ (is_within n b) w)
        (and_first _ (is_unhidden texts b) u) g)
        (λ at s g. term_is k at s b (and_second (is_within n a) _ w)
        (and_second (is_unhidden texts a) _ u) g)
        (ap (λ l. pairs l (FirstThen false) x.found y) h.0.clock)
    term_is k at s (Fby' p a q b) w u h =
        let ea = expr_of texts a in
        let x = emit Y P here k at.call s ea in
        let y = emit Y P here k (at.call + call_count ea) x.state (expr_of texts b) in
        two_are k at s a b (text.at k at.call (tree.Fby ea (expr_of texts b))) _
        (λ x y. pairs (ctx.clock at.term) (FirstThen false) x.found
        (memory (ctx.clock at.term) (Previous first_value) y)) h.1
        (λ at s g. term_is k at s a (and_first _ (is_within n b) w)
        (and_first _ (is_unhidden texts b) u) g)
        (λ at s g. term_is k at s b (and_second (is_within n a) _ w)
        (and_second (is_unhidden texts a) _ u) g)
        (ap (λ l. pairs l (FirstThen false) x.found (memory l (Previous first_value) y))
        h.0.clock)
    term_is k at s (Pre' p a) w u h =
        let x = emit Y P here k at.call s (expr_of texts a) in
        with_operand at (text.at k at.call (tree.Pre (expr_of texts a)))
        (on k at.call (expr_of texts a)) (call_count (expr_of texts a))
        (emit_term ctx (next_term at) s a) x _
        (λ x. memory (ctx.clock at.term) (Previous first_value) x)
        (term_is k (next_term at) s a w u h.1)
        (ap (λ l. memory l (Previous first_value) x) h.0.clock)
    term_is k at s (Current' p a) w u h =
        let own = clock_or (clock_of P here.node (expr_of texts a)) in
        let x = emit Y P here own at.call s (expr_of texts a) in
        with_operand at (text.at k at.call (tree.Current (expr_of texts a)))
        (on own at.call (expr_of texts a)) (call_count (expr_of texts a))
        (emit_term ctx (next_term at) s a) x _
        (λ x. memory (ctx.clock at.term) (Latest first_value) x)
        (term_is own (next_term at) s a w u h.1)
        (ap (λ l. memory l (Latest first_value) x) h.0.clock)
    term_is k at s (When' p a x sign) w u h =
        let own = declared_clock here.node (name_at texts.variables x) in
        let z = emit Y P here own at.call s (expr_of texts a) in
        with_operand at
        (text.at k at.call (tree.When (expr_of texts a) (name_at texts.variables x) sign))
        (on own at.call (expr_of texts a)) (call_count (expr_of texts a))
        (emit_term ctx (next_term at) s a) z _ (λ z. each (ctx.sampled x.0 sign) Sample z)
        (term_is own (next_term at) s a (and_second (is_variable n x) _ w) u h.1)
        (ap (λ l. each l Sample z) (context.sampled x sign (and_first _ (is_within n a) w)))
    term_is k at s (Replicate' p a i) w u h =
        let x = emit Y P here k at.call s (expr_of texts a) in
        with_operand at
        (text.at k at.call (tree.Replicate (expr_of texts a) (static_at texts.statics i)))
        (on k at.call (expr_of texts a)) (call_count (expr_of texts a))
        (emit_term ctx (next_term at) s a) x _
        (λ x. gives x.state (copies (ctx.count i.0) x.found))
        (term_is k (next_term at) s a (and_second (is_static n i) _ w) u h.1)
        (ap (λ c. gives x.state (copies c x.found))
        (context.count i (and_first _ (is_within n a) w)))
    term_is k at s (Index' p a i) w u h =
        let x = emit Y P here k at.call s (expr_of texts a) in
        with_operand at
        (text.at k at.call (tree.Index (expr_of texts a) (static_at texts.statics i)))
        (on k at.call (expr_of texts a)) (call_count (expr_of texts a))
        (emit_term ctx (next_term at) s a) x _
        (λ x. picked (ctx.parts (suc at.term) * ctx.count i.0) (ctx.parts (suc at.term)) x)
        (term_is k (next_term at) s a (and_second (is_static n i) _ w) u h.1)
        (ap₂ (λ q c. picked (q * c) q x)
        (indexed_parts k at (expr_of texts a) (static_at texts.statics i) h)
        (context.count i (and_first _ (is_within n a) w)))
    term_is k at s (Slice' p a i j) w u h =
        let x = emit Y P here k at.call s (expr_of texts a) in
        let later = and_second (is_static n i) _ w in
        let stop = context.count j (and_first _ (is_within n a) later) in
        let start = context.count i (and_first _ (is_static n j && is_within n a) w) in
        with_operand at
        (text.at k at.call (tree.Slice (expr_of texts a) (static_at texts.statics i)
        (static_at texts.statics j)))
        (on k at.call (expr_of texts a)) (call_count (expr_of texts a))
        (emit_term ctx (next_term at) s a) x _
        (λ x. picked (ctx.parts (suc at.term) * ctx.count i.0)
        (ctx.parts (suc at.term) * (suc (ctx.count j.0) - ctx.count i.0)) x)
        (term_is k (next_term at) s a (and_second (is_static n j) _ later) u h.1)
        (ap (λ q. picked (q * ctx.count i.0) (q * (suc (ctx.count j.0) - ctx.count i.0)) x)
        (sliced_parts k at (expr_of texts a) (static_at texts.statics i)
        (static_at texts.statics j) h)
        ∙ ap₂ (λ c d. let q = part_count P here (expr_of texts a) in
        picked (q * c) (q * (suc d - c)) x) start stop)
    term_is k at s (Join' p a q b) w u h =
        two_are k at s a b
        (text.at k at.call (tree.Join (expr_of texts a) (expr_of texts b))) _
        (λ x y. gives y.state (x.found ++ y.found)) h.1
        (λ at s g. term_is k at s a (and_first _ (is_within n b) w)
        (and_first _ (is_unhidden texts b) u) g)
        (λ at s g. term_is k at s b (and_second (is_within n a) _ w)
        (and_second (is_unhidden texts a) _ u) g) refl
    term_is k at s (Array' arity all) w u h =
        let es = row_of texts all in
        with_operand at (text.at k at.call (tree.Array es))
        (occurrences_in P here.node k at.call es) (length (sites_in es))
        (emit_row ctx (next_term at) s all) (in_one (emit_all Y P here k at.call s es)) _
        (λ r. r) (row_is k (next_term at) s all w u h.1) refl
    term_is k at s (AtMostOne' arity all) w u h =
        let es = row_of texts all in
        let r = emit_all Y P here k at.call s es in
        with_operand at (text.at k at.call (tree.AtMostOne es))
        (occurrences_in P here.node k at.call es) (length (sites_in es))
        (emit_row ctx (next_term at) s all) (in_one r) _
        (λ r. emit_at_most_one (ctx.clock at.term) r.state r.found)
        (row_is k (next_term at) s all w u h.1)
        (ap (λ l. emit_at_most_one l r.state (joined r.found)) h.0.clock)
    term_is k at s (Nor' arity all) w u h =
        let es = row_of texts all in
        let r = emit_all Y P here k at.call s es in
        with_operand at (text.at k at.call (tree.Nor es))
        (occurrences_in P here.node k at.call es) (length (sites_in es))
        (emit_row ctx (next_term at) s all) (in_one r) _
        (λ r. emit_nor (ctx.clock at.term) r.state r.found)
        (row_is k (next_term at) s all w u h.1)
        (ap (λ l. emit_nor l r.state (joined r.found)) h.0.clock)
    term_is k at s (Call' c arity all) w u h =
        let site = site_at texts.calls c in
        call_is k at s site.callee site.arguments (row_of texts all)
        (emit_row ctx (next_call at) s all) h
        (λ ts typed long g.
        each_is (call_clocks k (node_named P site.callee) (row_of texts all)) (next_call at) s all
        ts (and_second (is_call n c) _ w) u typed long g)
    term_is k at s (IterateNode' it c arity all) w u h =
        let site = site_at texts.calls c in
        iterate_is k at s it site.callee site.arguments (either_or site.count (tree.Whole 0))
        (row_of texts all) (emit_row ctx (next_call at) s all) h
        (λ g. row_is k (next_call at) s all (and_second (is_call n c) _ w) u g)
    term_is k at s (IterateSymbol' it op i arity all) w u h =
        let es = row_of texts all in
        let m = static_at texts.statics i in
        let r = emit_all Y P here k at.call s es in
        let os = occurrences_in P here.node k at.call es in
        with_operand at (text.at k at.call (tree.Iterate it (tree.Symbol op) m es)) os
        (length (sites_in es)) (emit_row ctx (next_term at) s all) (in_one r) _
        (λ r. symbol (ctx.clock at.term) op (ctx.count i.0) it r)
        (row_is k (next_term at) s all (and_second (is_static n i) _ w) u h.1)
        (ap₂ (λ l c. symbol l op c it (in_one r)) h.0.clock
        (context.count i (and_first _ (are_within n all) w))
        ∙ symbol_is (flat k) op (number P here m) it r.state r.found
        (symbol_fed Y P H here same variables_wide k at.call it op m es h.0.types h.0.typed
        (terms_wide (suc at.term) os h.1) s))

    row_is :
        {m : Count} (k : Clock) (at : Cursor) (s : State) (row : Row_of-Term m) →
        are_within n row ≡ true → are_unhidden texts row ≡ true →
        AreTermsAt at.term (occurrences_in P here.node k at.call (row_of texts row)) →
        emit_row ctx at s row
        ≡ placed (past at (occurrences_in P here.node k at.call (row_of texts row))
        (length (sites_in (row_of texts row))))
        (in_one (emit_all Y P here k at.call s (row_of texts row)))
    row_is k at s end_of-Term w u h = ap (λ p. placed p (gives s [])) (past_none at)
    row_is k at s (more_of-Term e rest) w u h =
        let x = expr_of texts e in
        let es = row_of texts rest in
        let os = on k at.call x in
        let later = occurrences_in P here.node k (at.call + call_count x) es in
        let y = emit Y P here k at.call s x in
        let r = emit_all Y P here k (at.call + call_count x) y.state es in
        then_operand at os later (sites x) (sites_in es) (emit_term ctx at s e)
        (λ p t. emit_row ctx p t rest) y (in_one r) _
        (λ x r. gives r.state (x.found ++ r.found))
        (term_is k at s e (and_first _ (are_within n rest) w)
        (and_first _ (are_unhidden texts rest) u) (fore at.term os later h))
        (row_is k (past at os (call_count x)) y.state rest (and_second (is_within n e) _ w)
        (and_second (is_unhidden texts e) _ u) (aft at.term os later h)) refl

    each_is :
        {m : Count} (ks : List Clock) (at : Cursor) (s : State) (row : Row_of-Term m)
        (ts : List DataType) → are_within n row ≡ true → are_unhidden texts row ≡ true →
        all_types P here (row_of texts row) ≡ Some ts → length ks ≡ length ts →
        AreTermsAt at.term (occurrences_each P here.node ks at.call (row_of texts row)) →
        emit_row ctx at s row
        ≡ placed (past at (occurrences_each P here.node ks at.call (row_of texts row))
        (length (sites_in (row_of texts row))))
        (in_one (emit_each Y P here ks at.call s (row_of texts row)))
    each_is ks at s end_of-Term ts w u typed long h = ap (λ p. placed p (gives s [])) (past_none at)
    each_is [] at s (more_of-Term e rest) ts w u typed long h =
        let i = first_of_all P here (expr_of texts e) (row_of texts rest) ts typed in
        absurd (never_as_many i.rest (long ∙ ap length i.all))
    each_is (k ∷ ks) at s (more_of-Term e rest) ts w u typed long h =
        let x = expr_of texts e in
        let es = row_of texts rest in
        let i = first_of_all P here x es ts typed in
        let os = on k at.call x in
        let later = occurrences_each P here.node ks (at.call + call_count x) es in
        let y = emit Y P here k at.call s x in
        let r = emit_each Y P here ks (at.call + call_count x) y.state es in
        then_operand at os later (sites x) (sites_in es) (emit_term ctx at s e)
        (λ p t. emit_row ctx p t rest) y (in_one r) _
        (λ x r. gives r.state (x.found ++ r.found))
        (term_is k at s e (and_first _ (are_within n rest) w)
        (and_first _ (are_unhidden texts rest) u) (fore at.term os later h))
        (each_is ks (past at os (call_count x)) y.state rest i.rest
        (and_second (is_within n e) _ w) (and_second (is_unhidden texts e) _ u) i.others
        (one_less ks i.rest (long ∙ ap length i.all)) (aft at.term os later h)) refl
