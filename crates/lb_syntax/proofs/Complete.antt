-- Expressions: what is spelled is read.
use Rattle.std.proofs.Common.{◌≡◌, ℕ, zero, suc, ◌+◌, ◌-◌, ◌≤◌, ◌<◌, max, true, false, List, []}
use Rattle.std.proofs.Common.{◌∷◌, length, Option, Some, None, refl, ap, sym, ◌∙◌, subst, arith}
use Rattle.std.specs.Prelude.{◌≢◌}
use Rattle.lb_syntax.specs.declared.level.Form.TheVariants as form
use Rattle.lb_syntax.specs.declared.token.Mark.{Mark}
use Rattle.lb_syntax.specs.declared.token.Mark.TheVariants as m
use Rattle.lb_syntax.specs.declared.token.Token.{Token}
use Rattle.lb_syntax.specs.declared.token.Token.TheVariants as token
use Rattle.lb_syntax.specs.Tree.{Name, Not, Negate, ArrayIterator, Static, Operator}
use Rattle.lb_syntax.specs.Tree.{Expr, Exprs, Literal, Truth, Variable, Group, Unary, Binary, If}
use Rattle.lb_syntax.specs.Tree.{Arrow, Fby, Pre, Current, When, Replicate, Index, Slice, Join}
use Rattle.lb_syntax.specs.Tree.{Array}
use Rattle.lb_syntax.specs.Tree.{AtMostOne, Nor, Call, Iterate, Nil, Cons}
use Rattle.lb_syntax.specs.Levels.{Form, row_of, IsLeft, IsLast}
use Rattle.lb_syntax.specs.Spelling.{◌▸◌, IsMark, IsName, IsList, IsStatic, AreArguments}
use Rattle.lb_syntax.specs.Spelling.{iterator_name, MayBeCalled, IsApplied, IsForm, IsSpelled}
use Rattle.lb_syntax.specs.Spelling.{AreSpelled, MayBeSpelled}
use Rattle.lb_syntax.specs.Readers.{◌>>=◌, Reader, expect}
use Rattle.lb_syntax.specs.Reading.{Stop, climb, form_at, infix_tree, element_at, infix_at, longer}
use Rattle.lb_syntax.specs.Reading.{by_form, step, until, choice, prefixed, list_until, items}
use Rattle.lb_syntax.specs.Reading.{operands, iterate, static_call, named, marked, first, level_at}
use Rattle.lb_syntax.specs.Reading.{tree_at, expression_at}
use Rattle.lb_syntax.proofs.Readers.{expect_same}
use Rattle.lb_syntax.proofs.Steps.{takes-from, takes-not, iterator_reads, no_iterator_reads}
use Rattle.lb_syntax.proofs.Lists.{Readable, list_reads, list_of, exprs_list, spelled_more}
use Rattle.lb_syntax.proofs.Lists.{spelled_all}
use Rattle.lb_syntax.proofs.Rows.{is_row}
use Rattle.lb_syntax.proofs.Ends.{form_level, next_level, IsClear, Ends, EndsStatic, expect_other}
use Rattle.lb_syntax.proofs.Ends.{ends_mark, ends_close, ends_close_bracket, ends_comma, ends_then}
use Rattle.lb_syntax.proofs.Ends.{ends_else, form_next, form_clear}
pub use Rattle.lb_syntax.proofs.StaticComplete.{static_reads, size_reads, clock_reads}
use Rattle.lb_syntax.proofs.StaticComplete.{len, bracketed_reads, applied_reads}
use Rattle.lb_syntax.proofs.Places.{IsBelow, below_left, below_none, last_one, level_last}
use Rattle.lb_syntax.proofs.Rooms.{depth, depth_all, depth_one, spine, room, expr_shorter}
use Rattle.lb_syntax.proofs.Rooms.{spine_room}

abbrev Complete : ℕ → (ℕ → Reader Expr) → Type 0
Complete n inner =
    (e : Expr) (least : ℕ) (ts rest : List Token) → depth e ≤ n → IsSpelled e ts rest →
    IsLast least e → IsBelow (next_level rest) e →
    next_level rest < least → IsClear rest → inner least ts ≡ Some (e, rest)

module _ (n : ℕ) (inner : ℕ → Reader Expr) (complete : Complete n inner) where
  -- a spelled expression is read at the least level, where nothing goes on with it
  whole : (e : Expr) (ts rest : List Token) → depth e ≤ n → IsSpelled e ts rest → Ends rest →
      inner 1 ts ≡ Some (e, rest)
  whole e ts rest deep s ends =
      let none = ends.none in
      complete e 1 ts rest deep s (last_one e)
      (subst (λ k. IsBelow k e) (sym none) (below_none e ts rest s)) (omega arith) ends.clear

  until_reads : (mark : Mark) (e : Expr) (ts rest : List Token) → Ends (token.Mark mark ∷ rest) →
      depth e ≤ n → (IsSpelled e ▸ IsMark mark) ts rest → until inner mark ts ≡ Some (e, rest)
  unfolding until
  until_reads mark e ts rest ends deep s =
      rw (whole e ts s.0 deep s.1 (ends_mark mark s.0 rest s.2 ends), s.2, expect_same mark rest)
      refl

  choice_reads : (c a b : Expr) (ts rest : List Token) →
      max (depth c) (max (depth a) (depth b)) ≤ n →
      (s : (IsSpelled c ▸ IsMark m.Then ▸ IsSpelled a ▸ IsMark m.Else ▸ IsSpelled b) ts rest) →
      IsLast 2 b →
      IsBelow (next_level rest) b → next_level rest < 2 → IsClear rest → choice inner ts
      ≡ Some (If c a b, rest)
  unfolding choice
  choice_reads c a b ts rest deep s last below lt clear =
      let x = s.2 in
      let y = x.2 in
      let z = y.2 in
      rw (
        until_reads m.Then c ts x.0 (ends_then x.0) (omega arith) (s.0, s.1, x.1),
        until_reads m.Else a x.0 z.0 (ends_else z.0) (omega arith) (y.0, y.1, z.1),
        complete b 2 z.0 rest (omega arith) z.2 last below lt clear,
      ) refl

  comma_ends : (ts rest : List Token) → IsMark m.Comma ts rest → Ends ts
  comma_ends ts rest is = ends_mark m.Comma ts rest is (ends_comma rest)

  comma_reads : (ts rest : List Token) → IsMark m.Comma ts rest → expect m.Comma ts ≡ Some rest
  comma_reads ts rest is = ap (expect m.Comma) is ∙ expect_same m.Comma rest

  all_readable : (es : Exprs) → depth_all es ≤ n → Readable (λ e. depth e ≤ n) (list_of es)
  all_readable Nil deep = tt
  all_readable (Cons e es) deep = let deep : max (depth e) (depth_all es) ≤ n =
      deep in (omega arith, all_readable es (omega arith))

  items_read : (mark : Mark) (es : Exprs) (ts rest : List Token) → Ends (token.Mark mark ∷ rest) →
      mark ≢ m.Comma → depth_all es ≤ n →
      (IsList (IsMark m.Comma) IsSpelled (list_of es) ▸ IsMark mark) ts rest →
      list_until inner mark ts ≡ Some (list_of es, rest)
  unfolding list_until
  items_read mark es ts rest ends other deep s =
      let none = ap (expect m.Comma) s.2 ∙ expect_other m.Comma mark rest other in
      let all = list_reads (IsMark m.Comma) IsSpelled (expect m.Comma) (inner 1)
      (λ e. depth e ≤ n) Ends comma_reads comma_ends (λ us vs p. omega (arith, len us _ p))
      expr_shorter (λ e us vs d p q. whole e us vs d p q) (list_of es) ts s.0
      (all_readable es deep) s.1 (ends_mark mark s.0 rest s.2 ends) none in
      rw (all, s.2, expect_same mark rest) refl

  all_reads : (mark : Mark) (es : Exprs) (ts rest : List Token) → Ends (token.Mark mark ∷ rest) →
      mark ≢ m.Comma → depth_all es ≤ n → (AreSpelled es ▸ IsMark mark) ts rest →
      list_until inner mark ts ≡ Some (list_of es, rest)
  all_reads mark es ts rest ends other deep s =
      items_read mark es ts rest ends other deep (s.0, spelled_all es ts s.0 s.1, s.2)

  in_parentheses_reads : (es : Exprs) (ts rest : List Token) → depth_all es ≤ n →
      (IsMark m.Open ▸ AreSpelled es ▸ IsMark m.Close) ts rest → items inner ts
      ≡ Some (list_of es, rest)
  unfolding items
  in_parentheses_reads es ts rest deep s =
      ap (λ z. expect m.Open z >>= list_until inner m.Close) s.1
      ∙ rw (expect_same m.Open s.0)
      (all_reads m.Close es s.0 rest (ends_close rest) (λ e. absurd cc) deep s.2)

  no_close : (e : Expr) (ts rest : List Token) → IsSpelled e ts rest → expect m.Close ts ≡ None
  unfolding expect
  no_close (Binary op a b) ts rest s = no_close a ts s.0.0 s.0.1
  no_close (Arrow a b) ts rest s = no_close a ts s.0.0 s.0.1
  no_close (Fby a b) ts rest s = no_close a ts s.0.0 s.0.1
  no_close (Join a b) ts rest s = no_close a ts s.0.0 s.0.1
  no_close (When e c sign) ts rest s = no_close e ts s.0.0 s.0.1
  no_close (Replicate e k) ts rest s = no_close e ts s.0.0 s.0.1
  no_close (Index e i) ts rest s = no_close e ts s.0.0 s.0.1
  no_close (Slice e i j) ts rest s = no_close e ts s.0.0 s.0.1
  no_close (Literal k) ts rest s = ap (expect m.Close) s
  no_close (Truth true) ts rest s = ap (expect m.Close) s
  no_close (Truth false) ts rest s = ap (expect m.Close) s
  no_close (Variable x) ts rest s = ap (expect m.Close) s
  no_close (Unary Not a) ts rest s = ap (expect m.Close) s.0.1
  no_close (Unary Negate a) ts rest s = ap (expect m.Close) s.0.1
  no_close (Pre a) ts rest s = ap (expect m.Close) s.0.1
  no_close (Current a) ts rest s = ap (expect m.Close) s.0.1
  no_close (If c a b) ts rest s = ap (expect m.Close) s.0.1
  no_close (Call f ss es) ts rest s = ap (expect m.Close) s.0.1
  no_close (Group e) ts rest s = ap (expect m.Close) s.1
  no_close (Array es) ts rest s = ap (expect m.Close) s.1
  no_close (AtMostOne es) ts rest s = ap (expect m.Close) s.1
  no_close (Nor es) ts rest s = ap (expect m.Close) s.1
  no_close (Iterate i f k es) ts rest s = ap (expect m.Close) s.1

  operands_read : (es : Exprs) (ts rest : List Token) → depth_all es ≤ n →
      (MayBeSpelled es ▸ IsMark m.Close) ts rest → operands inner ts ≡ Some (list_of es, rest)
  unfolding operands
  operands_read Nil ts rest deep s =
      ap (operands inner) (s.1 ∙ s.2) ∙ rw (expect_same m.Close rest) refl
  operands_read (Cons e es) ts rest deep s =
      rw (no_close e ts s.1.0 s.1.1)
      (items_read m.Close (Cons e es) ts rest (ends_close rest) (λ q. absurd cc) deep
      (s.0, (s.1.0, s.1.1, spelled_more es s.1.0 s.0 s.1.2), s.2))

  -- ---- growing

  by_form_stops : (least : ℕ) (e : Expr) (ts : List Token) (o : Option Form) →
      form_level o < least → by_form inner least e ts o ≡ Stop
  by_form_stops least e ts (Some f) lt = rw (takes-not least (row_of f) e lt) refl
  by_form_stops least e ts None lt = refl

  climb_stops : (k least : ℕ) (e : Expr) (rest : List Token) → next_level rest < least →
      climb (step inner least) k e rest ≡ Some (e, rest)
  unfolding climb
  climb_stops zero least e rest lt = refl
  climb_stops (suc k) least e [] lt = refl
  climb_stops (suc k) least e (t ∷ ts) lt = rw (by_form_stops least e ts (form_at t) lt) refl

  form_step : (p least : ℕ) (f : Form) (a z : Expr) (ts us rest : List Token) → IsForm f ts us →
      least ≤ (row_of f).level → IsLeft (row_of f) a → longer inner a f us ≡ Some (z, rest) →
      climb (step inner least) (suc p) a ts ≡ climb (step inner least) p z rest
  unfolding climb
  form_step p least f a z ts us rest is le left reads =
      ap (climb (step inner least) (suc p) a) is.2
      ∙ rw (is.1, takes-from least (row_of f) a le left, reads) refl

  abbrev Start : ℕ → ℕ → List Token → Option (Expr × List Token)
  Start q least ts = first inner ts >>= λ e. climb (step inner least) q e.0 e.1

  abbrev Reads : Expr → Type 0
  Reads e = (least : ℕ) (ts rest : List Token) (q p : ℕ) → q ≡ spine e + p → depth e ≤ suc n →
      IsSpelled e ts rest → IsLast least e → IsBelow (next_level rest) e → IsClear rest →
      Start q least ts ≡ climb (step inner least) p e rest

  -- where the left operand of a form is read, and the rest of the form too, the climb reaches `z`
  grows : (f : Form) (a z : Expr) → Reads a → (least : ℕ) (ts us vs rest : List Token) (q p : ℕ) →
      q ≡ suc (spine a) + p → depth a ≤ suc n → IsSpelled a ts us → IsForm f us vs →
      IsLeft (row_of f) a →
      least ≤ (row_of f).level → longer inner a f vs ≡ Some (z, rest) → Start q least ts
      ≡ climb (step inner least) p z rest
  grows f a z ih least ts us vs rest q p fuel deep s is left le reads =
      let up = (is_row f).left_high in
      let high = left.high in
      ih least ts us q (suc p) (omega arith) deep s (level_last least a (omega arith))
      (subst (λ k. IsBelow k a) (sym (form_next f us vs is)) (below_left f a ts us s left))
      (form_clear f us vs is)
      ∙ form_step p least f a z us vs rest is le left reads

  infix_reads : (f : Form) (a b : Expr) (ts rest : List Token) → depth b ≤ n → IsSpelled b ts rest →
      IsLast (row_of f).right b → IsBelow (next_level rest) b → next_level rest < (row_of f).right →
      IsClear rest →
      infix_at inner a f ts ≡ Some (infix_tree f a b, rest)
  unfolding infix_at
  infix_reads f a b ts rest deep s last below lt clear =
      rw (complete b (row_of f).right ts rest deep s last below lt clear) refl

  index_reads : (e : Expr) (i : Static) (ts rest : List Token) →
      (IsStatic i ▸ IsMark m.CloseBracket) ts rest → element_at e ts ≡ Some (Index e i, rest)
  unfolding element_at expect
  index_reads e i ts rest s =
      rw (static_reads i ts s.0 s.1 (subst EndsStatic (sym s.2) refl), s.2) refl

  slice_reads : (e : Expr) (i j : Static) (ts rest : List Token) →
      (IsStatic i ▸ IsMark m.DotDot ▸ IsStatic j ▸ IsMark m.CloseBracket) ts rest → element_at e ts
      ≡ Some (Slice e i j, rest)
  unfolding element_at expect
  slice_reads e i j ts rest s =
      let x = s.2 in
      let y = x.2 in
      rw (
        static_reads i ts s.0 s.1 (subst EndsStatic (sym x.1) refl),
        x.1,
        static_reads j x.0 y.0 y.1 (subst EndsStatic (sym y.2) refl),
        y.2,
      ) refl

  -- ---- names

  no_statics_open : (ts : List Token) → expect m.OpenStatic (token.Mark m.Open ∷ ts) ≡ None
  no_statics_open ts = expect_other m.OpenStatic m.Open ts (λ e. absurd cc)

  plain_reads : (x : Name) (es : Exprs) (ts rest : List Token) → depth_all es ≤ n →
      (IsMark m.Open ▸ MayBeSpelled es ▸ IsMark m.Close) ts rest → named inner x ts
      ≡ Some (Call x [] es, rest)
  unfolding named
  plain_reads x es ts rest deep s =
      ap (named inner x) s.1
      ∙ rw (
        no_statics_open s.0,
        expect_same m.Open s.0,
        operands_read es s.0 rest deep s.2,
        exprs_list es,
      ) refl

  static_call_reads : (x : Name) (k : Static) (ss : List Static) (es : Exprs)
      (ts rest : List Token) → ((i : ArrayIterator) → x ≢ iterator_name i) → depth_all es ≤ n →
      (AreArguments (k ∷ ss) ▸ IsMark m.Open ▸ MayBeSpelled es ▸ IsMark m.Close) ts rest →
      named inner x ts ≡ Some (Call x (k ∷ ss) es, rest)
  unfolding named static_call
  static_call_reads x k ss es ts rest other deep s =
      let args = s.1 in
      let open_at = s.2 in
      ap (named inner x) args.1
      ∙ rw (
        expect_same m.OpenStatic args.0,
        no_iterator_reads x other,
        bracketed_reads (k ∷ ss) args.0 s.0 args.2,
        expect_same m.CloseStatic s.0,
        open_at.1,
        expect_same m.Open open_at.0,
        operands_read es open_at.0 rest deep open_at.2,
        exprs_list es,
      ) refl

  iterate_reads : (i : ArrayIterator) (f : Operator) (k : Static) (es : Exprs)
      (ts rest : List Token) → depth_all es ≤ n →
      (IsApplied f k ▸ IsMark m.Open ▸ AreSpelled es ▸ IsMark m.Close) ts rest →
      named inner (iterator_name i) ts ≡ Some (Iterate i f k es, rest)
  unfolding named iterate
  iterate_reads i f k es ts rest deep s =
      let what = s.1 in
      ap (named inner (iterator_name i)) what.1
      ∙ rw (
        expect_same m.OpenStatic what.0,
        iterator_reads i,
        applied_reads f k what.0 s.0 what.2,
        in_parentheses_reads es s.0 rest deep s.2,
        exprs_list es,
      ) refl

  variable_reads : (x : Name) (rest : List Token) → IsClear rest → named inner x rest
      ≡ Some (Variable x, rest)
  unfolding named
  variable_reads x rest clear = rw (clear.no_statics, clear.no_call) refl

  -- ---- the left spine

  abbrev Last : ℕ → ℕ → Expr → List Token → Option (Expr × List Token)
  Last least p e rest = climb (step inner least) p e rest

  none_left : (least q p : ℕ) (e : Expr) (rest : List Token) → q ≡ 0 + p → Last least q e rest
      ≡ Last least p e rest
  none_left least q p e rest fuel = ap (λ z. Last least z e rest) (omega arith)

  -- an expression that `named` reads is the first operand of the climb
  named_start : (x : Name) (e : Expr) (least q : ℕ) (ts next rest : List Token) → IsName x ts next →
      named inner x next ≡ Some (e, rest) → Start q least ts ≡ Last least q e rest
  unfolding first
  named_start x e least q ts next rest is reads = ap (Start q least) is ∙ rw reads refl

  -- an expression that `marked` reads is the first operand of the climb
  marked_start : (mark : Mark) (e : Expr) (least q : ℕ) (ts next rest : List Token) →
      IsMark mark ts next → marked inner mark next ≡ Some (e, rest) → Start q least ts
      ≡ Last least q e rest
  unfolding first
  marked_start mark e least q ts next rest is reads = ap (Start q least) is ∙ rw reads refl

  prefixed_reads : (form : Expr → Expr) (k : ℕ) (a : Expr) (ts rest : List Token) → depth a ≤ n →
      IsSpelled a ts rest → IsLast k a → IsBelow (next_level rest) a → next_level rest < k →
      IsClear rest →
      prefixed inner form k ts ≡ Some (form a, rest)
  prefixed_reads form k a ts rest deep s last below lt clear =
      rw (complete a k ts rest deep s last below lt clear) refl

  call_reads : (x : Name) (ss : List Static) (es : Exprs) (ts rest : List Token) →
      depth_all es ≤ n → MayBeCalled x ss →
      (AreArguments ss ▸ IsMark m.Open ▸ MayBeSpelled es ▸ IsMark m.Close) ts rest →
      named inner x ts ≡ Some (Call x ss es, rest)
  call_reads x [] es ts rest deep may s =
      ap (named inner x) s.1 ∙ plain_reads x es s.0 rest deep s.2
  call_reads x (k ∷ ss) es ts rest deep may s = static_call_reads x k ss es ts rest may deep s

  reads : (e : Expr) → Reads e
  unfolding first marked
  reads (Literal k) least ts rest q p fuel deep s last below clear =
      ap (Start q least) s ∙ none_left least q p (Literal k) rest fuel
  reads (Truth true) least ts rest q p fuel deep s last below clear =
      marked_start m.True (Truth true) least q ts rest rest s refl
      ∙ none_left least q p (Truth true) rest fuel
  reads (Truth false) least ts rest q p fuel deep s last below clear =
      marked_start m.False (Truth false) least q ts rest rest s refl
      ∙ none_left least q p (Truth false) rest fuel
  reads (Variable x) least ts rest q p fuel deep s last below clear =
      named_start x (Variable x) least q ts rest rest s (variable_reads x rest clear)
      ∙ none_left least q p (Variable x) rest fuel
  reads (Group e) least ts rest q p fuel deep s last below clear =
      let deep : suc (depth e) ≤ suc n = deep in
      marked_start m.Open (Group e) least q ts s.0 rest s.1
      (rw (until_reads m.Close e s.0 rest (ends_close rest) (omega arith) s.2) refl)
      ∙ none_left least q p (Group e) rest fuel
  reads (Unary Not a) least ts rest q p fuel deep s last below clear =
      let deep : suc (depth a) ≤ suc n = deep in
      marked_start m.Not (Unary Not a) least q ts s.0.0 rest s.0.1
      (prefixed_reads (Unary Not) 8 a s.0.0 rest (omega arith) s.0.2 s.1 below.1 below.0 clear)
      ∙ none_left least q p (Unary Not a) rest fuel
  reads (Unary Negate a) least ts rest q p fuel deep s last below clear =
      let deep : suc (depth a) ≤ suc n = deep in
      marked_start m.Minus (Unary Negate a) least q ts s.0.0 rest s.0.1
      (prefixed_reads (Unary Negate) 12 a s.0.0 rest (omega arith) s.0.2 s.1 below.1 below.0
      clear)
      ∙ none_left least q p (Unary Negate a) rest fuel
  reads (Pre a) least ts rest q p fuel deep s last below clear =
      let deep : suc (depth a) ≤ suc n = deep in
      marked_start m.Pre (Pre a) least q ts s.0.0 rest s.0.1
      (prefixed_reads Pre 12 a s.0.0 rest (omega arith) s.0.2 s.1 below.1 below.0 clear)
      ∙ none_left least q p (Pre a) rest fuel
  reads (Current a) least ts rest q p fuel deep s last below clear =
      let deep : suc (depth a) ≤ suc n = deep in
      marked_start m.Current (Current a) least q ts s.0.0 rest s.0.1
      (prefixed_reads Current 12 a s.0.0 rest (omega arith) s.0.2 s.1 below.1 below.0 clear)
      ∙ none_left least q p (Current a) rest fuel
  reads (If c a b) least ts rest q p fuel deep s last below clear =
      let deep : suc (max (depth c) (max (depth a) (depth b))) ≤ suc n = deep in
      marked_start m.If (If c a b) least q ts s.0.0 rest s.0.1
      (choice_reads c a b s.0.0 rest (omega arith) s.0.2 s.1 below.1 below.0 clear)
      ∙ none_left least q p (If c a b) rest fuel
  reads (Array es) least ts rest q p fuel deep s last below clear =
      let deep : suc (depth_all es) ≤ suc n = deep in
      marked_start m.OpenBracket (Array es) least q ts s.0 rest s.1
      (rw (
        all_reads m.CloseBracket es s.0 rest (ends_close_bracket rest) (λ z. absurd cc)
            (omega arith) s.2,
        exprs_list es,
      ) refl)
      ∙ none_left least q p (Array es) rest fuel
  reads (AtMostOne es) least ts rest q p fuel deep s last below clear =
      let deep : suc (depth_all es) ≤ suc n = deep in
      marked_start m.Hash (AtMostOne es) least q ts s.0 rest s.1
      (rw (in_parentheses_reads es s.0 rest (omega arith) s.2, exprs_list es) refl)
      ∙ none_left least q p (AtMostOne es) rest fuel
  reads (Nor es) least ts rest q p fuel deep s last below clear =
      let deep : suc (depth_all es) ≤ suc n = deep in
      marked_start m.Nor (Nor es) least q ts s.0 rest s.1
      (rw (in_parentheses_reads es s.0 rest (omega arith) s.2, exprs_list es) refl)
      ∙ none_left least q p (Nor es) rest fuel
  reads (Call x ss es) least ts rest q p fuel deep s last below clear =
      let deep : suc (depth_all es) ≤ suc n = deep in
      named_start x (Call x ss es) least q ts s.0.0 rest s.0.1
      (call_reads x ss es s.0.0 rest (omega arith) s.1 s.0.2)
      ∙ none_left least q p (Call x ss es) rest fuel
  reads (Iterate i f k es) least ts rest q p fuel deep s last below clear =
      let deep : suc (depth_all es) ≤ suc n = deep in
      named_start (iterator_name i) (Iterate i f k es) least q ts s.0 rest s.1
      (iterate_reads i f k es s.0 rest (omega arith) s.2)
      ∙ none_left least q p (Iterate i f k es) rest fuel
  reads (Binary op a b) least ts rest q p fuel deep s last below clear =
      let deep : max (depth a) (suc (depth b)) ≤ suc n = deep in
      grows (form.Data op) a (Binary op a b) (reads a) least ts s.0.0 s.0.2.0 rest q p fuel
      (omega arith) s.0.1 s.0.2.1 s.1 last
      (infix_reads (form.Data op) a b s.0.2.0 rest (omega arith) s.0.2.2 s.2 below.1 below.0 clear)
  reads (Arrow a b) least ts rest q p fuel deep s last below clear =
      let deep : max (depth a) (suc (depth b)) ≤ suc n = deep in
      grows form.Arrow a (Arrow a b) (reads a) least ts s.0.0 s.0.2.0 rest q p fuel
      (omega arith) s.0.1 s.0.2.1 s.1 last
      (infix_reads form.Arrow a b s.0.2.0 rest (omega arith) s.0.2.2 s.2 below.1 below.0 clear)
  reads (Fby a b) least ts rest q p fuel deep s last below clear =
      let deep : max (depth a) (suc (depth b)) ≤ suc n = deep in
      grows form.Fby a (Fby a b) (reads a) least ts s.0.0 s.0.2.0 rest q p fuel
      (omega arith) s.0.1 s.0.2.1 s.1 last
      (infix_reads form.Fby a b s.0.2.0 rest (omega arith) s.0.2.2 s.2 below.1 below.0 clear)
  reads (Join a b) least ts rest q p fuel deep s last below clear =
      let deep : max (depth a) (suc (depth b)) ≤ suc n = deep in
      grows form.Join a (Join a b) (reads a) least ts s.0.0 s.0.2.0 rest q p fuel
      (omega arith) s.0.1 s.0.2.1 s.1 last
      (infix_reads form.Join a b s.0.2.0 rest (omega arith) s.0.2.2 s.2 below.1 below.0 clear)
  reads (When e c sign) least ts rest q p fuel deep s last below clear =
      grows form.When e (When e c sign) (reads e) least ts s.0.0 s.0.2.0 rest q p fuel deep s.0.1
      s.0.2.1 s.1 last
      (rw (clock_reads c sign s.0.2.0 rest s.0.2.2) refl)
  reads (Replicate e k) least ts rest q p fuel deep s last below clear =
      grows form.Replicate e (Replicate e k) (reads e) least ts s.0.0 s.0.2.0 rest q p fuel deep
      s.0.1
      s.0.2.1 s.1 last
      (rw (size_reads k s.0.2.0 rest s.0.2.2) refl)
  reads (Index e i) least ts rest q p fuel deep s last below clear =
      grows form.Element e (Index e i) (reads e) least ts s.0.0 s.0.2.0 rest q p fuel deep s.0.1
      s.0.2.1 s.1 last
      (index_reads e i s.0.2.0 rest s.0.2.2)
  reads (Slice e i j) least ts rest q p fuel deep s last below clear =
      grows form.Element e (Slice e i j) (reads e) least ts s.0.0 s.0.2.0 rest q p fuel deep s.0.1
      s.0.2.1 s.1 last
      (slice_reads e i j s.0.2.0 rest s.0.2.2)

  level_reads : (e : Expr) (least : ℕ) (ts rest : List Token) → depth e ≤ suc n →
      IsSpelled e ts rest → IsLast least e → IsBelow (next_level rest) e →
      next_level rest < least → IsClear rest → level_at inner least ts ≡ Some (e, rest)
  unfolding level_at
  level_reads e least ts rest deep s last below lt clear =
      let q = length ts in
      let p = q - spine e in
      reads e least ts rest q p (omega (arith, spine_room e ts rest s)) deep s last below clear
      ∙ climb_stops p least e rest lt

tree_complete : (n : ℕ) → Complete n (tree_at n)
unfolding tree_at
tree_complete zero e least ts rest deep s last below lt clear = absurd (omega (arith, depth_one e))
tree_complete (suc n) e least ts rest deep s last below lt clear =
    level_reads n (tree_at n) (tree_complete n) e least ts rest deep s last below lt clear

-- an expression that the front of the tokens spells is read, where nothing goes on with it
pub expression_reads : (e : Expr) (ts rest : List Token) → IsSpelled e ts rest → Ends rest →
    expression_at ts ≡ Some (e, rest)
unfolding expression_at
expression_reads e ts rest s ends =
    let n = length ts in
    whole n (tree_at n) (tree_complete n) e ts rest (omega (arith, room e ts rest s)) s ends
