-- What a walk over a term finds of its clocks, from what it finds of the operands.
use Rattle.lb_check.proofs.Words
use Words.{AnyClock, ArrayIterator, BinaryOperator, Bool, Box, CallId, ClockSet, Context, FoundCall}
use Words.{FoundTerm, Global, IsLeaf, IsPair, IsPlaced, IsRow, IsRowWalked, IterateNode}
use Words.{IterateSymbol, List, Literal, None, OneClock, Operand, Option, Row_of-Term, Some}
use Words.{StaticId, Term, Truth, UnaryOperator, Value, VariableId, Vec, [], ap, append-nil}
use Words.{append_assoc, ap₂, arith, both, called, determined_clock, drop, drop_all, drop_more}
use Words.{end_of-Term, flat_map, get_or, holds, infer_clock, inl, inr, is_equation_clocked}
use Words.{items-the_row-Term, items_hidden-the_row-Term-0, known_among, known_operands, left_clock}
use Words.{length, listed, map, map-append, more_of-Term, nested_call, operand_of, operands_in}
use Words.{operands_of, part, placed_all, placed_arguments, placed_call, placed_each, placed_row}
use Words.{placed_side, placed_terms, refl, reverse, reverse-append, reverse-reverse, row_clock_set}
use Words.{row_term, side_call, side_clocks, slice_get, subst, sym, variable_of, with_terms, ℕ}
use Words.{◌++◌, ◌+◌, ◌-◌, ◌<◌, ◌∙◌, ◌∷◌, ◌≡◌, ◌≤◌, ◌⊎◌}
use Rattle.lb_check.proofs.{clocking.TermClockSets.operands_items, lists.ListPairs.all_last}
use Rattle.lb_check.proofs.lists.ListPairs.{further, more_last, none_last}
use Rattle.lb_check.proofs.typing.TypeRows.{IsSinglePart, row_in, row_is}
use Rattle.lb_check.specs.PlacedClocks.{FoundNode, call_clocks, operand_clock, with_term}
use Rattle.lb_check.specs.{TermClocks.{is_call_clocked, unary_clock_set}, WalkedClocks.IsWalked}
use Rattle.lb_check.specs.{WalkedClocks.known_in, declared.own_clock.Clock.Clock}
use Rattle.lb_static.specs.declared.resolved.Term.{Array, AtMostOne, Call, Current, Group, If}
use Rattle.lb_static.specs.declared.resolved.Term.{Index, Nor, Pre, Replicate, Slice, Unary}
use Rattle.lb_static.specs.declared.resolved.Term.{Variable, When}
use Rattle.std.proofs.lemmas.Option.{slice_get_cases}

-- The clock set of a term, from those of its one, two or three operands.

-- a term in which nothing determines a clock
abbrev pub IsFree : Term → Type 0
IsFree t = ((n : ℕ) × (t ≡ Literal n))
    ⊎ (((b : Bool) × (t ≡ Truth b)) ⊎ ((i : StaticId) × (t ≡ Value i)))

pub free_stands : (ctx : Context) (t : Term) → IsFree t → AnyClock ≡ infer_clock ctx t
unfolding infer_clock
free_stands ctx t (inl (n, e)) = rw e refl
free_stands ctx t (inr (inl (b, e))) = rw e refl
free_stands ctx t (inr (inr (i, e))) = rw e refl

pub single_stands : (ctx : Context) (t : Term) (e : Box Term Global) (s : ClockSet) → IsSinglePart t e →
    s ≡ infer_clock ctx e.value
    → unary_clock_set ctx t s ≡ infer_clock ctx t
unfolding infer_clock
single_stands ctx t e s (inl is) h = rw (is, h) refl
single_stands ctx t e s (inr (inl (op, is))) h = rw (is, h) refl
single_stands ctx t e s (inr (inr (inl is))) h = rw (is, h) refl
single_stands ctx t e s (inr (inr (inr (inl is)))) h = rw (is, h) refl
single_stands ctx t e s (inr (inr (inr (inr (inl (x, sign, is)))))) h = rw (is, h) refl
single_stands ctx t e s (inr (inr (inr (inr (inr (inl (n, is))))))) h = rw (is, h) refl
single_stands ctx t e s (inr (inr (inr (inr (inr (inr (inl (i, is)))))))) h = rw (is, h) refl
single_stands ctx t e s (inr (inr (inr (inr (inr (inr (inr (i, j, is)))))))) h = rw (is, h) refl

pub pair_stands : (ctx : Context) (t : Term) (a b : Box Term Global) → IsPair t a b →
    both (infer_clock ctx a.value) (infer_clock ctx b.value) ≡ infer_clock ctx t
unfolding infer_clock
pair_stands ctx t a b (inl (op, is)) = rw is refl
pair_stands ctx t a b (inr (inl is)) = rw is refl
pair_stands ctx t a b (inr (inr (inl is))) = rw is refl
pair_stands ctx t a b (inr (inr (inr is))) = rw is refl

pub choice_stands : (ctx : Context) (t : Term) (c a b : Box Term Global) → t ≡ If c a b →
    both (infer_clock ctx c.value) (both (infer_clock ctx a.value) (infer_clock ctx b.value))
    ≡ infer_clock ctx t
unfolding infer_clock
choice_stands ctx t c a b is = rw is refl

-- A row of terms in a tree is the list in the vector, and so are its operands.

-- the operands for the row of a term are those for the list in its vector
pub same_operands : (ctx : Context) (t : Term) (es : Vec Term Global) →
    items-the_row-Term _ (row_in t).1 ≡ es.items
    → operands_in ctx (row_in t).1 ≡ operands_of ctx es.items
same_operands ctx t es e = operands_items ctx _ (row_in t).1 ∙ ap (operands_of ctx) e

row_stands : (ctx : Context) (t : Term) (es : Vec Term Global) → IsRow t es →
    infer_clock ctx t ≡ row_clock_set ctx t (operands_in ctx (row_in t).1)
unfolding infer_clock
row_stands ctx t es (inl e) = rw e refl
row_stands ctx t es (inr (inl e)) = rw e refl
row_stands ctx t es (inr (inr (inl e))) = rw e refl
row_stands ctx t es (inr (inr (inr (inl (c, e))))) = rw e refl
row_stands ctx t es (inr (inr (inr (inr (inl (it, c, e)))))) = rw e refl
row_stands ctx t es (inr (inr (inr (inr (inr (it, op, n, e)))))) = rw e refl

pub stands_row : (ctx : Context) (t : Term) (es : Vec Term Global) → IsRow t es →
    infer_clock ctx t ≡ row_clock_set ctx t (operands_of ctx es.items)
stands_row ctx t es is =
    row_stands ctx t es is ∙ ap (row_clock_set ctx t) (same_operands ctx t es (row_is t es is))

-- an equation whose right side is a call keeps the rules where its call does
pub equation_call : (ctx : Context) (lefts : List VariableId) (c : CallId) (es : Vec Term Global)
    → is_equation_clocked ctx lefts (Call c es)
    ≡ holds (λ n. is_call_clocked ctx n (operands_of ctx es.items) lefts) (ctx.callee c)
unfolding is_equation_clocked
equation_call ctx lefts c es =
    ap (λ os. holds (λ n. is_call_clocked ctx n os lefts) (ctx.callee c))
    (same_operands ctx (Call c es) es (items_hidden-the_row-Term-0 es))

-- The known operands of a term, from those of its operands, as a walk over it finds them.

-- the known operands of a walk, in the opposite order, are those of the term
pub known_turned : (before known own : List Operand) → before ≡ [] → known ≡ before ++ reverse own →
    reverse known ≡ own
known_turned before known own none e =
    ap reverse (e ∙ ap (λ l. l ++ reverse own) none) ∙ reverse-reverse own

abbrev operand : ClockSet → Option VariableId → Operand
operand s x = record { clock_set = s; variable = x }

-- a term with this one operand, which is neither `current` nor in parentheses
abbrev pub IsPlain : Term → Box Term Global → Type 0
IsPlain t e =
    ((op : UnaryOperator) × (t ≡ Unary op e)) ⊎ ((t ≡ Pre e)
    ⊎ (((x : VariableId) × (sign : Bool) × (t ≡ When e x sign))
    ⊎ (((n : StaticId) × (t ≡ Replicate e n))
    ⊎ (((i : StaticId) × (t ≡ Index e i))
    ⊎ ((i : StaticId) × (j : StaticId) × (t ≡ Slice e i j))))))

wide_single : (t : Term) (e : Box Term Global) → (t ≡ Group e) ⊎ IsPlain t e → IsSinglePart t e
wide_single t e (inl is) = inl is
wide_single t e (inr (inl u)) = inr (inl u)
wide_single t e (inr (inr (inl p))) = inr (inr (inl p))
wide_single t e (inr (inr (inr rest))) = inr (inr (inr (inr rest)))

-- a term with these operands in a row, which is no call
abbrev pub IsPlainRow : Term → Vec Term Global → Type 0
IsPlainRow t es =
    (t ≡ Array es)
    ⊎ ((t ≡ AtMostOne es)
    ⊎ ((t ≡ Nor es)
    ⊎ (((it : ArrayIterator) × (c : CallId) × (t ≡ IterateNode it c es))
    ⊎ ((it : ArrayIterator) × (op : BinaryOperator) × (n : StaticId)
    × (t ≡ IterateSymbol it op n es)))))

pub wide_row : (t : Term) (es : Vec Term Global) → IsPlainRow t es → IsRow t es
wide_row t es (inl e) = inl e
wide_row t es (inr (inl e)) = inr (inl e)
wide_row t es (inr (inr (inl e))) = inr (inr (inl e))
wide_row t es (inr (inr (inr (inl e)))) = inr (inr (inr (inr (inl e))))
wide_row t es (inr (inr (inr (inr e)))) = inr (inr (inr (inr (inr e))))

module _ (ctx : Context) where
  -- ## The known operands of a term, by its form

  pub leaf_known : (t : Term) → IsLeaf t → known_operands ctx t ≡ []
  unfolding known_operands
  leaf_known t (inl (n, e)) = rw e refl
  leaf_known t (inr (inl (b, e))) = rw e refl
  leaf_known t (inr (inr (inl (i, e)))) = rw e refl
  leaf_known t (inr (inr (inr (x, e)))) = rw e refl

  pub group_known : (t : Term) (e : Box Term Global) → t ≡ Group e →
      known_operands ctx t ≡ known_operands ctx e.value
  unfolding known_operands
  group_known t e is = rw is refl

  pub plain_known : (t : Term) (e : Box Term Global) → IsPlain t e →
      known_operands ctx t ≡ known_operands ctx e.value
  unfolding known_operands
  plain_known t e (inl (op, is)) = rw is refl
  plain_known t e (inr (inl is)) = rw is refl
  plain_known t e (inr (inr (inl (x, sign, is)))) = rw is refl
  plain_known t e (inr (inr (inr (inl (n, is))))) = rw is refl
  plain_known t e (inr (inr (inr (inr (inl (i, is)))))) = rw is refl
  plain_known t e (inr (inr (inr (inr (inr (i, j, is)))))) = rw is refl

  pub current_known : (t : Term) (e : Box Term Global) → t ≡ Current e →
      known_operands ctx t ≡ operand_of ctx e.value ∷ known_operands ctx e.value
  unfolding known_operands
  current_known t e is = rw is refl

  pub pair_known : (t : Term) (a b : Box Term Global) → IsPair t a b →
      known_operands ctx t ≡ known_operands ctx a.value ++ known_operands ctx b.value
  unfolding known_operands
  pair_known t a b (inl (op, is)) = rw is refl
  pair_known t a b (inr (inl is)) = rw is refl
  pair_known t a b (inr (inr (inl is))) = rw is refl
  pair_known t a b (inr (inr (inr is))) = rw is refl

  pub choice_known : (t : Term) (c a b : Box Term Global) → t ≡ If c a b →
      known_operands ctx t
      ≡ known_operands ctx c.value
      ++ (known_operands ctx a.value ++ known_operands ctx b.value)
  unfolding known_operands
  choice_known t c a b is = rw is refl

  known_items : (n : _) (row : Row_of-Term n) →
      known_in ctx row ≡ known_among ctx (items-the_row-Term n row)
  unfolding known_operands
  known_items n end_of-Term = refl
  known_items n (more_of-Term e rest) = ap (λ l. known_operands ctx e ++ l) (known_items _ rest)

  hidden : (t : Term) (es : Vec Term Global) → items-the_row-Term _ (row_in t).1 ≡ es.items →
      known_in ctx (row_in t).1 ≡ known_among ctx es.items
  hidden t es e = known_items _ (row_in t).1 ∙ ap (known_among ctx) e

  row_in_known : (t : Term) (es : Vec Term Global) → IsPlainRow t es →
      known_operands ctx t ≡ known_in ctx (row_in t).1
  unfolding known_operands
  row_in_known t es (inl e) = rw e refl
  row_in_known t es (inr (inl e)) = rw e refl
  row_in_known t es (inr (inr (inl e))) = rw e refl
  row_in_known t es (inr (inr (inr (inl (it, c, e))))) = rw e refl
  row_in_known t es (inr (inr (inr (inr (it, op, n, e))))) = rw e refl

  pub row_known : (t : Term) (es : Vec Term Global) → IsPlainRow t es →
      known_operands ctx t ≡ known_among ctx es.items
  row_known t es is = row_in_known t es is ∙ hidden t es (row_is t es (wide_row t es is))

  pub called_known : (c : CallId) (es : Vec Term Global) →
      known_operands ctx (Call c es) ≡ operands_of ctx es.items ++ known_among ctx es.items
  unfolding known_operands
  called_known c es =
      let same = items_hidden-the_row-Term-0 es in
      ap₂ (λ l m. l ++ m) (same_operands ctx (Call c es) es same) (hidden (Call c es) es same)

  -- ## The operands that a walk adds

  -- a walk over a term, or a row of terms, is one over what is equal to it
  pub walked_at : (x y : Term) (before after : List Operand) (s : ClockSet) → x ≡ y →
      IsWalked ctx x before after s → IsWalked ctx y before after s
  walked_at x y before after s e w = subst (λ z. IsWalked ctx z before after s) e w

  pub row_walked_at : (xs ys : List Term) (before after os : List Operand) → xs ≡ ys →
      IsRowWalked ctx xs before after os → IsRowWalked ctx ys before after os
  row_walked_at xs ys before after os e w = subst (λ zs. IsRowWalked ctx zs before after os) e w

  module _ (before : List Operand) where
    nothing : (t : Term) (s : ClockSet) → s ≡ infer_clock ctx t → IsLeaf t →
        IsWalked ctx t before before s
    nothing t s is leaf = (
      is,
      sym (ap (λ l. before ++ reverse l) (leaf_known t leaf) ∙ append-nil before),
    )

    pub walked_free : (t : Term) → IsFree t → IsWalked ctx t before before AnyClock
    walked_free t free = nothing t AnyClock (free_stands ctx t free) (by free)
      where
        by : IsFree t → IsLeaf t
        by (inl n) = inl n
        by (inr (inl b)) = inr (inl b)
        by (inr (inr i)) = inr (inr (inl i))

    pub walked_variable : (t : Term) (x : VariableId) (s : ClockSet) → t ≡ Variable x →
        s ≡ OneClock (ctx.variable x) → IsWalked ctx t before before s
    unfolding infer_clock
    walked_variable t x s e is =
        nothing t s (is ∙ sym (ap (infer_clock ctx) e)) (inr (inr (inr (x, e))))

    pub walked_plain :
        (after : List Operand) (t : Term) (e : Box Term Global) (s own : ClockSet) →
        (t ≡ Group e) ⊎ IsPlain t e → IsWalked ctx e.value before after s →
        own ≡ unary_clock_set ctx t s → IsWalked ctx t before after own
    walked_plain after t e s own is w o = (
      o ∙ single_stands ctx t e s (wide_single t e is) w.0,
      w.1 ∙ ap (λ l. before ++ reverse l) (sym (by is)),
    )
      where
        by : (t ≡ Group e) ⊎ IsPlain t e → known_operands ctx t ≡ known_operands ctx e.value
        by (inl is) = group_known t e is
        by (inr is) = plain_known t e is

    pub walked_current :
        (mid after : List Operand) (t : Term) (e : Box Term Global) (s own : ClockSet)
        (x : Option VariableId) → t ≡ Current e → IsWalked ctx e.value before mid s →
        x ≡ variable_of e.value → after ≡ mid ++ (operand s x ∷ []) →
        own ≡ unary_clock_set ctx t s → IsWalked ctx t before after own
    walked_current mid after t e s own x is w v a o =
        let known = known_operands ctx e.value in (
          o ∙ single_stands ctx t e s (inr (inr (inr (inl is)))) w.0,
          further before mid after (operand_of ctx e.value ∷ []) known w.1
              (a ∙ ap (λ p. mid ++ (p ∷ [])) (ap₂ operand w.0 v))
              ∙ ap (λ l. before ++ reverse l) (sym (current_known t e is)),
        )

    pub walked_pair :
        (mid after : List Operand) (t : Term) (a b : Box Term Global) (r s own : ClockSet) →
        IsPair t a b → IsWalked ctx b.value before mid s → IsWalked ctx a.value mid after r →
        own ≡ both r s → IsWalked ctx t before after own
    walked_pair mid after t a b r s own is wb wa o = (
      o ∙ ap₂ both wa.0 wb.0 ∙ pair_stands ctx t a b is,
      further before mid after (known_operands ctx a.value) (known_operands ctx b.value) wb.1 wa.1
          ∙ ap (λ l. before ++ reverse l) (sym (pair_known t a b is)),
    )

    pub walked_choice :
        (first second after : List Operand) (t : Term) (c a b : Box Term Global)
        (q r s own : ClockSet) → t ≡ If c a b → IsWalked ctx b.value before first s →
        IsWalked ctx a.value first second r → IsWalked ctx c.value second after q →
        own ≡ both q (both r s) → IsWalked ctx t before after own
    walked_choice first second after t c a b q r s own is wb wa wc o =
        let left = known_operands ctx a.value in
        let right = known_operands ctx b.value in (
          o ∙ ap₂ both wc.0 (ap₂ both wa.0 wb.0) ∙ choice_stands ctx t c a b is,
          further before second after (known_operands ctx c.value) (left ++ right)
              (further before first second left right wb.1 wa.1) wc.1
              ∙ ap (λ l. before ++ reverse l) (sym (choice_known t c a b is)),
        )

    pub walked_row :
        (after : List Operand) (t : Term) (es : Vec Term Global) (os : List Operand)
        (own : ClockSet) → IsPlainRow t es → IsRowWalked ctx es.items before after os →
        own ≡ row_clock_set ctx t os → IsWalked ctx t before after own
    walked_row after t es os own is w o = (
      o ∙ ap (row_clock_set ctx t) w.0 ∙ sym (stands_row ctx t es (wide_row t es is)),
      w.1 ∙ ap (λ l. before ++ reverse l) (sym (row_known t es is)),
    )

    pub walked_call :
        (mid after : List Operand) (t : Term) (c : CallId) (es : Vec Term Global)
        (os : List Operand) (own : ClockSet) → t ≡ Call c es →
        IsRowWalked ctx es.items before mid os → after ≡ mid ++ reverse os →
        own ≡ row_clock_set ctx t os → IsWalked ctx t before after own
    walked_call mid after t c es os own is w a o =
        let known = known_among ctx es.items in (
          o ∙ ap (row_clock_set ctx t) w.0
              ∙ sym (stands_row ctx t es (inr (inr (inr (inl (c, is)))))),
          further before mid after os known w.1 a
              ∙ ap (λ l. before ++ reverse (l ++ known)) w.0
              ∙ ap (λ l. before ++ reverse l) (sym (ap (known_operands ctx) is ∙ called_known c
              es)),
        )

  -- ## Rows

  module _ (all : List Term) (before : List Operand) where
    -- the last `seen` terms are walked, such as the last two of `[a, b, c]`
    abbrev pub AreWalked : ℕ → (now os : List Operand) → Type 0
    AreWalked seen now os = IsRowWalked ctx (drop (length all - seen) all) before now (reverse os)

    pub row_start : (os : List Operand) → os ≡ [] → AreWalked 0 before os
    row_start os e =
        let none = none_last all in (
          ap reverse e ∙ sym (ap (operands_of ctx) none),
          sym (ap (λ es. before ++ reverse (known_among ctx es)) none ∙ append-nil before),
        )

    pub row_more :
        (seen : ℕ) (now more os next : List Operand) (x : Term) (s : ClockSet)
        (y : Option VariableId) → seen < length all →
        x ≡ get_or all (length all - 1 - seen) x → AreWalked seen now os →
        IsWalked ctx x now more s → y ≡ variable_of x → next ≡ os ++ (operand s y ∷ []) →
        AreWalked (seen + 1) more next
    row_more seen now more os next x s y lt is w e v n =
        let rest = drop (length all - seen) all in
        let split = more_last all seen x lt is in (
          ap reverse n ∙ reverse-append os (operand s y ∷ [])
              ∙ ap₂ (λ o l. o ∷ l) (ap₂ operand e.0 v) w.0
              ∙ sym (ap (operands_of ctx) split),
          further before now more (known_operands ctx x) (known_among ctx rest) w.1 e.1
              ∙ sym (ap (λ es. before ++ reverse (known_among ctx es)) split),
        )

    pub row_end :
        (seen : ℕ) (now os given : List Operand) → length all ≤ seen → AreWalked seen now os →
        given ≡ reverse os → IsRowWalked ctx all before now given
    row_end seen now os given le w g =
        let whole = all_last all seen le in (
          g ∙ w.0 ∙ ap (operands_of ctx) whole,
          w.1 ∙ ap (λ es. before ++ reverse (known_among ctx es)) whole,
        )

-- The found terms of a term, from those of its operands, and of rows of terms from a place on.

-- ## Found terms grow

-- two lists of terms are found by finding one after the other
pub more_terms : (f : FoundNode) (xs ys : List FoundTerm) →
    with_terms f (xs ++ ys) ≡ with_terms (with_terms f xs) ys
more_terms f [] ys = refl
more_terms f (x ∷ xs) ys = more_terms (with_term f x) xs ys

abbrev pub both_found : List Clock → List FoundCall → FoundNode
both_found ks cs = record { terms = ks; calls = cs }

-- the calls among some found terms, and below their clocks
abbrev pub calls_among : List FoundTerm → List FoundCall
calls_among ts = flat_map (λ t. listed (λ c. c ∷ []) t.call) ts

abbrev pub clocks_among : List FoundTerm → List Clock
clocks_among ts = map (λ t. t.clock) ts

-- terms that are found after `f` add their clocks and their calls
pub all_found : (f : FoundNode) (ts : List FoundTerm) →
    with_terms f ts ≡ both_found (f.terms ++ clocks_among ts) (f.calls ++ calls_among ts)
all_found f [] = ap₂ both_found (sym (append-nil f.terms)) (sym (append-nil f.calls))
all_found f (t ∷ ts) =
    let calls = listed (λ c. c ∷ []) t.call in
    all_found (with_term f t) ts
    ∙ ap₂ both_found (append_assoc f.terms (t.clock ∷ []) (clocks_among ts))
    (append_assoc f.calls calls (calls_among ts))

module _ {A : Type 0} (f : A → List FoundTerm) (whole now : FoundNode) (all : List A) (i : ℕ)
    (known : whole ≡ with_terms now (flat_map f (drop i all))) where
  -- one more item is found
  pub flat_more : (more : FoundNode) (x : A) → i < length all → x ≡ get_or all i x →
      more ≡ with_terms now (f x) → whole ≡ with_terms more (flat_map f (drop (i + 1) all))
  flat_more more x lt is e =
      let rest = flat_map f (drop (i + 1) all) in
      known ∙ ap (λ l. with_terms now (flat_map f l)) (drop_more all i x lt)
      ∙ ap (λ y. with_terms now (f y ++ rest)) (sym is)
      ∙ more_terms now (f x) rest ∙ ap (λ g. with_terms g rest) (sym e)

  -- no item is left
  pub flat_end : length all ≤ i → whole ≡ now
  flat_end le = known ∙ ap (λ l. with_terms now (flat_map f l)) (drop_all i all le)

module _ {A B C : Type 0} (f : A → B) (g : C → B) (whole : List B) (done : List C) (all : List A)
    (i : ℕ) (known : whole ≡ map g done ++ map f (drop i all)) where
  -- one more item is mapped, after others
  pub map_more :
      (more : List C) (x : A) (y : C) → i < length all → x ≡ get_or all i x → g y ≡ f x →
      more ≡ done ++ (y ∷ []) → whole ≡ map g more ++ map f (drop (i + 1) all)
  map_more more x y lt is same e =
      let rest = map f (drop (i + 1) all) in
      known ∙ ap (λ l. map g done ++ map f l) (drop_more all i x lt)
      ∙ ap (λ z. map g done ++ (f z ∷ rest)) (sym is)
      ∙ ap (λ z. map g done ++ (z ∷ rest)) (sym same)
      ∙ sym (append_assoc (map g done) (g y ∷ []) rest)
      ∙ ap (λ l. l ++ rest) (sym (map-append g done (y ∷ [])))
      ∙ ap (λ l. map g l ++ rest) (sym e)

-- the results of a list from place `i` on are those of item `i` and of the items behind it
pub flat_next : {A B : Type 0} (f : A → List B) (all : List A) (i : ℕ) (x : A) → i < length all →
    x ≡ get_or all i x → flat_map f (drop i all) ≡ f x ++ flat_map f (drop (i + 1) all)
flat_next f all i x lt is =
    ap (flat_map f) (drop_more all i x lt)
    ∙ ap (λ y. f y ++ flat_map f (drop (i + 1) all)) (sym is)

-- arguments without clocks are not placed
pub none_placed : (ctx : Context) (es : List Term) → placed_each ctx [] es ≡ []
none_placed ctx [] = refl
none_placed ctx (e ∷ es) = refl

-- the terms of arguments from place `i` on are those of argument `i`, which may have no clock, and
-- of the others
pub each_next : (ctx : Context) (ks : List Clock) (es : List Term) (i : ℕ) (e : Term) →
    i < length es → e ≡ get_or es i e →
    placed_each ctx (drop i ks) (drop i es)
    ≡ listed (λ k. placed_terms ctx k e) (slice_get ks i)
    ++ placed_each ctx (drop (i + 1) ks) (drop (i + 1) es)
each_next ctx ks es i e lt is =
    by (placed_each ctx (drop (i + 1) ks) (drop (i + 1) es)) refl (slice_get_cases ks i).1
  where
    by : (later : List FoundTerm) → placed_each ctx (drop (i + 1) ks) (drop (i + 1) es) ≡ later →
        ((k : Clock) × (i < length ks) × (slice_get ks i ≡ Some k) × (get_or ks i k ≡ k))
        ⊎ ((length ks ≤ i) × (slice_get ks i ≡ None)) →
        placed_each ctx (drop i ks) (drop i es)
        ≡ listed (λ k. placed_terms ctx k e) (slice_get ks i) ++ later
    by later h (inl (k, less, at, same)) =
        ap₂ (placed_each ctx) (drop_more ks i k less) (drop_more es i e lt)
        ∙ ap₂ (λ y z. placed_terms ctx y z ++ placed_each ctx (drop (i + 1) ks) (drop (i + 1) es))
        same (sym is)
        ∙ ap (λ l. placed_terms ctx k e ++ l) h
        ∙ sym (ap (λ o. listed (λ k. placed_terms ctx k e) o ++ later) at)
    by later h (inr (le, none)) =
        ap (λ l. placed_each ctx l (drop i es)) (drop_all i ks le) ∙ none_placed ctx (drop i es)
        ∙ sym (ap (λ o. listed (λ k. placed_terms ctx k e) o ++ later) none ∙ sym h
        ∙ ap (λ l. placed_each ctx l (drop (i + 1) es)) (drop_all (i + 1) ks (omega (arith, le)))
        ∙ none_placed ctx (drop (i + 1) es))

-- ## Terms with known operands

pub placed_as :
    (own own' : List Operand) (ts ts' : List FoundTerm) (f g : FoundNode)
    (known left : List Operand) → own' ≡ own → ts' ≡ ts → IsPlaced own ts f g known left →
    IsPlaced own' ts' f g known left
placed_as own own' ts ts' f g known left o t p = λ others is.
    let r = p others (is ∙ ap (λ l. l ++ others) o) in
    (r.0, r.1 ∙ ap (with_terms f) (sym t))

-- a term is placed by noting it and placing the terms within it
pub placed_noted :
    (own : List Operand) (t : FoundTerm) (ts : List FoundTerm) (f noted g : FoundNode)
    (known left : List Operand) → noted ≡ with_term f t → IsPlaced own ts noted g known left →
    IsPlaced own (t ∷ ts) f g known left
placed_noted own t ts f noted g known left n p = λ others is.
    let r = p others is in (r.0, r.1 ∙ ap (λ h. with_terms h ts) n)

pub placed_both :
    (xs ys : List Operand) (ts us : List FoundTerm) (f g h : FoundNode)
    (known mid left : List Operand) → IsPlaced xs ts f g known mid → IsPlaced ys us g h mid left →
    IsPlaced (xs ++ ys) (ts ++ us) f h known left
placed_both xs ys ts us f g h known mid left p q = λ others is.
    let r = p (ys ++ others) (is ∙ append_assoc xs ys others) in
    let s = q others r.0 in
    (s.0, s.1 ∙ ap (λ k. with_terms k us) r.1 ∙ sym (more_terms f ts us))

-- ## Terms from a place on

-- some terms of a row are placed, and the terms `later` are left
abbrev pub AreLeft :
    (own rest : List Operand) (all later : List FoundTerm) (f now : FoundNode)
    (known left : List Operand) → Type 0
AreLeft own rest all later f now known left =
    (others : List Operand) → known ≡ own ++ others →
    (left ≡ rest ++ others) × (with_terms f all ≡ with_terms now later)

pub left_more :
    (own rest xs rest' : List Operand) (all later ts later' : List FoundTerm)
    (f now more : FoundNode) (known left left' : List Operand) →
    AreLeft own rest all later f now known left → rest ≡ xs ++ rest' → later ≡ ts ++ later' →
    IsPlaced xs ts now more left left' → AreLeft own rest' all later' f more known left'
left_more own rest xs rest' all later ts later' f now more known left left' inv r e p =
    λ others is.
    let a = inv others is in
    let s = p (rest' ++ others)
    (a.0 ∙ ap (λ l. l ++ others) r ∙ append_assoc xs rest' others) in (
      s.0,
      a.1 ∙ ap (with_terms now) e ∙ more_terms now ts later'
          ∙ ap (λ g. with_terms g later') (sym s.1),
    )

pub left_end :
    (own rest : List Operand) (all later : List FoundTerm) (f now : FoundNode)
    (known left : List Operand) → AreLeft own rest all later f now known left → rest ≡ [] →
    later ≡ [] → IsPlaced own all f now known left
left_end own rest all later f now known left inv r e = λ others is.
    let a = inv others is in
    (a.0 ∙ ap (λ l. l ++ others) r, sym (a.1 ∙ ap (with_terms now) e))

-- ## Terms by their forms

module _ (ctx : Context) (k : Clock) where
  pub leaf_placed : (t : Term) → IsLeaf t → placed_terms ctx k t ≡ part k ∷ []
  unfolding placed_terms
  leaf_placed t (inl (n, e)) = rw e refl
  leaf_placed t (inr (inl (b, e))) = rw e refl
  leaf_placed t (inr (inr (inl (i, e)))) = rw e refl
  leaf_placed t (inr (inr (inr (x, e)))) = rw e refl

  pub group_placed : (t : Term) (e : Box Term Global) → t ≡ Group e →
      placed_terms ctx k t ≡ placed_terms ctx k e.value
  unfolding placed_terms
  group_placed t e is = rw is refl

  pub operand_placed : (t : Term) (e : Box Term Global) → IsPlain t e →
      placed_terms ctx k t ≡ part k ∷ placed_terms ctx (operand_clock ctx k t) e.value
  unfolding placed_terms
  operand_placed t e (inl (op, is)) = rw is refl
  operand_placed t e (inr (inl is)) = rw is refl
  operand_placed t e (inr (inr (inl (x, sign, is)))) = rw is refl
  operand_placed t e (inr (inr (inr (inl (n, is))))) = rw is refl
  operand_placed t e (inr (inr (inr (inr (inl (i, is)))))) = rw is refl
  operand_placed t e (inr (inr (inr (inr (inr (i, j, is)))))) = rw is refl

  pub current_placed : (t : Term) (e : Box Term Global) → t ≡ Current e →
      placed_terms ctx k t
      ≡ part k ∷ placed_terms ctx (determined_clock (infer_clock ctx e.value)) e.value
  unfolding placed_terms
  current_placed t e is = rw is refl

  pub operands_placed : (t : Term) (a b : Box Term Global) → IsPair t a b →
      placed_terms ctx k t
      ≡ part k ∷ (placed_terms ctx k a.value ++ placed_terms ctx k b.value)
  unfolding placed_terms
  operands_placed t a b (inl (op, is)) = rw is refl
  operands_placed t a b (inr (inl is)) = rw is refl
  operands_placed t a b (inr (inr (inl is))) = rw is refl
  operands_placed t a b (inr (inr (inr is))) = rw is refl

  pub choice_placed : (t : Term) (c a b : Box Term Global) → t ≡ If c a b →
      placed_terms ctx k t
      ≡ part k ∷ (placed_terms ctx k c.value
      ++ (placed_terms ctx k a.value ++ placed_terms ctx k b.value))
  unfolding placed_terms
  choice_placed t c a b is = rw is refl

  -- ## Rows

  row_items : (n : _) (row : Row_of-Term n) →
      placed_row ctx k row ≡ placed_all ctx k (items-the_row-Term n row)
  unfolding placed_terms
  row_items n end_of-Term = refl
  row_items n (more_of-Term e rest) = ap (λ l. placed_terms ctx k e ++ l) (row_items _ rest)

  placed_in : (t : Term) (es : Vec Term Global) → IsPlainRow t es →
      placed_terms ctx k t ≡ row_term k t ∷ placed_row ctx k (row_in t).1
  unfolding placed_terms
  placed_in t es (inl e) = rw e refl
  placed_in t es (inr (inl e)) = rw e refl
  placed_in t es (inr (inr (inl e))) = rw e refl
  placed_in t es (inr (inr (inr (inl (it, c, e))))) = rw e refl
  placed_in t es (inr (inr (inr (inr (it, op, n, e))))) = rw e refl

  pub row_placed : (t : Term) (es : Vec Term Global) → IsPlainRow t es →
      placed_terms ctx k t ≡ row_term k t ∷ placed_all ctx k es.items
  row_placed t es is =
      placed_in t es is
      ∙ ap (λ l. row_term k t ∷ l)
      (row_items _ (row_in t).1 ∙ ap (placed_all ctx k) (row_is t es (wide_row t es is)))

module _ (ctx : Context) where
  argument_items : (ks : List Clock) (n : _) (row : Row_of-Term n) →
      placed_arguments ctx ks row ≡ placed_each ctx ks (items-the_row-Term n row)
  unfolding placed_terms
  argument_items ks n end_of-Term = refl
  argument_items [] n (more_of-Term e rest) = refl
  argument_items (k ∷ ks) n (more_of-Term e rest) =
      ap (λ l. placed_terms ctx k e ++ l) (argument_items ks _ rest)

  -- the found terms of a call, whose arguments have clocks that come from its operands
  pub call_placed : (k : Clock) (c : CallId) (es : Vec Term Global) →
      placed_terms ctx k (Call c es)
      ≡ called k (nested_call k (operands_of ctx es.items) (ctx.callee c))
      ∷ placed_each ctx (call_clocks ctx k c (operands_of ctx es.items)) es.items
  unfolding placed_terms
  call_placed k c es =
      let t = Call c es in
      let row = (row_in (Call c es)).1 in
      let same = items_hidden-the_row-Term-0 es in
      let os = same_operands ctx t es same in
      ap₂ (λ f l. called k f ∷ l) (ap (λ l. nested_call k l (ctx.callee c)) os)
      (argument_items (call_clocks ctx k c (operands_in ctx row)) _ row
      ∙ ap₂ (λ l es. placed_each ctx (call_clocks ctx k c l) es) os same)

  pub side_group : (lefts : List VariableId) (t : Term) (e : Box Term Global) → t ≡ Group e →
      placed_side ctx lefts t ≡ placed_side ctx lefts e.value
  unfolding placed_side
  side_group lefts t e is = rw is refl

  pub side_placed : (lefts : List VariableId) (c : CallId) (es : Vec Term Global) →
      placed_side ctx lefts (Call c es)
      ≡ placed_call ctx lefts (operands_of ctx es.items) es.items (ctx.callee c)
  unfolding placed_side
  side_placed lefts c es =
      let t = Call c es in
      let row = (row_in (Call c es)).1 in
      let same = items_hidden-the_row-Term-0 es in
      let os = same_operands ctx t es same in
      ap₂ (λ f l. called (left_clock ctx lefts) f ∷ l)
      (ap (λ l. side_call ctx lefts l (ctx.callee c)) os)
      (argument_items (side_clocks ctx lefts (operands_in ctx row) (ctx.callee c)) _ row
      ∙ ap₂ (λ l es. placed_each ctx (side_clocks ctx lefts l (ctx.callee c)) es) os same)
