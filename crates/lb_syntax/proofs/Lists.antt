-- Lists: what is read is spelled, and what is spelled is read.
use Rattle.std.proofs.Common.{◌≡◌, ℕ, suc, zero, ◌+◌, ◌≤◌, ◌<◌, List, [], ◌∷◌, length, Option, Some}
use Rattle.std.proofs.Common.{None, refl, ap, sym, subst, ◌∙◌, arith}
use Rattle.lb_syntax.specs.declared.token.Mark.TheVariants as m
use Rattle.lb_syntax.specs.declared.token.Token.{Token}
use Rattle.lb_syntax.specs.Spelling.{Span, IsMark, IsTail, IsList, IsSpelled, AreSpelled, AreMore}
use Rattle.lb_syntax.specs.Spelling.{MayBeSpelled}
use Rattle.lb_syntax.specs.Tree.{Expr, Exprs, Nil, Cons}
use Rattle.lb_syntax.specs.Readers.{Reader}
use Rattle.lb_syntax.specs.Reading.{next_item, tail_at, list_at, exprs}
use Rattle.lb_syntax.proofs.Readers.{some, some_is, bind_some}

-- ---- what is read is spelled

module _ {A : Type 0} (Separates : Span) (Is : A → Span)
    (separates : List Token → Option (List Token)) (item : Reader A)
    (separator_read : (ts rest : List Token) → separates ts ≡ Some rest → Separates ts rest)
    (item_read : (ts : List Token) (r : A × List Token) → item ts ≡ Some r → Is r.0 ts r.1) where
  abbrev Tail : List Token → List A × List Token → Type 0
  Tail ts r = IsTail Separates Is r.0 ts r.1

  by_separator : (ts : List Token) (r : List A × List Token) (tail : Reader (List A)) →
      ((us : List Token) (q : List A × List Token) → tail us ≡ Some q → Tail us q) →
      (o : Option (List Token)) → separates ts ≡ o → next_item item tail o ts ≡ Some r → Tail ts r
  by_separator ts r tail ih None is h = subst (Tail ts) (some_is h) refl
  by_separator ts r tail ih (Some after) is h =
      let x = bind_some (item after) _ r h in
      let xs = bind_some (tail x.0.1) _ r x.2 in
      subst (Tail ts) (some_is xs.2)
      (after, separator_read ts after is, (x.0.1, item_read after x.0 x.1, ih x.0.1 xs.0 xs.1))

  pub tail_read : (n : ℕ) (ts : List Token) (r : List A × List Token) → tail_at separates item n ts
      ≡ Some r → Tail ts r
  unfolding tail_at
  tail_read zero ts r h = subst (Tail ts) (some_is h) refl
  tail_read (suc n) ts r h =
      by_separator ts r (tail_at separates item n) (tail_read n) (separates ts) refl h

  pub list_read : (ts : List Token) (r : List A × List Token) → list_at separates item ts ≡ Some r →
      IsList Separates Is r.0 ts r.1
  unfolding list_at
  list_read ts r h =
      let x = bind_some (item ts) _ r h in
      let xs = bind_some (tail_at separates item (length x.0.1) x.0.1) _ r x.2 in
      subst (λ z. IsList Separates Is z.0 ts z.1) (some_is xs.2)
      (x.0.1, item_read ts x.0 x.1, tail_read (length x.0.1) x.0.1 xs.0 xs.1)

-- ---- lists of expressions

abbrev comma : Span
comma = IsMark m.Comma

pub more_spelled : (es : List Expr) (ts rest : List Token) → IsTail comma IsSpelled es ts rest →
    AreMore (exprs es) ts rest
more_spelled [] ts rest s = s
more_spelled (e ∷ es) ts rest s = (s.0, s.1, (s.2.0, s.2.1, more_spelled es s.2.0 rest s.2.2))

pub all_spelled : (es : List Expr) (ts rest : List Token) → IsList comma IsSpelled es ts rest →
    AreSpelled (exprs es) ts rest
all_spelled [] ts rest s = s
all_spelled (e ∷ es) ts rest s = (s.0, s.1, more_spelled es s.0 rest s.2)

pub may_be_spelled : (es : List Expr) (ts rest : List Token) → IsList comma IsSpelled es ts rest →
    MayBeSpelled (exprs es) ts rest
may_be_spelled [] ts rest s = absurd s
may_be_spelled (e ∷ es) ts rest s = (s.0, s.1, more_spelled es s.0 rest s.2)

-- ---- what is spelled is read

abbrev pub Readable : {A : Type 0} → (A → Type 0) → List A → Type 0
Readable CanRead [] = Unit {0}
Readable CanRead (x ∷ xs) = CanRead x × Readable CanRead xs

module _ {A : Type 0} (Separates : Span) (Is : A → Span)
    (separates : List Token → Option (List Token)) (item : Reader A)
    (CanRead : A → Type 0) (EndsItem : List Token → Type 0)
    (separator_reads : (ts rest : List Token) → Separates ts rest → separates ts ≡ Some rest)
    (separator_ends : (ts rest : List Token) → Separates ts rest → EndsItem ts)
    (separator_room : (ts rest : List Token) → Separates ts rest → length rest < length ts)
    (item_room : (x : A) (ts rest : List Token) → Is x ts rest → length rest ≤ length ts)
    (item_reads : (x : A) (ts rest : List Token) → CanRead x → Is x ts rest → EndsItem rest →
    item ts ≡ Some (x, rest)) where
  tail_ends : (xs : List A) (ts rest : List Token) → IsTail Separates Is xs ts rest →
      EndsItem rest → EndsItem ts
  tail_ends [] ts rest s ends = subst EndsItem (sym s) ends
  tail_ends (x ∷ xs) ts rest s ends = separator_ends ts s.0 s.1

  tail_room : (xs : List A) (ts rest : List Token) → IsTail Separates Is xs ts rest →
      length xs + length rest ≤ length ts
  tail_room [] ts rest s = omega (arith, ap length s)
  tail_room (x ∷ xs) ts rest s =
      omega (
        arith,
        separator_room ts s.0 s.1,
        item_room x s.0 s.2.0 s.2.1,
        tail_room xs s.2.0 rest s.2.2,
      )

  tail_reads : (n : ℕ) (xs : List A) (ts rest : List Token) → Readable CanRead xs →
      IsTail Separates Is xs ts rest → EndsItem rest → separates rest ≡ None → length xs ≤ n →
      tail_at separates item n ts ≡ Some (xs, rest)
  unfolding tail_at
  tail_reads zero [] ts rest can s ends last le = ap (λ z. some ([], z)) s
  tail_reads (suc n) [] ts rest can s ends last le =
      ap (tail_at separates item (suc n)) s ∙ rw last refl
  tail_reads zero (x ∷ xs) ts rest can s ends last le = absurd (omega arith)
  tail_reads (suc n) (x ∷ xs) ts rest can s ends last le =
      rw (
        separator_reads ts s.0 s.1,
        item_reads x s.0 s.2.0 can.0 s.2.1 (tail_ends xs s.2.0 rest s.2.2 ends),
        tail_reads n xs s.2.0 rest can.1 s.2.2 ends last (omega arith),
      ) refl

  pub list_reads : (xs : List A) (ts rest : List Token) → Readable CanRead xs →
      IsList Separates Is xs ts rest → EndsItem rest → separates rest ≡ None →
      list_at separates item ts ≡ Some (xs, rest)
  unfolding list_at
  list_reads [] ts rest can s ends last = absurd s
  list_reads (x ∷ xs) ts rest can s ends last =
      rw (
        item_reads x ts s.0 can.0 s.1 (tail_ends xs s.0 rest s.2 ends),
        tail_reads (length s.0) xs s.0 rest can.1 s.2 ends last
            (omega (arith, tail_room xs s.0 rest s.2)),
      ) refl

-- ---- lists of expressions, from the tree back to the list

abbrev pub list_of : Exprs → List Expr
list_of Nil = []
list_of (Cons e es) = e ∷ list_of es

pub exprs_list : (es : Exprs) → exprs (list_of es) ≡ es
exprs_list Nil = refl
exprs_list (Cons e es) = ap (λ (z : Exprs). Cons e z) (exprs_list es)

pub spelled_more : (es : Exprs) (ts rest : List Token) → AreMore es ts rest →
    IsTail comma IsSpelled (list_of es) ts rest
spelled_more Nil ts rest s = s
spelled_more (Cons e es) ts rest s = (s.0, s.1, (s.2.0, s.2.1, spelled_more es s.2.0 rest s.2.2))

pub spelled_all : (es : Exprs) (ts rest : List Token) → AreSpelled es ts rest →
    IsList comma IsSpelled (list_of es) ts rest
spelled_all Nil ts rest s = s
spelled_all (Cons e es) ts rest s = (s.0, s.1, spelled_more es s.0 rest s.2)
