-- Lists of any items: what is read is spelled, and what is spelled is read.
use Rattle.std.proofs.Common.{◌≡◌, ℕ, zero, suc, ◌<◌, ◌≤◌, List, [], ◌∷◌, length, Option, Some}
use Rattle.std.proofs.Common.{None, refl, ap, sym, ◌∙◌, subst, arith}
use Rattle.lb_syntax.specs.declared.token.Token.{Token}
use Rattle.lb_syntax.specs.Readers.{Reader}
use Rattle.lb_syntax.specs.Spelling.{Span, IsTail, IsList}
use Rattle.lb_syntax.specs.ListReading.{any_at}
use Rattle.lb_syntax.specs.Reading.{tail_at, list_at}
use Rattle.lb_syntax.proofs.Lists as lists
use Rattle.lb_syntax.proofs.Lists.{tail_read}

-- The reader `read` of an item agrees with its spelling `item`, and the test `next` for a further
-- item agrees with the separator `between`. An item is read where it is closed: where nothing
-- follows that would belong to it.
pub record GoWith {A : Type 0} (between : Span) (item : A → Span) (Closed : List Token → Type 0)
    (next : List Token → Option (List Token)) (read : Reader A) : Type 0 where
  pub next_is : (ts start : List Token) → next ts ≡ Some start → between ts start
  pub item_is : (ts : List Token) (r : A × List Token) → read ts ≡ Some r → item r.0 ts r.1
  pub goes_on : (x : A) (ts start rest : List Token) → between ts start → item x start rest →
      next ts ≡ Some start
  pub terminated : (x : A) (ts start rest : List Token) → between ts start → item x start rest →
      Closed ts
  pub reads : (x : A) (ts rest : List Token) → item x ts rest → Closed rest →
      read ts ≡ Some (x, rest)
  pub shorter : (x : A) (ts start rest : List Token) → between ts start → item x start rest →
      length rest < length ts

module _ {A : Type 0} {between : Span} {item : A → Span} {Closed : List Token → Type 0}
    {next : List Token → Option (List Token)} {read : Reader A}
    (laws : GoWith between item Closed next read) where
  pub any_read : (ts : List Token) (r : List A × List Token) → any_at next read ts ≡ Some r →
      IsTail between item r.0 ts r.1
  unfolding any_at
  any_read ts r h = tail_read between item next read laws.next_is laws.item_is (length ts) ts r h

  pub list_read : (ts : List Token) (r : List A × List Token) → list_at next read ts ≡ Some r →
      IsList between item r.0 ts r.1
  list_read ts r h = lists.list_read between item next read laws.next_is laws.item_is ts r h

  -- the rest of a list closes the item before it
  more_closed : (xs : List A) (ts rest : List Token) → IsTail between item xs ts rest →
      Closed rest → Closed ts
  more_closed [] ts rest s c = subst Closed (sym s) c
  more_closed (x ∷ xs) ts rest s c = laws.terminated x ts s.0 s.2.0 s.1 s.2.1

  tail_reads : (n : ℕ) (xs : List A) (ts rest : List Token) → length ts ≤ n →
      IsTail between item xs ts rest →
      Closed rest → next rest ≡ None → tail_at next read n ts ≡ Some (xs, rest)
  unfolding tail_at
  tail_reads zero [] ts rest le s c stop = ap (λ z. Some ([], z)) s
  tail_reads (suc n) [] ts rest le s c stop =
      ap (tail_at next read (suc n)) s ∙ rw stop refl
  tail_reads zero (x ∷ xs) ts rest le s c stop =
      let lt = laws.shorter x ts s.0 s.2.0 s.1 s.2.1 in
      absurd (omega arith)
  tail_reads (suc n) (x ∷ xs) ts rest le s c stop =
      let lt = laws.shorter x ts s.0 s.2.0 s.1 s.2.1 in
      let on = laws.goes_on x ts s.0 s.2.0 s.1 s.2.1 in
      let one = laws.reads x s.0 s.2.0 s.2.1 (more_closed xs s.2.0 rest s.2.2 c) in
      let later = tail_reads n xs s.2.0 rest (omega arith) s.2.2 c stop in
      rw (on, one, later) refl

  pub any_reads : (xs : List A) (ts rest : List Token) → IsTail between item xs ts rest →
      Closed rest → next rest ≡ None →
      any_at next read ts ≡ Some (xs, rest)
  unfolding any_at
  any_reads xs ts rest s c stop = tail_reads (length ts) xs ts rest (omega arith) s c stop

  pub list_reads : (xs : List A) (ts rest : List Token) → IsList between item xs ts rest →
      Closed rest → next rest ≡ None →
      list_at next read ts ≡ Some (xs, rest)
  unfolding list_at
  list_reads [] ts rest s c stop = absurd s
  list_reads (x ∷ xs) ts rest s c stop =
      let one = laws.reads x ts s.0 s.1 (more_closed xs s.0 rest s.2 c) in
      let later = tail_reads (length s.0) xs s.0 rest (omega arith) s.2 c stop in
      rw (one, later) refl
