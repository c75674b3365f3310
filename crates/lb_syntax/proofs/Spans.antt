-- Spans of tokens: their readers, and the least number of tokens that they take.
use Rattle.std.proofs.Common.{◌≡◌, ℕ, ◌+◌, ◌≤◌, inl, inr, List, [], ◌∷◌, length, Some, refl, ap}
use Rattle.std.proofs.Common.{sym, subst, arith}
use Rattle.lb_syntax.specs.declared.token.Mark.{Mark}
use Rattle.lb_syntax.specs.declared.token.Token.{Token}
use Rattle.lb_syntax.specs.Tree.{Name}
use Rattle.lb_syntax.specs.Readers.{expect, name_at}
use Rattle.lb_syntax.specs.Spelling.{Span, ◌▸◌, IsName, IsMark, IsSeparator, IsTail, IsList}
use Rattle.lb_syntax.specs.Grammar.{IsNothing, IsEither, MayBe}
use Rattle.lb_syntax.proofs.Readers.{some, some_is, expect_same}

pub mark_reads : (k : Mark) (ts rest : List Token) → IsMark k ts rest → expect k ts ≡ Some rest
mark_reads k ts rest s = subst (λ z. expect k z ≡ Some rest) (sym s) (expect_same k rest)

pub name_reads : (x : Name) (ts rest : List Token) → IsName x ts rest → name_at ts ≡ Some (x, rest)
unfolding name_at
name_reads x ts rest s = rw s refl

-- the tokens that spell the result `made` spell the result `given`, where the two are equal
pub made_is : {A : Type 0} (Is : A → Span) (ts : List Token) (made given : A × List Token) →
    some made ≡ Some given →
    Is made.0 ts made.1 → Is given.0 ts given.1
made_is Is ts made given same stands = subst (λ z. Is z.0 ts z.1) (some_is same) stands

-- ---- spans of at least `n` tokens

pub record Takes (n : ℕ) (Is : Span) : Type 0 where
  pub takes : (ts rest : List Token) → Is ts rest → n + length rest ≤ length ts

pub takes_mark : (k : Mark) → Takes 1 (IsMark k)
takes_mark k = record { takes = λ ts rest s. let e = ap length s in omega arith }

pub takes_name : (x : Name) → Takes 1 (IsName x)
takes_name x = record { takes = λ ts rest s. let e = ap length s in omega arith }

pub takes_nothing : Takes 0 IsNothing
takes_nothing = record { takes = λ ts rest s. let e = ap length s in omega arith }

pub takes_then : {a b : ℕ} {First Second : Span} → Takes a First → Takes b Second →
    Takes (a + b) (First ▸ Second)
takes_then f g = record {
  takes = λ ts rest s.
      let x = f.takes ts s.0 s.1 in
      let y = g.takes s.0 rest s.2 in
      omega arith;
}

pub takes_either : {n : ℕ} {First Second : Span} → Takes n First → Takes n Second →
    Takes n (IsEither First Second)
takes_either f g = record {
  takes = λ ts rest s. elim s [ inl a ↦ f.takes ts rest a | inr b ↦ g.takes ts rest b ];
}

-- a span of at least `n` tokens has at least `k` tokens, where `k` is at most `n`
pub takes_less : {Is : Span} (n k : ℕ) → k ≤ n → Takes n Is → Takes k Is
takes_less n k le f = record { takes = λ ts rest s. let x = f.takes ts rest s in omega arith }

-- a span of at least `n` tokens has at least 0 tokens
pub takes_any : {n : ℕ} {Is : Span} → Takes n Is → Takes 0 Is
takes_any f = record { takes = λ ts rest s. let x = f.takes ts rest s in omega arith }

pub takes_may : {n : ℕ} {Is : Span} → Takes n Is → Takes 0 (MayBe Is)
takes_may f = takes_either takes_nothing (takes_any f)

pub takes_separator : Takes 1 IsSeparator
takes_separator = takes_either (takes_mark _) (takes_mark _)

module _ {A : Type 0} {n k : ℕ} {Separates : Span} {Is : A → Span}
    (s : Takes n Separates) (i : (x : A) → Takes k (Is x)) where
  tail_length : (xs : List A) (ts rest : List Token) → IsTail Separates Is xs ts rest →
      length rest ≤ length ts
  tail_length [] ts rest e = omega (arith, ap length e)
  tail_length (x ∷ xs) ts rest e =
      let a = s.takes ts e.0 e.1 in
      let b = (i x).takes e.0 e.2.0 e.2.1 in
      let c = tail_length xs e.2.0 rest e.2.2 in
      omega arith

  pub takes_tail : (xs : List A) → Takes 0 (IsTail Separates Is xs)
  takes_tail xs = record { takes = λ ts rest e. let l = tail_length xs ts rest e in omega arith }

  pub takes_list : (xs : List A) → Takes 0 (IsList Separates Is xs)
  takes_list [] = record { takes = λ ts rest e. absurd e }
  takes_list (x ∷ xs) = takes_any (takes_then (i x) (takes_tail xs))
