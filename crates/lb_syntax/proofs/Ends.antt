-- Ends of a tree: tokens after it that do not go on with it.
use Rattle.std.proofs.Common.{◌≡◌, ℕ, Bool, true, false, List, [], ◌∷◌, Option, Some, None, inl}
use Rattle.std.proofs.Common.{inr, refl, ap, sym, subst, ◌∙◌, rules}
use Rattle.std.specs.Prelude.{◌≢◌}
use denote.Enum.Bare.{sameb, same_true}
use Rattle.lb_syntax.specs.contracts.token.Mark.{the_type}
use Rattle.lb_syntax.specs.declared.level.Form.TheVariants as form
use Rattle.lb_syntax.specs.declared.token.Mark.{Mark}
use Rattle.lb_syntax.specs.declared.token.Mark.TheVariants as m
use Rattle.lb_syntax.specs.declared.token.Token.{Token}
use Rattle.lb_syntax.specs.declared.token.Token.TheVariants as token
use Rattle.lb_syntax.specs.Tree.{BinaryOperator}
use Rattle.lb_syntax.specs.Levels.{Form, row_of, form_of}
use Rattle.lb_syntax.specs.Spelling.{IsMark, IsForm, IsSeparator, IsArithmetic}
use Rattle.lb_syntax.specs.Readers.{expect}
use Rattle.lb_syntax.specs.Reading.{form_at, arithmetic_at}

-- the level of a form, or 0 where there is none
abbrev pub form_level : Option Form → ℕ
form_level (Some f) = (row_of f).level
form_level None = 0

abbrev pub next_level : List Token → ℕ
next_level [] = 0
next_level (t ∷ ts) = form_level (form_at t)

-- the level of an operator of static expressions, or 0 where there is none
abbrev pub arithmetic_level : Option BinaryOperator → ℕ
arithmetic_level (Some op) = (row_of (form.Data op)).level
arithmetic_level None = 0

abbrev pub static_next : List Token → ℕ
static_next [] = 0
static_next (t ∷ ts) = arithmetic_level (arithmetic_at t)

-- no bracket comes next that would make a call or an iterator of a name
pub record IsClear (rest : List Token) : Type 0 where
  pub no_call : expect m.Open rest ≡ None
  pub no_statics : expect m.OpenStatic rest ≡ None

-- nothing comes next that goes on with an expression
pub record Ends (rest : List Token) : Type 0 where
  pub none : next_level rest ≡ 0
  pub clear : IsClear rest

-- nothing comes next that goes on with a static expression
abbrev pub EndsStatic : List Token → Type 0
EndsStatic rest = static_next rest ≡ 0

-- ---- ends

pub ends_here : Ends []
unfolding expect
ends_here = record { none = refl; clear = record { no_call = refl; no_statics = refl } }

by_same : (k mark : Mark) (ts : List Token) → mark ≢ k → (b : Bool) → sameb the_type mark k ≡ b →
    expect k (token.Mark mark ∷ ts) ≡ None
unfolding expect
by_same k mark ts other true is = absurd (other (same_true the_type (search rules) mark k is))
by_same k mark ts other false is = rw is refl

pub expect_other : (k mark : Mark) (ts : List Token) → mark ≢ k → expect k (token.Mark mark ∷ ts)
    ≡ None
expect_other k mark ts other = by_same k mark ts other (sameb the_type mark k) refl

-- a mark that belongs to no form, and is no `(` and no `<<`, ends every expression
pub ends_at : (mark : Mark) (ts : List Token) → form_of mark ≡ None → mark ≢ m.Open →
    mark ≢ m.OpenStatic → Ends (token.Mark mark ∷ ts)
ends_at mark ts none a b = record {
  none = ap form_level none;
  clear = record
      { no_call = expect_other m.Open mark ts a; no_statics = expect_other m.OpenStatic mark ts b };
}

pub ends_mark : (mark : Mark) (ts rest : List Token) → IsMark mark ts rest →
    Ends (token.Mark mark ∷ rest) → Ends ts
ends_mark mark ts rest is ends = subst Ends (sym is) ends

pub ends_close : (ts : List Token) → Ends (token.Mark m.Close ∷ ts)
ends_close ts = ends_at m.Close ts refl (λ e. absurd cc) (λ e. absurd cc)

pub ends_close_bracket : (ts : List Token) → Ends (token.Mark m.CloseBracket ∷ ts)
ends_close_bracket ts = ends_at m.CloseBracket ts refl (λ e. absurd cc) (λ e. absurd cc)

pub ends_comma : (ts : List Token) → Ends (token.Mark m.Comma ∷ ts)
ends_comma ts = ends_at m.Comma ts refl (λ e. absurd cc) (λ e. absurd cc)

pub ends_semicolon : (ts : List Token) → Ends (token.Mark m.Semicolon ∷ ts)
ends_semicolon ts = ends_at m.Semicolon ts refl (λ e. absurd cc) (λ e. absurd cc)

pub ends_then : (ts : List Token) → Ends (token.Mark m.Then ∷ ts)
ends_then ts = ends_at m.Then ts refl (λ e. absurd cc) (λ e. absurd cc)

pub ends_else : (ts : List Token) → Ends (token.Mark m.Else ∷ ts)
ends_else ts = ends_at m.Else ts refl (λ e. absurd cc) (λ e. absurd cc)

-- a separator ends a static expression
pub separator_ends : (ts rest : List Token) → IsSeparator ts rest → EndsStatic ts
separator_ends ts rest (inl e) = subst EndsStatic (sym e) refl
separator_ends ts rest (inr e) = subst EndsStatic (sym e) refl

-- ---- forms at the front

pub form_next : (f : Form) (ts rest : List Token) → IsForm f ts rest → next_level ts
    ≡ (row_of f).level
form_next f ts rest is = ap next_level is.2 ∙ ap form_level is.1

form_other : (k mark : Mark) (f : Form) → form_of mark ≡ Some f → form_of k ≡ None → mark ≢ k
form_other k mark f is none e = let g = ap form_of e in absurd cc

pub form_clear : (f : Form) (ts rest : List Token) → IsForm f ts rest → IsClear ts
form_clear f ts rest is =
    subst IsClear (sym is.2)
    (record {
      no_call = expect_other m.Open is.0 rest (form_other m.Open is.0 f is.1 refl);
      no_statics = expect_other m.OpenStatic is.0 rest (form_other m.OpenStatic is.0 f is.1 refl);
    })

pub arithmetic_next : (op : BinaryOperator) (ts rest : List Token) → IsArithmetic op ts rest →
    static_next ts ≡ (row_of (form.Data op)).level
arithmetic_next op ts rest is = ap static_next is.2 ∙ ap arithmetic_level is.1
