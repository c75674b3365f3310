-- Tests of the next token, and lists of any number of items.
-- This file mirrors code (src/lookahead.rt, src/list.rt); no definition of the language stands on
-- it.
use Rattle.std.specs.Prelude.{Bool, false, true, if◌then◌else◌, List, [], ◌∷◌, ◌++◌, length}
use Rattle.std.specs.Prelude.{Option, Some, None}
use Rattle.lb_syntax.specs.declared.token.Mark.{Mark}
use Rattle.lb_syntax.specs.declared.token.Mark.TheVariants as m
use Rattle.lb_syntax.specs.declared.token.Token.{Token}
use Rattle.lb_syntax.specs.declared.token.Token.TheVariants as token
use Rattle.lb_syntax.specs.Readers.{◌>>=◌, Reader, expect}
use Rattle.lb_syntax.specs.Reading.{tail_at}

abbrev pub is_name : List Token → Bool
is_name (token.Name x ∷ ts) = true
is_name _ = false

-- the tokens `ts`, if a name comes next
abbrev pub at_name : List Token → Option (List Token)
at_name ts = if is_name ts then Some ts else None

abbrev pub skip_by : Option (List Token) → List Token → List Token
skip_by (Some after) ts = after
skip_by None ts = ts

-- the tokens after the mark `k`, or `ts` if it does not come next
abbrev pub skip : Mark → List Token → List Token
skip k ts = skip_by (expect k ts) ts

abbrev pub unless : Option (List Token) → List Token → Option (List Token)
unless (Some after) ts = None
unless None ts = Some ts

-- the tokens after `;`, if a name follows it
unfoldable pub at_next_group : List Token → Option (List Token)
at_next_group ts = expect m.Semicolon ts >>= at_name

abbrev pub local_by : Option (List Token) → List Token → Option (List Token)
local_by (Some after) ts = Some after
local_by None ts = at_name ts

-- the tokens after `var`, or `ts` if a name comes next
unfoldable pub at_next_local : List Token → Option (List Token)
at_next_local ts = local_by (expect m.Var ts) ts

-- the tokens `ts`, unless `tel` comes next
unfoldable pub at_next_statement : List Token → Option (List Token)
at_next_statement ts = unless (expect m.Tel ts) ts

-- a result that was read: `x`, and the tokens `ts` after it
abbrev pub beside : {A : Type 0} → A → List Token → Option (A × List Token)
beside x ts = Some (x, ts)

-- the items `front` and behind them the item that was read
abbrev pub pushed : {A : Type 0} → List A → Option (A × List Token) → Option (List A × List Token)
pushed front read = read >>= λ x. Some (front ++ x.0 ∷ [], x.1)

-- any number of items, each after a separator
unfoldable pub any_at : {A : Type 0} → (List Token → Option (List Token)) → Reader A →
    Reader (List A)
any_at separates item ts = tail_at separates item (length ts) ts
