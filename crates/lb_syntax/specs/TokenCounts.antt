-- Mirrors the code of `over_limit`: one walk over the tokens, with a depth and a count. The limits
-- themselves are defined in Limits.
use Rattle.std.specs.Prelude.{ℕ, suc, ◌+◌, ◌&&◌, if◌then◌else◌, nat_le, List, []}
use Rattle.std.specs.Prelude.{◌∷◌, Option, Some, None}
use Rattle.std.specs.Option.{option_map}
use Rattle.lb_syntax.specs.declared.token.Token.{Token}
use Rattle.lb_syntax.specs.Limits.{is_short_name, is_small_literal, is_separator, depth_after}
use Rattle.lb_syntax.specs.Limits.{is_counted}

-- the weight of a token: 1 if it is counted, else 0
abbrev pub weight_of : Token → ℕ
weight_of t = if is_counted t then 1 else 0

-- the number of counted tokens of the statement once `t` is read, or none where `t` breaks a limit
abbrev pub counted_after : ℕ → ℕ → Token → Option ℕ
counted_after depth counted t =
    let more = counted + weight_of t in
    if is_short_name t && is_small_literal t
    then (if is_separator depth t then Some 0 else (if nat_le more 500 then Some more else None))
    else None

-- index 0 where the token at hand breaks a limit, else the index that `later` finds, plus 1
abbrev pub here_or : (ℕ → Option ℕ) → Option ℕ → Option ℕ
here_or later None = Some 0
here_or later (Some counted) = option_map (λ n. suc n) (later counted)

-- The index of the first token that breaks a limit. The list begins inside `depth` static brackets
-- of a statement, and `counted` tokens of this statement are counted already.
abbrev pub over_from : ℕ → ℕ → List Token → Option ℕ
over_from depth counted [] = None
over_from depth counted (t ∷ ts) =
    here_or (λ more. over_from (depth_after depth t) more ts) (counted_after depth counted t)
