-- A name is text: its bytes are ASCII.
use Rattle.std.proofs.Common.{◌≡◌, ◌<◌, ℕ, suc, Bool, true, false, cond, List, [], ◌∷◌, ◌+◌, take}
use Rattle.std.proofs.Common.{refl, subst, arith}
use Rattle.std.specs.Prelude.{take_while}
use Rattle.std.specs.List.{prefix_len}
use Rattle.std.specs.Str.{IsAscii, IsUtf8}
use Rattle.std.proofs.lemmas.Bool.Decides.{nat_tests}
use Rattle.std.proofs.lemmas.Str.{IsUtf8-from_ascii}
use Rattle.std.proofs.lemmas.Str.Ascii.{IsAscii-cons, IsAscii-nil}
use Rattle.lb_syntax.specs.Tokens.{continues_name}

continues_ascii : (b : ℕ) → continues_name b ≡ true → b < 128
continues_ascii b e = grind (arith, nat_tests)

name_ascii : (bs : List ℕ) → IsAscii (take_while continues_name bs)
name_ascii [] = IsAscii-nil
name_ascii (b ∷ bs) = by (continues_name b) (prefix_len continues_name bs) (name_ascii bs)
    (continues_ascii b)
  where
    by : (c : Bool) (n : ℕ) → IsAscii (take n bs) → (c ≡ true → b < 128)
        → IsAscii (take (cond c (1 + n) 0) (b ∷ bs))
    by true n h lt =
        let e : suc n ≡ 1 + n = omega arith in
        subst (λ m. IsAscii (take m (b ∷ bs))) e (IsAscii-cons b (take n bs) (lt refl) h)
    by false n h lt = IsAscii-nil

pub name_is_text : (bs : List ℕ) → IsUtf8 (take_while continues_name bs)
name_is_text bs = IsUtf8-from_ascii (take_while continues_name bs) (name_ascii bs)
