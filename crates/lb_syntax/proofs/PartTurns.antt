-- The turns of the loop that reads a program part by part.
use Rattle.std.proofs.Common.{◌≡◌, ℕ, zero, suc, ◌+◌, ◌-◌, ◌<◌, ◌≤◌, List, [], ◌∷◌, ◌++◌, length}
use Rattle.std.proofs.Common.{Option, Some, None, refl, ap, sym, ◌∙◌, append_assoc, arith}
use Rattle.std.proofs.lemmas.List.{append-nil}
use Rattle.lb_syntax.specs.declared.reader.ReadError.{ReadError}
use Rattle.lb_syntax.specs.declared.reader.ReadError.TheVariants as error
use Rattle.lb_syntax.specs.declared.token.Token.{Token}
use Rattle.lb_syntax.specs.Grammar.{Part, Constants, Single, source_of}
use Rattle.lb_syntax.specs.Parts.{added, followed}
use Rattle.lb_syntax.specs.Programs.{part_at, parts_at, source_at}
use Rattle.lb_syntax.specs.Readers.{◌>>=◌, Fails}
use Rattle.lb_syntax.specs.Tree.{Source, Constant, Node}
use Rattle.lb_syntax.proofs.Turns.{one_more, no_more}

abbrev source : List Constant → List Node → Source
source constants nodes = record { constants = constants; nodes = nodes }

abbrev pub nothing : Source
nothing = source [] []

from_nothing : (parts : Option (List Part)) →
    (parts >>= λ ps. Some (source_of ps)) ≡ followed nothing parts
from_nothing (Some ps) = refl
from_nothing None = refl

-- the program of the tokens is the empty program, followed by the parts that are read from them
pub source_begins : (ts : List Token) →
    source_at ts ≡ followed nothing (parts_at (length ts - 0) ts)
unfolding source_at
source_begins ts =
    let e : length ts ≡ length ts - 0 = omega arith in
    from_nothing (parts_at (length ts) ts) ∙ ap (λ n. followed nothing (parts_at n ts)) e

followed_none : (s : Source) → followed s (Some []) ≡ Some s
followed_none s =
    ap (λ cs. Some (source cs (s.nodes ++ []))) (append-nil s.constants)
    ∙ ap (λ ns. Some (source s.constants ns)) (append-nil s.nodes)

followed_more : (s : Source) (p : Part) (parts : Option (List Part)) →
    followed s (parts >>= λ ps. Some (p ∷ ps)) ≡ followed (added s p) parts
followed_more s (Constants cs) (Some ps) =
    ap (λ cs. Some (source cs (s.nodes ++ (source_of ps).nodes)))
    (sym (append_assoc s.constants cs (source_of ps).constants))
followed_more s (Single n) (Some ps) =
    ap (λ ns. Some (source (s.constants ++ (source_of ps).constants) ns))
    (sym (append_assoc s.nodes (n ∷ []) (source_of ps).nodes))
followed_more s p None = refl

-- the program `s`, followed by the parts that `n` turns read from `rest`
abbrev pub left : Source → List Token → ℕ → Option Source
left s rest n = followed s (parts_at n rest)

all_read : (s : Source) (n : ℕ) (rest : List Token) → length rest ≡ 0 → left s rest n ≡ Some s
unfolding parts_at
all_read s zero [] e = followed_none s
all_read s (suc n) [] e = followed_none s
all_read s n (t ∷ ts) e = absurd (omega arith)

grows : (s : Source) (n : ℕ) (rest after : List Token) (p : Part) → 0 < length rest →
    part_at rest ≡ Some (p, after) →
    left s rest (suc n) ≡ left (added s p) after n
unfolding parts_at
grows s n [] after p lt found = absurd (omega arith)
grows s n (t ∷ ts) after p lt found = rw found (followed_more s p (parts_at n after))

fails : (s : Source) (n : ℕ) (rest : List Token) → 0 < length rest → part_at rest ≡ None →
    left s rest (suc n) ≡ None
unfolding parts_at
fails s n [] lt none = absurd (omega arith)
fails s n (t ∷ ts) lt none = rw none refl

none_out : (s : Source) (rest : List Token) → 0 < length rest → left s rest 0 ≡ None
unfolding parts_at
none_out s [] lt = absurd (omega arith)
none_out s (t ∷ ts) lt = refl

module _ (whole : Option Source) (n at : ℕ) (s : Source) (rest : List Token)
    (here : whole ≡ left s rest (n - at)) where
  -- where no tokens are left, the program is `s`
  pub part_ends : length rest ≡ 0 → whole ≡ Some s
  part_ends e = here ∙ all_read s (n - at) rest e

  -- a part that is read is put at the end of `s`
  pub part_grows : at < n → 0 < length rest → (p : Part) (after : List Token) →
      part_at rest ≡ Some (p, after) →
      whole ≡ left (added s p) after (n - (at + 1))
  part_grows lt some p after found =
      one_more (left s rest) n at lt here
      ∙ grows s (n - (at + 1)) rest after p some found

  -- where no part is read, no program is read
  pub part_fails : (e : ReadError) → at < n → 0 < length rest → Fails e (part_at rest) →
      Fails e whole
  part_fails error.Memory lt some none = tt
  part_fails (error.Syntax l) lt some none =
      one_more (left s rest) n at lt here
      ∙ fails s (n - (at + 1)) rest some none

  -- where tokens are left and no turns, no program is read
  pub part_stops : n ≤ at → 0 < length rest → whole ≡ None
  part_stops le some = no_more (left s rest) n at le here ∙ none_out s rest some
