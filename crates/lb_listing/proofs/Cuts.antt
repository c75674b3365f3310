-- The cut of a line at its first space, and of a text at its first line.
use Rattle.std.proofs.Common.{◌≡◌, ℕ, List, ◌∷◌, ◌++◌, Option, Some, None}
use Rattle.std.proofs.Common.{sym, ◌∙◌, arith, subst, false, true, refl, Bool}
use Rattle.std.proofs.Common.{Result, Ok, Err}
use Rattle.std.specs.Prelude.{IfErr, IfNone, is_some, not}
use Rattle.std.specs.Result.{IsErrAnd}
use Rattle.std.specs.Option.{MatchOption}
use Rattle.std.specs.Borrow.{Bor}
use Rattle.std.proofs.lemmas.Option.{MatchOption-at_none, MatchOption-at_some}
use Rattle.std.proofs.lemmas.Str.Pattern.{IsSplitOnceResult, split_after}
use Rattle.lb_listing.specs.Listings.{HasNo, IsLine, Line, body, said, spelled}
use Rattle.lb_listing.proofs.Bytes.{body_has_no_end, cut_once, name_has_no_space}
use Rattle.lb_listing.proofs.Lines.{spelled_more}

pub none_if : {T : Type 0} (o : Option T) (P : Type 0) → P → IfNone o P
none_if None P p = p
none_if (Some x) P p = tt

pub none_of : {T : Type 0} (o : Option T) → is_some o ≡ false → o ≡ None
none_of None e = refl
none_of (Some x) e = cc

-- the parts of a line that is cut at its first space are its name and its verdict
pub parts_are : (line : List ℕ) (r : Option (Bor (List ℕ) × Bor (List ℕ))) (l : Line)
    → IsSplitOnceResult 32 line r → IsLine l → line ≡ body l
    → MatchOption r ⊥ (λ x. (x.0.now ≡ l.0) × (x.1.now ≡ said l.1))
parts_are line r l cut lawful e =
    split_after 32 line l.0 (said l.1) r cut (omega arith) e
    (λ i h. name_has_no_space l.0 lawful.name i 0 h)

-- the bytes before the first end of a line in a text are the line that the text begins with
pub line_is : (text line more rest : List ℕ) (l : Line) → IsLine l → text ≡ line ++ 10 ∷ more
    → HasNo 10 line → text ≡ spelled l ++ rest → line ≡ body l
line_is text line more rest l lawful cut no_end e =
    (cut_once 10 line more (body l) rest no_end (body_has_no_end l lawful)
    (sym cut ∙ e ∙ spelled_more l rest)).0

pub parts_none : (line : List ℕ) (r : Option (Bor (List ℕ) × Bor (List ℕ))) (l : Line)
    → IsSplitOnceResult 32 line r → IsLine l → r ≡ None → line ≡ body l → ⊥
parts_none line r l cut lawful none e =
    let Q : Bor (List ℕ) × Bor (List ℕ) → Type 0 = λ x. (x.0.now ≡ l.0) × (x.1.now ≡ said l.1) in
    MatchOption-at_none {o = r} ⊥ Q none (parts_are line r l cut lawful e)

pub parts_some : (line : List ℕ) (r : Option (Bor (List ℕ) × Bor (List ℕ))) (l : Line)
    (parts : Bor (List ℕ) × Bor (List ℕ)) → IsSplitOnceResult 32 line r → IsLine l
    → r ≡ Some parts → line ≡ body l → (parts.0.now ≡ l.0) × (parts.1.now ≡ said l.1)
parts_some line r l parts cut lawful some e =
    let Q : Bor (List ℕ) × Bor (List ℕ) → Type 0 = λ x. (x.0.now ≡ l.0) × (x.1.now ≡ said l.1) in
    MatchOption-at_some {o = r} ⊥ Q parts some (parts_are line r l cut lawful e)

-- the answer of a `push` says whether the name was new
pub fresh_none : {T : Type 0} (o : Option T) (b : Bool) → b ≡ not (is_some o) → b ≡ true → o ≡ None
fresh_none None b e pushed = refl
fresh_none (Some x) b e pushed = let no : false ≡ true = sym e ∙ pushed in cc

pub fresh_some : {T : Type 0} (o : Option T) (b : Bool) → b ≡ not (is_some o) → b ≡ false
    → is_some o ≡ true
fresh_some None b e left = let never : true ≡ false = sym e ∙ left in cc
fresh_some (Some x) b e left = refl

-- an error that a `?` passes on
pub passed_on : {T E : Type 0} (r : Result T E) (first : E) (P : E → Type 0)
    → IsErrAnd r (λ e. e ≡ first) → P first → IfErr r P
passed_on (Ok x) first P same p = tt
passed_on (Err e) first P same p = subst P (sym same) p
