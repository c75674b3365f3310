-- The pieces of a text from a place on.
use Rattle.std.proofs.Common.{◌≡◌, ℕ, zero, suc, ◌+◌, ◌-◌, ◌≤◌, ◌<◌, List, [], ◌∷◌, ◌++◌, length}
use Rattle.std.proofs.Common.{length-append, drop, get_or, drop-cons, add-one, Option, Some, None}
use Rattle.std.proofs.Common.{refl, ap, subst, sym, ◌∙◌, append_assoc, append-nil, arith}
use Rattle.std.specs.Option.{option_map}
use Rattle.lb_syntax.specs.declared.token.Token.{Token}
use Rattle.lb_syntax.specs.Tokens.{Text, tokens, Piece, Blank, Lexeme, Wrong, size, piece, pieces}
use Rattle.lb_syntax.specs.Tokens.{pieces_after, tokens_of}
use Rattle.std.proofs.lemmas.List.{drop_all, drop-drop}
use Rattle.std.proofs.lemmas.List.Elements.{All-nil, All-push, All-weaker}
use Rattle.std.proofs.lemmas.List.Quantifiers.{all_pairs_push}
use Rattle.std.specs.Prelude.{All, AllPairs}
use Rattle.lb_syntax.specs.Places.{starts, starts_from, wrong_from}
use Rattle.lb_syntax.specs.Lexed.{IsWrongAt}

-- ---- one piece, and then the others

pieces_after-drop : (n : ℕ) (text : Text) → pieces_after n text ≡ pieces (drop n text)
unfolding pieces_after
pieces_after-drop zero text = refl
pieces_after-drop (suc n) [] = refl
pieces_after-drop (suc n) (b ∷ rest) = pieces_after-drop n rest

pieces-cons : (b : ℕ) (rest : Text) →
    pieces (b ∷ rest) ≡ piece (b ∷ rest) ∷ pieces (drop (size (piece (b ∷ rest)) - 1) rest)
unfolding pieces_after
pieces-cons b rest =
    let front = piece (b ∷ rest) in
    ap (λ ps. front ∷ ps) (pieces_after-drop (size front - 1) rest)

pieces-drop : (text : Text) (at : ℕ) (front : Piece) →
    at < length text → piece (drop at text) ≡ front → 1 ≤ size front →
    pieces (drop at text) ≡ front ∷ pieces (drop (at + size front) text)
pieces-drop text at front below e some =
    let rest = drop (at + 1) text in
    let cons : drop at text ≡ get_or text at 0 ∷ rest = rw add-one (drop-cons text at 0 below) in
    let Goes : Text → Type 0 =
    λ t. pieces t ≡ piece t ∷ pieces (drop (size (piece t) - 1) rest) in
    let step = subst Goes (sym cons) (pieces-cons (get_or text at 0) rest) in
    let passed : at + 1 + (size front - 1) ≡ at + size front = omega arith in
    let others = drop-drop (size front - 1) (at + 1) text ∙ ap (λ n. drop n text) passed in
    (rw e at step) ∙ ap (λ t. front ∷ pieces t) others

-- ---- the walk over a text

-- the tokens `front` and then the tokens `rest`, or none where `rest` is none
abbrev in_front : List Token → Option (List Token) → Option (List Token)
in_front front rest = option_map (λ ts. front ++ ts) rest

-- `found` are the tokens before offset `at` and `places` their offsets; at `at` a piece begins
pub record IsFound (text : Text) (at : ℕ) (found : List Token) (places : List ℕ) : Type 0 where
  pub tokens_are : tokens text ≡ in_front found (tokens_of (pieces (drop at text)))
  pub starts_are : starts_from 0 (pieces text) ≡ places ++ starts_from at (pieces (drop at text))
  pub wrong_is : wrong_from 0 (pieces text) ≡ wrong_from at (pieces (drop at text))
  pub one_start_each : length places ≡ length found
  pub starts_before : All (λ start. start < at) places
  pub starts_increase : AllPairs (λ earlier later. earlier < later) places
  pub within : at ≤ length text

nothing_in_front : (rest : Option (List Token)) → rest ≡ in_front [] rest
nothing_in_front None = refl
nothing_in_front (Some ts) = refl

one_more_in_front : (front : List Token) (t : Token) (rest : Option (List Token)) →
    in_front front (option_map (λ ts. t ∷ ts) rest) ≡ in_front (front ++ t ∷ []) rest
one_more_in_front front t None = refl
one_more_in_front front t (Some ts) = ap (λ ts. Some ts) (sym (append_assoc front (t ∷ []) ts))

before_more : (at n : ℕ) (places : List ℕ) →
    All (λ start. start < at) places → All (λ start. start < at + n) places
before_more at n places =
    All-weaker (λ start. start < at) (λ start. start < at + n) (λ start h. omega arith) places

pub found_none : (text : Text) → IsFound text 0 [] []
found_none text = record {
  tokens_are = nothing_in_front (tokens text);
  starts_are = refl;
  wrong_is = refl;
  one_start_each = refl;
  starts_before = All-nil (λ start. start < 0);
  starts_increase = λ i j d less none. absurd (omega arith);
  within = omega arith;
}

pub found_blank : {text : Text} {at : ℕ} {found : List Token} {places : List ℕ} (n : ℕ) →
    IsFound text at found places →
    at < length text → piece (drop at text) ≡ Blank n → 1 ≤ n → at + n ≤ length text →
    IsFound text (at + n) found places
found_blank {text} {at} {found} {places} n so_far below e some fits =
    let next = pieces-drop text at (Blank n) below e some in
    record {
      tokens_are = so_far.tokens_are ∙ ap (λ ps. in_front found (tokens_of ps)) next;
      starts_are = so_far.starts_are ∙ ap (λ ps. places ++ starts_from at ps) next;
      wrong_is = so_far.wrong_is ∙ ap (wrong_from at) next;
      one_start_each = so_far.one_start_each;
      starts_before = before_more at n places so_far.starts_before;
      starts_increase = so_far.starts_increase;
      within = fits;
    }

pub found_lexeme : {text : Text} {at : ℕ} {found : List Token} {places : List ℕ} →
    (t : Token) (n : ℕ) → IsFound text at found places →
    at < length text → piece (drop at text) ≡ Lexeme t n → 1 ≤ n → at + n ≤ length text →
    IsFound text (at + n) (found ++ t ∷ []) (places ++ at ∷ [])
found_lexeme {text} {at} {found} {places} t n so_far below e some fits =
    let next = pieces-drop text at (Lexeme t n) below e some in
    let rest = pieces (drop (at + n) text) in
    record {
      tokens_are =
          so_far.tokens_are ∙ ap (λ ps. in_front found (tokens_of ps)) next ∙
          one_more_in_front found t (tokens_of rest);
      starts_are =
          so_far.starts_are ∙ ap (λ ps. places ++ starts_from at ps) next ∙
          sym (append_assoc places (at ∷ []) (starts_from (at + n) rest));
      wrong_is = so_far.wrong_is ∙ ap (wrong_from at) next;
      one_start_each = simp length-append (omega arith);
      starts_before =
          All-push (λ start. start < at + n) places at
          (before_more at n places so_far.starts_before) (omega arith);
      starts_increase =
          all_pairs_push (λ earlier later. earlier < later) places at so_far.starts_increase
          so_far.starts_before;
      within = fits;
    }

pub found_wrong : {text : Text} {at : ℕ} {found : List Token} {places : List ℕ} →
    IsFound text at found places → at < length text → piece (drop at text) ≡ Wrong →
    IsWrongAt text at
found_wrong {text} {at} {found} so_far below e =
    let next = pieces-drop text at Wrong below e (omega arith) in
    record {
      has_none = so_far.tokens_are ∙ ap (λ ps. in_front found (tokens_of ps)) next;
      place = so_far.wrong_is ∙ ap (wrong_from at) next;
    }

nothing_left : (at : ℕ) (text : Text) → length text ≤ at → pieces (drop at text) ≡ []
unfolding pieces_after
nothing_left at text over = rw (drop_all at text over) refl

pub found_all : {text : Text} {at : ℕ} {found : List Token} {places : List ℕ} →
    IsFound text at found places → length text ≤ at →
    (tokens text ≡ Some found) × (places ≡ starts text)
found_all {text} {at} {found} {places} so_far over =
    let none = nothing_left at text over in
    let no_token = ap (λ ps. in_front found (tokens_of ps)) none in
    let no_start = ap (λ ps. places ++ starts_from at ps) none in (
      so_far.tokens_are ∙ no_token ∙ ap (λ ts. Some ts) (append-nil found),
      sym (so_far.starts_are ∙ no_start ∙ append-nil places),
    )

pub starts_are_within : {text : Text} {at : ℕ} {found : List Token} {places : List ℕ} →
    IsFound text at found places → All (λ start. start < length text) places
starts_are_within {text} {at} {found} {places} so_far =
    let Within : ℕ → Type 0 = λ start. start < length text in
    let further : (start : ℕ) → start < at → Within start = λ start before. omega arith in
    All-weaker (λ start. start < at) Within further places so_far.starts_before
