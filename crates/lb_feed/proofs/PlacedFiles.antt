-- The bytes of a file between places.
use Rattle.std.proofs.Common.{ℕ, ◌≡◌, ◌∙◌, ◌+◌, ◌-◌, ◌≤◌, List, [], ◌++◌, Option, None}
use Rattle.std.proofs.Common.{Some, IfSome, ap, append-nil, arith, drop, length}
use Rattle.std.proofs.Common.{refl, subst, sym, take}
use Rattle.std.proofs.Math.Seq.{drop-drop, take-add, take-append-add}
use Rattle.std.proofs.lemmas.List.{length-take, take_at}
use Rattle.std.specs.Io.KnownBytes.{Consumes, IsAtEnd}
use Rattle.lb_feed.specs.PlacedFiles.{between, told_between, told_from}

-- ## Some bytes of a list

pub between_none : (from : ℕ) (all : List ℕ) → between from from all ≡ []
between_none from all =
    let none : from - from ≡ 0 = omega arith in
    ap (λ n. take n (drop from all)) none

-- the bytes from `start` to `mid`, and then those to `past`, are the bytes from `start` to `past`
pub between_more : (start mid past : ℕ) (all : List ℕ) → start ≤ mid → mid ≤ past
    → between start past all ≡ between start mid all ++ between mid past all
between_more start mid past all first second =
    let bytes = drop start all in
    let long : past - start ≡ (mid - start) + (past - mid) = omega (arith, first, second) in
    let at : start + (mid - start) ≡ mid = omega (arith, first) in
    ap (λ n. take n bytes) long
    ∙ take-add (mid - start) (past - mid) bytes
    ∙ ap (λ rest. between start mid all ++ take (past - mid) rest)
    (drop-drop (mid - start) start all ∙ ap (λ n. drop n all) at)

pub between_long : (start past : ℕ) (all : List ℕ) → length (between start past all) ≤ past - start
between_long start past all =
    let long = length-take (past - start) (drop start all) in omega (arith, long)

-- ## Reads of a file

-- a read from place 0 of a file is a read of all its bytes
pub from_begin : (bytes rest : Option (List ℕ)) (given : List ℕ)
    → Consumes (told_from 0 bytes) rest given → Consumes bytes rest given
from_begin None rest given came = tt
from_begin (Some all) None given came = absurd came
from_begin (Some all) (Some rest) given came = came

-- before the first read no bytes have been read
pub told_none : (bytes : Option (List ℕ)) (place : ℕ)
    → Consumes (told_from place bytes) (told_from (place + 0) bytes) []
told_none None place = tt
told_none (Some all) place =
    let at : place ≡ place + 0 = omega arith in ap (λ n. drop n all) at

-- a read of as many bytes as are between two places gives just those bytes
pub read_whole : (bytes : Option (List ℕ)) (start past n : ℕ) (given : List ℕ)
    → length given ≡ past - start
    → Consumes (told_from start bytes) (told_from (start + n) bytes) given
    → IfSome bytes (λ all. given ≡ between start past all)
read_whole None start past n given long came = tt
read_whole (Some all) start past n given long came =
    sym (ap (take (past - start)) came ∙ take_at given (drop (start + n) all) (past - start) long)

-- ## A feed of a range

-- a read of `n` bytes from a file, within a range, is a read from the range
pub read_between : (bytes : Option (List ℕ)) (at past n : ℕ) (given : List ℕ) → length given ≡ n
    → n ≤ past - at → Consumes (told_from at bytes) (told_from (at + n) bytes) given
    → Consumes (told_between at past bytes) (told_between (at + n) past bytes) given
read_between None at past n given long within came = tt
read_between (Some all) at past n given long within came =
    let rest = drop (at + n) all in
    let split : past - at ≡ length given + (past - (at + n)) = omega (arith, long, within) in
    ap (take (past - at)) came
    ∙ ap (λ k. take k (given ++ rest)) split
    ∙ take-append-add given rest (past - (at + n))

-- all bytes that a range gave up to its end are the bytes between its places
pub all_between : (bytes left : Option (List ℕ)) (start past : ℕ) (more : List ℕ)
    → Consumes (told_between start past bytes) left more → IsAtEnd left
    → IfSome bytes (λ all. more ≡ between start past all)
all_between None left start past more came end = tt
all_between (Some all) None start past more came end = absurd came
all_between (Some all) (Some rest) start past more came end =
    sym (came ∙ ap (λ bytes. more ++ bytes) end ∙ append-nil more)

-- bytes that are still to come; none where a feed does not tell them
abbrev pub still : (bytes left : Option (List ℕ)) → List ℕ
still None left = []
still (Some all) None = []
still (Some all) (Some rest) = rest

pub still_none : (bytes left : Option (List ℕ)) → IsAtEnd left → still bytes left ≡ []
still_none None left end = refl
still_none (Some all) None end = refl
still_none (Some all) (Some rest) end = end

-- the bytes that a range gave, and those still to come, are the bytes between its places
pub still_between : (bytes left : Option (List ℕ)) (start past : ℕ) (more : List ℕ)
    → Consumes (told_between start past bytes) left more
    → IfSome bytes (λ all. more ++ still bytes left ≡ between start past all)
still_between None left start past more came = tt
still_between (Some all) None start past more came = absurd came
still_between (Some all) (Some rest) start past more came = sym came

pub still_short : (bytes left : Option (List ℕ)) (start past : ℕ) (more : List ℕ)
    → Consumes (told_between start past bytes) left more → start ≤ past → past ≤ 1073741824
    → start + length more ≤ 1073741824
    → start + length (more ++ still bytes left) ≤ 1073741824
still_short None left start past more came ordered short fits =
    subst (λ text. start + length text ≤ 1073741824) (sym (append-nil more)) fits
still_short (Some all) None start past more came ordered short fits = absurd came
still_short (Some all) (Some rest) start past more came ordered short fits =
    subst (λ text. start + length text ≤ 1073741824) came
    (omega (arith, ordered, short, between_long start past all))
