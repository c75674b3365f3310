-- Names in one text: one more name, and a name on its own.
use Rattle.std.proofs.Common.{ℕ, ◌≡◌, ◌+◌, ◌*◌, ◌<◌, ◌≤◌, List, [], ◌∷◌, ◌++◌, length, ◌∙◌, arith}
use Rattle.std.proofs.Common.{length-append, IsTrue}
use Rattle.std.proofs.lemmas.List.{length_push}
use Rattle.std.proofs.lemmas.List.Elements.{All-weaker}
use Rattle.std.proofs.lemmas.Str.{IsAscii-append}
use Rattle.std.proofs.lemmas.Str.Ascii.{IsAscii-from_all}
use Rattle.std.proofs.lemmas.Bool.Decides.{nat_tests}
use Rattle.std.specs.Str.{IsAscii}
use Rattle.lb_traces.specs.Traces.{IsTraceName, is_name_byte}
use Rattle.lb_traces.specs.Ledger.{last_place}
use Rattle.lb_traces.specs.Stored.{AreNames}
use Rattle.lb_traces.proofs.Ledgers.{IsLedger-push, last_place-push}

pub name_byte-below : (b : ℕ) → IsTrue (is_name_byte b) → b < 128
name_byte-below b h = grind (arith, nat_tests)

pub IsAscii-name : (name : List ℕ) → IsTraceName name → IsAscii name
IsAscii-name name lawful =
    IsAscii-from_all name (All-weaker (λ b. IsTrue (is_name_byte b)) (λ b. b < 128) name_byte-below
    name lawful.bytes)

pub AreNames-push : (text ends name : List ℕ) (e : ℕ) → AreNames text ends → IsTraceName name →
    length ends ≤ 1000000
    → e ≡ length text + length name → AreNames (text ++ name) (ends ++ e ∷ [])
AreNames-push text ends name e names lawful room grown =
    let is_long : length (text ++ name) ≡ length text + length name = length-append text name in
    let one_more : length (ends ++ e ∷ []) ≡ length ends + 1 = length_push ends e in
    let some : 0 < length name = lawful.not_empty in
    let few : length name ≤ 64 = lawful.short in
    let all : last_place ends ≡ length text = names.all in
    let short : length text + 64 ≤ 64 * length ends = names.short in
    record {
      ledger = IsLedger-push ends e names.ledger (omega arith);
      all = last_place-push ends e ∙ (omega arith);
      ascii = IsAscii-append text name names.ascii (IsAscii-name name lawful);
      short = omega arith;
      count = omega arith;
    }
