use Rattle.std.proofs.Common.{map, refl, subst}
use Rattle.std.specs.Prelude.{string_bytes}
use Rattle.lb_output.proofs.SinkBytes.{takes_nothing}
use Rattle.lb_words.specs.Words.{IsRequest}
use Rattle.lb_words.specs.declared.request.Request.{Request}
use Rattle.lb_words.specs.declared.request.Request.TheVariants.{Help, Version, Run}
use Rattle.lb_command.proofs.Outcomes.{words_refused}
use Rattle.lb_command.proofs.announcement.announce.Goals as goal

pub returns-in-Help-clause-ok : goal.returns-in-Help-clause-ok
returns-in-Help-clause-ok g c =
    let Is : Request → Type 0 = IsRequest (map string_bytes c.args.words.now) in
    record {
      request = Help c.in-Help._text;
      asked = subst Is c.in-Help.is c.in-Ok.ensures.ok;
      noted = record { kept = takes_nothing _; never_failed = refl };
    }

pub returns-in-Version-clause-ok : goal.returns-in-Version-clause-ok
returns-in-Version-clause-ok g c =
    let Is : Request → Type 0 = IsRequest (map string_bytes c.args.words.now) in
    record {
      request = Version;
      asked = subst Is c.in-Version.is c.in-Ok.ensures.ok;
      noted = record { kept = takes_nothing _; never_failed = refl };
    }

pub returns-in-Run-clause-ok : goal.returns-in-Run-clause-ok
returns-in-Run-clause-ok g c =
    let Is : Request → Type 0 = IsRequest (map string_bytes c.args.words.now) in
    record {
      request = Run c.in-Run.task;
      asked = subst Is c.in-Run.is c.in-Ok.ensures.ok;
      noted = c.note.ensures.noted;
    }

pub returns-in-Err-clause-err : goal.returns-in-Err-clause-err
returns-in-Err-clause-err g c =
    words_refused (map string_bytes c.args.words.now) c.in-Err.cause c.from.result c.from.ensures
    c.in-Err.ensures.err
