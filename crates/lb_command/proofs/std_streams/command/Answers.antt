use Rattle.std.proofs.Common.{rules}
use Rattle.lb_command.proofs.OnStreams.{on_streams}
use Rattle.lb_command.proofs.std_streams.command.Goals as goal

pub returns : goal.returns
returns g c =
    let reader = c.new.ensures in
    let output = c.new-output.ensures in
    let errors = c.new-messages.ensures in
    on_streams _ _ _ _ _ _ _ _ _ _ reader.coming reader.given reader.failures
    (record {
      bytes_are = output.bytes;
      none_taken = output.count;
      never_failed = output.failures;
    })
    (search rules)
    (record {
      bytes_are = errors.bytes;
      none_taken = errors.count;
      never_failed = errors.failures;
    })
    (search rules)
    c.run_on.ensures.run
