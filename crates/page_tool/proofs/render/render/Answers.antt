use Rattle.std.proofs.Common.{[], Err, ap, refl, inr, arith}
use Rattle.page_tool.proofs.Exacts.{exact}
use Rattle.page_tool.proofs.Statuses.{ok_read, ok_write, read_in_order, read_of_two, said_nothing, says_or, status_cause, status_output}
use Rattle.page_tool.proofs.Statuses.{was_ok, was_read, was_write}
use Rattle.page_tool.proofs.render.render.Goals as goal

pub returns-in-Ok-clause-runs : goal.returns-in-Ok-clause-runs
returns-in-Ok-clause-runs g c = record {
  output = c.in-Ok.ensures.output;
  end = λ e. c.in-Ok.ensures.end;
  in_order = c.in-Ok.ensures.in_order;
  cause = c.in-Ok.ensures.cause;
  read = ok_read;
  write = ok_write;
  exact = exact _ _ _ _ _ _ _ _ c.in-Ok.ensures.cause ok_read ok_read ok_write;
  lines = inr ([], refl, said_nothing _);
  kept = c.in-Ok.ensures.kept;
  folder_later = c.in-Ok.ensures.folder_later;
  input_later = c.in-Ok.ensures.input_later;
  output_later = c.in-Ok.ensures.out_later;
  people_later = omega arith;
}

pub returns-in-Err-clause-runs : goal.returns-in-Err-clause-runs
returns-in-Err-clause-runs g c =
    let why = c.in-Err.stop in
    let s = c.report.result in
    let was = c.report.ensures.status in
    let cause = status_cause _ _ _ _ _ _ c.in-Err.ensures.cause was in
    record {
      output = status_output _ _ _ _ _ _ _ _ c.in-Err.ensures.output was c.report.ensures.write;
      end = λ e. absurd (was_ok why s was e);
      in_order = c.in-Err.ensures.in_order;
      cause = cause;
      read = λ e. read_of_two _ _ _ (c.in-Err.ensures.read (ap Err (was_read why s was e)));
      write = λ e. c.in-Err.ensures.write (ap Err (was_write why s was e));
      exact = exact _ _ _ _ _ _ _ _ cause
          (λ e. read_of_two _ _ _ (c.in-Err.ensures.read (ap Err (was_read why s was e))))
          (λ e. read_in_order _ _ _ _ _ (c.in-Err.ensures.read (ap Err (was_read why s was e))))
          (λ e. c.in-Err.ensures.write (ap Err (was_write why s was e)));
      lines = says_or _ _ _ _ _ _ _ _ _ c.in-Err.ensures.cause c.report.ensures.said;
      kept = c.in-Err.ensures.kept;
      folder_later = c.in-Err.ensures.folder_later;
      input_later = c.in-Err.ensures.input_later;
      output_later = c.in-Err.ensures.out_later;
      people_later = c.report.ensures.later;
    }
