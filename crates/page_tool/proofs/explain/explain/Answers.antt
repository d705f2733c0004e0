use Rattle.std.proofs.Common.{[], Err, ap, refl, inl, inr, arith}
use Rattle.page_tool.proofs.ExplainStatuses.{explain_cause, explain_exact, explain_output, explain_says, whole_set}
use Rattle.page_tool.proofs.Statuses.{ok_read, ok_write, said_nothing, was_read, was_write}
use Rattle.page_tool.proofs.explain.explain.Goals as goal

pub returns-in-Ok : goal.returns-in-Ok
returns-in-Ok g c = λ left faults. record {
  output = c.in-Ok.ensures.answers;
  end = tt;
  in_order = (refl {a = left}, refl {a = faults});
  cause = whole_set _ _ _ _ _ c.in-Ok.ensures.answers;
  read = ok_read;
  write = ok_write;
  exact = explain_exact _ _ _ _ _ _ (whole_set _ _ _ _ _ c.in-Ok.ensures.answers) ok_read ok_write;
  lines = inr ([], refl, said_nothing _);
  kept = c.in-Ok.ensures.kept;
  folder_later = c.in-Ok.ensures.folder_later;
  input_later = omega arith;
  output_later = c.in-Ok.ensures.out_later;
  people_later = omega arith;
}

pub returns-in-Err : goal.returns-in-Err
returns-in-Err g c = λ left faults.
    let why = c.in-Err.stop in
    let s = c.report.result in
    let was = c.report.ensures.status in
    let cause = explain_cause _ _ _ _ _ _ _ c.in-Err.ensures.answers was in
    record {
      output = explain_output _ _ _ _ _ _ _ c.in-Err.ensures.answers was c.report.ensures.write;
      end = tt;
      in_order = (refl {a = left}, refl {a = faults});
      cause = cause;
      read = λ e. inl (c.in-Err.ensures.read (ap Err (was_read why s was e)));
      write = λ e. c.in-Err.ensures.write (ap Err (was_write why s was e));
      exact = explain_exact _ _ _ _ _ _ cause (λ e. c.in-Err.ensures.read (ap Err (was_read why s was e)))
          (λ e. c.in-Err.ensures.write (ap Err (was_write why s was e)));
      lines = explain_says _ _ _ _ _ _ _ _ _ _ c.in-Err.ensures.answers c.report.ensures.said;
      kept = c.in-Err.ensures.kept;
      folder_later = c.in-Err.ensures.folder_later;
      input_later = omega arith;
      output_later = c.in-Err.ensures.out_later;
      people_later = c.report.ensures.later;
    }
