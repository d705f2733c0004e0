use Rattle.std.proofs.Common.{[], Err, ap, refl, inr, arith}
use Rattle.page_tool.proofs.Statuses.{ok_read, ok_write, said_nothing, was_ok, was_read, was_write}
use Rattle.page_tool.proofs.TokensStatuses.{tokens_cause, tokens_exact, tokens_output, tokens_says, whole_page}
use Rattle.page_tool.proofs.tokens.tokens.Goals as goal

pub returns-in-Ok : goal.returns-in-Ok
returns-in-Ok g c = λ held folder_faults. record {
  output = c.in-Ok.ensures.answers;
  end = λ is. c.in-Ok.ensures.end;
  in_order = refl {a = folder_faults};
  cause = whole_page _ _ _ c.in-Ok.ensures.answers;
  read = ok_read;
  write = ok_write;
  exact = tokens_exact _ _ _ _ (whole_page _ _ _ c.in-Ok.ensures.answers) ok_read ok_write;
  lines = inr ([], refl, said_nothing _);
  kept = refl {a = held};
  folder_later = omega arith;
  input_later = c.in-Ok.ensures.input_later;
  output_later = c.in-Ok.ensures.out_later;
  people_later = omega arith;
}

pub returns-in-Err : goal.returns-in-Err
returns-in-Err g c = λ held folder_faults.
    let why = c.in-Err.stop in
    let s = c.report.result in
    let was = c.report.ensures.status in
    let cause = tokens_cause _ _ _ _ _ c.in-Err.ensures.answers was in
    record {
      output = tokens_output _ _ _ _ _ c.in-Err.ensures.answers was c.report.ensures.write;
      end = λ is. absurd (was_ok why s was is);
      in_order = refl {a = folder_faults};
      cause = cause;
      read = λ e. inr (c.in-Err.ensures.read (ap Err (was_read why s was e)));
      write = λ e. c.in-Err.ensures.write (ap Err (was_write why s was e));
      exact = tokens_exact _ _ _ _ cause (λ e. c.in-Err.ensures.read (ap Err (was_read why s was e)))
          (λ e. c.in-Err.ensures.write (ap Err (was_write why s was e)));
      lines = tokens_says _ _ _ _ _ _ _ _ c.in-Err.ensures.answers c.report.ensures.said;
      kept = refl {a = held};
      folder_later = omega arith;
      input_later = c.in-Err.ensures.input_later;
      output_later = c.in-Err.ensures.out_later;
      people_later = c.report.ensures.later;
    }
