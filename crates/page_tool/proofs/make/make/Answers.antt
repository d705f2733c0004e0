use Rattle.std.proofs.Common.{[], Err, ap, refl, inr, arith}
use Rattle.std.specs.Prelude.{◌⊎◌}
use Rattle.page_io.specs.Causes.{Rose}
use Rattle.page_tool.proofs.MakeStatuses.{make_cause, make_exact, make_output, make_says, never_read, whole_text}
use Rattle.page_tool.proofs.Statuses.{ok_read, ok_write, said_nothing, was_write}
use Rattle.page_tool.proofs.make.make.Goals as goal

pub returns-in-Ok : goal.returns-in-Ok
returns-in-Ok g c = λ held folder_faults left input_faults. record {
  output = c.in-Ok.ensures.answers;
  end = tt;
  in_order = (refl {a = folder_faults}, (refl {a = left}, refl {a = input_faults}));
  cause = whole_text _ _ _ c.in-Ok.ensures.answers;
  read = ok_read;
  write = ok_write;
  exact = make_exact _ _ _ (whole_text _ _ _ c.in-Ok.ensures.answers) ok_write;
  lines = inr ([], refl, said_nothing _);
  kept = refl {a = held};
  folder_later = omega arith;
  input_later = omega arith;
  output_later = c.in-Ok.ensures.later;
  people_later = omega arith;
}

pub returns-in-Err : goal.returns-in-Err
returns-in-Err g c = λ held folder_faults left input_faults.
    let why = c.in-Err.stop in
    let s = c.report.result in
    let was = c.report.ensures.status in
    let cause = make_cause _ _ _ _ _ c.in-Err.ensures.answers was in
    record {
      output = make_output _ _ _ _ _ c.in-Err.ensures.answers was c.report.ensures.write;
      end = tt;
      in_order = (refl {a = folder_faults}, (refl {a = left}, refl {a = input_faults}));
      cause = cause;
      read = λ e. absurd {A = Rose folder_faults folder_faults ⊎ Rose input_faults input_faults} (never_read _ s cause e);
      write = λ e. c.in-Err.ensures.write (ap Err (was_write why s was e));
      exact = make_exact _ _ _ cause (λ e. c.in-Err.ensures.write (ap Err (was_write why s was e)));
      lines = make_says _ _ _ _ _ _ _ _ c.in-Err.ensures.answers c.report.ensures.said;
      kept = refl {a = held};
      folder_later = omega arith;
      input_later = omega arith;
      output_later = c.in-Err.ensures.later;
      people_later = c.report.ensures.later;
    }
