-- The line of `make N`, and what stops it, from its set, its data and the execution.
use Rattle.std.proofs.Common.{◌≡◌, ℕ, List, Ok, Err, length, ap, ◌∙◌, subst}
use Rattle.page_check.specs.CheckedSets.{CheckedData}
use Rattle.page_datum.specs.Data.{Data}
use Rattle.page_datum.specs.Execution.{Execution}
use Rattle.page_datum.specs.declared.files.Files.{Files}
use Rattle.page_set.specs.Executions.{IsExecution}
use Rattle.page_tool.specs.Making.{IsMadePage, IsMadeSetOf, IsMadeText, MadeTextAnswers, PageLengthAnswers, made_text}
use Rattle.page_tool.specs.Sections.{made_data, made_name}
use Rattle.page_tool.specs.declared.stop.CommandStop.{CommandStop}
use Rattle.page_tool.specs.declared.stop.CommandStop.TheVariants as stop

made-page : (n : ℕ) (set : CheckedData) (d : Data) (e : Execution) → IsMadeSetOf n set → d ≡ made_data → IsExecution set.files made_name d e
    → IsMadePage n e
made-page n set d e m s p =
    subst (λ (f : Files). IsExecution f made_name made_data e) m.files (subst (λ (x : Data). IsExecution set.files made_name x e) s p)

pub stop-answers : (n : ℕ) (set : CheckedData) (d : Data) (e : Execution) (why : CommandStop) → IsMadeSetOf n set → d ≡ made_data
    → IsExecution set.files made_name d e → PageLengthAnswers e (Err why) → MadeTextAnswers n (Err why)
stop-answers n set d e (stop.Fault fault) m s p h = record { set = (set, m); e = e; page = made-page n set d e m s p; ends = h }
stop-answers n set d e stop.Memory m s p h = tt
stop-answers n set d e _ m s p h = absurd h

pub text-is : (n : ℕ) (set : CheckedData) (d : Data) (e : Execution) (places bytes : ℕ) (text : List ℕ) → IsMadeSetOf n set → d ≡ made_data
    → IsExecution set.files made_name d e → PageLengthAnswers e (Ok bytes) → places ≡ length set.chart.summaries
    → text ≡ made_text n places bytes → IsMadeText n text
text-is n set d e places bytes text m s p h k l = record {
  set = set;
  made = m;
  e = e;
  page = made-page n set d e m s p;
  ends = h.0;
  line = l ∙ (ap (λ (x : ℕ). made_text n x bytes) k ∙ ap (made_text n (length set.chart.summaries)) h.1);
}
