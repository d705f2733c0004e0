use Rattle.std.proofs.Common.{refl, sym}
use Rattle.page_tool.proofs.ServeRuns.{no_service, ran_usage, serve_free, serve_needs, serve_sound, served, usage_of_files, usage_of_none, usage_of_service, with_service, without_service}
use Rattle.page_tool.specs.ServeWords.{service_of}
use Rattle.page_tool.specs.Words.{texts}
use Rattle.page_tool.proofs.top.run.Goals as goal

pub returns-then-not-begins_serve-clause-serves : goal.returns-then-not-begins_serve-clause-serves
returns-then-not-begins_serve-clause-serves g c = without_service (service_of (texts c.args.words.now)) _ (no_service (texts c.args.words.now) (sym c.if-not-begins_serve.ensures))

pub returns-then-not-begins_serve-clause-usage : goal.returns-then-not-begins_serve-clause-usage
returns-then-not-begins_serve-clause-usage g c = usage_of_files (texts c.args.words.now) _ (sym c.if-not-begins_serve.ensures) c.run_files.ensures.usage

pub returns-in-Some-clause-sound : goal.returns-in-Some-clause-sound
returns-in-Some-clause-sound g c = λ e. serve_sound (texts c.args.words.now) _ _ (sym c.if-not-begins_serve.ensures)

pub returns-in-Some-clause-runs : goal.returns-in-Some-clause-runs
returns-in-Some-clause-runs g c = λ none. served _ _ c.in-Some.ensures none

pub returns-in-Some-clause-error_free : goal.returns-in-Some-clause-error_free
returns-in-Some-clause-error_free g c = λ a. serve_free (texts c.args.words.now) _ (sym c.if-not-begins_serve.ensures)

pub returns-in-Some-clause-complete : goal.returns-in-Some-clause-complete
returns-in-Some-clause-complete g c = λ e. serve_needs (texts c.args.words.now) _ (sym c.if-not-begins_serve.ensures)

pub returns-in-Some-clause-serves : goal.returns-in-Some-clause-serves
returns-in-Some-clause-serves g c =
    with_service _ _ _ c.in-Some.ensures (c.serve.ensures (g.I.Source.left c.args.input.now) (g.I.Source.faults c.args.input.now))

pub returns-in-Some-clause-unasked : goal.returns-in-Some-clause-unasked
returns-in-Some-clause-unasked g c = λ none. served _ _ c.in-Some.ensures none

pub returns-in-Some-clause-usage : goal.returns-in-Some-clause-usage
returns-in-Some-clause-usage g c =
    let ran = c.serve.ensures (g.I.Source.left c.args.input.now) (g.I.Source.faults c.args.input.now) in
    usage_of_service (texts c.args.words.now) _ _ _ _ c.in-Some.ensures ran.cause

pub returns-in-None-clause-sound : goal.returns-in-None-clause-sound
returns-in-None-clause-sound g c = λ e. serve_sound (texts c.args.words.now) _ _ (sym c.if-not-begins_serve.ensures)

pub returns-in-None-clause-runs : goal.returns-in-None-clause-runs
returns-in-None-clause-runs g c =
    λ none. ran_usage (texts c.args.words.now) _ _ _ (sym c.if-not-begins_serve.ensures) c.say_usage.ensures.later c.say_usage.ensures.said

pub returns-in-None-clause-error_free : goal.returns-in-None-clause-error_free
returns-in-None-clause-error_free g c = λ a. serve_free (texts c.args.words.now) _ (sym c.if-not-begins_serve.ensures)

pub returns-in-None-clause-complete : goal.returns-in-None-clause-complete
returns-in-None-clause-complete g c = λ e. serve_needs (texts c.args.words.now) _ (sym c.if-not-begins_serve.ensures)

pub returns-in-None-clause-serves : goal.returns-in-None-clause-serves
returns-in-None-clause-serves g c = without_service (service_of (texts c.args.words.now)) _ (sym c.in-None.ensures)

pub returns-in-None-clause-unasked : goal.returns-in-None-clause-unasked
returns-in-None-clause-unasked g c = λ none. (refl, refl, refl)

pub returns-in-None-clause-usage : goal.returns-in-None-clause-usage
returns-in-None-clause-usage g c = usage_of_none (texts c.args.words.now) (sym c.if-not-begins_serve.ensures) c.in-None.ensures
