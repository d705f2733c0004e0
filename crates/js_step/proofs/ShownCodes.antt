-- What shows a refusal, by its printed code.
use Rattle.std.proofs.Common.{◌≡◌, ◌∙◌, Option, Some, None, option_map, refl, ap}
use Rattle.js_lexer.specs.Refusals.{Refusal, PartialCharset, PartialEscape, SlashAmbig, JSTemplate, SplitToken, BadString, HtmlInScript, Cause}
use Rattle.place_core.specs.declared.member.Member.{Member}
use Rattle.place_core.specs.page.Tags.{script_code}
use Rattle.js_step.specs.ScriptEvidence.{script_code_shows, script_shown_by}
use Rattle.js_step.specs.ScriptScans.{ScriptScan}
use Rattle.js_step.specs.ScriptScanViews.{script_cause_at}
use Rattle.js_step.specs.declared.cause.ScriptCause.{ScriptCause}
use Rattle.js_step.proofs.OneScriptPath.{none-given, some-same}

pub code-shows : (n : ScriptScan) (split : Member) (r : Refusal) → script_code_shows n split (script_code r) ≡ script_shown_by n split r
code-shows n split PartialCharset = refl
code-shows n split PartialEscape = refl
code-shows n split SlashAmbig = refl
code-shows n split JSTemplate = refl
code-shows n split SplitToken = refl
code-shows n split BadString = refl
code-shows n split HtmlInScript = refl

none-some : {A : Type 0} (a : A) → Some a ≡ None → ⊥
none-some a e = cc

pub shown-some : (n : ScriptScan) (split : Member) (o : Option Cause) (c : ScriptCause) → Some c ≡ option_map script_cause_at o
    → Some (script_code_shows n split c.code) ≡ option_map (λ (e : Cause). script_shown_by n split e.refusal) o
shown-some n split None c h = absurd (none-some c h)
shown-some n split (Some e) c h =
    ap (λ (z : ScriptCause). Some (script_code_shows n split z.code)) (some-same c (script_cause_at e) h) ∙ ap Some (code-shows n split e.refusal)

pub shown-none : (n : ScriptScan) (split : Member) (o : Option Cause) → None ≡ option_map script_cause_at o
    → None ≡ option_map (λ (e : Cause). script_shown_by n split e.refusal) o
shown-none n split None h = refl
shown-none n split (Some e) h = absurd (none-given _ h)
