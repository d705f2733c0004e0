use Rattle.std.proofs.Common.{◌≡◌, ◌+◌, ◌∙◌, List, ℕ, sym, ap, arith, drop, Some}
use Rattle.tpl_format.proofs.Steps.{cuts, reads_on}
use Rattle.tpl_format.specs.Formats.{format_followed, formatted_from, verb_step}
use Rattle.tpl_format.specs.Verbs.{bare}
use Rattle.tpl_format.specs.declared.verb.VerbState.TheVariants.{Percent, Takes, Bad}
use Rattle.tpl_format.proofs.directive.read_verb.Goals as goal

pub split_at-requires : goal.split_at-requires
split_at-requires c = cuts c.args.text.now c.as_bytes-bytes.result.now c.loop-at.verb c.loop-at.at c.read.result c.as_bytes-bytes.ensures.value c.utf8.text (omega (arith, c.loop-at-test.true)) c.read.ensures (λ e. let no : Percent ≡ Bad = sym c.in-Percent.is ∙ e in cc)

pub split_at-requires-in-Takes : goal.split_at-requires-in-Takes
split_at-requires-in-Takes c = cuts c.args.text.now c.as_bytes-bytes.result.now c.loop-at.verb c.loop-at.at c.read.result c.as_bytes-bytes.ensures.value c.utf8.text (omega (arith, c.loop-at-test.true)) c.read.ensures (λ e. let no : Takes c.in-Takes.conversion ≡ Bad = sym c.in-Takes.is ∙ e in cc)

pub returns-in-Takes-clause-found : goal.returns-in-Takes-clause-found
returns-in-Takes-clause-found c =
    let bytes = c.as_bytes-bytes.result.now in
    let verb = c.loop-at.verb in
    let reading = Takes c.in-Takes.conversion in
    λ left.
    ap (λ (b : List ℕ). formatted_from b (Some bare) left) (sym c.as_bytes-bytes.ensures.value)
    ∙ sym (c.loop-at.invariant left)
    ∙ reads_on bytes c.loop-at.at verb reading (omega (arith, c.loop-at-test.true)) (sym c.read.ensures ∙ c.in-Takes.is) left
    ∙ ap (λ (b : List ℕ). format_followed (formatted_from b) (verb_step verb reading left)) (ap (drop (c.loop-at.at + 1)) c.as_bytes-bytes.ensures.value ∙ sym c.split_at-in-Takes.ensures.back)
