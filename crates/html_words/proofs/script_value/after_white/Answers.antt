use Rattle.std.proofs.Common.{◌∙◌, sym}
use Rattle.html_words.proofs.FirstBytes.{white_passed}
use Rattle.html_words.specs.ScriptTypes.{undone_value}
use Rattle.html_words.proofs.script_value.after_white.Goals as goal

pub loop-byte-preserved : goal.loop-byte-preserved
loop-byte-preserved c =
    let white = sym c.is_ascii_whitespace.ensures.value ∙ c.if-not-is_ascii_whitespace.false in
    white_passed (undone_value c.loop-byte.rest.now) (undone_value c.in-Some.after.now) c.in-Some.byte c.in-Some.ensures.first white ∙ c.loop-byte.invariant
