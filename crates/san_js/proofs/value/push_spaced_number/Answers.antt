use Rattle.std.proofs.Common.{◌≡◌, ◌++◌, List, ℕ, codes, string_bytes, ap, sym, ◌∙◌, rules}
use Rattle.std.specs.Fmt.{signed_decimal}
use Rattle.js_lexer.proofs.Spaces.{number-spaced}
use Rattle.san_js.proofs.Appended.{appended}
use Rattle.san_js.proofs.value.push_spaced_number.Goals as goal

pub returns-clause-bytes : goal.returns-clause-bytes
returns-clause-bytes c =
    let before = string_bytes c.args.out.now in
    let digits : string_bytes c.push_number.new.out ≡ string_bytes c.push_str.new.self ++ signed_decimal c.args.number = search rules in
    appended before (string_bytes c.push_str.new.self) (string_bytes c.push_number.new.out) (string_bytes c.push_str-2.new.self) (codes " ") (signed_decimal c.args.number) (codes " ") c.in_ok-push_str.ensures.bytes digits c.in_ok-push_str-2.ensures.bytes
    ∙ ap (λ (written : List ℕ). before ++ written) (sym (number-spaced c.args.number))
