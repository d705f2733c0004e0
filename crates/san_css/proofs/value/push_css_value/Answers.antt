use Rattle.std.proofs.Common.{◌≡◌, ◌++◌, List, OnOk, false, rules, string_bytes, subst, sym, ℕ}
use Rattle.std.specs.List.{list_any}
use Rattle.css_lexer.specs.Sanitizers.{unless_unsafe}
use Rattle.san_css.specs.Undoing.{is_backslash}
use Rattle.san_css.proofs.Undoes.{as-it-is}
use Rattle.san_css.proofs.value.push_css_value.Goals as goal

pub returns-then-not-has_backslash-clause-written :
    goal.returns-then-not-has_backslash-clause-written
returns-then-not-has_backslash-clause-written c =
    let none : list_any is_backslash c.args.text.now ≡ false = search rules in
    subst (λ (bs : List ℕ). OnOk c.push_unless_unsafe.result (string_bytes c.push_unless_unsafe.new.out ≡ string_bytes c.args.out.now ++ unless_unsafe bs)) (sym (as-it-is c.args.text.now none)) c.push_unless_unsafe.ensures.written
