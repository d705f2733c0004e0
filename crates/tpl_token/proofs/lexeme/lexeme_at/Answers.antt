use Rattle.std.proofs.Common.{ℕ, List, codes, drop, sym, ap, ◌∙◌, subst}
use Rattle.std.proofs.lemmas.List.{drop-drop}
use Rattle.tpl_token.specs.Characters.{begins, first_is, is_word_start}
use Rattle.tpl_token.specs.Refusals.{begins_number}
use Rattle.tpl_token.specs.Scanning.{quoted, raw_found, string_found}
use Rattle.tpl_token.specs.Answers.{IsOrOutOfMemory}
use Rattle.tpl_token.proofs.Chains.{lexeme-quoted, lexeme-raw}
use Rattle.tpl_token.proofs.lexeme.lexeme_at.Goals as goal

pub returns-then-begins-clause-found : goal.returns-then-begins-clause-found
returns-then-begins-clause-found c =
    let at = c.args.at in
    let text = c.args.text.now in
    let rest = c.split_at.ensures.back ∙ ap (drop at) c.as_bytes.ensures.value in
    let word = ap (first_is is_word_start) (sym rest) ∙ sym c.begins_word.ensures ∙ c.if-begins_word.false in
    let number = ap begins_number (sym rest) ∙ sym c.begins_number.ensures ∙ c.if-begins_number.false in
    let quote = ap (begins (codes "\"")) (sym rest) ∙ sym c.begins.ensures ∙ c.if-begins.true in
    let same = lexeme-quoted at (drop at text) word number quote ∙ ap (λ (xs : List ℕ). string_found at (quoted 0 xs)) (drop-drop 1 at text) in
    subst (IsOrOutOfMemory c.quoted_at.result) (sym same) c.quoted_at.ensures.found

pub returns-then-begins-2-clause-found : goal.returns-then-begins-2-clause-found
returns-then-begins-2-clause-found c =
    let at = c.args.at in
    let text = c.args.text.now in
    let rest = c.split_at.ensures.back ∙ ap (drop at) c.as_bytes.ensures.value in
    let word = ap (first_is is_word_start) (sym rest) ∙ sym c.begins_word.ensures ∙ c.if-begins_word.false in
    let number = ap begins_number (sym rest) ∙ sym c.begins_number.ensures ∙ c.if-begins_number.false in
    let quote = ap (begins (codes "\"")) (sym rest) ∙ sym c.begins.ensures ∙ c.if-begins.false in
    let raw = ap (begins (codes "`")) (sym rest) ∙ sym c.begins-2.ensures ∙ c.if-begins-2.true in
    let same = lexeme-raw at (drop at text) word number quote raw ∙ ap (raw_found at) (drop-drop 1 at text) in
    subst (IsOrOutOfMemory c.raw_at.result) (sym same) c.raw_at.ensures.found
