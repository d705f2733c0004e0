use Rattle.std.proofs.Common.{◌∙◌, ◌∷◌, ap, sym, get_or, ℕ, List}
use Rattle.place_core.specs.page.Contents.{in_word}
use Rattle.html_scan.proofs.PendingNames.{pending_begins}
use Rattle.html_scan.proofs.ScriptWords.{letters_grow, name_inside, opening_inside, word_alone, word_after_bang, word_after_dash}
use Rattle.html_scan.proofs.script_steps.word_behind.Goals as goal

pub returns-in-Nothing : goal.returns-in-Nothing
returns-in-Nothing c = rw c.in-Nothing.is (c.judged.ensures ∙ sym (word_alone (get_or c.args.text.now c.args.index 0)))

pub returns-in-Bang : goal.returns-in-Bang
returns-in-Bang c = rw c.in-Bang.is (c.judged-in-Bang.ensures ∙ sym (word_after_bang (get_or c.args.text.now c.args.index 0)))

pub returns-in-BangDash : goal.returns-in-BangDash
returns-in-BangDash c = rw c.in-BangDash.is (c.judged-in-BangDash.ensures ∙ sym (word_after_dash (get_or c.args.text.now c.args.index 0)))

pub returns-in-Less : goal.returns-in-Less
returns-in-Less c =
    rw c.in-Less.is
    (c.word_after_less.ensures
    ∙ ap (λ (bytes : List ℕ). in_word (60 ∷ bytes)) (c.pending.ensures.read ∙ pending_begins c.args.text.now c.args.index c.requires.inside))

pub returns-in-Name : goal.returns-in-Name
returns-in-Name c =
    rw c.in-Name.is
    (c.word_after_solidus.ensures
    ∙ ap (λ (bytes : List ℕ). in_word (60 ∷ 47 ∷ bytes))
    (c.pending-in-Name.ensures.read ∙ letters_grow c.args.text.now c.in-Name.letters c.args.index
    (name_inside c.args.back c.in-Name.letters c.args.index c.in-Name.is c.requires.pending) c.requires.inside))

pub returns-in-Opening : goal.returns-in-Opening
returns-in-Opening c =
    rw c.in-Opening.is
    (c.word_after_less-in-Opening.ensures
    ∙ ap (λ (bytes : List ℕ). in_word (60 ∷ bytes))
    (c.pending-in-Opening.ensures.read ∙ letters_grow c.args.text.now c.in-Opening.letters c.args.index
    (opening_inside c.args.back c.in-Opening.letters c.args.index c.in-Opening.is c.requires.pending) c.requires.inside))
