-- A worked example of what is not so: bytes that are JSON for another datum, which prints the same.
use Rattle.std.proofs.Common.{◌≡◌, ℕ, pos, zero, suc, codes, List, refl, Some, Result, Ok, sym, ap, ◌∙◌}
use Rattle.json.specs.Json.{items, members, value}
use Rattle.json.specs.Lex.{lex, punctuate}
use Rattle.json.specs.Text.{content}
use Rattle.json.specs.Word.{word}
use Rattle.serde_json.specs.Data as json
use Rattle.page_datum.specs.Data.{Data, int, text}
use Rattle.page_datum.specs.Reading.{data_of}
use Rattle.js_lexer.specs.Plain.{StandsFor, json_value}

some-same : (v w : json.Data) → Some v ≡ Some w → v ≡ w
some-same v w e = cc

text-number : int (pos 5) ≡ text (codes "5") → ⊥
text-number e = cc

-- a text of digits does not stand for the number
as-text : (depth : ℕ) → json_value depth (codes "\"5\"") ≡ Some (json.string (codes "5"))
unfolding lex punctuate items members value content word
as-text zero = refl
as-text (suc depth) = refl

one-datum : (d e : Data) (r : Result Data (List ℕ)) → r ≡ Ok d → r ≡ Ok e → d ≡ e
one-datum d e r f g = cc

text_for_number : StandsFor (codes "\"5\"") (int (pos 5)) → ⊥
text_for_number h =
    let is = some-same h.value (json.string (codes "5")) (sym h.reads ∙ as-text h.depth) in
    let same = one-datum (int (pos 5)) (text (codes "5")) (data_of (json.string (codes "5"))) (sym (ap data_of is) ∙ h.stands) refl in
    text-number same
