-- What a format makes, byte by byte, is what its pieces make.
use Rattle.std.proofs.Common.{◌≡◌, ℕ, zero, suc, ◌+◌, ◌<◌, ◌≤◌, true, false, List, [], ◌∷◌, ◌++◌, length, get_or, Option, Some, None, option_map, Result, Ok, Err, refl, sym, ap, ◌∙◌, subst, arith, ◌==◌, ⊎_elim, ◌↔◌}
use Rattle.std.proofs.lemmas.Bool.Decides.{nat_tests}
use Rattle.std.proofs.lemmas.List.{length-append}
use Rattle.page_datum.specs.Data.{Data, null, truth, int, text, list, dict}
use Rattle.page_datum.specs.declared.fault.FaultKind.TheVariants.{BadFormat, TooLong}
use Rattle.page_datum.specs.declared.stop.ValueStop.{ValueStop}
use Rattle.page_datum.specs.declared.stop.ValueStop.TheVariants.{Fault, Memory}
use Rattle.tpl_format.proofs.SpellingReads.{verb_reads}
use Rattle.tpl_format.proofs.SpellingStands.{verb_stands}
use Rattle.tpl_format.proofs.Steps.{either, plain_run, same}
use Rattle.tpl_format.specs.Answers.{ComputesFormat, PrintfAnswers}
use Rattle.tpl_format.specs.Formats.{format_ended, format_followed, formatted_args, formatted_from, verb_step}
use Rattle.tpl_format.specs.Grammar.{ArePieces, Makes, FormatPiece, plain, percent, operand, joined_pieces, pieces_text}
use Rattle.tpl_format.specs.Operands.{operand_text}
use Rattle.tpl_format.specs.Spelling.{IsVerb, letter_of, times}
use Rattle.tpl_format.specs.Verbs.{bare}
use Rattle.tpl_format.specs.declared.verb.Verb.{Verb}
use Rattle.tpl_format.specs.declared.verb.Conversion.{Conversion}
use Rattle.tpl_format.specs.declared.verb.VerbState.TheVariants.{Takes}

-- bytes in which `%` stands nowhere
lacks : (front : List ℕ) → times 37 front ≡ 0 → (k : ℕ) → k < length front → get_or front k 0 ≡ 37 → ⊥
lacks [] none k inside e = absurd (omega (arith, inside))
lacks (b ∷ front) none zero inside e =
    let one : (b == 37) ≡ true = grind (arith, nat_tests) in
    let some : 1 + times 37 front ≡ 0 = rw one at none in
    absurd (omega (arith, some))
lacks (b ∷ front) none (suc k) inside e = lacks front (omega (arith, none)) k (omega (arith, inside)) e

-- what a verb shows of its operand, and then what is made after it
taken : (shown : Option (List ℕ)) (left : List Data) (rest : List ℕ) → format_followed (formatted_from rest) (option_map (λ t. record { written = t; place = None; left = left }) shown) ≡ joined_pieces shown (formatted_from rest None left)
taken None left rest = refl
taken (Some front) left rest = refl

verb_leads : (verb : Verb) (c : Conversion) (behind rest : List ℕ) (left : List Data) → IsVerb verb c behind rest → formatted_from (37 ∷ behind) None left ≡ format_followed (formatted_from rest) (verb_step verb (Takes c) left)
verb_leads verb c behind rest left h = sym (same (formatted_from behind (Some bare) left)) ∙ verb_reads verb c behind rest h left

-- bytes that are pieces make what the pieces make
pieces_make : (pieces : List FormatPiece) (bytes : List ℕ) (left : List Data) → ArePieces pieces bytes → formatted_from bytes None left ≡ pieces_text pieces left
pieces_make [] bytes [] h = ap (λ (b : List ℕ). formatted_from b None []) h
pieces_make [] bytes (datum ∷ left) h = ap (λ (b : List ℕ). formatted_from b None (datum ∷ left)) h
pieces_make (plain front ∷ pieces) bytes left h =
    ap (λ (b : List ℕ). formatted_from b None left) h.1.1
    ∙ plain_run front h.0 left (lacks front h.1.0)
    ∙ ap (joined_pieces (Some front)) (pieces_make pieces h.0 left h.2)
pieces_make (percent ∷ pieces) bytes left h =
    ap (λ (b : List ℕ). formatted_from b None left) h.1
    ∙ sym (same (joined_pieces (Some (37 ∷ [])) (formatted_from h.0 None left)))
    ∙ ap (joined_pieces (Some (37 ∷ []))) (pieces_make pieces h.0 left h.2)
pieces_make (operand verb c ∷ pieces) bytes [] h =
    ap (λ (b : List ℕ). formatted_from b None []) h.1.1
    ∙ verb_leads verb c h.1.0 h.0 [] h.1.2
pieces_make (operand verb c ∷ pieces) bytes (datum ∷ left) h =
    ap (λ (b : List ℕ). formatted_from b None (datum ∷ left)) h.1.1
    ∙ verb_leads verb c h.1.0 h.0 (datum ∷ left) h.1.2
    ∙ taken (operand_text verb c datum) left h.0
    ∙ ap (joined_pieces (operand_text verb c datum)) (pieces_make pieces h.0 left h.2)

-- bytes are pieces that make a text
record Stands (bytes : List ℕ) (left : List Data) (made : List ℕ) : Type 0 where
  pub pieces : List FormatPiece
  pub read : ArePieces pieces bytes
  pub makes : pieces_text pieces left ≡ Some made

-- bytes of at most so many make a text only where they are pieces
abbrev StandUpTo : ℕ → Type 0
StandUpTo n = (bytes : List ℕ) (left : List Data) (made : List ℕ) → length bytes ≤ n → formatted_from bytes None left ≡ Some made → Stands bytes left made

-- where there is a text, there is one after its prefix
joined_has : (front behind : Option (List ℕ)) (made : List ℕ) → joined_pieces front behind ≡ Some made → (more : List ℕ) × (behind ≡ Some more)
joined_has None behind made e = cc
joined_has (Some front) None made e = cc
joined_has (Some front) (Some more) made e = (more, refl)

end_stands : (left : List Data) (made : List ℕ) → format_ended None left ≡ Some made → Stands [] left made
end_stands [] made e = record { pieces = []; read = refl; makes = e }
end_stands (datum ∷ left) made e = cc

plain_stands : (n b : ℕ) (bytes : List ℕ) (left : List Data) (made : List ℕ) → (b == 37) ≡ false → StandUpTo n → length bytes ≤ n → formatted_from (b ∷ bytes) None left ≡ Some made → Stands (b ∷ bytes) left made
plain_stands n b bytes left made other stand fits e =
    let k : joined_pieces (Some (b ∷ [])) (formatted_from bytes None left) ≡ Some made = rw other at e in
    let j = joined_has (Some (b ∷ [])) (formatted_from bytes None left) made k in
    let h = stand bytes left j.0 fits j.1 in
    record { pieces = plain (b ∷ []) ∷ h.pieces; read = (bytes, (rw other refl, refl), h.read); makes = ap (joined_pieces (Some (b ∷ []))) (h.makes ∙ sym j.1) ∙ k }

operand_stands : (n : ℕ) (verb : Verb) (c : Conversion) (bytes rest : List ℕ) (left : List Data) (made : List ℕ) → IsVerb verb c bytes rest → StandUpTo n → length bytes ≤ n → format_followed (formatted_from rest) (verb_step verb (Takes c) left) ≡ Some made → Stands (37 ∷ bytes) left made
operand_stands n verb c bytes rest [] made v stand fits e = cc
operand_stands n verb c bytes rest (datum ∷ left) made v stand fits e =
    let shown = operand_text verb c datum in
    let k = sym (taken shown left rest) ∙ e in
    let j = joined_has shown (formatted_from rest None left) made k in
    let inside : length rest ≤ n = omega (arith, fits, ap length v.spelled, length-append v.flags (v.digits ++ (letter_of c ∷ rest)), length-append v.digits (letter_of c ∷ rest)) in
    let h = stand rest left j.0 inside j.1 in
    record { pieces = operand verb c ∷ h.pieces; read = (rest, (bytes, refl, v), h.read); makes = ap (joined_pieces shown) (h.makes ∙ sym j.1) ∙ k }

sign_stands : (n : ℕ) (bytes rest : List ℕ) (left : List Data) (made : List ℕ) → bytes ≡ 37 ∷ rest → StandUpTo n → length bytes ≤ n → formatted_from bytes (Some bare) left ≡ Some made → Stands (37 ∷ bytes) left made
sign_stands n bytes rest left made is stand fits e =
    let k : joined_pieces (Some (37 ∷ [])) (formatted_from rest None left) ≡ Some made = ap (λ (b : List ℕ). formatted_from b (Some bare) left) (sym is) ∙ e in
    let j = joined_has (Some (37 ∷ [])) (formatted_from rest None left) made k in
    let inside : length rest ≤ n = omega (arith, fits, ap length is) in
    let h = stand rest left j.0 inside j.1 in
    record { pieces = percent ∷ h.pieces; read = (rest, ap (λ t. 37 ∷ t) is, h.read); makes = ap (joined_pieces (Some (37 ∷ []))) (h.makes ∙ sym j.1) ∙ k }

mark_stands : (n : ℕ) (bytes : List ℕ) (left : List Data) (made : List ℕ) → StandUpTo n → length bytes ≤ n → formatted_from (37 ∷ bytes) None left ≡ Some made → Stands (37 ∷ bytes) left made
mark_stands n bytes left made stand fits e =
    let k = same (formatted_from bytes (Some bare) left) ∙ e in
    ⊎_elim
    (λ v. operand_stands n v.0 v.1 bytes v.2 left made v.3 stand fits (sym (verb_reads v.0 v.1 bytes v.2 v.3 left) ∙ k))
    (λ s. sign_stands n bytes s.0 left made s.1 stand fits k)
    (verb_stands bytes left made k)

stands : (n : ℕ) → StandUpTo n
stands zero [] left made fits e = end_stands left made e
stands zero (b ∷ bytes) left made fits e = absurd (omega (arith, fits))
stands (suc n) [] left made fits e = end_stands left made e
stands (suc n) (b ∷ bytes) left made fits e = either (b == 37)
    (λ t.
    let is : b ≡ 37 = grind (arith, nat_tests) in
    subst (λ (x : ℕ). Stands (x ∷ bytes) left made) (sym is)
    (mark_stands n bytes left made (stands n) (omega (arith, fits)) (subst (λ (x : ℕ). formatted_from (x ∷ bytes) None left ≡ Some made) is e)))
    (λ f. plain_stands n b bytes left made f (stands n) (omega (arith, fits)) e)

made_of_pieces : (args : List Data) (made : List ℕ) → formatted_args args ≡ Some made → Makes args made
made_of_pieces [] made e = cc
made_of_pieces (null ∷ args) made e = cc
made_of_pieces (truth b ∷ args) made e = cc
made_of_pieces (int n ∷ args) made e = cc
made_of_pieces (list l ∷ args) made e = cc
made_of_pieces (dict d ∷ args) made e = cc
made_of_pieces (text format ∷ operands) made e =
    let h = stands (length format) format operands made (omega arith) e in
    record { format = format; operands = operands; pieces = h.pieces; are = refl; read = h.read; makes = h.makes }

pieces_made : (args : List Data) (made : List ℕ) → Makes args made → formatted_args args ≡ Some made
pieces_made args made h = ap formatted_args h.are ∙ pieces_make h.pieces h.format h.operands h.read ∙ h.makes

-- what arguments make byte by byte is what their pieces make
pub pieces_exact : (args : List Data) (made : List ℕ) → (formatted_args args ≡ Some made) ↔ Makes args made
pieces_exact args made = (made_of_pieces args made, pieces_made args made)

-- an answer by the bytes of the format is one by its pieces
pub by_pieces : (args : List Data) (result : Result (List ℕ) ValueStop) → ComputesFormat args result → PrintfAnswers args result
by_pieces args (Ok made) h = (made_of_pieces args made h.0, h.1)
by_pieces args (Err (Fault BadFormat)) h = λ made m. let no : None ≡ Some made = sym h ∙ pieces_made args made m in cc
by_pieces args (Err (Fault TooLong)) h = (h.0, made_of_pieces args h.0 h.1, h.2)
by_pieces args (Err Memory) h = h
by_pieces args (Err stop) h = h
