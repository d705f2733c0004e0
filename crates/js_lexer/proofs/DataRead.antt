-- What is written of a datum in code is read as the tokens of its literal.
use Rattle.std.proofs.Common.{◌≡◌, ℕ, zero, suc, ℤ, pos, negsuc, ◌/◌, ◌%◌, ◌==◌, nat_lt, Bool, true, false, codes, List, [], ◌∷◌, ◌++◌, refl, sym, ap, subst, ◌∙◌, arith}
use Rattle.std.proofs.lemmas.Bool.{agree_below_at, cond_both}
use Rattle.std.proofs.lemmas.Bool.Decides.{nat_tests}
use Rattle.std.proofs.lemmas.List.{append_assoc}
use Rattle.std.specs.Bool.{⊤}
use Rattle.std.specs.Char.{is_ascii_digit}
use Rattle.std.specs.Fmt.{decimal, digits, digits_onto, digit_glyph, signed_decimal}
use Rattle.page_datum.specs.Data.{Data, null, truth, int, text, list, dict, DataList, no_items, item, DataDict, no_entries, entry}
use Rattle.js_lexer.specs.Classes.{is_space, is_line_terminator, class_of}
use Rattle.js_lexer.specs.Events.{ScriptEvent, NumberBegins, StringBegins, ScriptByte, script_bytes}
use Rattle.js_lexer.specs.Feeding.{script_reading, read_on}
use Rattle.js_lexer.specs.Plain.{word_events, punctuator_event, number_events, text_events, literal_events, item_events, more_item_events, entry_events, more_entry_events}
use Rattle.js_lexer.specs.Sanitizers.{escaped, text_rows, json_text, json, json_items, json_more_items, json_entries, json_more_entries}
use Rattle.js_lexer.specs.States.{NoEscape, At, Code, Word, Number, Pluses, Minuses, InString}
use Rattle.js_lexer.specs.WhiteSpace.{classed, released, held_after}
use Rattle.js_lexer.specs.Words.{sense_after}
use Rattle.js_lexer.specs.declared.class.ScriptClass.TheVariants as class
use Rattle.js_lexer.specs.declared.sense.Sense.{Sense}
use Rattle.js_lexer.specs.declared.sense.Sense.TheVariants as sense
use Rattle.js_lexer.proofs.OpenBytes.{open_at, between_escapes}
use Rattle.js_lexer.proofs.JsonText.{read-here, Reads, then-reads, text-goes}

-- The digits of a number.
abbrev AreDigits : List ℕ → Type 0
AreDigits [] = ⊤
AreDigits (b ∷ bs) = (is_ascii_digit b ≡ true) × AreDigits bs

abbrev IsNumeral : List ℕ → Type 0
IsNumeral [] = ⊥
IsNumeral (b ∷ bs) = (is_ascii_digit b ≡ true) × AreDigits bs

glyph-digit : (n : ℕ) → is_ascii_digit (digit_glyph false (n % 10)) ≡ true
glyph-digit n = agree_below_at (λ d. is_ascii_digit (digit_glyph false d)) (λ d. true) 10 (n % 10) refl (omega arith)

numeral-digits : (bytes : List ℕ) → IsNumeral bytes → AreDigits bytes
numeral-digits [] h = tt
numeral-digits (b ∷ bs) h = h

digits-numeral : (k n : ℕ) (bytes : List ℕ) → IsNumeral bytes → IsNumeral (digits_onto k 10 false n bytes)
digits-numeral zero n bytes h = h
digits-numeral (suc k) n bytes h =
    cond_both (n / 10 == 0) _ _ IsNumeral (λ e. (glyph-digit n, numeral-digits bytes h))
    (λ e. digits-numeral k (n / 10) (digit_glyph false (n % 10) ∷ bytes) (glyph-digit n, numeral-digits bytes h))

decimal-numeral : (n : ℕ) → IsNumeral (decimal n)
unfolding digits
decimal-numeral n =
    cond_both (n / 10 == 0) _ _ IsNumeral (λ e. (glyph-digit n, tt))
    (λ e. digits-numeral 63 (n / 10) (digit_glyph false (n % 10) ∷ []) (glyph-digit n, tt))

digit-class : (b : ℕ) → is_ascii_digit b ≡ true → class_of b ≡ class.Digit
unfolding class_of
digit-class b h =
    let no_space : is_space b ≡ false = grind (arith, nat_tests) in
    let no_end : is_line_terminator b ≡ false = grind (arith, nat_tests) in
    rw no_space (rw no_end (rw h refl))

digit-ascii : (b : ℕ) → is_ascii_digit b ≡ true → nat_lt b 128 ≡ true
digit-ascii b h = grind (arith, nat_tests)

digit-released : (b : ℕ) → is_ascii_digit b ≡ true → released [] b ≡ classed class.Digit b ∷ []
unfolding released
digit-released b h =
    let e = digit-ascii b h in
    let g = digit-class b h in
    rw e (rw g refl)

digit-held : (b : ℕ) → is_ascii_digit b ≡ true → held_after [] b ≡ []
unfolding held_after
digit-held b h = (let e = digit-ascii b h in rw e refl)

-- a digit begins a number in code and behind a `-`, and goes on with one
digit-begins : (s : Sense) (b : ℕ) → is_ascii_digit b ≡ true → (t : List ScriptEvent) → Reads (Code s) Number (b ∷ []) t (ScriptByte b ∷ NumberBegins ∷ t)
digit-begins s b h t f m k l z =
    let e = digit-released b h in
    let g = digit-held b h in
    read-here Number (ScriptByte b ∷ NumberBegins ∷ t) (read_on (b ∷ []) (script_reading (open_at (Code s) (between_escapes f m k l z)) t)) (rw e (rw g refl))

digit-negates : (b : ℕ) → is_ascii_digit b ≡ true → (t : List ScriptEvent) → Reads (Minuses true) Number (b ∷ []) t (ScriptByte b ∷ NumberBegins ∷ t)
digit-negates b h t f m k l z =
    let e = digit-released b h in
    let g = digit-held b h in
    read-here Number (ScriptByte b ∷ NumberBegins ∷ t) (read_on (b ∷ []) (script_reading (open_at (Minuses true) (between_escapes f m k l z)) t)) (rw e (rw g refl))

digit-goes : (b : ℕ) → is_ascii_digit b ≡ true → (t : List ScriptEvent) → Reads Number Number (b ∷ []) t (ScriptByte b ∷ t)
digit-goes b h t f m k l z =
    let e = digit-released b h in
    let g = digit-held b h in
    read-here Number (ScriptByte b ∷ t) (read_on (b ∷ []) (script_reading (open_at Number (between_escapes f m k l z)) t)) (rw e (rw g refl))

digits-go : (bytes : List ℕ) → AreDigits bytes → (t : List ScriptEvent) → Reads Number Number bytes t (script_bytes bytes t)
digits-go [] h t = λ f m k l z. record { fresh = f; markup = m; bracket = k; literal = l; lines = z; is = refl }
digits-go (b ∷ bs) h t =
    then-reads Number Number Number (b ∷ []) bs t (ScriptByte b ∷ t) (script_bytes bs (ScriptByte b ∷ t)) (digit-goes b h.0 t) (digits-go bs h.1 (ScriptByte b ∷ t))

numeral-reads : (a : At) → ((b : ℕ) → is_ascii_digit b ≡ true → (t : List ScriptEvent) → Reads a Number (b ∷ []) t (ScriptByte b ∷ NumberBegins ∷ t))
    → (bytes : List ℕ) → IsNumeral bytes → (t : List ScriptEvent) → Reads a Number bytes t (script_bytes bytes (NumberBegins ∷ t))
numeral-reads a first [] h t = absurd h
numeral-reads a first (b ∷ bs) h t =
    let begun = ScriptByte b ∷ NumberBegins ∷ t in
    then-reads a Number Number (b ∷ []) bs t begun (script_bytes bs begun) (first b h.0 t) (digits-go bs h.1 begun)

minus-begins : (s : Sense) (t : List ScriptEvent) → Reads (Code s) (Minuses true) (45 ∷ []) t (punctuator_event 45 t)
unfolding class_of released held_after
minus-begins s t f m k l z = record { fresh = _; markup = _; bracket = _; literal = _; lines = _; is = refl }

pub number-reads : (s : Sense) (n : ℤ) (t : List ScriptEvent) → Reads (Code s) Number (signed_decimal n) t (number_events n t)
number-reads s (pos n) t = numeral-reads (Code s) (digit-begins s) (decimal n) (decimal-numeral n) t
number-reads s (negsuc n) t =
    let minus = punctuator_event 45 t in
    then-reads (Code s) (Minuses true) Number (45 ∷ []) (decimal (suc n)) t minus (script_bytes (decimal (suc n)) (NumberBegins ∷ minus))
    (minus-begins s t) (numeral-reads (Minuses true) digit-negates (decimal (suc n)) (decimal-numeral (suc n)) minus)

-- A token with which a value ends inside of another: what follows.
record IsEnd (a : At) : Type 0 where
  pub comma : (t : List ScriptEvent) → Reads a (Code sense.Re) (44 ∷ []) t (punctuator_event 44 t)
  pub bracket : (t : List ScriptEvent) → Reads a (Code sense.Div) (93 ∷ []) t (punctuator_event 93 t)
  pub brace : (t : List ScriptEvent) → Reads a (Code sense.Brace) (125 ∷ []) t (punctuator_event 125 t)

code-ends : (s : Sense) → IsEnd (Code s)
unfolding class_of released held_after
code-ends s = record {
  comma = λ t f m k l z. record { fresh = _; markup = _; bracket = _; literal = _; lines = _; is = refl };
  bracket = λ t f m k l z. record { fresh = _; markup = _; bracket = _; literal = _; lines = _; is = refl };
  brace = λ t f m k l z. record { fresh = _; markup = _; bracket = _; literal = _; lines = _; is = refl };
}

word-ends : (w : List ℕ) → IsEnd (Word w)
unfolding class_of released held_after
word-ends w = record {
  comma = λ t f m k l z. record { fresh = _; markup = _; bracket = _; literal = _; lines = _; is = refl };
  bracket = λ t f m k l z. record { fresh = _; markup = _; bracket = _; literal = _; lines = _; is = refl };
  brace = λ t f m k l z. record { fresh = _; markup = _; bracket = _; literal = _; lines = _; is = refl };
}

number-ends : IsEnd Number
unfolding class_of released held_after
number-ends = record {
  comma = λ t f m k l z. record { fresh = _; markup = _; bracket = _; literal = _; lines = _; is = refl };
  bracket = λ t f m k l z. record { fresh = _; markup = _; bracket = _; literal = _; lines = _; is = refl };
  brace = λ t f m k l z. record { fresh = _; markup = _; bracket = _; literal = _; lines = _; is = refl };
}

abbrev ended : Data → At
ended null = Word (codes "null")
ended (truth true) = Word (codes "true")
ended (truth false) = Word (codes "false")
ended (int _) = Number
ended (text _) = Code sense.Div
ended (list _) = Code sense.Div
ended (dict _) = Code sense.Brace

ends : (d : Data) → IsEnd (ended d)
ends null = word-ends (codes "null")
ends (truth true) = word-ends (codes "true")
ends (truth false) = word-ends (codes "false")
ends (int _) = number-ends
ends (text _) = code-ends sense.Div
ends (list _) = code-ends sense.Div
ends (dict _) = code-ends sense.Brace

-- a space after it
pub code-blank : (s : Sense) (t : List ScriptEvent) → Reads (Code s) (Code s) (32 ∷ []) t t
unfolding class_of released held_after
code-blank s t f m k l z = record { fresh = _; markup = _; bracket = _; literal = _; lines = _; is = refl }

pub word-blank : (w : List ℕ) (t : List ScriptEvent) → Reads (Word w) (Code (sense_after w)) (32 ∷ []) t t
unfolding class_of released held_after
word-blank w t f m k l z = record { fresh = _; markup = _; bracket = _; literal = _; lines = _; is = refl }

pub number-blank : (t : List ScriptEvent) → Reads Number (Code sense.Div) (32 ∷ []) t t
unfolding class_of released held_after
number-blank t f m k l z = record { fresh = _; markup = _; bracket = _; literal = _; lines = _; is = refl }

-- The first byte of a value that stands between no spaces, and a space.
pub record IsOpen (a : At) : Type 0 where
  pub settles : Sense
  pub blank : (t : List ScriptEvent) → Reads a (Code settles) (32 ∷ []) t t
  pub quote : (t : List ScriptEvent) → Reads a (InString true NoEscape) (34 ∷ []) t (ScriptByte 34 ∷ StringBegins ∷ t)
  pub bracket : (t : List ScriptEvent) → Reads a (Code sense.Re) (91 ∷ []) t (punctuator_event 91 t)
  pub brace : (t : List ScriptEvent) → Reads a (Code sense.Re) (123 ∷ []) t (punctuator_event 123 t)

pub code-opens : (s : Sense) → IsOpen (Code s)
unfolding class_of released held_after
code-opens s = record {
  settles = s;
  blank = λ t f m k l z. record { fresh = _; markup = _; bracket = _; literal = _; lines = _; is = refl };
  quote = λ t f m k l z. record { fresh = _; markup = _; bracket = _; literal = _; lines = _; is = refl };
  bracket = λ t f m k l z. record { fresh = _; markup = _; bracket = _; literal = _; lines = _; is = refl };
  brace = λ t f m k l z. record { fresh = _; markup = _; bracket = _; literal = _; lines = _; is = refl };
}

pub word-opens : (w : List ℕ) → IsOpen (Word w)
unfolding class_of released held_after
word-opens w = record {
  settles = _;
  blank = λ t f m k l z. record { fresh = _; markup = _; bracket = _; literal = _; lines = _; is = refl };
  quote = λ t f m k l z. record { fresh = _; markup = _; bracket = _; literal = _; lines = _; is = refl };
  bracket = λ t f m k l z. record { fresh = _; markup = _; bracket = _; literal = _; lines = _; is = refl };
  brace = λ t f m k l z. record { fresh = _; markup = _; bracket = _; literal = _; lines = _; is = refl };
}

pub number-opens : IsOpen Number
unfolding class_of released held_after
number-opens = record {
  settles = _;
  blank = λ t f m k l z. record { fresh = _; markup = _; bracket = _; literal = _; lines = _; is = refl };
  quote = λ t f m k l z. record { fresh = _; markup = _; bracket = _; literal = _; lines = _; is = refl };
  bracket = λ t f m k l z. record { fresh = _; markup = _; bracket = _; literal = _; lines = _; is = refl };
  brace = λ t f m k l z. record { fresh = _; markup = _; bracket = _; literal = _; lines = _; is = refl };
}

pub pluses-open : (odd : Bool) → IsOpen (Pluses odd)
unfolding class_of released held_after
pluses-open odd = record {
  settles = _;
  blank = λ t f m k l z. record { fresh = _; markup = _; bracket = _; literal = _; lines = _; is = refl };
  quote = λ t f m k l z. record { fresh = _; markup = _; bracket = _; literal = _; lines = _; is = refl };
  bracket = λ t f m k l z. record { fresh = _; markup = _; bracket = _; literal = _; lines = _; is = refl };
  brace = λ t f m k l z. record { fresh = _; markup = _; bracket = _; literal = _; lines = _; is = refl };
}

pub minuses-open : (odd : Bool) → IsOpen (Minuses odd)
unfolding class_of released held_after
minuses-open odd = record {
  settles = _;
  blank = λ t f m k l z. record { fresh = _; markup = _; bracket = _; literal = _; lines = _; is = refl };
  quote = λ t f m k l z. record { fresh = _; markup = _; bracket = _; literal = _; lines = _; is = refl };
  bracket = λ t f m k l z. record { fresh = _; markup = _; bracket = _; literal = _; lines = _; is = refl };
  brace = λ t f m k l z. record { fresh = _; markup = _; bracket = _; literal = _; lines = _; is = refl };
}

-- `null`, `true` and `false`
pub null-reads : (s : Sense) (t : List ScriptEvent) → Reads (Code s) (Word (codes "null")) (codes "null") t (word_events (codes "null") t)
unfolding class_of released held_after
null-reads s t f m k l z = record { fresh = _; markup = _; bracket = _; literal = _; lines = _; is = refl }

pub true-reads : (s : Sense) (t : List ScriptEvent) → Reads (Code s) (Word (codes "true")) (codes "true") t (word_events (codes "true") t)
unfolding class_of released held_after
true-reads s t f m k l z = record { fresh = _; markup = _; bracket = _; literal = _; lines = _; is = refl }

pub false-reads : (s : Sense) (t : List ScriptEvent) → Reads (Code s) (Word (codes "false")) (codes "false") t (word_events (codes "false") t)
unfolding class_of released held_after
false-reads s t f m k l z = record { fresh = _; markup = _; bracket = _; literal = _; lines = _; is = refl }

colon : (s : Sense) (t : List ScriptEvent) → Reads (Code s) (Code sense.Re) (58 ∷ []) t (punctuator_event 58 t)
unfolding class_of released held_after
colon s t f m k l z = record { fresh = _; markup = _; bracket = _; literal = _; lines = _; is = refl }

pub text-reads : (a : At) → IsOpen a → (bytes : List ℕ) (t : List ScriptEvent) → Reads a (Code sense.Div) (json_text bytes) t (text_events bytes t)
text-reads a start bytes t =
    then-reads a (InString true NoEscape) (Code sense.Div) (34 ∷ []) (escaped text_rows bytes ++ 34 ∷ []) t (ScriptByte 34 ∷ StringBegins ∷ t) (text_events bytes t)
    (start.quote t) (text-goes bytes t)

abbrev re : At
re = Code sense.Re

abbrev entry_events_of : List ℕ → Data → List ScriptEvent → List ScriptEvent
entry_events_of key d t = literal_events d (punctuator_event 58 (text_events key t))

-- an entry, before others and the end of the dictionary that are read behind its value
entry-reads : (key : List ℕ) (d : Data) (rest : DataDict) (t : List ScriptEvent)
    → Reads re (ended d) (json d) (punctuator_event 58 (text_events key t)) (entry_events_of key d t)
    → Reads (ended d) (Code sense.Brace) (json_more_entries rest ++ 125 ∷ []) (entry_events_of key d t)
    (punctuator_event 125 (more_entry_events rest (entry_events_of key d t)))
    → Reads re (Code sense.Brace) ((json_text key ++ 58 ∷ (json d ++ json_more_entries rest)) ++ 125 ∷ []) t
    (punctuator_event 125 (more_entry_events rest (entry_events_of key d t)))
entry-reads key d rest t value others =
    let keyed = text_events key t in
    let named = punctuator_event 58 keyed in
    let valued = entry_events_of key d t in
    let last = punctuator_event 125 (more_entry_events rest valued) in
    let tail = json_more_entries rest ++ 125 ∷ [] in
    let same = append_assoc (json_text key) (58 ∷ (json d ++ json_more_entries rest)) (125 ∷ [])
    ∙ ap (λ (bytes : List ℕ). json_text key ++ 58 ∷ bytes) (append_assoc (json d) (json_more_entries rest) (125 ∷ [])) in
    subst (λ (bytes : List ℕ). Reads re (Code sense.Brace) bytes t last) (sym same)
    (then-reads re (Code sense.Div) (Code sense.Brace) (json_text key) (58 ∷ (json d ++ tail)) t keyed last (text-reads re (code-opens sense.Re) key t)
    (then-reads (Code sense.Div) re (Code sense.Brace) (58 ∷ []) (json d ++ tail) keyed named last (colon sense.Div keyed)
    (then-reads re (ended d) (Code sense.Brace) (json d) tail named valued last value others)))

mutual
  value-reads : (d : Data) (s : Sense) (t : List ScriptEvent) → Reads (Code s) (ended d) (json d) t (literal_events d t)
  value-reads null s t = null-reads s t
  value-reads (truth true) s t = true-reads s t
  value-reads (truth false) s t = false-reads s t
  value-reads (int n) s t = number-reads s n t
  value-reads (text bytes) s t = text-reads (Code s) (code-opens s) bytes t
  value-reads (list items) s t =
      let open_list = punctuator_event 91 t in
      then-reads (Code s) re (Code sense.Div) (91 ∷ []) (json_items items ++ 93 ∷ []) t open_list (literal_events (list items) t)
      ((code-opens s).bracket t) (items-read items open_list)
  value-reads (dict entries) s t =
      let open_dict = punctuator_event 123 t in
      then-reads (Code s) re (Code sense.Brace) (123 ∷ []) (json_entries entries ++ 125 ∷ []) t open_dict (literal_events (dict entries) t)
      ((code-opens s).brace t) (entries-read entries open_dict)

  pub items-read : (items : DataList) (t : List ScriptEvent) → Reads re (Code sense.Div) (json_items items ++ 93 ∷ []) t (punctuator_event 93 (item_events items t))
  items-read no_items t = (code-ends sense.Re).bracket t
  items-read (item d rest) t =
      let last = punctuator_event 93 (more_item_events rest (literal_events d t)) in
      subst (λ (bytes : List ℕ). Reads re (Code sense.Div) bytes t last) (sym (append_assoc (json d) (json_more_items rest) (93 ∷ [])))
      (then-reads re (ended d) (Code sense.Div) (json d) (json_more_items rest ++ 93 ∷ []) t (literal_events d t) last
      (value-reads d sense.Re t) (more-read rest (ended d) (ends d) (literal_events d t)))

  more-read : (items : DataList) (a : At) → IsEnd a → (t : List ScriptEvent)
      → Reads a (Code sense.Div) (json_more_items items ++ 93 ∷ []) t (punctuator_event 93 (more_item_events items t))
  more-read no_items a ending t = ending.bracket t
  more-read (item d rest) a ending t =
      let comma = punctuator_event 44 t in
      let last = punctuator_event 93 (more_item_events rest (literal_events d comma)) in
      then-reads a re (Code sense.Div) (44 ∷ []) ((json d ++ json_more_items rest) ++ 93 ∷ []) t comma last (ending.comma t)
      (subst (λ (bytes : List ℕ). Reads re (Code sense.Div) bytes comma last) (sym (append_assoc (json d) (json_more_items rest) (93 ∷ [])))
      (then-reads re (ended d) (Code sense.Div) (json d) (json_more_items rest ++ 93 ∷ []) comma (literal_events d comma) last
      (value-reads d sense.Re comma) (more-read rest (ended d) (ends d) (literal_events d comma))))

  pub entries-read : (entries : DataDict) (t : List ScriptEvent) → Reads re (Code sense.Brace) (json_entries entries ++ 125 ∷ []) t (punctuator_event 125 (entry_events entries t))
  entries-read no_entries t = (code-ends sense.Re).brace t
  entries-read (entry key d rest) t =
      let named = punctuator_event 58 (text_events key t) in
      entry-reads key d rest t (value-reads d sense.Re named) (more-entries-read rest (ended d) (ends d) (literal_events d named))

  more-entries-read : (entries : DataDict) (a : At) → IsEnd a → (t : List ScriptEvent)
      → Reads a (Code sense.Brace) (json_more_entries entries ++ 125 ∷ []) t (punctuator_event 125 (more_entry_events entries t))
  more-entries-read no_entries a ending t = ending.brace t
  more-entries-read (entry key d rest) a ending t =
      let comma = punctuator_event 44 t in
      let named = punctuator_event 58 (text_events key comma) in
      then-reads a re (Code sense.Brace) (44 ∷ []) ((json_text key ++ 58 ∷ (json d ++ json_more_entries rest)) ++ 125 ∷ []) t comma
      (punctuator_event 125 (more_entry_events (entry key d rest) t)) (ending.comma t)
      (entry-reads key d rest comma (value-reads d sense.Re named) (more-entries-read rest (ended d) (ends d) (literal_events d named)))
