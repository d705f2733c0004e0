-- The bytes that are written of a datum are, as JSON, the tokens of its tree.
use Rattle.std.proofs.Common.{◌≡◌, ◌||◌, ℕ, Bool, true, false, cond, List, [], ◌∷◌, ◌++◌, reverse, if◌then◌else◌, refl, sym, ap, ap₂, ◌∙◌}
use Rattle.std.proofs.lemmas.List.{append_assoc, append-nil}
use Rattle.std.specs.Fmt.{signed_decimal}
use Rattle.page_datum.specs.Data.{Data, null, truth, int, text, list, dict, DataList, no_items, item, DataDict, no_entries, entry}
use Rattle.json.specs.Json as grammar
use Rattle.json.specs.Lex.{Lexeme, token, comma, colon, lex, between, fresh, after_value, after_comma, begins_colon, punctuate, tokens}
use Rattle.json.specs.Token.{Token}
use Rattle.json.specs.Tree.{json_tokens, items_tokens, members_tokens}
use Rattle.json.specs.Word.{ends_word, word}
use Rattle.json.proofs.Printed.Numbers.{in_word-ended}
use Rattle.js_lexer.specs.Sanitizers.{json_text, json, json_items, json_more_items, json_entries, json_more_entries, begins_joined, js_value}
use Rattle.js_lexer.specs.ScriptBack.{IsJsonData, AreJsonItems, AreJsonEntries}
use Rattle.san_js.proofs.JsonNumbers.{lex-whole}
use Rattle.san_js.proofs.JsonStrings.{lex-text}

-- the JSON that a datum is written as
abbrev mutual
  pub tree_of : Data → grammar.Json
  tree_of null = grammar.null
  tree_of (truth b) = grammar.boolean b
  tree_of (int n) = grammar.number (signed_decimal n)
  tree_of (text t) = grammar.string t
  tree_of (list items) = grammar.array (items_of items)
  tree_of (dict entries) = grammar.object (members_of entries)

  pub items_of : DataList → grammar.Items
  items_of no_items = grammar.no_items
  items_of (item d rest) = grammar.item (tree_of d) (items_of rest)

  pub members_of : DataDict → grammar.Members
  members_of no_entries = grammar.no_members
  members_of (entry key d rest) = grammar.member key (tree_of d) (members_of rest)

-- Its lexemes, before others.
abbrev mutual
  lexemes : Data → List Lexeme → List Lexeme
  lexemes null ls = token Token.null ∷ ls
  lexemes (truth b) ls = token (Token.boolean b) ∷ ls
  lexemes (int n) ls = token (Token.number (signed_decimal n)) ∷ ls
  lexemes (text t) ls = token (Token.string t) ∷ ls
  lexemes (list items) ls = token Token.begin_array ∷ item_lexemes items (token Token.end_array ∷ ls)
  lexemes (dict entries) ls = token Token.begin_object ∷ entry_lexemes entries (token Token.end_object ∷ ls)

  item_lexemes : DataList → List Lexeme → List Lexeme
  item_lexemes no_items ls = ls
  item_lexemes (item d rest) ls = lexemes d (more_item_lexemes rest ls)

  more_item_lexemes : DataList → List Lexeme → List Lexeme
  more_item_lexemes no_items ls = ls
  more_item_lexemes (item d rest) ls = comma ∷ lexemes d (more_item_lexemes rest ls)

  entry_lexemes : DataDict → List Lexeme → List Lexeme
  entry_lexemes no_entries ls = ls
  entry_lexemes (entry key d rest) ls = token (Token.string key) ∷ colon ∷ lexemes d (more_entry_lexemes rest ls)

  more_entry_lexemes : DataDict → List Lexeme → List Lexeme
  more_entry_lexemes no_entries ls = ls
  more_entry_lexemes (entry key d rest) ls = comma ∷ token (Token.string key) ∷ colon ∷ lexemes d (more_entry_lexemes rest ls)

-- `null`, `true` and `false`
lex-null : (rest : List ℕ) → ends_word rest ≡ true → lex between (json null ++ rest) ≡ token Token.null ∷ lex between rest
unfolding lex word
lex-null rest e = ap₂ (λ (x : Bool) (ls : List Lexeme). token (cond x Token.null Token.bad) ∷ ls) e (in_word-ended rest e)

lex-truth : (b : Bool) (rest : List ℕ) → ends_word rest ≡ true → lex between (json (truth b) ++ rest) ≡ token (Token.boolean b) ∷ lex between rest
unfolding lex word
lex-truth true rest e = ap₂ (λ (x : Bool) (ls : List Lexeme). token (cond x (Token.boolean true) Token.bad) ∷ ls) e (in_word-ended rest e)
lex-truth false rest e = ap₂ (λ (x : Bool) (ls : List Lexeme). token (cond x (Token.boolean false) Token.bad) ∷ ls) e (in_word-ended rest e)

-- a word ends before what follows a value
ends-item : (items : DataList) (rest : List ℕ) → ends_word (json_more_items items ++ 93 ∷ rest) ≡ true
ends-item no_items rest = refl
ends-item (item d more) rest = refl

ends-entry : (entries : DataDict) (rest : List ℕ) → ends_word (json_more_entries entries ++ 125 ∷ rest) ≡ true
ends-entry no_entries rest = refl
ends-entry (entry key d more) rest = refl

lex-entry : (key : List ℕ) (d : Data) (more : DataDict) (rest : List ℕ) (ls : List Lexeme)
    → lex between (json d ++ (json_more_entries more ++ 125 ∷ rest)) ≡ ls
    → lex between ((json_text key ++ 58 ∷ (json d ++ json_more_entries more)) ++ 125 ∷ rest) ≡ token (Token.string key) ∷ colon ∷ ls
unfolding lex
lex-entry key d more rest ls e =
    let value = json d ++ (json_more_entries more ++ 125 ∷ rest) in
    ap (lex between)
    (append_assoc (json_text key) (58 ∷ (json d ++ json_more_entries more)) (125 ∷ rest)
    ∙ ap (λ (bytes : List ℕ). json_text key ++ 58 ∷ bytes) (append_assoc (json d) (json_more_entries more) (125 ∷ rest)))
    ∙ lex-text key (58 ∷ value) ∙ ap (λ (found : List Lexeme). token (Token.string key) ∷ colon ∷ found) e

mutual
  unfolding lex

  lex-datum : (d : Data) (rest : List ℕ) → IsJsonData d → ends_word rest ≡ true → lex between (json d ++ rest) ≡ lexemes d (lex between rest)
  lex-datum null rest h e = lex-null rest e
  lex-datum (truth b) rest h e = lex-truth b rest e
  lex-datum (int n) rest h e = lex-whole n rest h e
  lex-datum (text t) rest h e = lex-text t rest
  lex-datum (list items) rest h e =
      ap (λ (bytes : List ℕ). lex between (91 ∷ bytes)) (append_assoc (json_items items) (93 ∷ []) rest)
      ∙ ap (λ (ls : List Lexeme). token Token.begin_array ∷ ls) (lex-items items rest h)
  lex-datum (dict entries) rest h e =
      ap (λ (bytes : List ℕ). lex between (123 ∷ bytes)) (append_assoc (json_entries entries) (125 ∷ []) rest)
      ∙ ap (λ (ls : List Lexeme). token Token.begin_object ∷ ls) (lex-entries entries rest h.1)

  lex-items : (items : DataList) (rest : List ℕ) → AreJsonItems items
      → lex between (json_items items ++ 93 ∷ rest) ≡ item_lexemes items (token Token.end_array ∷ lex between rest)
  lex-items no_items rest h = refl
  lex-items (item d more) rest h =
      ap (lex between) (append_assoc (json d) (json_more_items more) (93 ∷ rest))
      ∙ lex-datum d (json_more_items more ++ 93 ∷ rest) h.0 (ends-item more rest) ∙ ap (lexemes d) (lex-more-items more rest h.1)

  lex-more-items : (items : DataList) (rest : List ℕ) → AreJsonItems items
      → lex between (json_more_items items ++ 93 ∷ rest) ≡ more_item_lexemes items (token Token.end_array ∷ lex between rest)
  lex-more-items no_items rest h = refl
  lex-more-items (item d more) rest h =
      ap (λ (bytes : List ℕ). lex between (44 ∷ bytes)) (append_assoc (json d) (json_more_items more) (93 ∷ rest))
      ∙ ap (λ (ls : List Lexeme). comma ∷ ls)
      (lex-datum d (json_more_items more ++ 93 ∷ rest) h.0 (ends-item more rest) ∙ ap (lexemes d) (lex-more-items more rest h.1))

  lex-entries : (entries : DataDict) (rest : List ℕ) → AreJsonEntries entries
      → lex between (json_entries entries ++ 125 ∷ rest) ≡ entry_lexemes entries (token Token.end_object ∷ lex between rest)
  lex-entries no_entries rest h = refl
  lex-entries (entry key d more) rest h =
      let others = more_entry_lexemes more (token Token.end_object ∷ lex between rest) in
      lex-entry key d more rest (lexemes d others)
      (lex-datum d (json_more_entries more ++ 125 ∷ rest) h.0 (ends-entry more rest) ∙ ap (lexemes d) (lex-more-entries more rest h.1))

  lex-more-entries : (entries : DataDict) (rest : List ℕ) → AreJsonEntries entries
      → lex between (json_more_entries entries ++ 125 ∷ rest) ≡ more_entry_lexemes entries (token Token.end_object ∷ lex between rest)
  lex-more-entries no_entries rest h = refl
  lex-more-entries (entry key d more) rest h =
      let others = more_entry_lexemes more (token Token.end_object ∷ lex between rest) in
      ap (λ (ls : List Lexeme). comma ∷ ls)
      (lex-entry key d more rest (lexemes d others)
      (lex-datum d (json_more_entries more ++ 125 ∷ rest) h.0 (ends-entry more rest) ∙ ap (lexemes d) (lex-more-entries more rest h.1)))

-- no colon follows a value
no-colon-item : (items : DataList) (ls : List Lexeme) → begins_colon (more_item_lexemes items (token Token.end_array ∷ ls)) ≡ false
no-colon-item no_items ls = refl
no-colon-item (item d more) ls = refl

no-colon-entry : (entries : DataDict) (ls : List Lexeme) → begins_colon (more_entry_lexemes entries (token Token.end_object ∷ ls)) ≡ false
no-colon-entry no_entries ls = refl
no-colon-entry (entry key d more) ls = refl

-- tokens of a value, and tokens that follow it
goes-on : (first second rest : List Token) {read inner : List Token} → read ≡ first ++ inner → inner ≡ second ++ rest → read ≡ (first ++ second) ++ rest
goes-on first second rest e f = e ∙ ap (λ (ts : List Token). first ++ ts) f ∙ sym (append_assoc first second rest)

-- lexemes that may stand at the beginning, and behind a comma
abbrev IsPunctuated : List Lexeme → List Token → Type 0
IsPunctuated ls ts = (punctuate fresh ls ≡ ts) × (punctuate after_comma ls ≡ ts)

mutual
  unfolding punctuate

  punctuated-datum : (d : Data) (ls : List Lexeme) → begins_colon ls ≡ false → IsPunctuated (lexemes d ls) (json_tokens (tree_of d) ++ punctuate after_value ls)
  punctuated-datum null ls e = (refl, refl)
  punctuated-datum (truth b) ls e = (refl, refl)
  punctuated-datum (int n) ls e = (refl, refl)
  punctuated-datum (text t) ls e = (rw e refl, rw e refl)
  punctuated-datum (list items) ls e =
      let inner = ap (λ (ts : List Token). Token.begin_array ∷ ts) (punctuated-items items ls) in
      (inner, inner)
  punctuated-datum (dict entries) ls e =
      let inner = ap (λ (ts : List Token). Token.begin_object ∷ ts) (punctuated-entries entries ls) in
      (inner, inner)

  punctuated-items : (items : DataList) (ls : List Lexeme)
      → punctuate fresh (item_lexemes items (token Token.end_array ∷ ls)) ≡ items_tokens (items_of items) ++ punctuate after_value ls
  punctuated-items no_items ls = refl
  punctuated-items (item d more) ls =
      goes-on (json_tokens (tree_of d)) (items_tokens (items_of more)) (punctuate after_value ls)
      (punctuated-datum d (more_item_lexemes more (token Token.end_array ∷ ls)) (no-colon-item more ls)).0 (punctuated-more-items more ls)

  punctuated-more-items : (items : DataList) (ls : List Lexeme)
      → punctuate after_value (more_item_lexemes items (token Token.end_array ∷ ls)) ≡ items_tokens (items_of items) ++ punctuate after_value ls
  punctuated-more-items no_items ls = refl
  punctuated-more-items (item d more) ls =
      goes-on (json_tokens (tree_of d)) (items_tokens (items_of more)) (punctuate after_value ls)
      (punctuated-datum d (more_item_lexemes more (token Token.end_array ∷ ls)) (no-colon-item more ls)).1 (punctuated-more-items more ls)

  punctuated-entries : (entries : DataDict) (ls : List Lexeme)
      → punctuate fresh (entry_lexemes entries (token Token.end_object ∷ ls)) ≡ members_tokens (members_of entries) ++ punctuate after_value ls
  punctuated-entries no_entries ls = refl
  punctuated-entries (entry key d more) ls =
      ap (λ (ts : List Token). Token.key key ∷ ts)
      (goes-on (json_tokens (tree_of d)) (members_tokens (members_of more)) (punctuate after_value ls)
      (punctuated-datum d (more_entry_lexemes more (token Token.end_object ∷ ls)) (no-colon-entry more ls)).0 (punctuated-more-entries more ls))

  punctuated-more-entries : (entries : DataDict) (ls : List Lexeme)
      → punctuate after_value (more_entry_lexemes entries (token Token.end_object ∷ ls)) ≡ members_tokens (members_of entries) ++ punctuate after_value ls
  punctuated-more-entries no_entries ls = refl
  punctuated-more-entries (entry key d more) ls =
      ap (λ (ts : List Token). Token.key key ∷ ts)
      (goes-on (json_tokens (tree_of d)) (members_tokens (members_of more)) (punctuate after_value ls)
      (punctuated-datum d (more_entry_lexemes more (token Token.end_object ∷ ls)) (no-colon-entry more ls)).0 (punctuated-more-entries more ls))

-- with spaces around it or without
lex-spaced : (d : Data) → IsJsonData d → (x : Bool) → lex between (if x then 32 ∷ (json d ++ 32 ∷ []) else json d) ≡ lexemes d []
unfolding lex
lex-spaced d h true = lex-datum d (32 ∷ []) h refl
lex-spaced d h false = ap (lex between) (sym (append-nil (json d))) ∙ lex-datum d [] h refl

tokens-alone : (d : Data) → punctuate fresh (lexemes d []) ≡ json_tokens (tree_of d) ++ []
unfolding punctuate
tokens-alone d = (punctuated-datum d [] refl).0

pub tokens-of : (d : Data) → IsJsonData d → tokens (js_value d) ≡ json_tokens (tree_of d)
tokens-of d h =
    ap (punctuate fresh) (lex-spaced d h (begins_joined (json d) || begins_joined (reverse (json d)))) ∙ tokens-alone d ∙ append-nil (json_tokens (tree_of d))
