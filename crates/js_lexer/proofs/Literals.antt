-- The first thing that the literal of a datum tells is that a token begins. So bytes whose first ones join what stands before are none.
use Rattle.std.proofs.Common.{◌≡◌, ℕ, ℤ, pos, negsuc, suc, Bool, true, false, codes, List, [], ◌∷◌, refl, sym, ◌∙◌}
use Rattle.page_datum.specs.Data.{Data, null, truth, int, text, list, dict, DataList, no_items, item, DataDict, no_entries, entry}
use Rattle.js_lexer.specs.Events.{ScriptEvent, WordBegins, NumberBegins, PunctuatorBegins, StringBegins, ScriptByte, script_bytes}
use Rattle.js_lexer.specs.Plain.{word_events, punctuator_event, number_events, text_events, literal_events, item_events, more_item_events, entry_events, more_entry_events}
use Rattle.js_lexer.specs.Sanitizers.{json_text}
use Rattle.std.specs.Fmt.{decimal}

-- the event that was told first is none of a byte
abbrev pub is_beginning : ScriptEvent → Bool
is_beginning (ScriptByte b) = false
is_beginning e = true

abbrev pub begins_token : List ScriptEvent → Bool
begins_token [] = true
begins_token (e ∷ []) = is_beginning e
begins_token (e ∷ f ∷ t) = begins_token (f ∷ t)

-- what is told behind the beginning of a token
more : (e f : ScriptEvent) (t : List ScriptEvent) → begins_token (f ∷ t) ≡ true → begins_token (e ∷ f ∷ t) ≡ true
more e f t h = h

bytes-more : (bs : List ℕ) (f : ScriptEvent) (t : List ScriptEvent) → begins_token (f ∷ t) ≡ true → begins_token (script_bytes bs (f ∷ t)) ≡ true
bytes-more [] f t h = h
bytes-more (b ∷ bs) f t h = bytes-more bs (ScriptByte b) (f ∷ t) h

begun : (e : ScriptEvent) (t : List ScriptEvent) → is_beginning e ≡ true → begins_token t ≡ true → begins_token (e ∷ t) ≡ true
begun e [] h k = h
begun e (f ∷ t) h k = k

punctuated : (b : ℕ) (t : List ScriptEvent) → begins_token t ≡ true → begins_token (punctuator_event b t) ≡ true
punctuated b t h = begun PunctuatorBegins t refl h

numbered : (n : ℤ) (t : List ScriptEvent) → begins_token t ≡ true → begins_token (number_events n t) ≡ true
numbered (pos n) t h = bytes-more (decimal n) NumberBegins t (begun NumberBegins t refl h)
numbered (negsuc n) t h = bytes-more (decimal (suc n)) NumberBegins (punctuator_event 45 t) (begun NumberBegins (punctuator_event 45 t) refl (punctuated 45 t h))

quoted : (bs : List ℕ) (t : List ScriptEvent) → begins_token t ≡ true → begins_token (text_events bs t) ≡ true
quoted bs t h = bytes-more (json_text bs) StringBegins t (begun StringBegins t refl h)

worded : (bs : List ℕ) (t : List ScriptEvent) → begins_token t ≡ true → begins_token (word_events bs t) ≡ true
worded bs t h = bytes-more bs WordBegins t (begun WordBegins t refl h)

mutual
  pub literal-begins : (d : Data) (t : List ScriptEvent) → begins_token t ≡ true → begins_token (literal_events d t) ≡ true
  literal-begins null t h = worded (codes "null") t h
  literal-begins (truth true) t h = worded (codes "true") t h
  literal-begins (truth false) t h = worded (codes "false") t h
  literal-begins (int n) t h = numbered n t h
  literal-begins (text bs) t h = quoted bs t h
  literal-begins (list items) t h =
      let open_list = punctuator_event 91 t in
      punctuated 93 (item_events items open_list) (items-begin items open_list (punctuated 91 t h))
  literal-begins (dict entries) t h =
      let open_dict = punctuator_event 123 t in
      punctuated 125 (entry_events entries open_dict) (entries-begin entries open_dict (punctuated 123 t h))

  items-begin : (items : DataList) (t : List ScriptEvent) → begins_token t ≡ true → begins_token (item_events items t) ≡ true
  items-begin no_items t h = h
  items-begin (item d rest) t h = more-begin rest (literal_events d t) (literal-begins d t h)

  more-begin : (items : DataList) (t : List ScriptEvent) → begins_token t ≡ true → begins_token (more_item_events items t) ≡ true
  more-begin no_items t h = h
  more-begin (item d rest) t h =
      let comma = punctuator_event 44 t in
      more-begin rest (literal_events d comma) (literal-begins d comma (punctuated 44 t h))

  entries-begin : (entries : DataDict) (t : List ScriptEvent) → begins_token t ≡ true → begins_token (entry_events entries t) ≡ true
  entries-begin no_entries t h = h
  entries-begin (entry key d rest) t h =
      let colon = punctuator_event 58 (text_events key t) in
      more-entries-begin rest (literal_events d colon) (literal-begins d colon (punctuated 58 (text_events key t) (quoted key t h)))

  more-entries-begin : (entries : DataDict) (t : List ScriptEvent) → begins_token t ≡ true → begins_token (more_entry_events entries t) ≡ true
  more-entries-begin no_entries t h = h
  more-entries-begin (entry key d rest) t h =
      let comma = punctuator_event 44 t in
      let colon = punctuator_event 58 (text_events key comma) in
      more-entries-begin rest (literal_events d colon) (literal-begins d colon (punctuated 58 (text_events key comma) (quoted key comma (punctuated 44 t h))))

no-true : false ≡ true → ⊥
no-true e = cc

-- what begins with a byte of a token is no literal
pub no-literal : (t : List ScriptEvent) → begins_token t ≡ false → (d : Data) → t ≡ literal_events d [] → ⊥
no-literal t h d e = no-true (sym h ∙ rw e (literal-begins d [] refl))
