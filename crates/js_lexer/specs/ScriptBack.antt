-- What the sanitizers promise of their bytes: they are plain in their place, and read back there as the text, or as the datum.
use Rattle.std.specs.Prelude.{◌≡◌, ⊤, ℕ, ℤ, ◌^◌, ◌<◌, negsuc, pos, Bool, List, []}
use Rattle.page_datum.specs.Data.{Data, null, truth, int, text, list, dict, DataList, no_items, item, DataDict, no_entries, entry, HasAscendingKeys}
use Rattle.js_lexer.specs.BackLaws.{in_string, in_regexp, behind_slash, in_code, TakesData}
use Rattle.js_lexer.specs.Feeding.{script_reading, read_on}
use Rattle.js_lexer.specs.Holes.{script_settled, IsBetweenEscapes}
use Rattle.js_lexer.specs.Plain.{literal_events, IsPlainInScript, IsStringBack, IsRegexpBack, StandsFor}
use Rattle.js_lexer.specs.States.{At, Trail}

-- plain in a string in quotes of either kind, where no escape is open before
pub record IsBackInScriptString (text bytes : List ℕ) : Type 0 where
  pub plain : (q : Bool) (t : Trail) → IsBetweenEscapes t → IsPlainInScript bytes (in_string q t)
  pub reads : IsStringBack text bytes

-- plain in a regular expression outside `[ ]`, where no escape is open before, and right behind its slash
pub record IsBackInScriptRegexp (text bytes : List ℕ) : Type 0 where
  pub plain : (t : Trail) → IsBetweenEscapes t → IsPlainInScript bytes (in_regexp t)
  pub first : (t : Trail) → IsBetweenEscapes t → IsPlainInScript bytes (behind_slash t)
  pub reads : IsRegexpBack text bytes

-- plain wherever a datum is a value of code, read as the tokens of this very datum's literal, and the datum as JSON
pub record IsBackInScriptCode (d : Data) (bytes : List ℕ) : Type 0 where
  pub plain : (a : At) (t : Trail) → TakesData a → IsBetweenEscapes t → IsPlainInScript bytes (in_code a t)
  pub told : (a : At) (t : Trail) → TakesData a → IsBetweenEscapes t
      → (read_on bytes (script_reading (script_settled (in_code a t)) [])).told ≡ literal_events d []
  pub json : StandsFor bytes d

-- a whole number of 64 bits
abbrev pub IsWholeNumber : ℤ → Type 0
IsWholeNumber (pos n) = n < 2 ^ 63
IsWholeNumber (negsuc n) = n < 2 ^ 63

-- The data that JSON has: whole numbers of 64 bits, and keys of a dictionary in ascending order, each once.
abbrev mutual
  pub IsJsonData : Data → Type 0
  IsJsonData null = ⊤
  IsJsonData (truth b) = ⊤
  IsJsonData (int n) = IsWholeNumber n
  IsJsonData (text t) = ⊤
  IsJsonData (list items) = AreJsonItems items
  IsJsonData (dict entries) = HasAscendingKeys entries × AreJsonEntries entries

  pub AreJsonItems : DataList → Type 0
  AreJsonItems no_items = ⊤
  AreJsonItems (item d rest) = IsJsonData d × AreJsonItems rest

  pub AreJsonEntries : DataDict → Type 0
  AreJsonEntries no_entries = ⊤
  AreJsonEntries (entry key d rest) = IsJsonData d × AreJsonEntries rest
