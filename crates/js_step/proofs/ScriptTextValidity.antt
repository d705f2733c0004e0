-- Characters bring a valid place to valid ones, and so is the place that is shown with a refusal.
use Rattle.std.proofs.Common.{◌≡◌, ℕ, Bool, true, false, List, [], ◌∷◌, Option, Some, None, if◌then◌else◌}
use Rattle.std.specs.Prelude.{⊤, encode_utf8, take}
use Rattle.js_lexer.specs.States.{At, Code, Word, Number, Pluses, Minuses, Slash, LineComment, BlockComment, InString, InRegexp, InTemplate, TooDeep}
use Rattle.js_lexer.specs.Trails.{is_empty}
use Rattle.place_core.specs.declared.js.Js.{Js}
use Rattle.place_core.specs.declared.js_tails.JsTails.{JsTails}
use Rattle.place_core.specs.declared.mode.Mode.{Mode}
use Rattle.place_core.specs.declared.senses.Senses.{Senses}
use Rattle.place_core.specs.place.LanguagePlaces.{IsValidJs, some_sense}
use Rattle.js_step.specs.ScriptCharacterLaws.{IsValidScriptText, ScriptTextsStayValid}
use Rattle.js_step.specs.ScriptCharacters.{ScriptText, script_scalar, script_text_bytes, ScriptRead, script_shown_or, script_read_shown, script_read_start, script_read_next, script_read_behind, script_bytes_error, script_characters_end, script_text_refused, script_characters_from}
use Rattle.js_step.specs.ScriptScans.{script_shown_at, script_scan_shown, script_before_end, script_star_end, script_slash_place}
use Rattle.js_step.specs.ScriptValidity.{IsScriptScan}
use Rattle.js_step.specs.declared.script_read.RefusedScript.{RefusedScript}
use Rattle.js_step.proofs.ValidScripts.{place-valid, scripts-stay-valid}

record IsValidRead (x : ScriptRead) : Type 0 where
  scan : IsScriptScan x.scan
  last : IsValidJs x.last

-- what is shown
abbrev IsValidShown : Option Js → Type 0
IsValidShown None = ⊤
IsValidShown (Some c) = IsValidJs c

none-if : (k : Bool) (o : Option Js) → IsValidShown o → IsValidShown (if k then None else o)
none-if true o h = tt
none-if false o h = h

some-if : (k : Bool) (o : Option Js) → IsValidShown o → IsValidShown (if k then o else None)
some-if true o h = h
some-if false o h = tt

shown-at-valid : (s : Senses) (x : JsTails) (star : Bool) (a : At) → some_sense s ≡ true → IsValidShown (script_shown_at s x star a)
shown-at-valid s x star (Code t) h = h
shown-at-valid s x star (Word w) h = h
shown-at-valid s x star Number h = h
shown-at-valid s x star (Pluses odd) h = h
shown-at-valid s x star (Minuses odd) h = h
shown-at-valid s x star (Slash t) h = none-if s.brace (Some (script_slash_place s.re x)) (place-valid s x star (Slash t) h)
shown-at-valid s x star (LineComment t) h = h
shown-at-valid s x star (BlockComment t z) h = h
shown-at-valid s x star (InString q e) h = place-valid s x star (InString q e) h
shown-at-valid s x star (InRegexp k e) h = tt
shown-at-valid s x star (InTemplate e d) h = tt
shown-at-valid s x star TooDeep h = tt

shown-or : (o : Option Js) (last : Js) → IsValidShown o → IsValidJs last → IsValidJs (script_shown_or o last)
shown-or None last h k = k
shown-or (Some c) last h k = h

read-shown : (x : ScriptRead) → IsValidRead x → IsValidJs (script_read_shown x)
read-shown x h =
    let n = x.scan in
    shown-or (script_scan_shown n) x.last
    (some-if (is_empty n.state.literals) (script_shown_at n.senses (script_before_end n) (script_star_end n) n.state.at)
    (shown-at-valid n.senses (script_before_end n) (script_star_end n) n.state.at h.scan))
    h.last

-- where bytes lead
start-valid : (c : Js) → IsValidJs c → IsValidRead (script_read_start c)
start-valid c h = record { scan = scripts-stay-valid.start c h; last = h }

next-valid : (x : ScriptRead) (b : ℕ) → IsValidRead x → IsValidRead (script_read_next x b)
next-valid x b h = record { scan = scripts-stay-valid.next x.scan b h.scan; last = read-shown x h }

behind-valid : (bs : List ℕ) (x : ScriptRead) → IsValidRead x → IsValidRead (script_read_behind x bs)
behind-valid [] x h = h
behind-valid (b ∷ bs) x h = behind-valid bs (script_read_next x b) (next-valid x b h)

-- what is refused, and what is not
refused-valid : (c : Js) (all : List (ℕ × ℕ)) (o : Option RefusedScript) (r : ScriptText) → IsValidJs c → IsValidScriptText r
    → IsValidScriptText (script_text_refused c all o r)
refused-valid c all None r h k = k
refused-valid c all (Some e) r h k =
    let ts = take e.shown (script_text_bytes all) in
    read-shown (script_read_behind (script_read_start c) ts) (behind-valid ts (script_read_start c) (start-valid c h))

characters-valid : (m : Mode) (c : Js) (all cs : List (ℕ × ℕ)) (x : ScriptRead) → IsValidJs c → IsValidRead x
    → IsValidScriptText (script_characters_from m c all cs x)
characters-valid m c all [] x h k = refused-valid c all (script_characters_end m x) _ h (scripts-stay-valid.place x.scan k.scan)
characters-valid m c all (d ∷ ds) x h k =
    let bs = encode_utf8 (script_scalar d.0) in
    refused-valid c all (script_bytes_error x bs) (script_characters_from m c all ds (script_read_behind x bs)) h
    (characters-valid m c all ds (script_read_behind x bs) h (behind-valid bs x k))

pub script-texts-stay-valid : ScriptTextsStayValid
script-texts-stay-valid m cs c h = characters-valid m c cs cs (script_read_start c) h (start-valid c h)
