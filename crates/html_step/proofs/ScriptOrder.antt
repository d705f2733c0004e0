-- What a script is fed on all paths together: a scan state below one that is accepted is accepted, and comes to one below; and valid ones lead to such.
use Rattle.std.proofs.Common.{◌≡◌, ℕ, Bool, false, List, [], ◌∷◌, Option, Some, None, option_map, ◌⊎◌, inl, inr, refl, sym, ap, ◌∙◌, subst}
use Rattle.js_lexer.specs.Refusals.{Cause}
use Rattle.js_lexer.specs.States.{At, Code, Word, Number, Pluses, Minuses, Slash, LineComment, BlockComment, InString, InRegexp, InTemplate, TooDeep, ScriptState, Trail}
use Rattle.js_lexer.specs.declared.sense.Sense.TheVariants as sense
use Rattle.js_step.specs.KeptWords.{kept_at, kept_scan, kept_state}
use Rattle.js_step.specs.ScriptScanOrder.{MayDifferInSense, differ_behind_slash, differ_within, ScriptScanBelow}
use Rattle.js_step.specs.ScriptScans.{ScriptScan, script_at_in, script_in_sense, script_scan_cut_error, script_scan_end_error, script_scan_error, script_scan_next, script_scan_place, script_scan_start}
use Rattle.js_step.specs.ScriptSetLaws.{KeepsSense, keeps_block, keeps_code, keeps_line, ScriptBelow}
use Rattle.js_step.specs.ScriptValidity.{IsScriptScan}
use Rattle.js_step.proofs.ScriptGrowth.{scripts-grow}
use Rattle.js_step.proofs.ValidScripts.{scripts-stay-valid}
use Rattle.place_core.specs.page.Tags.{feed_bytes, script_code}
use Rattle.place_core.specs.place.LanguagePlaces.{IsValidJs, joined_js}
use Rattle.place_core.specs.place.Places.{joined_bodies}
use Rattle.place_core.specs.declared.body.Body.TheVariants as body
use Rattle.place_core.specs.declared.js.Js.{Js}
use Rattle.place_core.specs.declared.senses.Senses.{Senses}
use Rattle.place_core.proofs.JoinParts.{js_partial}
use Rattle.place_core.proofs.Semilattices.{no_map, row_value}
use Rattle.html_scan.specs.Scans.{script_fed_byte, script_feeding}
use Rattle.html_step.proofs.FedAlike.{FedBeside}

abbrev script_state : List ℕ → At → List ℕ → Trail → ScriptState
script_state x a held t = record { literals = x; at = a; held = held; trail = t }

-- What is kept of a word is in the order too.
at-in-sense : (a : At) → script_at_in sense.Re (kept_at a) ≡ kept_at (script_at_in sense.Re a)
at-in-sense (Code s) = refl
at-in-sense (Word w) = refl
at-in-sense Number = refl
at-in-sense (Pluses odd) = refl
at-in-sense (Minuses odd) = refl
at-in-sense (Slash s) = refl
at-in-sense (LineComment s) = refl
at-in-sense (BlockComment s star) = refl
at-in-sense (InString q e) = refl
at-in-sense (InRegexp k e) = refl
at-in-sense (InTemplate e d) = refl
at-in-sense TooDeep = refl

state-in-sense : (v : ScriptState) → script_in_sense sense.Re (kept_state v) ≡ kept_state (script_in_sense sense.Re v)
state-in-sense v =
    ap (λ (a : At). script_state v.literals a v.held v.trail) (at-in-sense v.at)

kept-keeps : (a : At) → KeepsSense a → KeepsSense (kept_at a)
kept-keeps _ (keeps_code s) = keeps_code s
kept-keeps _ (keeps_line s) = keeps_line s
kept-keeps _ (keeps_block s star) = keeps_block s star

kept-differ : (a : At) (held : List ℕ) → MayDifferInSense a held → MayDifferInSense (kept_at a) held
kept-differ _ _ (differ_within a held k) = differ_within (kept_at a) held (kept-keeps a k)
kept-differ _ _ (differ_behind_slash s) = differ_behind_slash s

kept-apart : (s t : Senses) (v : ScriptState) → (s ≡ t) ⊎ ((v.literals ≡ []) × MayDifferInSense v.at v.held)
    → (s ≡ t) ⊎ ((v.literals ≡ []) × MayDifferInSense (kept_at v.at) v.held)
kept-apart s t v (inl e) = inl e
kept-apart s t v (inr d) = inr (d.0, kept-differ v.at v.held d.1)

pub kept-below : (n m : ScriptScan) → ScriptScanBelow n m → ScriptScanBelow (kept_scan n) (kept_scan m)
kept-below n m h = record {
  some = h.some;
  senses = h.senses;
  before = h.before;
  star = h.star;
  state = state-in-sense n.state ∙ ap kept_state h.state ∙ sym (state-in-sense m.state);
  apart = kept-apart n.senses m.senses m.state h.apart;
}

-- One below another, or the same.
pub data ScriptUnder (n m : ScriptScan) : Type 0 where
  under_same : n ≡ m → ScriptUnder n m
  under_below : ScriptScanBelow n m → ScriptUnder n m

-- Below what is accepted it is accepted, and what is behind it is below.
pub record GrowsUnder (n m : ScriptScan) : Type 0 where
  pub error : (element : Bool) (b : ℕ) → script_scan_error element m b ≡ None → script_scan_error element n b ≡ None
  pub next : (element : Bool) (b : ℕ) → script_scan_error element m b ≡ None → ScriptUnder (script_fed_byte n b) (script_fed_byte m b)
  pub cut_error : script_scan_cut_error m ≡ None → script_scan_cut_error n ≡ None
  pub end_error : script_scan_end_error m ≡ None → script_scan_end_error n ≡ None
  pub place : script_scan_cut_error m ≡ None → ScriptBelow (script_scan_place n) (script_scan_place m)

pub script-grows : (n m : ScriptScan) → ScriptUnder n m → GrowsUnder n m
script-grows n m (under_same e) = record {
  error = λ element b i. ap (λ (k : ScriptScan). script_scan_error element k b) e ∙ i;
  next = λ element b i. under_same (ap (λ (k : ScriptScan). script_fed_byte k b) e);
  cut_error = λ i. ap script_scan_cut_error e ∙ i;
  end_error = λ i. ap script_scan_end_error e ∙ i;
  place = λ i. subst (λ (k : ScriptScan). ScriptBelow (script_scan_place n) (script_scan_place k)) e (js_partial.same (script_scan_place n));
}
script-grows n m (under_below h) =
    let g = scripts-grow.scans n m h in
    record {
      error = λ element b i. g.error element b i;
      next = λ element b i. under_below (kept-below (script_scan_next n b) (script_scan_next m b) (g.next element b i));
      cut_error = g.cut_error;
      end_error = g.end_error;
      place = g.place;
    }

pub script-none-refused : (m : ScriptScan) (b : ℕ) → script_feeding.refuses m b ≡ None → script_scan_error false m b ≡ None
script-none-refused m b e = no_map (λ (x : Cause). script_code x.refusal) (script_scan_error false m b) e

pub scripts-beside : FedBeside script_feeding script_feeding ScriptUnder
scripts-beside = record {
  takes = λ n m b h e. ap (option_map (λ (x : Cause). script_code x.refusal)) ((script-grows n m h).error false b (script-none-refused m b e));
  goes = λ n m b h e. (script-grows n m h).next false b (script-none-refused m b e);
  names = λ n m h. refl;
}

pub script-fed-valid : (bytes : List ℕ) (n : ScriptScan) → IsScriptScan n → IsScriptScan (feed_bytes script_feeding n bytes)
script-fed-valid [] n v = v
script-fed-valid (b ∷ bs) n v = script-fed-valid bs (script_fed_byte n b) (scripts-stay-valid.next n b v)

pub script-start-valid : (c : Js) → IsValidJs c → IsScriptScan (script_scan_start c)
script-start-valid c v = scripts-stay-valid.start c v

-- places
js-body-one : (c d : Js) → body.Js c ≡ body.Js d → c ≡ d
js-body-one c d e = cc

pub js-below : (c d : Js) → joined_bodies (body.Js c) (body.Js d) ≡ Some (body.Js d) → ScriptBelow c d
js-below c d h = row_value body.Js js-body-one (joined_js c d) d h

pub below-js : (c d : Js) → ScriptBelow c d → joined_bodies (body.Js c) (body.Js d) ≡ Some (body.Js d)
below-js c d h = ap (λ (o : Option Js). option_map body.Js o) h

-- where a text begins at two places of scripts
pub scripts-in-order : (c d : Js) → IsValidJs c → joined_bodies (body.Js c) (body.Js d) ≡ Some (body.Js d)
    → ScriptUnder (script_scan_start c) (script_scan_start d)
scripts-in-order c d v h = under_below (scripts-grow.start c d v (js-below c d h))
