-- What the chain of a hole in a script promises, by the place in the script: the characters that its bytes are read as are plain in each state of
-- a page that is alike to the path's.
use Rattle.std.proofs.Common.{◌≡◌, ◌≢◌, ◌==◌, ℕ, suc, pos, negsuc, Bool, true, false, ◌&&◌, List, [], ◌∷◌, Option, Some, None, if◌then◌else◌, inl, inr, refl, sym, ap, ◌∙◌, subst, zero}
use Rattle.std.proofs.lemmas.Bool.{and_parts, eqb-true}
use Rattle.std.specs.Fmt.{decimal}
use Rattle.html_step.specs.Holes.{both_of, last_of}
use Rattle.js_lexer.specs.Alike.{ScriptsAlike, is_open_brace}
use Rattle.js_lexer.specs.BackLaws.{TakesData, behind_slash, in_code, in_regexp, in_string}
use Rattle.js_lexer.specs.Classes.{class_of}
use Rattle.js_lexer.specs.Events.{ScriptEvent, NumberBegins, ScriptByte, script_bytes}
use Rattle.js_lexer.specs.Feeding.{ScriptReading, read_on, script_reading}
use Rattle.js_lexer.specs.Holes.{IsBetweenEscapes, as_page, script_after_cut, script_emits_settled, script_settled}
use Rattle.js_lexer.specs.Plain.{IsPlainInScript, literal_events, punctuator_event}
use Rattle.js_lexer.specs.Refusals.{within_escape}
use Rattle.js_lexer.specs.Sanitizers.{json_text}
use Rattle.js_lexer.specs.ScriptBack.{IsBackInScriptCode, IsBackInScriptRegexp, IsBackInScriptString}
use Rattle.js_lexer.specs.Spots.{Spot, CodeSpot, StringSpot, RegexpSpot, LineSpot, BlockSpot, script_spot, spot_at, tail_of, unless_within}
use Rattle.js_lexer.specs.States.{PartLines, ScriptEscape, NoEscape, AfterBackslash, AfterX, AfterX3, AfterCarriageReturn, At, Code, Word, Number, Pluses, Minuses, Slash, LineComment, BlockComment, InString, InRegexp, InTemplate, TooDeep, ScriptState, Trail, no_trail, script_start}
use Rattle.js_lexer.specs.Trails.{is_empty}
use Rattle.js_lexer.specs.WhiteSpace.{held_after, released}
use Rattle.js_lexer.specs.declared.sense.Sense.{Sense}
use Rattle.js_lexer.specs.declared.sense.Sense.TheVariants as sense
use Rattle.js_step.specs.ScriptSanitizers.{script_sanitizer}
use Rattle.page_datum.specs.Data.{Data, null, truth, int, text, list, dict}
use Rattle.page_datum.specs.Printed.{printed}
use Rattle.place_core.specs.page.Events.{LexEvent, told_in_script, value_bytes}
use Rattle.place_core.specs.page.Html.{read}
use Rattle.place_core.specs.page.Plain.{HasBytes, IsPlain, IsPlainInState, in_plain_value}
use Rattle.place_core.specs.page.States.{BeforeAttributeValue, Config, Page, config}
use Rattle.place_core.specs.page.Tags.{DoubleQuoted, LeadsPlainInScript, OfKind, OfScript, Quoting, SingleQuoted, Tag, Unquoted, Value, ValueOf, ValueState, emitted_bytes, languages}
use Rattle.place_core.specs.place.ScriptParts.{is_no_script_escape, is_trail_of_cut, may_begin_text_at, script_may_begin_text, script_place}
use Rattle.place_core.specs.place.StatePlaces.{quotes_at}
use Rattle.place_core.specs.declared.chain.Chain.{Chain}
use Rattle.place_core.specs.declared.kind.Kind.TheVariants as kind
use Rattle.place_core.specs.declared.san.San.TheVariants as san
use Rattle.san_html.proofs.EscapedText.{same-kind, value-told}
use Rattle.san_html.specs.ReadBack.{in_value, read_as_text, read_value}
use Rattle.san_html.specs.Sanitizers.{failsafe}
use Rattle.text_norm.specs.Fillings.{url_bytes}
use Rattle.text_norm.specs.HoleLaws.{IsBackBy, IsBackByLast, IsBackInLanguage, leaves_out}
use Rattle.text_norm.proofs.ScriptHolesTold.{script-read, script_config}
use Rattle.text_norm.proofs.UrlHoles.{last-read, url-value, value-some}

true-false : true ≡ false → ⊥
true-false e = cc

-- A path's state where a hole stands: outside of template literals, with nothing held back, and with no escape open.
pub record IsSettled (s : ScriptState) : Type 0 where
  pub literals : s.literals ≡ []
  pub held : s.held ≡ []
  pub whole : IsBetweenEscapes s.trail

-- So is a page's that is alike.
closed-is : (n : ℕ) → is_open_brace n ≡ false → n ≡ 0
closed-is zero e = refl
closed-is (suc n) e = absurd (true-false e)

both-whole : (s w : ScriptState) → w.trail.escape ≡ s.trail.escape → is_open_brace w.trail.brace ≡ is_open_brace s.trail.brace
    → IsBetweenEscapes s.trail → IsBetweenEscapes w.trail
both-whole s w e f h = record { none = e ∙ h.none; closed = closed-is w.trail.brace (f ∙ ap is_open_brace h.closed) }

page-settled : (s w : ScriptState) → IsSettled s → ScriptsAlike s w → IsSettled w
page-settled s w h (i, inl a) = record {
  literals = a.literals ∙ h.literals;
  held = a.held ∙ h.held;
  whole = both-whole s w i.escape i.brace h.whole;
}
page-settled s w h (i, inr a) = record {
  literals = a.literals ∙ h.literals;
  held = a.page_held;
  whole = both-whole s w i.escape i.brace h.whole;
}

-- Where in a script: in code, in this string, in a regular expression, right behind its slash, and in a comment.
abbrev pub IsComment : At → Type 0
IsComment (LineComment s) = Unit {0}
IsComment (BlockComment s star) = Unit {0}
IsComment a = ⊥

abbrev pub Takes : Spot → At → Type 0
Takes (CodeSpot s x) a = TakesData a
Takes (StringSpot q) a = a ≡ InString q NoEscape
Takes (RegexpSpot true) a = a ≡ Slash sense.Re
Takes (RegexpSpot false) a = a ≡ InRegexp false NoEscape
Takes (LineSpot s) a = IsComment a
Takes (BlockSpot s star) a = IsComment a

-- what a state of a page is, by what it is but for what a slash would be
comment-paged : (a : At) → IsComment a → IsComment (as_page a)
comment-paged (LineComment s) h = tt
comment-paged (BlockComment s star) h = tt
comment-paged (Code s) h = absurd h
comment-paged (Word w) h = absurd h
comment-paged Number h = absurd h
comment-paged (Pluses odd) h = absurd h
comment-paged (Minuses odd) h = absurd h
comment-paged (Slash s) h = absurd h
comment-paged (InString q e) h = absurd h
comment-paged (InRegexp k e) h = absurd h
comment-paged (InTemplate e d) h = absurd h
comment-paged TooDeep h = absurd h

comment-back : (a : At) → IsComment (as_page a) → IsComment a
comment-back (LineComment s) h = tt
comment-back (BlockComment s star) h = tt
comment-back (Code s) h = h
comment-back (Word w) h = h
comment-back Number h = h
comment-back (Pluses odd) h = h
comment-back (Minuses odd) h = h
comment-back (Slash s) h = h
comment-back (InString q e) h = h
comment-back (InRegexp k e) h = h
comment-back (InTemplate e d) h = h
comment-back TooDeep h = h

data-paged : (a : At) → TakesData a → TakesData (as_page a)
data-paged (Code s) h = tt
data-paged (Word w) h = tt
data-paged Number h = tt
data-paged (Pluses odd) h = tt
data-paged (Minuses odd) h = tt
data-paged (Slash sense.Re) h = absurd h
data-paged (Slash sense.Div) h = tt
data-paged (Slash sense.Brace) h = tt
data-paged (LineComment s) h = absurd h
data-paged (BlockComment s star) h = absurd h
data-paged (InString q e) h = absurd h
data-paged (InRegexp k e) h = absurd h
data-paged (InTemplate e d) h = absurd h
data-paged TooDeep h = absurd h

data-back : (a : At) → TakesData (as_page a) → TakesData a
data-back (Code s) h = tt
data-back (Word w) h = tt
data-back Number h = tt
data-back (Pluses odd) h = tt
data-back (Minuses odd) h = tt
data-back (Slash sense.Re) h = absurd h
data-back (Slash sense.Div) h = tt
data-back (Slash sense.Brace) h = tt
data-back (LineComment s) h = absurd h
data-back (BlockComment s star) h = absurd h
data-back (InString q e) h = absurd h
data-back (InRegexp k e) h = absurd h
data-back (InTemplate e d) h = absurd h
data-back TooDeep h = absurd h

string-back : (a : At) (q : Bool) → as_page a ≡ InString q NoEscape → a ≡ InString q NoEscape
string-back (InString r e) q h = h
string-back (LineComment s) q h = cc
string-back (BlockComment s star) q h = cc
string-back (Code s) q h = cc
string-back (Word w) q h = cc
string-back Number q h = cc
string-back (Pluses odd) q h = cc
string-back (Minuses odd) q h = cc
string-back (Slash s) q h = cc
string-back (InRegexp k e) q h = cc
string-back (InTemplate e d) q h = cc
string-back TooDeep q h = cc

regexp-back : (a : At) → as_page a ≡ InRegexp false NoEscape → a ≡ InRegexp false NoEscape
regexp-back (InRegexp k e) h = h
regexp-back (InString r e) h = cc
regexp-back (LineComment s) h = cc
regexp-back (BlockComment s star) h = cc
regexp-back (Code s) h = cc
regexp-back (Word w) h = cc
regexp-back Number h = cc
regexp-back (Pluses odd) h = cc
regexp-back (Minuses odd) h = cc
regexp-back (Slash s) h = cc
regexp-back (InTemplate e d) h = cc
regexp-back TooDeep h = cc

slash-back : (a : At) → as_page a ≡ Slash sense.Re → a ≡ Slash sense.Re
slash-back (Slash sense.Re) h = refl
slash-back (Slash sense.Div) h = cc
slash-back (Slash sense.Brace) h = cc
slash-back (InRegexp k e) h = cc
slash-back (InString r e) h = cc
slash-back (LineComment s) h = cc
slash-back (BlockComment s star) h = cc
slash-back (Code s) h = cc
slash-back (Word w) h = cc
slash-back Number h = cc
slash-back (Pluses odd) h = cc
slash-back (Minuses odd) h = cc
slash-back (InTemplate e d) h = cc
slash-back TooDeep h = cc

-- A page that is alike is where the path is.
same-there : (p : Spot) (a d : At) → as_page d ≡ as_page a → Takes p a → Takes p d
same-there (CodeSpot s x) a d e h = data-back d (subst TakesData (sym e) (data-paged a h))
same-there (StringSpot q) a d e h = string-back d q (e ∙ ap as_page h)
same-there (RegexpSpot true) a d e h = slash-back d (e ∙ ap as_page h)
same-there (RegexpSpot false) a d e h = regexp-back d (e ∙ ap as_page h)
same-there (LineSpot s) a d e h = comment-back d (subst IsComment (sym e) (comment-paged a h))
same-there (BlockSpot s star) a d e h = comment-back d (subst IsComment (sym e) (comment-paged a h))

in-comment : (a : At) (r : Sense) (star : Bool) → as_page a ≡ BlockComment r star → IsComment a
in-comment a r star e = comment-back a (subst IsComment (sym e) tt)

pub no-code-comment : (a : At) → TakesData a → IsComment a → ⊥
no-code-comment (LineComment s) h k = h
no-code-comment (BlockComment s star) h k = h
no-code-comment (Code s) h k = k
no-code-comment (Word w) h k = k
no-code-comment Number h k = k
no-code-comment (Pluses odd) h k = k
no-code-comment (Minuses odd) h k = k
no-code-comment (Slash s) h k = k
no-code-comment (InString q e) h k = k
no-code-comment (InRegexp k e) h l = l
no-code-comment (InTemplate e d) h k = k
no-code-comment TooDeep h k = k

passed-there : (p : Spot) (a d : At) → IsComment a → IsComment d → Takes p a → Takes p d
passed-there (CodeSpot s x) a d k l h = absurd (no-code-comment a h k)
passed-there (StringSpot q) a d k l h = absurd (subst IsComment h k)
passed-there (RegexpSpot true) a d k l h = absurd (subst IsComment h k)
passed-there (RegexpSpot false) a d k l h = absurd (subst IsComment h k)
passed-there (LineSpot s) a d k l h = l
passed-there (BlockSpot s star) a d k l h = l

page-there : (p : Spot) (s w : ScriptState) → ScriptsAlike s w → Takes p s.at → Takes p w.at
page-there p s w (i, inl a) h = same-there p s.at w.at a.at h
page-there p s w (i, inr a) h = passed-there p s.at w.at (in-comment s.at a.sense true a.path) (in-comment w.at a.sense false a.page) h

-- what is plain there is plain in each state of a page that is alike
abbrev PlainAtAll : ScriptState → List ℕ → Type 0
PlainAtAll s bs = (w : ScriptState) → ScriptsAlike s w → IsPlainInScript bs w

abbrev PlainWhere : Spot → List ℕ → Type 0
PlainWhere p bs = (a : At) (t : Trail) → Takes p a → IsBetweenEscapes t → IsPlainInScript bs (in_code a t)

settled-plain : (bs : List ℕ) (w : ScriptState) → IsSettled w → IsPlainInScript bs (in_code w.at w.trail) → IsPlainInScript bs w
settled-plain bs w h p =
    subst (λ (fs : List ℕ). IsPlainInScript bs (record { literals = fs; at = w.at; held = w.held; trail = w.trail })) (sym h.literals)
    (subst (λ (ks : List ℕ). IsPlainInScript bs (record { literals = []; at = w.at; held = ks; trail = w.trail })) (sym h.held) p)

pub at-all : (p : Spot) (s : ScriptState) (bs : List ℕ) → IsSettled s → Takes p s.at → PlainWhere p bs → PlainAtAll s bs
at-all p s bs i h f w a =
    let page = page-settled s w i a in
    settled-plain bs w page (f w.at w.trail (page-there p s w a h) page.whole)

-- by the promises of the sanitizers
pub string-where : (q : Bool) (bs : List ℕ) → ((t : Trail) → IsBetweenEscapes t → IsPlainInScript bs (in_string q t)) → PlainWhere (StringSpot q) bs
string-where q bs f a t e h = subst (λ (x : At). IsPlainInScript bs (in_code x t)) (sym e) (f t h)

pub regexp-where : (bs : List ℕ) → ((t : Trail) → IsBetweenEscapes t → IsPlainInScript bs (in_regexp t)) → PlainWhere (RegexpSpot false) bs
regexp-where bs f a t e h = subst (λ (x : At). IsPlainInScript bs (in_code x t)) (sym e) (f t h)

pub slash-where : (bs : List ℕ) → ((t : Trail) → IsBetweenEscapes t → IsPlainInScript bs (behind_slash t)) → PlainWhere (RegexpSpot true) bs
slash-where bs f a t e h = subst (λ (x : At). IsPlainInScript bs (in_code x t)) (sym e) (f t h)

-- The failsafe of a value without quotes is plain in a string and in a comment, and no bytes are plain in a comment.
abbrev between_escapes : Bool → List ℕ → ℕ → ℕ → PartLines → Trail
between_escapes f m k l p = record { fresh = f; markup = m; escape = []; brace = 0; bracket = k; literal = l; lines = p }

abbrev trail_with : Trail → List ℕ → ℕ → Trail
trail_with t e n = record { fresh = t.fresh; markup = t.markup; escape = e; brace = n; bracket = t.bracket; literal = t.literal; lines = t.lines }

between : (P : Trail → Type 0) → ((f : Bool) (m : List ℕ) (k l : ℕ) (p : PartLines) → P (between_escapes f m k l p)) → (t : Trail) → IsBetweenEscapes t → P t
between P h t is =
    subst (λ (e : List ℕ). P (trail_with t e t.brace)) (sym is.none)
    (subst (λ (n : ℕ). P (trail_with t [] n)) (sym is.closed)
    (h t.fresh t.markup t.bracket t.literal t.lines))

string-failsafe : (q : Bool) (f : Bool) (m : List ℕ) (k l : ℕ) (p : PartLines) → IsPlainInScript failsafe (in_string q (between_escapes f m k l p))
unfolding class_of released held_after
string-failsafe true f m k l p = record {
  apart = refl;
  leads = record {
    at = refl;
    outside = refl;
    within = refl;
    whole_before = record { none = refl; closed = refl };
    whole_after = record { none = refl; closed = refl };
    settled = refl;
    released = refl;
  };
  tells = refl;
  written = tt;
}
string-failsafe false f m k l p = record {
  apart = refl;
  leads = record {
    at = refl;
    outside = refl;
    within = refl;
    whole_before = record { none = refl; closed = refl };
    whole_after = record { none = refl; closed = refl };
    settled = refl;
    released = refl;
  };
  tells = refl;
  written = tt;
}

line-failsafe : (s : Sense) (f : Bool) (m : List ℕ) (k l : ℕ) (p : PartLines) → IsPlainInScript failsafe (in_code (LineComment s) (between_escapes f m k l p))
unfolding class_of released held_after
line-failsafe s f m k l p = record {
  apart = refl;
  leads = record {
    at = refl;
    outside = refl;
    within = refl;
    whole_before = record { none = refl; closed = refl };
    whole_after = record { none = refl; closed = refl };
    settled = refl;
    released = refl;
  };
  tells = refl;
  written = inr refl;
}

block-failsafe : (s : Sense) (star f : Bool) (m : List ℕ) (k l : ℕ) (p : PartLines)
    → IsPlainInScript failsafe (in_code (BlockComment s star) (between_escapes f m k l p))
unfolding class_of released held_after
block-failsafe s true f m k l p = record {
  apart = refl;
  leads = record {
    at = inr refl;
    outside = refl;
    within = refl;
    whole_before = record { none = refl; closed = refl };
    whole_after = record { none = refl; closed = refl };
    settled = refl;
    released = refl;
  };
  tells = refl;
  written = inr refl;
}
block-failsafe s false f m k l p = record {
  apart = refl;
  leads = record {
    at = inr refl;
    outside = refl;
    within = refl;
    whole_before = record { none = refl; closed = refl };
    whole_after = record { none = refl; closed = refl };
    settled = refl;
    released = refl;
  };
  tells = refl;
  written = inr refl;
}

line-none : (s : Sense) (f : Bool) (m : List ℕ) (k l : ℕ) (p : PartLines) → IsPlainInScript [] (in_code (LineComment s) (between_escapes f m k l p))
line-none s f m k l p = record {
  apart = refl;
  leads = record {
    at = refl;
    outside = refl;
    within = refl;
    whole_before = record { none = refl; closed = refl };
    whole_after = record { none = refl; closed = refl };
    settled = refl;
    released = refl;
  };
  tells = refl;
  written = inl refl;
}

block-none : (s : Sense) (star f : Bool) (m : List ℕ) (k l : ℕ) (p : PartLines) → IsPlainInScript [] (in_code (BlockComment s star) (between_escapes f m k l p))
block-none s star f m k l p = record {
  apart = refl;
  leads = record {
    at = inl refl;
    outside = refl;
    within = refl;
    whole_before = record { none = refl; closed = refl };
    whole_after = record { none = refl; closed = refl };
    settled = refl;
    released = refl;
  };
  tells = refl;
  written = inl refl;
}

abbrev PlainInComment : List ℕ → Type 0
PlainInComment bs = (a : At) (t : Trail) → IsComment a → IsBetweenEscapes t → IsPlainInScript bs (in_code a t)

comment-failsafe : PlainInComment failsafe
comment-failsafe (LineComment s) t h is = between (λ (z : Trail). IsPlainInScript failsafe (in_code (LineComment s) z)) (line-failsafe s) t is
comment-failsafe (BlockComment s star) t h is =
    between (λ (z : Trail). IsPlainInScript failsafe (in_code (BlockComment s star) z)) (block-failsafe s star) t is
comment-failsafe a t h is = absurd h

comment-none : PlainInComment []
comment-none (LineComment s) t h is = between (λ (z : Trail). IsPlainInScript [] (in_code (LineComment s) z)) (line-none s) t is
comment-none (BlockComment s star) t h is =
    between (λ (z : Trail). IsPlainInScript [] (in_code (BlockComment s star) z)) (block-none s star) t is
comment-none a t h is = absurd h

-- A literal tells something.
cons-some : {A : Type 0} (a : A) (rest : List A) → a ∷ rest ≢ []
cons-some a rest e = cc

bytes-some : (bs : List ℕ) (t : List ScriptEvent) → t ≢ [] → script_bytes bs t ≢ []
bytes-some [] t n = n
bytes-some (b ∷ bs) t n = bytes-some bs (ScriptByte b ∷ t) (cons-some (ScriptByte b) t)

literal-some : (d : Data) → literal_events d [] ≢ []
literal-some null = cons-some _ _
literal-some (truth true) = cons-some _ _
literal-some (truth false) = cons-some _ _
literal-some (int (pos n)) = bytes-some (decimal n) (NumberBegins ∷ []) (cons-some NumberBegins [])
literal-some (int (negsuc n)) =
    bytes-some (decimal (suc n)) (NumberBegins ∷ punctuator_event 45 []) (cons-some NumberBegins (punctuator_event 45 []))
literal-some (text bytes) = bytes-some (json_text bytes) _ (cons-some _ [])
literal-some (list items) = cons-some _ _
literal-some (dict pairs) = cons-some _ _

-- A hole in a script at the state of a path: the value that its bytes are read as, in a script and in any other value, which is plain in each state
-- of a page that is alike.
pub record IsScriptHole (q : Quoting) (s : ScriptState) (bytes : List ℕ) : Type 0 where
  pub value : List ℕ
  pub plain : (w : ScriptState) → ScriptsAlike s w → IsPlainInScript value w
  pub some : HasBytes q value
  pub reads : (tag : Tag) (v : Value ValueState) (t : List LexEvent) → read Page bytes (config (in_value q tag v) t) ≡ read_value q tag v value t

either-plain : (q : Quoting) (chars : List ℕ) (s : ScriptState) → PlainAtAll s chars → (chars ≡ [] → PlainAtAll s failsafe)
    → PlainAtAll s (url_bytes q chars)
either-plain DoubleQuoted chars s p f = p
either-plain SingleQuoted chars s p f = p
either-plain Unquoted [] s p f = f refl
either-plain Unquoted (b ∷ bs) s p f = p

hole-by : (q : Quoting) (s : ScriptState) (chars bytes : List ℕ) → read_as_text chars ≡ chars → IsBackByLast (last_of (quotes_at q)) chars bytes
    → PlainAtAll s chars → (chars ≡ [] → PlainAtAll s failsafe) → IsScriptHole q s bytes
hole-by q s chars bytes e k p f = record {
  value = url_bytes q chars;
  plain = either-plain q chars s p f;
  some = value-some q chars;
  reads = λ tag v t. last-read q chars bytes e k tag v t;
}

-- by the place of the path
code-some : (datum : Data) (chars : List ℕ) → IsBackInScriptCode datum chars → chars ≡ [] → ⊥
code-some datum chars k e =
    literal-some datum
    (sym (k.told (Code sense.Re) no_trail tt (record { none = refl; closed = refl }))
    ∙ ap (λ (z : List ℕ). (read_on z (script_reading (script_settled (in_code (Code sense.Re) no_trail)) [])).told) e)

code-hole : (p : Sense) (s : ScriptState) → IsSettled s → TakesData s.at → (q : Quoting) (datum : Data) (bytes : List ℕ)
    → IsBackInLanguage (IsBackInScriptCode datum) (last_of (quotes_at q)) bytes → IsScriptHole q s bytes
code-hole p s i h q datum bytes k =
    hole-by q s k.characters bytes k.as_they_are k.written (at-all (CodeSpot p (tail_of [])) s k.characters i h k.there.plain)
    (λ e. absurd (code-some datum k.characters k.there e))

string-hole : (j : Bool) (s : ScriptState) → IsSettled s → s.at ≡ InString j NoEscape → (q : Quoting) (given bytes : List ℕ)
    → IsBackInLanguage (IsBackInScriptString given) (last_of (quotes_at q)) bytes → IsScriptHole q s bytes
string-hole j s i h q given bytes k =
    hole-by q s k.characters bytes k.as_they_are k.written
    (at-all (StringSpot j) s k.characters i h (string-where j k.characters (k.there.plain j)))
    (λ e. at-all (StringSpot j) s failsafe i h
    (string-where j failsafe (λ t is. between (λ (z : Trail). IsPlainInScript failsafe (in_string j z)) (string-failsafe j) t is)))

regexp-some : (given chars : List ℕ) → IsBackInScriptRegexp given chars → chars ≢ []
regexp-some given chars k = (k.plain no_trail (record { none = refl; closed = refl })).written

regexp-hole : (s : ScriptState) → IsSettled s → s.at ≡ InRegexp false NoEscape → (q : Quoting) (given bytes : List ℕ)
    → IsBackInLanguage (IsBackInScriptRegexp given) (last_of (quotes_at q)) bytes → IsScriptHole q s bytes
regexp-hole s i h q given bytes k =
    hole-by q s k.characters bytes k.as_they_are k.written
    (at-all (RegexpSpot false) s k.characters i h (regexp-where k.characters k.there.plain))
    (λ e. absurd (regexp-some given k.characters k.there e))

slash-hole : (s : ScriptState) → IsSettled s → s.at ≡ Slash sense.Re → (q : Quoting) (given bytes : List ℕ)
    → IsBackInLanguage (IsBackInScriptRegexp given) (last_of (quotes_at q)) bytes → IsScriptHole q s bytes
slash-hole s i h q given bytes k =
    hole-by q s k.characters bytes k.as_they_are k.written
    (at-all (RegexpSpot true) s k.characters i h (slash-where k.characters k.there.first))
    (λ e. absurd (regexp-some given k.characters k.there e))

comment-hole : (s : ScriptState) → IsSettled s → IsComment s.at → (q : Quoting) (bytes : List ℕ) → IsBackByLast (last_of (quotes_at q)) [] bytes
    → IsScriptHole q s bytes
comment-hole s i h q bytes k =
    hole-by q s [] bytes refl k (at-all (LineSpot sense.Re) s [] i h comment-none) (λ e. at-all (LineSpot sense.Re) s failsafe i h comment-failsafe)

-- What the chain of a place promises is such a hole; and the value is not left out.
abbrev pub chain_at : Spot → Quoting → Chain
chain_at p q = both_of (script_sanitizer (script_place p)) (last_of (quotes_at q))

abbrev IsHoleAt : Spot → Quoting → ScriptState → List ℕ → Type 0
IsHoleAt p q s bytes = (leaves_out (chain_at p q) ≡ false) × IsScriptHole q s bytes

spot-hole : (p : Spot) (s : ScriptState) → IsSettled s → Takes p s.at → (q : Quoting) (datum : Data) (bytes : List ℕ)
    → IsBackBy (chain_at p q) datum bytes → IsHoleAt p q s bytes
spot-hole (CodeSpot r x) s i h q datum bytes k = (refl, code-hole r s i h q datum bytes k)
spot-hole (StringSpot true) s i h q datum bytes k = (refl, string-hole true s i h q (printed datum) bytes k)
spot-hole (StringSpot false) s i h q datum bytes k = (refl, string-hole false s i h q (printed datum) bytes k)
spot-hole (RegexpSpot true) s i h q datum bytes k = (refl, slash-hole s i h q (printed datum) bytes k)
spot-hole (RegexpSpot false) s i h q datum bytes k = (refl, regexp-hole s i h q (printed datum) bytes k)
spot-hole (LineSpot r) s i h q datum bytes k = (refl, comment-hole s i h q bytes k)
spot-hole (BlockSpot r star) s i h q datum bytes k = (refl, comment-hole s i h q bytes k)

-- where the path is, by its spot
empty-is : {A : Type 0} (xs : List A) → is_empty xs ≡ true → xs ≡ []
empty-is [] e = refl
empty-is (x ∷ xs) e = absurd (true-false (sym e))

zero-is : (n : ℕ) → n == 0 ≡ true → n ≡ 0
zero-is n e = eqb-true n 0 e

trail-whole : (t : Trail) → is_trail_of_cut t ≡ true → IsBetweenEscapes t
trail-whole t e =
    let first = and_parts t.fresh _ e in
    let second = and_parts (is_empty t.escape) _ first.1 in
    let third = and_parts (t.brace == 0) _ second.1 in
    record { none = empty-is t.escape second.0; closed = zero-is t.brace third.0 }

some-spot : (p r : Spot) → Some p ≡ Some r → p ≡ r
some-spot p r e = cc

pub no-spot : (r : Spot) → None ≡ Some r → ⊥
no-spot r e = cc

unless-spot : (c : Bool) (p r : Spot) → unless_within c p ≡ Some r → p ≡ r
unless-spot true p r e = absurd (no-spot r e)
unless-spot false p r e = some-spot p r e

there : (a : At) (p r : Spot) → p ≡ r → Takes p a → Takes r a
there a p r e h = subst (λ (z : Spot). Takes z a) e h

no-escape : (e : ScriptEscape) → is_no_script_escape e ≡ true → e ≡ NoEscape
no-escape NoEscape h = refl
no-escape AfterBackslash h = absurd (true-false (sym h))
no-escape AfterX h = absurd (true-false (sym h))
no-escape AfterX3 h = absurd (true-false (sym h))
no-escape AfterCarriageReturn h = absurd (true-false (sym h))

spot-takes : (a : At) (t : Trail) (r : Spot) → may_begin_text_at a t.markup ≡ true → spot_at a t ≡ Some r → Takes r a
spot-takes (Code s) t r b e = there (Code s) (CodeSpot s (tail_of t.markup)) r (unless-spot _ _ r e) tt
spot-takes (Word w) t r b e = there (Word w) _ r (some-spot _ r e) tt
spot-takes Number t r b e = there Number _ r (some-spot _ r e) tt
spot-takes (Pluses odd) t r b e = there (Pluses odd) _ r (some-spot _ r e) tt
spot-takes (Minuses odd) t r b e = there (Minuses odd) _ r (unless-spot _ _ r e) tt
spot-takes (Slash sense.Re) t r b e = there (Slash sense.Re) (RegexpSpot true) r (unless-spot _ _ r e) refl
spot-takes (Slash sense.Div) t r b e = there (Slash sense.Div) _ r (some-spot _ r e) tt
spot-takes (Slash sense.Brace) t r b e = absurd (no-spot r e)
spot-takes (LineComment s) t r b e = there (LineComment s) (LineSpot s) r (some-spot _ r e) tt
spot-takes (BlockComment s star) t r b e = there (BlockComment s star) (BlockSpot s star) r (some-spot _ r e) tt
spot-takes (InString q x) t r b e =
    there (InString q x) (StringSpot q) r (unless-spot (within_escape t) _ r e)
    (ap (InString q) (no-escape x (and_parts (is_no_script_escape x) _ b).0))
spot-takes (InRegexp true x) t r b e = absurd (no-spot r e)
spot-takes (InRegexp false x) t r b e =
    there (InRegexp false x) (RegexpSpot false) r (unless-spot _ _ r e)
    (ap (InRegexp false) (no-escape x (and_parts (is_no_script_escape x) _ b).0))
spot-takes (InTemplate x d) t r b e = absurd (no-spot r e)
spot-takes TooDeep t r b e = absurd (no-spot r e)

if-spot : (c : Bool) (o : Option Spot) (r : Spot) → (if c then o else None) ≡ Some r → (c ≡ true) × (o ≡ Some r)
if-spot true o r e = (refl, e)
if-spot false o r e = absurd (no-spot r e)

pub script-takes : (s : ScriptState) (r : Spot) → script_may_begin_text s ≡ true → script_spot s ≡ Some r
    → IsSettled s × (may_begin_text_at s.at s.trail.markup ≡ true) × Takes r s.at
script-takes s r b e =
    let begins = and_parts (is_trail_of_cut s.trail) _ b in
    let spot = if-spot (is_empty s.literals && is_empty s.held) (spot_at s.at s.trail) r e in
    let empty = and_parts (is_empty s.literals) _ spot.0 in
    let settled : IsSettled s = record {
      literals = empty-is s.literals empty.0;
      held = empty-is s.held empty.1;
      whole = trail-whole s.trail begins.0;
    } in
    (settled, begins.1, spot-takes s.at s.trail r begins.1 spot.1)

pub script-hole : (s : ScriptState) (r : Spot) → script_may_begin_text s ≡ true → script_spot s ≡ Some r
    → (q : Quoting) (datum : Data) (bytes : List ℕ)
    → IsBackBy (chain_at r q) datum bytes → (leaves_out (chain_at r q) ≡ false) × IsScriptHole q s bytes
script-hole s r b e q datum bytes k = (let own = script-takes s r b e in spot-hole r s own.0 own.2 q datum bytes k)

-- In the page these bytes are plain.
pub script-leads : (w : ScriptState) (bs : List ℕ) → IsPlainInScript bs w
    → LeadsPlainInScript (script_settled w) bs (read_on bs (script_reading (script_settled w) [])).state
script-leads w bs p = record { leads = p.leads; tells = p.tells; written = p.written }

plain-read : (q : Quoting) (tag : Tag) (bs : List ℕ)
    → read_value q tag (ValueOf (OfKind kind.Plain)) bs [] ≡ config (in_plain_value q tag) (value_bytes bs [])
plain-read q tag bs =
    ap (λ (z : Value ValueState). config (in_value q tag z) (emitted_bytes languages (ValueOf (OfKind kind.Plain)) bs [])) (same-kind kind.Plain bs)
    ∙ ap (config (in_plain_value q tag)) (value-told bs (ValueOf (OfKind kind.Plain)) [])

script-in-state : (q : Quoting) (tag : Tag) (s w : ScriptState) (bytes : List ℕ) (h : IsScriptHole q s bytes) (c : Config ValueState)
    → ScriptsAlike s w
    → c ≡ script_config q tag (read_on h.value (script_reading (script_settled w) [])) []
    → IsPlainInState (OfScript (script_settled w)) q tag bytes c
script-in-state q tag s w bytes h c a e = record {
  value = h.value;
  after = OfScript (read_on h.value (script_reading (script_settled w) [])).state;
  within = ap (λ (z : Config ValueState). z.at) e;
  emitted = h.reads tag (ValueOf (OfKind kind.Plain)) [] ∙ plain-read q tag h.value;
  some = h.some;
  leads = script-leads w h.value (h.plain w a);
}

pub script-plain : (q : Quoting) (tag : Tag) (s w : ScriptState) (bytes : List ℕ) (t : List LexEvent) → IsScriptHole q s bytes → ScriptsAlike s w
    → IsPlain bytes (config (in_value q tag (ValueOf (OfScript w))) t)
script-plain q tag s w bytes t h a =
    let r = script_settled w in (
      λ n.
          h.reads tag (ValueOf (OfScript w)) t ∙ script-read q tag h.value w [] t
          ∙ ap (λ (z : ScriptReading). script_config q tag z t) (h.plain w a).apart
          ∙ sym (h.reads tag (ValueOf (OfScript r)) (told_in_script (script_emits_settled w []) t)
          ∙ script-read q tag h.value r (script_emits_settled w []) t),
      script-in-state q tag s w bytes h (read Page bytes (config (in_value q tag (ValueOf (OfScript r))) [])) a
          (h.reads tag (ValueOf (OfScript r)) [] ∙ script-read q tag h.value r [] []),
    )

-- the same where an unquoted value is to begin
abbrev pub begun : ScriptState
begun = script_after_cut script_start

pub begun-alike : ScriptsAlike begun begun
begun-alike = (record { escape = refl; brace = refl }, inl (record { literals = refl; held = refl; at = refl }))

begun-settled : IsSettled begun
begun-settled = record { literals = refl; held = refl; whole = record { none = refl; closed = refl } }

pub script-begun-plain : (tag : Tag) (datum : Data) (bytes : List ℕ) (t : List LexEvent) → IsBackBy (both_of san.JsValue san.AttrNospace) datum bytes
    → IsPlain bytes (config (BeforeAttributeValue tag kind.Script) t)
unfolding code-hole hole-by
script-begun-plain tag datum bytes t k =
    let b : IsBackInLanguage (IsBackInScriptCode datum) san.AttrNospace bytes = k in
    let h = code-hole sense.Re begun begun-settled tt Unquoted datum bytes b in
    let c = read Page bytes (config (BeforeAttributeValue tag kind.Script) []) in (
      λ some. refl,
      (
        (b.written.plain_unbegun tag []).1.0,
        script-in-state Unquoted tag begun begun bytes h c begun-alike
            (b.written.reads_unbegun tag kind.Script []
            ∙ ap (λ (z : List ℕ). read_value Unquoted tag (ValueOf (OfScript begun)) z []) (url-value b.characters b.as_they_are)
            ∙ script-read Unquoted tag h.value begun [] []),
      ),
    )
