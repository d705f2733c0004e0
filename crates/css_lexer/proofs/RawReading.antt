-- What a style tells of bytes comes before what was told; of plain bytes it tells the same in each state of a run, and in a URL that URL's bytes.
use Rattle.std.proofs.Common.{◌≡◌, ℕ, ◌==◌, ◌||◌, cond, Bool, true, false, List, [], ◌∷◌, ◌++◌, ◌⊎◌, inl, inr, refl, sym, ap, ap₂, ◌∙◌, subst, arith, true≢false}
use Rattle.std.proofs.lemmas.Bool.Decides.{nat_tests}
use Rattle.std.specs.List.{list_any}
use Rattle.std.proofs.lemmas.List.{append_assoc}
use Rattle.css_lexer.specs.Classes.{style_class}
use Rattle.css_lexer.specs.Escapes.{StyleEscape, NoEscape, AfterBackslash, HexDigits, AfterReturn, is_taken_in_style}
use Rattle.css_lexer.specs.Events.{StyleEvent, RunByte, RunBlank, PunctuationByte, UrlBegins, InsideUrl, UrlEnds, told_in_url}
use Rattle.css_lexer.specs.Plain.{is_excluded_from_url, only_run, only_url}
use Rattle.css_lexer.specs.Sanitizers.{style_failsafe}
use Rattle.css_lexer.specs.StaysInUrl.{StaysInUrl, UrlTakesHole, begun}
use Rattle.css_lexer.specs.States.{Quote, DoubleQuote, SingleQuote, UrlWord, SpellsU, SpellsUr, SpellsUrl, SpellsOther, Outside, Between, AfterLessThan, Word, AfterSolidus, Comment, InString, BadUrl, BehindHole, SplitWord, SolidusAtCut, LessThanAtCut, StarAtCut, UrlForm, Fresh, Bare, Quoted, Ended, Style, Out, InUrl}
use Rattle.css_lexer.specs.Steps.{StyleReading, blank_once, emits_bad_byte, emits_bare, emits_between, emits_ended, emits_fresh, emits_in_url, emits_out, emits_quoted, emits_solidus, emits_split, emits_string, emits_word, feed_style, first_letter, next_letter, read_style, style_emits, style_emits_class, style_next, style_reading}
use Rattle.css_lexer.specs.UrlReading.{UrlReading}
use Rattle.css_lexer.specs.declared.class.StyleClass.{StyleClass}
use Rattle.css_lexer.specs.declared.class.StyleClass.TheVariants as class
use Rattle.css_lexer.proofs.CodeIsBack.{left, right}
use Rattle.css_lexer.proofs.UrlsStay.{url-stays}
use Rattle.url_lexer.specs.Parts.{UrlPrequery}

once-adds : {E : Type 0} (k : Bool) (t : List (StyleEvent E)) → blank_once k t ≡ blank_once k [] ++ t
once-adds true t = refl
once-adds false t = refl

between-adds : {E : Type 0} (k : Bool) (c : StyleClass) (b : ℕ) (t : List (StyleEvent E)) → emits_between k c b t ≡ emits_between k c b [] ++ t
between-adds k class.Blank b t = once-adds k t
between-adds k class.Newline b t = once-adds k t
between-adds k c b t = refl

word-adds : {E : Type 0} (w : UrlWord) (e : StyleEscape) (c : StyleClass) (b : ℕ) (t : List (StyleEvent E))
    → emits_word w e c b t ≡ emits_word w e c b [] ++ t
word-adds w AfterBackslash c b t = refl
word-adds SpellsUrl NoEscape class.LeftParenthesis b t = refl
word-adds SpellsUrl (HexDigits k) class.LeftParenthesis b t = refl
word-adds SpellsUrl AfterReturn class.LeftParenthesis b t = refl
word-adds w NoEscape c b t = between-adds false c b t
word-adds w (HexDigits k) c b t = between-adds false c b t
word-adds w AfterReturn c b t = between-adds false c b t

solidus-adds : {E : Type 0} (k : Bool) (c : StyleClass) (b : ℕ) (t : List (StyleEvent E)) → emits_solidus k c b t ≡ emits_solidus k c b [] ++ t
solidus-adds k class.Asterisk b t = once-adds k t
solidus-adds k c b t = refl

string-adds : {E : Type 0} (taken : Bool) (q : Quote) (c : StyleClass) (b : ℕ) (t : List (StyleEvent E))
    → emits_string taken q c b t ≡ emits_string taken q c b [] ++ t
string-adds true q c b t = refl
string-adds false DoubleQuote class.QuotationMark b t = refl
string-adds false SingleQuote class.Apostrophe b t = refl
string-adds false DoubleQuote class.Newline b t = refl
string-adds false SingleQuote class.Newline b t = refl
string-adds false DoubleQuote c b t = refl
string-adds false SingleQuote c b t = refl

url-adds : {E : Type 0} (es : List E) (t : List (StyleEvent E)) → told_in_url es t ≡ told_in_url es [] ++ t
url-adds [] t = refl
url-adds {E} (e ∷ es) t = ap (λ (z : List (StyleEvent E)). InsideUrl e ∷ z) (url-adds es t)

end-adds : {E : Type 0} (es : List E) (t : List (StyleEvent E)) → UrlEnds ∷ told_in_url es t ≡ (UrlEnds ∷ told_in_url es []) ++ t
end-adds {E} es t = ap (λ (z : List (StyleEvent E)). UrlEnds ∷ z) (url-adds es t)

bare-adds : {U E : Type 0} (x : UrlReading U E) (u : U) (c : StyleClass) (b : ℕ) (t : List (StyleEvent E))
    → emits_bare x u c b t ≡ emits_bare x u c b [] ++ t
bare-adds x u class.Blank b t = refl
bare-adds x u class.Newline b t = refl
bare-adds x u class.RightParenthesis b t = end-adds (x.ends u) t
bare-adds x u class.QuotationMark b t = refl
bare-adds x u class.Apostrophe b t = refl
bare-adds x u class.LeftParenthesis b t = refl
bare-adds x u c b t = url-adds (x.emits u b) t

fresh-adds : {U E : Type 0} (x : UrlReading U E) (u : U) (c : StyleClass) (b : ℕ) (t : List (StyleEvent E))
    → emits_fresh x u c b t ≡ emits_fresh x u c b [] ++ t
fresh-adds x u class.QuotationMark b t = refl
fresh-adds x u class.Apostrophe b t = refl
fresh-adds x u c b t = bare-adds x u c b t

quoted-adds : {U E : Type 0} (x : UrlReading U E) (taken : Bool) (q : Quote) (u : U) (c : StyleClass) (b : ℕ) (t : List (StyleEvent E))
    → emits_quoted x taken q u c b t ≡ emits_quoted x taken q u c b [] ++ t
quoted-adds x true q u c b t = url-adds (x.emits u b) t
quoted-adds x false DoubleQuote u class.QuotationMark b t = refl
quoted-adds x false SingleQuote u class.Apostrophe b t = refl
quoted-adds x false DoubleQuote u class.Newline b t = refl
quoted-adds x false SingleQuote u class.Newline b t = refl
quoted-adds x false DoubleQuote u c b t = url-adds (x.emits u b) t
quoted-adds x false SingleQuote u c b t = url-adds (x.emits u b) t

ended-adds : {U E : Type 0} (x : UrlReading U E) (u : U) (c : StyleClass) (b : ℕ) (t : List (StyleEvent E))
    → emits_ended x u c b t ≡ emits_ended x u c b [] ++ t
ended-adds x u class.Blank b t = refl
ended-adds x u class.Newline b t = refl
ended-adds x u class.RightParenthesis b t = end-adds (x.ends u) t
ended-adds x u c b t = refl

bad-adds : {E : Type 0} (c : StyleClass) (b : ℕ) (t : List (StyleEvent E)) → emits_bad_byte c b t ≡ emits_bad_byte c b [] ++ t
bad-adds class.RightParenthesis b t = refl
bad-adds c b t = refl

split-adds : {E : Type 0} (e : StyleEscape) (c : StyleClass) (b : ℕ) (t : List (StyleEvent E)) → emits_split e c b t ≡ emits_split e c b [] ++ t
split-adds AfterBackslash c b t = refl
split-adds NoEscape c b t = between-adds false c b t
split-adds (HexDigits k) c b t = between-adds false c b t
split-adds AfterReturn c b t = between-adds false c b t

out-adds : {E : Type 0} (s : Outside) (c : StyleClass) (b : ℕ) (t : List (StyleEvent E)) → emits_out s c b t ≡ emits_out s c b [] ++ t
out-adds (Between k) c b t = between-adds k c b t
out-adds AfterLessThan c b t = between-adds false c b t
out-adds (Word w e) c b t = word-adds w e c b t
out-adds (AfterSolidus k) c b t = solidus-adds k c b t
out-adds (Comment star) c b t = refl
out-adds (InString q e) c b t = string-adds (is_taken_in_style e b) q c b t
out-adds BadUrl c b t = bad-adds c b t
out-adds (BehindHole solidus less) c b t = split-adds NoEscape c b t
out-adds (SplitWord e) c b t = split-adds e c b t
out-adds (SolidusAtCut k) c b t = solidus-adds k c b t
out-adds LessThanAtCut c b t = between-adds false c b t
out-adds StarAtCut c b t = refl

form-adds : {U E : Type 0} (x : UrlReading U E) (f : UrlForm) (u : U) (c : StyleClass) (b : ℕ) (t : List (StyleEvent E))
    → emits_in_url x f u c b t ≡ emits_in_url x f u c b [] ++ t
form-adds x Fresh u c b t = fresh-adds x u c b t
form-adds x Bare u c b t = bare-adds x u c b t
form-adds x (Quoted q e) u c b t = quoted-adds x (is_taken_in_style e b) q u c b t
form-adds x Ended u c b t = ended-adds x u c b t

-- what a byte tells comes before what was told
pub class-adds : {U E : Type 0} (x : UrlReading U E) (w : Style U) (c : StyleClass) (b : ℕ) (t : List (StyleEvent E))
    → style_emits_class x w c b t ≡ style_emits_class x w c b [] ++ t
class-adds x (Out s) c b t = out-adds s c b t
class-adds x (InUrl f u) c b t = form-adds x f u c b t

byte-adds : {U E : Type 0} (x : UrlReading U E) (w : Style U) (b : ℕ) (t u : List (StyleEvent E))
    → style_emits x w b (t ++ u) ≡ style_emits x w b t ++ u
byte-adds {U} {E} x w b t u =
    let es = style_emits x w b [] in
    class-adds x w (style_class b) b (t ++ u) ∙ sym (append_assoc es t u)
    ∙ ap (λ (z : List (StyleEvent E)). z ++ u) (sym (class-adds x w (style_class b) b t))

-- and so what bytes tell; where they lead does not depend on it
pub read-adds : {U E : Type 0} (x : UrlReading U E) (bs : List ℕ) (w : Style U) (t u : List (StyleEvent E))
    → (read_style x bs (style_reading w (t ++ u))).told ≡ (read_style x bs (style_reading w t)).told ++ u
read-adds x [] w t u = refl
read-adds {U} {E} x (b ∷ bs) w t u =
    let z = feed_style x w b in
    ap (λ (es : List (StyleEvent E)). (read_style x bs (style_reading z es)).told) (byte-adds x w b t u) ∙ read-adds x bs z (style_emits x w b t) u

pub read-at : {U E : Type 0} (x : UrlReading U E) (bs : List ℕ) (w : Style U) (t u : List (StyleEvent E))
    → (read_style x bs (style_reading w t)).at ≡ (read_style x bs (style_reading w u)).at
read-at x [] w t u = refl
read-at x (b ∷ bs) w t u = read-at x bs (feed_style x w b) (style_emits x w b t) (style_emits x w b u)

-- what is told stays told
run-behind : {E : Type 0} (es t : List (StyleEvent E)) → only_run (es ++ t) ≡ true → only_run t ≡ true
run-behind [] t h = h
run-behind (RunByte b ∷ es) t h = run-behind es t h
run-behind (RunBlank ∷ es) t h = run-behind es t h
run-behind (_ ∷ es) t h = absurd (true≢false (sym h))

url-behind : {E : Type 0} (es t : List (StyleEvent E)) → only_url (es ++ t) ≡ true → only_url t ≡ true
url-behind [] t h = h
url-behind (InsideUrl e ∷ es) t h = url-behind es t h
url-behind (_ ∷ es) t h = absurd (true≢false (sym h))

run-told-first : {U E : Type 0} (x : UrlReading U E) (bs : List ℕ) (w : Style U) (t : List (StyleEvent E))
    → only_run (read_style x bs (style_reading w t)).told ≡ true → only_run t ≡ true
run-told-first {U} {E} x bs w t h =
    run-behind (read_style x bs (style_reading w [])).told t (subst (λ (z : List (StyleEvent E)). only_run z ≡ true) (read-adds x bs w [] t) h)

url-told-first : {U E : Type 0} (x : UrlReading U E) (bs : List ℕ) (w : Style U) (t : List (StyleEvent E))
    → only_url (read_style x bs (style_reading w t)).told ≡ true → only_url t ≡ true
url-told-first {U} {E} x bs w t h =
    url-behind (read_style x bs (style_reading w [])).told t (subst (λ (z : List (StyleEvent E)). only_url z ≡ true) (read-adds x bs w [] t) h)

-- Bytes that are told as a run are told alike in each word, and between tokens.
abbrev pub ToldAlike : {U E : Type 0} → UrlReading U E → List ℕ → (v w : StyleReading U E) → Type 0
ToldAlike x bs v w = only_run (read_style x bs v).told ≡ true → (read_style x bs v).told ≡ (read_style x bs w).told

alike-by : {U E : Type 0} (x : UrlReading U E) (bs : List ℕ) (v w r q : StyleReading U E) → v ≡ r → w ≡ q → ToldAlike x bs r q → ToldAlike x bs v w
alike-by {U} {E} x bs v w r q e f a =
    subst (λ (y : StyleReading U E). ToldAlike x bs y w) (sym e) (subst (λ (y : StyleReading U E). ToldAlike x bs r y) (sym f) a)

alike-itself : {U E : Type 0} (x : UrlReading U E) (bs : List ℕ) (v : StyleReading U E) → ToldAlike x bs v v
alike-itself x bs v h = refl

abbrev in_word : {U : Type 0} → UrlWord → Style U
in_word w = Out (Word w NoEscape)

url-begins : {U E : Type 0} (x : UrlReading U E) (bs : List ℕ) (v : Style U) (w : StyleReading U E) (t : List (StyleEvent E))
    → ToldAlike x bs (style_reading v (UrlBegins ∷ t)) w
url-begins x bs v w t h = absurd (true≢false (sym (run-told-first x bs v (UrlBegins ∷ t) h)))

opens : {U E : Type 0} (x : UrlReading U E) (bs : List ℕ) (b : ℕ) (v : Style U) (w : StyleReading U E) (t : List (StyleEvent E))
    → ToldAlike x bs (style_reading v (PunctuationByte b ∷ t)) w
opens x bs b v w t h = absurd (true≢false (sym (run-told-first x bs v (PunctuationByte b ∷ t) h)))

-- a byte that goes on with no word, and calls no function, is read behind a word as between tokens
abbrev is_apart : StyleClass → Bool
is_apart class.WordByte = false
is_apart class.LeftParenthesis = false
is_apart c = true

abbrev class_read : {U E : Type 0} → UrlReading U E → Style U → StyleClass → ℕ → List (StyleEvent E) → StyleReading U E
class_read x w c b t = style_reading (style_next x w c b) (style_emits_class x w c b t)

word-next : {U E : Type 0} (x : UrlReading U E) (w : UrlWord) (c : StyleClass) (b : ℕ) (t : List (StyleEvent E)) → is_apart c ≡ true
    → class_read x (in_word w) c b t ≡ class_read x (Out (Between false)) c b t
word-next x SpellsU class.WordByte b t h = absurd (true≢false (sym h))
word-next x SpellsUr class.WordByte b t h = absurd (true≢false (sym h))
word-next x SpellsUrl class.WordByte b t h = absurd (true≢false (sym h))
word-next x SpellsOther class.WordByte b t h = absurd (true≢false (sym h))
word-next x SpellsUrl class.LeftParenthesis b t h = absurd (true≢false (sym h))
word-next x SpellsU c b t h = refl
word-next x SpellsUr c b t h = refl
word-next x SpellsUrl c b t h = refl
word-next x SpellsOther c b t h = refl

word-goes : {U E : Type 0} (x : UrlReading U E) (w : UrlWord) (b : ℕ) (t : List (StyleEvent E))
    → class_read x (in_word w) class.WordByte b t ≡ style_reading (in_word (next_letter w b)) (RunByte b ∷ t)
word-goes x SpellsU b t = refl
word-goes x SpellsUr b t = refl
word-goes x SpellsUrl b t = refl
word-goes x SpellsOther b t = refl

words-class : {U E : Type 0} (x : UrlReading U E) (bs : List ℕ) (w z : UrlWord) (c : StyleClass) (b : ℕ) (t : List (StyleEvent E))
    → ((w z : UrlWord) (t : List (StyleEvent E)) → ToldAlike x bs (style_reading (in_word w) t) (style_reading (in_word z) t))
    → ToldAlike x bs (class_read x (in_word w) c b t) (class_read x (in_word z) c b t)
words-class x bs w z class.WordByte b t ih = alike-by x bs _ _ _ _ (word-goes x w b t) (word-goes x z b t)
    (ih (next_letter w b) (next_letter z b) (RunByte b ∷ t))
words-class x bs SpellsUrl z class.LeftParenthesis b t ih = url-begins x bs _ _ t
words-class x bs w z class.LeftParenthesis b t ih = opens x bs b _ _ t
words-class x bs w z c b t ih = alike-by x bs _ _ _ _ (word-next x w c b t refl) (word-next x z c b t refl) (alike-itself x bs _)

words-told : {U E : Type 0} (x : UrlReading U E) (bs : List ℕ) (w z : UrlWord) (t : List (StyleEvent E))
    → ToldAlike x bs (style_reading (in_word w) t) (style_reading (in_word z) t)
words-told x [] w z t = λ h. refl
words-told x (b ∷ bs) w z t = words-class x bs w z (style_class b) b t (words-told x bs)

word-class : {U E : Type 0} (x : UrlReading U E) (bs : List ℕ) (w : UrlWord) (c : StyleClass) (b : ℕ) (t : List (StyleEvent E))
    → ToldAlike x bs (class_read x (in_word w) c b t) (class_read x (Out (Between false)) c b t)
word-class x bs w class.WordByte b t =
    alike-by x bs _ _ _ _ (word-goes x w b t) refl (words-told x bs (next_letter w b) (first_letter b) (RunByte b ∷ t))
word-class x bs SpellsUrl class.LeftParenthesis b t = url-begins x bs _ _ t
word-class x bs w class.LeftParenthesis b t = opens x bs b _ _ t
word-class x bs w c b t = alike-by x bs _ _ _ _ (word-next x w c b t refl) refl (alike-itself x bs _)

pub word-told : {U E : Type 0} (x : UrlReading U E) (bs : List ℕ) (w : UrlWord) (t : List (StyleEvent E))
    → ToldAlike x bs (style_reading (in_word w) t) (style_reading (Out (Between false)) t)
word-told x [] w t = λ h. refl
word-told x (b ∷ bs) w t = word-class x bs w (style_class b) b t

pub less-than-told : {U E : Type 0} (x : UrlReading U E) (bs : List ℕ) (t : List (StyleEvent E))
    → (read_style x bs (style_reading (Out AfterLessThan) t)).told ≡ (read_style x bs (style_reading (Out (Between false)) t)).told
less-than-told x [] t = refl
less-than-told x (b ∷ bs) t = refl

-- Of bytes that stay in a URL that URL's bytes are told.
abbrev pub url_told : {U E : Type 0} → UrlReading U E → U → List ℕ → List (StyleEvent E) → List (StyleEvent E)
url_told x u [] t = t
url_told x u (b ∷ bs) t = url_told x (x.feed u b) bs (told_in_url (x.emits u b) t)

-- a byte that may stand in a URL without quotes
abbrev is_bare_class : StyleClass → Bool
is_bare_class class.Blank = false
is_bare_class class.Newline = false
is_bare_class class.ReverseSolidus = false
is_bare_class c = true

bare-classes : (blank newline word backslash quote apostrophe opening closing solidus asterisk less punctuation : Bool)
    → blank ≡ false → newline ≡ false → backslash ≡ false
    → is_bare_class (cond blank class.Blank (cond newline class.Newline
    (cond word class.WordByte (cond backslash class.ReverseSolidus
    (cond quote class.QuotationMark (cond apostrophe class.Apostrophe
    (cond opening class.LeftParenthesis (cond closing class.RightParenthesis
    (cond solidus class.Solidus (cond asterisk class.Asterisk
    (cond less class.LessThan (cond punctuation class.Punctuation class.OtherByte)))))))))))) ≡ true
bare-classes true n w b q a o c s k l p e f g = absurd (true≢false e)
bare-classes false true w b q a o c s k l p e f g = absurd (true≢false f)
bare-classes false false true b q a o c s k l p e f g = refl
bare-classes false false false true q a o c s k l p e f g = absurd (true≢false g)
bare-classes false false false false true a o c s k l p e f g = refl
bare-classes false false false false false true o c s k l p e f g = refl
bare-classes false false false false false false true c s k l p e f g = refl
bare-classes false false false false false false false true s k l p e f g = refl
bare-classes false false false false false false false false true k l p e f g = refl
bare-classes false false false false false false false false false true l p e f g = refl
bare-classes false false false false false false false false false false true p e f g = refl
bare-classes false false false false false false false false false false false true e f g = refl
bare-classes false false false false false false false false false false false false e f g = refl

no-blank : (b : ℕ) → is_excluded_from_url b ≡ false → (b == 9 || b == 32) ≡ false
no-blank b e = grind (arith, nat_tests)

no-line : (b : ℕ) → is_excluded_from_url b ≡ false → (b == 10 || (b == 12 || b == 13)) ≡ false
no-line b e = grind (arith, nat_tests)

no-backslash : (b : ℕ) → is_excluded_from_url b ≡ false → (b == 92) ≡ false
no-backslash b e = grind (arith, nat_tests)

bare-class : (b : ℕ) → is_excluded_from_url b ≡ false → is_bare_class (style_class b) ≡ true
unfolding style_class
bare-class b e = bare-classes (b == 9 || b == 32) (b == 10 || (b == 12 || b == 13)) _ (b == 92) (b == 34) (b == 39) (b == 40) (b == 41) (b == 47)
    (b == 42) (b == 60) _
    (no-blank b e) (no-line b e) (no-backslash b e)

-- it goes on with the URL, or tells something else
abbrev GoesOnOr : {U E : Type 0} → UrlReading U E → UrlForm → U → StyleClass → ℕ → List (StyleEvent E) → Type 0
GoesOnOr x f u c b t =
    ((style_next x (InUrl f u) c b ≡ InUrl (begun f) (x.feed u b)) × (style_emits_class x (InUrl f u) c b t ≡ told_in_url (x.emits u b) t))
    ⊎ (only_url (style_emits_class x (InUrl f u) c b t) ≡ false)

bare-or : {U E : Type 0} (x : UrlReading U E) (u : U) (c : StyleClass) (b : ℕ) (t : List (StyleEvent E)) → is_bare_class c ≡ true
    → GoesOnOr x Bare u c b t
bare-or x u class.Blank b t h = absurd (true≢false (sym h))
bare-or x u class.Newline b t h = absurd (true≢false (sym h))
bare-or x u class.ReverseSolidus b t h = absurd (true≢false (sym h))
bare-or x u class.RightParenthesis b t h = inr refl
bare-or x u class.QuotationMark b t h = inr refl
bare-or x u class.Apostrophe b t h = inr refl
bare-or x u class.LeftParenthesis b t h = inr refl
bare-or x u c b t h = inl (refl, refl)

fresh-or : {U E : Type 0} (x : UrlReading U E) (u : U) (c : StyleClass) (b : ℕ) (t : List (StyleEvent E)) → is_bare_class c ≡ true
    → GoesOnOr x Fresh u c b t
fresh-or x u class.Blank b t h = absurd (true≢false (sym h))
fresh-or x u class.Newline b t h = absurd (true≢false (sym h))
fresh-or x u class.ReverseSolidus b t h = absurd (true≢false (sym h))
fresh-or x u class.RightParenthesis b t h = inr refl
fresh-or x u class.QuotationMark b t h = inr refl
fresh-or x u class.Apostrophe b t h = inr refl
fresh-or x u class.LeftParenthesis b t h = inr refl
fresh-or x u c b t h = inl (refl, refl)

quoted-or : {U E : Type 0} (x : UrlReading U E) (q : Quote) (u : U) (c : StyleClass) (b : ℕ) (t : List (StyleEvent E)) → is_bare_class c ≡ true
    → GoesOnOr x (Quoted q NoEscape) u c b t
quoted-or x q u class.Blank b t h = absurd (true≢false (sym h))
quoted-or x q u class.Newline b t h = absurd (true≢false (sym h))
quoted-or x q u class.ReverseSolidus b t h = absurd (true≢false (sym h))
quoted-or x DoubleQuote u class.QuotationMark b t h = inr refl
quoted-or x SingleQuote u class.Apostrophe b t h = inr refl
quoted-or x DoubleQuote u c b t h = inl (refl, refl)
quoted-or x SingleQuote u c b t h = inl (refl, refl)

goes-on-or : {U E : Type 0} (x : UrlReading U E) (f : UrlForm) (u : U) (c : StyleClass) (b : ℕ) (t : List (StyleEvent E)) → UrlTakesHole f
    → is_bare_class c ≡ true → GoesOnOr x f u c b t
goes-on-or x Fresh u c b t o h = fresh-or x u c b t h
goes-on-or x Bare u c b t o h = bare-or x u c b t h
goes-on-or x (Quoted q NoEscape) u c b t o h = quoted-or x q u c b t h
goes-on-or x (Quoted q AfterBackslash) u c b t o h = absurd o
goes-on-or x (Quoted q (HexDigits n)) u c b t o h = absurd o
goes-on-or x (Quoted q AfterReturn) u c b t o h = absurd o
goes-on-or x Ended u c b t o h = absurd o

still : (f : UrlForm) → UrlTakesHole f → UrlTakesHole (begun f)
still Fresh o = tt
still Bare o = tt
still (Quoted q NoEscape) o = tt
still (Quoted q AfterBackslash) o = absurd o
still (Quoted q (HexDigits n)) o = absurd o
still (Quoted q AfterReturn) o = absurd o
still Ended o = absurd o

url-step : {U E : Type 0} (x : UrlReading U E) (bs : List ℕ) (f : UrlForm) (u : U) (b : ℕ) (t : List (StyleEvent E))
    → GoesOnOr x f u (style_class b) b t
    → (only_url (read_style x bs (style_reading (InUrl (begun f) (x.feed u b)) (told_in_url (x.emits u b) t))).told ≡ true
    → (read_style x bs (style_reading (InUrl (begun f) (x.feed u b)) (told_in_url (x.emits u b) t))).told
    ≡ url_told x (x.feed u b) bs (told_in_url (x.emits u b) t))
    → only_url (read_style x (b ∷ bs) (style_reading (InUrl f u) t)).told ≡ true
    → (read_style x (b ∷ bs) (style_reading (InUrl f u) t)).told ≡ url_told x u (b ∷ bs) t
url-step {U} {E} x bs f u b t (inl g) ih h =
    let same : style_reading (feed_style x (InUrl f u) b) (style_emits x (InUrl f u) b t)
    ≡ style_reading (InUrl (begun f) (x.feed u b)) (told_in_url (x.emits u b) t)
    = ap₂ (λ (s : Style U) (es : List (StyleEvent E)). style_reading s es) g.0 g.1 in
    ap (λ (r : StyleReading U E). (read_style x bs r).told) same
    ∙ ih (subst (λ (r : StyleReading U E). only_url (read_style x bs r).told ≡ true) same h)
url-step x bs f u b t (inr n) ih h = absurd (true≢false
    (sym (url-told-first x bs (feed_style x (InUrl f u) b) (style_emits x (InUrl f u) b t) h) ∙ n))

url-read : {U E : Type 0} (x : UrlReading U E) (bs : List ℕ) (f : UrlForm) (u : U) (t : List (StyleEvent E)) → UrlTakesHole f
    → list_any is_excluded_from_url bs ≡ false
    → only_url (read_style x bs (style_reading (InUrl f u) t)).told ≡ true → (read_style x bs (style_reading (InUrl f u) t)).told ≡ url_told x u bs t
url-read x [] f u t o n h = refl
url-read x (b ∷ bs) f u t o n h =
    url-step x bs f u b t (goes-on-or x f u (style_class b) b t o (bare-class b (left (is_excluded_from_url b) _ n)))
    (url-read x bs (begun f) (x.feed u b) (told_in_url (x.emits u b) t) (still f o) (right (is_excluded_from_url b) _ n)) h

pub stays-told : {U E : Type 0} (x : UrlReading U E) (bs : List ℕ) (f : UrlForm) (u : U) → UrlTakesHole f → StaysInUrl x bs
    → (read_style x bs (style_reading {U = U} {E = E} (InUrl f u) [])).told ≡ url_told x u bs []
stays-told x bs f u o s = url-read x bs f u [] o s.allowed (s.tells f u o)

-- so it is with the failsafe
pub failsafe-stays : {U E : Type 0} (x : UrlReading U E) → StaysInUrl x style_failsafe
failsafe-stays x = url-stays x UrlPrequery style_failsafe refl
